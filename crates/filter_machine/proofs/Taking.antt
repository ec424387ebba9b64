-- Which tokens and words a state takes.
use Rattle.std.proofs.Common.{◌≡◌, ℕ, List, [], ◌∷◌, ◌++◌, Bool, true, false, ◌&&◌, ◌||◌, refl, sym, ap, ◌∙◌, cond}
use Rattle.std.specs.Prelude.{is_some}
use Rattle.std.specs.Str.{bytes_eq}
use Rattle.std.proofs.lemmas.Bool.{eq-eqb}
use Rattle.std.proofs.lemmas.Slice.Eq.{bytes_eq-Decides}
use Rattle.filter_machine.specs.Machine.{State, start, Level, Frame, move}
use Rattle.filter_machine.specs.Text.{keywords, found, word_token}
use Rattle.filter_machine.specs.Scan.{takes, starts_with, fits, fits_keyword}
use Rattle.filter_machine.specs.declared.token.Token.{Token}
use Rattle.filter_machine.specs.declared.token.Token.TheVariants.{Text, And, Or, Not, In, To, Exists, Is, Null, Empty, Compare, Open, Close, ListOpen, ListClose, Comma}
use Rattle.filter_machine.specs.declared.token.Comparison.{Comparison}
use Rattle.filter_machine.specs.declared.token.Comparison.TheVariants.{Equal}

pub takes_text : (s : State) (w : List ℕ) (l : Level) (o : List Frame) → is_some (move s (Text w) l o) ≡ takes s (Text [])
takes_text start w l o = refl
takes_text _ w l o = refl

pub takes_compare : (s : State) (c : Comparison) (l : Level) (o : List Frame) → is_some (move s (Compare c) l o) ≡ takes s (Compare Equal)
takes_compare start c l o = refl
takes_compare _ c l o = refl

abbrev pub IsKey : Token → Type 0
IsKey Close = ⊥
IsKey _ = Unit {0}

pub takes_key : (s : State) (t : Token) (l : Level) (o : List Frame) → IsKey t → is_some (move s t l o) ≡ takes s t
takes_key s Close l o k = absurd k
takes_key start (Text w) l o k = refl
takes_key start And l o k = refl
takes_key start Or l o k = refl
takes_key start Not l o k = refl
takes_key start In l o k = refl
takes_key start To l o k = refl
takes_key start Exists l o k = refl
takes_key start Is l o k = refl
takes_key start Null l o k = refl
takes_key start Empty l o k = refl
takes_key start (Compare c) l o k = refl
takes_key start Open l o k = refl
takes_key start ListOpen l o k = refl
takes_key start ListClose l o k = refl
takes_key start Comma l o k = refl
takes_key _ _ l o k = refl

abbrev pub AreKeys : List (List ℕ × Token) → Type 0
AreKeys [] = Unit {0}
AreKeys (k ∷ ks) = IsKey k.1 × AreKeys ks

pub are_keys : AreKeys keywords
are_keys = (tt, (tt, (tt, (tt, (tt, (tt, (tt, (tt, (tt, tt)))))))))

starts_front : (u v : List ℕ) → starts_with u (u ++ v) ≡ true
starts_front [] v = refl
starts_front (x ∷ u) v = rw (eq-eqb x x refl, starts_front u v) refl

yes_or : (a : Bool) → a || true ≡ true
yes_or true = refl
yes_or false = refl

or_later : (a b c : Bool) → a || c ≡ true → a || (b || c) ≡ true
or_later true b c h = refl
or_later false true c h = refl
or_later false false c h = h

fits_found : (s : State) (l : Level) (o : List Frame) (u v : List ℕ) (ks : List (List ℕ × Token)) → AreKeys ks
    → is_some (move s (found (u ++ v) ks) l o) ≡ true → takes s (Text []) || fits_keyword s u ks ≡ true
fits_found s l o u v [] keys h = rw (sym (takes_text s (u ++ v) l o) ∙ h) refl
fits_found s l o u v (k ∷ ks) (key, keys) h = by_key (bytes_eq (u ++ v) k.0) refl h (λ later. fits_found s l o u v ks keys later)
  where
    by_key : (b : Bool) → bytes_eq (u ++ v) k.0 ≡ b → is_some (move s (cond b k.1 (found (u ++ v) ks)) l o) ≡ true
        → (is_some (move s (found (u ++ v) ks) l o) ≡ true → takes s (Text []) || fits_keyword s u ks ≡ true)
        → takes s (Text []) || ((takes s k.1 && starts_with u k.0) || fits_keyword s u ks) ≡ true
    by_key true same h later =
        let front : starts_with u k.0 ≡ true = ap (starts_with u) (sym ((bytes_eq-Decides (u ++ v) k.0).0 same)) ∙ starts_front u v in
        let taken : takes s k.1 ≡ true = sym (takes_key s k.1 l o key) ∙ h in
        rw (front, taken) (yes_or (takes s (Text [])))
    by_key false same h later = or_later (takes s (Text [])) (takes s k.1 && starts_with u k.0) (fits_keyword s u ks) (later h)

-- a word that is taken was one that may come from its first byte on
pub fits_word : (s : State) (l : Level) (o : List Frame) (u v : List ℕ) → is_some (move s (word_token (u ++ v)) l o) ≡ true → fits s u ≡ true
fits_word s l o u v h = fits_found s l o u v keywords are_keys h
