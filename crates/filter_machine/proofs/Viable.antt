-- Where the scan has not refused, the text goes on to a filter.
use Rattle.std.proofs.Common.{◌≡◌, ◌⊎◌, inl, inr, ℕ, List, [], ◌∷◌, ◌++◌, Bool, true, false, ◌&&◌, ◌||◌, Option, Some, None, refl, sym, ap, subst, ◌∙◌, append-nil, cond}
use Rattle.std.specs.Prelude.{is_some, nat_eq, codes, IfSome}
use Rattle.std.specs.Str.{bytes_eq}
use Rattle.std.proofs.lemmas.Bool.{eq-eqb, eqb-true, and_parts}
use Rattle.std.proofs.lemmas.Slice.Eq.{bytes_eq-Decides}
use Rattle.filter_tree.specs.Tree.{Tree, negation}
use Rattle.filter_machine.specs.Machine.{State, start, attribute, value, low, high, refused, in_list, first, item, after_comma, being, not_being, done, Level, level_of, Frame, under_not, bracket, Machine, at, with_member, member_end, whole, closed, step, move, run, Reading, reading, accept}
use Rattle.filter_machine.specs.Text.{Class, space, letter, quote, bang, greater, less, single, strange, class_of, is_letter, are_letters, keywords, found, word_token, is_special, Piece, blank, word, sign, spell, tokens, AreCut}
use Rattle.filter_machine.specs.Scan.{Lex, gap, in_word, in_quote, after_slash, after, Scan, with, takes, starts_with, fits, fits_keyword, if_so, spaced, begin_by, begin, begin_after, alone_step, feed, goes, outcome, scan, proceeds}
use Rattle.filter_machine.specs.declared.token.Token.{Token}
use Rattle.filter_machine.specs.declared.token.Token.TheVariants.{Text, Not, To, Exists, Null, Empty, Compare, Open, Close, ListOpen, ListClose}
use Rattle.filter_machine.specs.declared.token.Comparison.{Comparison}
use Rattle.filter_machine.specs.declared.token.Comparison.TheVariants.{Equal, Unequal, Above, AtLeast, Below, AtMost}
use Rattle.filter_machine.proofs.Taking.{takes_text, takes_compare, takes_key, IsKey}
use Rattle.filter_machine.proofs.Sound.{some_if}
use Rattle.filter_machine.proofs.PieceRuns.{quote_run, word_run, slash_apart, pieces_run}

-- ---- what holds of a scan that has not refused

-- where a member has ended, no NOT is open just over it
abbrev pub SettledIn : State → List Frame → Type 0
SettledIn done (under_not ∷ o) = ⊥
SettledIn _ _ = Unit {0}

abbrev pub Settled : Machine → Type 0
Settled m = SettledIn m.state m.outer

member_settled : (o : List Frame) (t : Tree) (l : Level) → Settled (member_end t l o)
member_settled [] t l = tt
member_settled (under_not ∷ o) t l = member_settled o (negation t) l
member_settled (bracket os ns ∷ o) t l = tt

closed_settled : (l : Level) (o : List Frame) → IfSome (closed l o) Settled
closed_settled l [] = tt
closed_settled l (under_not ∷ o) = tt
closed_settled l (bracket os ns ∷ o) = member_settled o (whole l) (level_of os ns l.bad)

move_settled : (s : State) (t : Token) (l : Level) (o : List Frame) → IfSome (move s t l o) Settled
move_settled (attribute a) Exists l o = member_settled o _ _
move_settled (value a c) (Text v) l o = member_settled o _ _
move_settled (high a b) (Text v) l o = member_settled o _ _
move_settled (refused a) Exists l o = member_settled o _ _
move_settled (first a n) ListClose l o = member_settled o _ _
move_settled (item a n vs) ListClose l o = member_settled o _ _
move_settled (being a) Null l o = member_settled o _ _
move_settled (being a) Empty l o = member_settled o _ _
move_settled (not_being a) Null l o = member_settled o _ _
move_settled (not_being a) Empty l o = member_settled o _ _
move_settled done Close l o = closed_settled l o
move_settled (low a b) To l o = tt
move_settled (in_list a n) ListOpen l o = tt
move_settled (after_comma a n vs) (Text v) l o = tt
move_settled start (Text w) l o = tt
move_settled start Not l o = tt
move_settled start Open l o = tt
move_settled _ _ l o = tt

pub step_settled : (m : Machine) (t : Token) → IfSome (step m t) Settled
step_settled m t = move_settled m.state t m.level m.outer

abbrev pub Good : Lex → Machine → Type 0
Good gap m = Unit {0}
Good (in_word w) m = fits m.state w ≡ true
Good (in_quote q w) m = (takes m.state (Text []) ≡ true) × (class_of q ≡ quote)
Good (after_slash q w) m = (takes m.state (Text []) ≡ true) × (class_of q ≡ quote)
Good (after c d) m = takes m.state (Compare Equal) ≡ true

abbrev pub IsGood : Scan → Type 0
IsGood s = Good s.lex s.machine × Settled s.machine

so_good : (c : Bool) (lex : Lex) (m : Machine) → Settled m → (c ≡ true → Good lex m) → IfSome (if_so c lex m) IsGood
so_good true lex m settled h = (h refl, settled)
so_good false lex m settled h = tt

spaced_good : (o : Option Machine) → IfSome o Settled → IfSome (spaced o) IsGood
spaced_good None h = tt
spaced_good (Some m) h = (tt, h)

begin_good : (b : ℕ) (m : Machine) → Settled m → IfSome (begin b m) IsGood
begin_good b m settled = by_class (class_of b) refl
  where
    by_class : (k : Class) → class_of b ≡ k → IfSome (begin_by k b m) IsGood
    by_class space is = (tt, settled)
    by_class letter is = so_good (fits m.state (b ∷ [])) (in_word (b ∷ [])) m settled (λ h. h)
    by_class quote is = so_good (takes m.state (Text [])) (in_quote b []) m settled (λ h. (h, is))
    by_class bang is = so_good (takes m.state (Compare Equal)) (after Unequal None) m settled (λ h. h)
    by_class greater is = so_good (takes m.state (Compare Equal)) (after AtLeast (Some Above)) m settled (λ h. h)
    by_class less is = so_good (takes m.state (Compare Equal)) (after AtMost (Some Below)) m settled (λ h. h)
    by_class (single t) is = spaced_good (step m t) (step_settled m t)
    by_class strange is = tt

after_good : (b : ℕ) (o : Option Machine) → IfSome o Settled → IfSome (begin_after b o) IsGood
after_good b None h = tt
after_good b (Some m) h = begin_good b m h

alone_settled : (d : Option Comparison) (m : Machine) → IfSome (alone_step d m) Settled
alone_settled None m = tt
alone_settled (Some c) m = step_settled m (Compare c)

feed_good : (b : ℕ) (lex : Lex) (m : Machine) → Good lex m → Settled m → IfSome (feed b (with lex m)) IsGood
feed_good b gap m h settled = begin_good b m settled
feed_good b (in_word w) m h settled = by_letter (is_letter b)
  where
    by_letter : (c : Bool) → IfSome (cond c (if_so (fits m.state (w ++ b ∷ [])) (in_word (w ++ b ∷ [])) m) (begin_after b (step m (word_token w)))) IsGood
    by_letter true = so_good (fits m.state (w ++ b ∷ [])) (in_word (w ++ b ∷ [])) m settled (λ e. e)
    by_letter false = after_good b (step m (word_token w)) (step_settled m (word_token w))
feed_good b (in_quote q w) m h settled = by_end (nat_eq b q) (nat_eq b 92)
  where
    by_end : (c d : Bool) → IfSome (cond c (spaced (step m (Text w))) (cond d (Some (with (after_slash q w) m)) (Some (with (in_quote q (w ++ b ∷ [])) m)))) IsGood
    by_end true d = spaced_good (step m (Text w)) (step_settled m (Text w))
    by_end false true = (h, settled)
    by_end false false = (h, settled)
feed_good b (after_slash q w) m h settled = by_kind (is_special q b)
  where
    by_kind : (c : Bool) → IfSome (cond c (Some (with (in_quote q (w ++ b ∷ [])) m)) (Some (with (in_quote q (w ++ 92 ∷ b ∷ [])) m))) IsGood
    by_kind true = (h, settled)
    by_kind false = (h, settled)
feed_good b (after c d) m h settled = by_equal (nat_eq b 61)
  where
    by_equal : (y : Bool) → IfSome (cond y (spaced (step m (Compare c))) (begin_after b (alone_step d m))) IsGood
    by_equal true = spaced_good (step m (Compare c)) (step_settled m (Compare c))
    by_equal false = after_good b (alone_step d m) (alone_settled d m)

pub scan_good : (text : List ℕ) (s : Scan) → IsGood s → IfSome (scan text s) IsGood
scan_good [] s h = h
scan_good (b ∷ bs) s h = by_next (feed b s) (feed_good b s.lex s.machine h.0 h.1) (λ t good. scan_good bs t good)
  where
    by_next : (o : Option Scan) → IfSome o IsGood → ((t : Scan) → IsGood t → IfSome (scan bs t) IsGood) → IfSome (proceeds (scan bs) o) IsGood
    by_next None good later = tt
    by_next (Some t) good later = later t good

-- ---- tokens that complete a machine

abbrev pub finishing : State → List Piece
finishing start = blank 32 ∷ word (codes "a") ∷ blank 32 ∷ word (codes "EXISTS") ∷ blank 32 ∷ []
finishing (attribute a) = blank 32 ∷ word (codes "EXISTS") ∷ blank 32 ∷ []
finishing (value a c) = blank 32 ∷ word (codes "a") ∷ blank 32 ∷ []
finishing (low a b) = blank 32 ∷ word (codes "TO") ∷ blank 32 ∷ word (codes "a") ∷ blank 32 ∷ []
finishing (high a b) = blank 32 ∷ word (codes "a") ∷ blank 32 ∷ []
finishing (refused a) = blank 32 ∷ word (codes "EXISTS") ∷ blank 32 ∷ []
finishing (in_list a n) = blank 32 ∷ sign 91 ListOpen ∷ sign 93 ListClose ∷ []
finishing (first a n) = blank 32 ∷ sign 93 ListClose ∷ []
finishing (item a n vs) = blank 32 ∷ sign 93 ListClose ∷ []
finishing (after_comma a n vs) = blank 32 ∷ word (codes "a") ∷ blank 32 ∷ sign 93 ListClose ∷ []
finishing (being a) = blank 32 ∷ word (codes "NULL") ∷ blank 32 ∷ []
finishing (not_being a) = blank 32 ∷ word (codes "NULL") ∷ blank 32 ∷ []
finishing done = blank 32 ∷ []

abbrev pub closing : List Frame → List Piece
closing [] = []
closing (under_not ∷ o) = closing o
closing (bracket os ns ∷ o) = sign 41 Close ∷ closing o

abbrev pub completion : Machine → List Piece
completion m = finishing m.state ++ closing m.outer

closing_cut : (o : List Frame) → AreCut (closing o) []
unfolding class_of
closing_cut [] = tt
closing_cut (under_not ∷ o) = closing_cut o
closing_cut (bracket os ns ∷ o) = (refl, tt, closing_cut o)

finishing_cut : (s : State) (ps : List Piece) → AreCut ps [] → AreCut (finishing s ++ ps) []
unfolding class_of
finishing_cut start ps h = (refl, tt, (refl, refl, (refl, tt, (refl, refl, (refl, tt, h)))))
finishing_cut (attribute a) ps h = (refl, tt, (refl, refl, (refl, tt, h)))
finishing_cut (value a c) ps h = (refl, tt, (refl, refl, (refl, tt, h)))
finishing_cut (low a b) ps h = (refl, tt, (refl, refl, (refl, tt, (refl, refl, (refl, tt, h)))))
finishing_cut (high a b) ps h = (refl, tt, (refl, refl, (refl, tt, h)))
finishing_cut (refused a) ps h = (refl, tt, (refl, refl, (refl, tt, h)))
finishing_cut (in_list a n) ps h = (refl, tt, (refl, tt, (refl, tt, h)))
finishing_cut (first a n) ps h = (refl, tt, (refl, tt, h))
finishing_cut (item a n vs) ps h = (refl, tt, (refl, tt, h))
finishing_cut (after_comma a n vs) ps h = (refl, tt, (refl, refl, (refl, tt, (refl, tt, h))))
finishing_cut (being a) ps h = (refl, tt, (refl, refl, (refl, tt, h)))
finishing_cut (not_being a) ps h = (refl, tt, (refl, refl, (refl, tt, h)))
finishing_cut done ps h = (refl, tt, h)

-- what a member's end comes to
pub record Ended (s : State) (l : Level) (o : List Frame) : Type 0 where
  pub tree : Tree
  pub level : Level
  pub run_is : (ps : List Piece) → run (tokens (finishing s ++ ps)) (at s l o) ≡ run (tokens ps) (member_end tree level o)

finishing_run : (s : State) (l : Level) (o : List Frame) → (s ≡ done → ⊥) → Ended s l o
finishing_run start l o not_done = record { tree = _; level = _; run_is = λ ps. refl }
finishing_run (attribute a) l o not_done = record { tree = _; level = _; run_is = λ ps. refl }
finishing_run (value a c) l o not_done = record { tree = _; level = _; run_is = λ ps. refl }
finishing_run (low a b) l o not_done = record { tree = _; level = _; run_is = λ ps. refl }
finishing_run (high a b) l o not_done = record { tree = _; level = _; run_is = λ ps. refl }
finishing_run (refused a) l o not_done = record { tree = _; level = _; run_is = λ ps. refl }
finishing_run (in_list a n) l o not_done = record { tree = _; level = _; run_is = λ ps. refl }
finishing_run (first a n) l o not_done = record { tree = _; level = _; run_is = λ ps. refl }
finishing_run (item a n vs) l o not_done = record { tree = _; level = _; run_is = λ ps. refl }
finishing_run (after_comma a n vs) l o not_done = record { tree = _; level = _; run_is = λ ps. refl }
finishing_run (being a) l o not_done = record { tree = _; level = _; run_is = λ ps. refl }
finishing_run (not_being a) l o not_done = record { tree = _; level = _; run_is = λ ps. refl }
finishing_run done l o not_done = absurd (not_done refl)

pub record Accepts (m : Machine) (ts : List Token) : Type 0 where
  pub last : Machine
  pub result : Reading
  pub run_is : run ts m ≡ Some last
  pub accept_is : accept last ≡ Some result

closing_run : (o : List Frame) (t : Tree) (l : Level) → Accepts (member_end t l o) (tokens (closing o))
closing_run [] t l = record { last = at done (with_member t l) []; result = reading (whole (with_member t l)) l.bad; run_is = refl; accept_is = refl }
closing_run (under_not ∷ o) t l = closing_run o (negation t) l
closing_run (bracket os ns ∷ o) t l =
    let h = closing_run o (whole (with_member t l)) (level_of os ns l.bad) in
    record { last = h.last; result = h.result; run_is = h.run_is; accept_is = h.accept_is }

done_run : (o : List Frame) (l : Level) → SettledIn done o → Accepts (at done l o) (tokens (closing o))
done_run [] l settled = record { last = at done l []; result = reading (whole l) l.bad; run_is = refl; accept_is = refl }
done_run (under_not ∷ o) l settled = absurd settled
done_run (bracket os ns ∷ o) l settled =
    let h = closing_run o (whole l) (level_of os ns l.bad) in
    record { last = h.last; result = h.result; run_is = h.run_is; accept_is = h.accept_is }

is_done : (s : State) → (s ≡ done) ⊎ (s ≡ done → ⊥)
is_done done = inl refl
is_done start = inr (λ e. let wrong = e in cc)
is_done _ = inr (λ e. let wrong = e in cc)

-- the completion brings each settled machine to its end
pub completion_run : (m : Machine) → Settled m → Accepts m (tokens (completion m))
completion_run m settled = by_state m.state m.level m.outer settled
  where
    by_state : (s : State) (l : Level) (o : List Frame) → SettledIn s o → Accepts (at s l o) (tokens (finishing s ++ closing o))
    by_state done l o settled = done_run o l settled
    by_state s l o settled = by_done (is_done s) settled
      where
        by_done : (s ≡ done) ⊎ (s ≡ done → ⊥) → SettledIn s o → Accepts (at s l o) (tokens (finishing s ++ closing o))
        by_done (inl e) h = subst (λ x. Accepts (at x l o) (tokens (finishing x ++ closing o))) (sym e) (done_run o l (subst (λ x. SettledIn x o) e h))
        by_done (inr other) h =
            let ended = finishing_run s l o other in
            let close = closing_run o ended.tree ended.level in
            record { last = close.last; result = close.result; run_is = ended.run_is (closing o) ∙ close.run_is; accept_is = close.accept_is }

-- ---- bytes that complete a scan

pub record Completes (s : Scan) : Type 0 where
  pub more : List ℕ
  pub last : Machine
  pub result : Reading
  pub outcome_is : outcome more s ≡ Some last
  pub accept_is : accept last ≡ Some result

-- a blank comes first
pub record CompletesSpaced (m : Machine) : Type 0 where
  pub more : List ℕ
  pub last : Machine
  pub result : Reading
  pub outcome_is : outcome (32 ∷ more) (with gap m) ≡ Some last
  pub accept_is : accept last ≡ Some result

spaced_text : (s : State) (o : List Frame) → (us : List ℕ) × (spell (finishing s ++ closing o) ≡ 32 ∷ us)
spaced_text start o = (_, refl)
spaced_text _ o = (_, refl)

complete_spaced : (m : Machine) → Settled m → CompletesSpaced m
complete_spaced m settled =
    let h = completion_run m settled in
    let (us, text_is) = spaced_text m.state m.outer in
    record {
      more = us;
      last = h.last;
      result = h.result;
      accept_is = h.accept_is;
      outcome_is = ap (λ vs. outcome vs (with gap m)) (sym text_is ∙ sym (append-nil (spell (completion m))))
          ∙ pieces_run (completion m) [] m h.last (finishing_cut m.state (closing m.outer) (closing_cut m.outer)) h.run_is;
    }

some_of : {A : Type 0} (o : Option A) → is_some o ≡ true → (x : A) × (o ≡ Some x)
some_of None e = absurd (let wrong = e in cc)
some_of (Some x) e = (x, refl)

-- ---- words that complete a word

has_low : List ℕ → Bool
has_low [] = false
has_low (x ∷ xs) = nat_eq x 95 || has_low xs

low_last : (w : List ℕ) → has_low (w ++ 95 ∷ []) ≡ true
unfolding has_low
low_last [] = refl
low_last (x ∷ w) = by_first (nat_eq x 95) (low_last w)
  where
    by_first : (b : Bool) → has_low (w ++ 95 ∷ []) ≡ true → b || has_low (w ++ 95 ∷ []) ≡ true
    by_first true h = refl
    by_first false h = h

abbrev HaveNoLow : List (List ℕ × Token) → Type 0
HaveNoLow [] = Unit {0}
HaveNoLow (k ∷ ks) = (has_low k.0 ≡ false) × HaveNoLow ks

keywords_no_low : HaveNoLow keywords
unfolding has_low
keywords_no_low = (refl, (refl, (refl, (refl, (refl, (refl, (refl, (refl, (refl, tt)))))))))

found_low : (w : List ℕ) (ks : List (List ℕ × Token)) → HaveNoLow ks → has_low w ≡ true → found w ks ≡ Text w
found_low w [] h lows = refl
found_low w (k ∷ ks) (apart, h) lows = by_same (bytes_eq w k.0) refl (found_low w ks h lows)
  where
    by_same : (b : Bool) → bytes_eq w k.0 ≡ b → found w ks ≡ Text w → cond b k.1 (found w ks) ≡ Text w
    by_same true same later = absurd (let e = ap has_low (sym ((bytes_eq-Decides w k.0).0 same)) in let wrong : false ≡ true = sym apart ∙ e ∙ lows in cc)
    by_same false same later = later

abbrev AreSure : List (List ℕ × Token) → Type 0
AreSure [] = Unit {0}
AreSure (k ∷ ks) = (word_token k.0 ≡ k.1) × (are_letters k.0 ≡ true) × IsKey k.1 × AreSure ks

keywords_sure : AreSure keywords
unfolding class_of
keywords_sure = (refl, refl, tt, (refl, refl, tt, (refl, refl, tt, (refl, refl, tt, (refl, refl, tt, (refl, refl, tt, (refl, refl, tt, (refl, refl, tt, (refl, refl, tt, tt)))))))))

starts_rest : (u k : List ℕ) → starts_with u k ≡ true → (v : List ℕ) × (k ≡ u ++ v)
starts_rest [] k e = (k, refl)
starts_rest (x ∷ u) [] e = absurd (let wrong = e in cc)
starts_rest (x ∷ u) (y ∷ k) e =
    let both = and_parts (nat_eq x y) (starts_with u k) e in
    let (v, is) = starts_rest u k both.1 in
    let same : x ≡ y = eqb-true x y both.0 in
    (v, cc)

letters_rest : (u v : List ℕ) → are_letters (u ++ v) ≡ true → are_letters v ≡ true
letters_rest [] v e = e
letters_rest (x ∷ u) v e = letters_rest u v ((and_parts (is_letter x) (are_letters (u ++ v)) e).1)

pub record WordCompletes (s : State) (w : List ℕ) (l : Level) (o : List Frame) : Type 0 where
  pub rest : List ℕ
  pub letters : are_letters rest ≡ true
  pub taken : is_some (move s (word_token (w ++ rest)) l o) ≡ true

either_so : (a b : Bool) → a || b ≡ true → (a ≡ true) ⊎ (b ≡ true)
either_so true b e = inl refl
either_so false b e = inr e

by_keyword : (s : State) (w : List ℕ) (l : Level) (o : List Frame) (ks : List (List ℕ × Token)) → AreSure ks → fits_keyword s w ks ≡ true → WordCompletes s w l o
by_keyword s w l o [] sure e = absurd (let wrong = e in cc)
by_keyword s w l o (k ∷ ks) (token_is, letters_are, key, sure) e =
    this_or (either_so (takes s k.1 && starts_with w k.0) (fits_keyword s w ks) e) (λ h. by_keyword s w l o ks sure h)
  where
    this_or : ((takes s k.1 && starts_with w k.0) ≡ true) ⊎ (fits_keyword s w ks ≡ true) → (fits_keyword s w ks ≡ true → WordCompletes s w l o) → WordCompletes s w l o
    this_or (inl h) later =
        let both = and_parts (takes s k.1) (starts_with w k.0) h in
        let (v, is) = starts_rest w k.0 both.1 in
        record {
          rest = v;
          letters = letters_rest w v (ap are_letters (sym is) ∙ letters_are);
          taken = ap (λ u. is_some (move s (word_token u) l o)) (sym is) ∙ ap (λ t. is_some (move s t l o)) token_is ∙ takes_key s k.1 l o key ∙ both.0;
        }
    this_or (inr h) later = later h

one_letter : are_letters (95 ∷ []) ≡ true
unfolding class_of
one_letter = refl

pub word_completes : (s : State) (w : List ℕ) (l : Level) (o : List Frame) → fits s w ≡ true → WordCompletes s w l o
word_completes s w l o e = by_text (either_so (takes s (Text [])) (fits_keyword s w keywords) e)
  where
    by_text : (takes s (Text []) ≡ true) ⊎ (fits_keyword s w keywords ≡ true) → WordCompletes s w l o
    by_text (inl h) = record {
      rest = 95 ∷ [];
      letters = one_letter;
      taken = ap (λ t. is_some (move s t l o)) (found_low (w ++ 95 ∷ []) keywords keywords_no_low (low_last w)) ∙ takes_text s (w ++ 95 ∷ []) l o ∙ h;
    }
    by_text (inr h) = by_keyword s w l o keywords keywords_sure h

-- ---- each scan

space_no_letter : is_letter 32 ≡ false
unfolding class_of
space_no_letter = refl

pub next_settled : (m k : Machine) (t : Token) → step m t ≡ Some k → Settled k
next_settled m k t e = some_if Settled (step m t) k e (step_settled m t)

quote_completes : (q : ℕ) (w : List ℕ) (m : Machine) → takes m.state (Text []) ≡ true → class_of q ≡ quote → Completes (with (in_quote q w) m)
quote_completes q w m taken quoting =
    let (k, one) = some_of (step m (Text (w ++ []))) (takes_text m.state (w ++ []) m.level m.outer ∙ taken) in
    let h = complete_spaced k (next_settled m k (Text (w ++ [])) one) in
    record {
      more = q ∷ 32 ∷ h.more;
      last = h.last;
      result = h.result;
      accept_is = h.accept_is;
      outcome_is = quote_run q [] w (32 ∷ h.more) m k (slash_apart q quoting) refl one ∙ h.outcome_is;
    }

pub completes : (lex : Lex) (m : Machine) → Good lex m → Settled m → Completes (with lex m)
completes gap m good settled =
    let h = complete_spaced m settled in
    record { more = 32 ∷ h.more; last = h.last; result = h.result; accept_is = h.accept_is; outcome_is = h.outcome_is }
completes (in_word w) m good settled =
    let c = word_completes m.state w m.level m.outer good in
    let (k, one) = some_of (step m (word_token (w ++ c.rest))) c.taken in
    let h = complete_spaced k (next_settled m k (word_token (w ++ c.rest)) one) in
    record {
      more = c.rest ++ 32 ∷ h.more;
      last = h.last;
      result = h.result;
      accept_is = h.accept_is;
      outcome_is = word_run c.rest w (32 ∷ h.more) m k c.letters space_no_letter one ∙ h.outcome_is;
    }
completes (in_quote q w) m (taken, quoting) settled = quote_completes q w m taken quoting
completes (after_slash q w) m (taken, quoting) settled =
    let h = quote_completes q (w ++ q ∷ []) m taken quoting in
    record {
      more = q ∷ h.more;
      last = h.last;
      result = h.result;
      accept_is = h.accept_is;
      outcome_is = rw (eq-eqb q q refl) h.outcome_is;
    }
completes (after c d) m good settled =
    let (k, one) = some_of (step m (Compare c)) (takes_compare m.state c m.level m.outer ∙ good) in
    let h = complete_spaced k (next_settled m k (Compare c) one) in
    record {
      more = 61 ∷ 32 ∷ h.more;
      last = h.last;
      result = h.result;
      accept_is = h.accept_is;
      outcome_is = ap (λ o. goes (outcome (32 ∷ h.more)) (spaced o)) one ∙ h.outcome_is;
    }
