-- The bytes of a character that is not ASCII.
use Rattle.std.proofs.Common.{◌≡◌, ℕ, suc, ◌+◌, ◌<◌, ◌≤◌, List, [], ◌∷◌, ◌++◌, length, get_or, Bool, true, false, ◌&&◌, ◌||◌, Option, Ok, Err, refl, sym, ap, ◌∙◌, append_assoc, append-nil, arith, rules}
use Rattle.std.specs.Prelude.{nat_eq, nat_le}
use Rattle.std.proofs.Math.Utf8.{encode}
use Rattle.std.proofs.lemmas.Str.{inside_one, length-encode, len_utf8_bounds}
use Rattle.std.proofs.lemmas.Bool.{eqb-true, or_parts}
use Rattle.filter_machine.specs.Machine.{State, Machine}
use Rattle.filter_machine.specs.Text.{letter, class_of, is_letter, keywords}
use Rattle.filter_machine.specs.Scan.{gap, in_word, in_quote, after_slash, after, with, takes, fits, fits_keyword, starts_with, alone_step}
use Rattle.filter_expr.specs.Limit.{TextFault, syntax_at, stepped, outcome_at}
use Rattle.filter_machine.specs.declared.token.Comparison.{Comparison}
use Rattle.filter_machine.specs.declared.token.Token.{Token}
use Rattle.filter_machine.specs.declared.token.Token.TheVariants.{Text}

abbrev pub AreHigh : List ℕ → Type 0
AreHigh [] = Unit {0}
AreHigh (b ∷ bs) = (128 ≤ b) × AreHigh bs

high_each : (bs : List ℕ) → ((k : ℕ) → k < length bs → 128 ≤ get_or bs k 0) → AreHigh bs
high_each [] h = tt
high_each (b ∷ bs) h = (h 0 (omega arith), high_each bs (λ k below. h (suc k) (omega arith)))

encode_each : (c : ℕ) → 128 ≤ c → (k : ℕ) → k < length (encode c) → 128 ≤ get_or (encode c) k 0
encode_each c high k below =
    let one : get_or (encode c) k 0 < 128 → c ≡ get_or (encode c) k 0 = inside_one c [] (encode c) k (sym (append-nil (encode c))) below in
    by_size (get_or (encode c) k 0) one
  where
    by_size : (b : ℕ) → (b < 128 → c ≡ b) → 128 ≤ b
    by_size b one = grind (arith, one)

pub encode_high : (c : ℕ) → 128 ≤ c → AreHigh (encode c)
encode_high c high = high_each (encode c) (encode_each c high)

unequal : (b k : ℕ) → 128 ≤ b → k < 128 → nat_eq b k ≡ false
unequal b k high low = by_eq (nat_eq b k) refl
  where
    by_eq : (x : Bool) → nat_eq b k ≡ x → nat_eq b k ≡ false
    by_eq false e = e
    by_eq true e = absurd (let same : b ≡ k = eqb-true b k e in omega arith)

high_wide : (b : ℕ) → 128 ≤ b → nat_le 128 b ≡ true
high_wide b high = search (rules, high)

pub high_letter : (b : ℕ) → 128 ≤ b → class_of b ≡ letter
unfolding class_of
high_letter b high = rw (unequal b 32 high (omega arith), unequal b 9 high (omega arith), unequal b 13 high (omega arith), unequal b 10 high (omega arith), high_wide b high) refl

pub high_is_letter : (b : ℕ) → 128 ≤ b → is_letter b ≡ true
high_is_letter b high = rw (high_letter b high) refl

-- ---- no keyword has such a byte

has_high : List ℕ → Bool
has_high [] = false
has_high (x ∷ xs) = nat_le 128 x || has_high xs

high_last : (w : List ℕ) (b : ℕ) → 128 ≤ b → has_high (w ++ b ∷ []) ≡ true
unfolding has_high
high_last [] b high = rw (high_wide b high) refl
high_last (x ∷ w) b high = or_true (nat_le 128 x) (has_high (w ++ b ∷ [])) (high_last w b high)
  where
    or_true : (p q : Bool) → q ≡ true → p || q ≡ true
    or_true true q e = refl
    or_true false q e = e

abbrev HaveNoHigh : List (List ℕ × Token) → Type 0
HaveNoHigh [] = Unit {0}
HaveNoHigh (k ∷ ks) = (has_high k.0 ≡ false) × HaveNoHigh ks

keywords_no_high : HaveNoHigh keywords
unfolding has_high
keywords_no_high = (refl, (refl, (refl, (refl, (refl, (refl, (refl, (refl, (refl, tt)))))))))

-- a text with such a byte does not begin one without
starts_apart : (w k : List ℕ) → has_high w ≡ true → has_high k ≡ false → starts_with w k ≡ false
unfolding has_high
starts_apart [] k h n = absurd (let wrong = h in cc)
starts_apart (x ∷ w) [] h n = refl
starts_apart (x ∷ w) (y ∷ k) h n =
    let parts = or_parts (nat_le 128 y) (has_high k) n in
    by_same (nat_eq x y) refl parts.0 parts.1 (λ h. starts_apart w k h parts.1) h
  where
    by_same : (e : Bool) → nat_eq x y ≡ e → nat_le 128 y ≡ false → has_high k ≡ false → (has_high w ≡ true → starts_with w k ≡ false) → nat_le 128 x || has_high w ≡ true → e && starts_with w k ≡ false
    by_same false is low none later h = refl
    by_same true is low none later h =
        let same : x ≡ y = eqb-true x y is in
        later (sym (ap (λ p. p || has_high w) (ap (nat_le 128) same ∙ low)) ∙ h)

no_keyword : (s : State) (w : List ℕ) (ks : List (List ℕ × Token)) → HaveNoHigh ks → has_high w ≡ true → fits_keyword s w ks ≡ false
no_keyword s w [] none h = refl
no_keyword s w (k ∷ ks) (apart, none) h = rw (starts_apart w k.0 h apart, no_keyword s w ks none h) (both_false (takes s k.1))
  where
    both_false : (p : Bool) → (p && false) || false ≡ false
    both_false true = refl
    both_false false = refl

pub fits_high : (s : State) (w : List ℕ) (b : ℕ) → 128 ≤ b → fits s (w ++ b ∷ []) ≡ takes s (Text [])
fits_high s w b high = rw (no_keyword s (w ++ b ∷ []) keywords keywords_no_high (high_last w b high)) (or_false (takes s (Text [])))
  where
    or_false : (p : Bool) → p || false ≡ p
    or_false true = refl
    or_false false = refl

-- ---- how the scan reads them

-- as a word
pub word_high : (bs w rest : List ℕ) (at : ℕ) (m : Machine) → AreHigh bs → takes m.state (Text []) ≡ true
    → outcome_at (bs ++ rest) at (with (in_word w) m) ≡ outcome_at rest (at + length bs) (with (in_word (w ++ bs)) m)
word_high [] w rest at m high taken = let e : at ≡ at + 0 = omega arith in ap (λ n. outcome_at rest n (with (in_word w) m)) e ∙ ap (λ u. outcome_at rest (at + 0) (with (in_word u) m)) (sym (append-nil w))
word_high (b ∷ bs) w rest at m (first, high) taken =
    let e : suc at + length bs ≡ at + suc (length bs) = omega arith in
    rw (high_is_letter b first, fits_high m.state w b first, taken)
    (word_high bs (w ++ b ∷ []) rest (suc at) m high taken
    ∙ ap (λ n. outcome_at rest n (with (in_word ((w ++ b ∷ []) ++ bs)) m)) e
    ∙ ap (λ u. outcome_at rest (at + suc (length bs)) (with (in_word u) m)) (append_assoc w (b ∷ []) bs))

pub word_high_refused : (b : ℕ) (us w : List ℕ) (at : ℕ) (m : Machine) → 128 ≤ b → takes m.state (Text []) ≡ false → outcome_at (b ∷ us) at (with (in_word w) m) ≡ Err (syntax_at at)
word_high_refused b us w at m high refused = rw (high_is_letter b high, fits_high m.state w b high, refused) refl

-- where a token may begin, a word begins
pub gap_high : (b : ℕ) (us : List ℕ) (at : ℕ) (m : Machine) → 128 ≤ b → outcome_at (b ∷ us) at (with gap m) ≡ outcome_at (b ∷ us) at (with (in_word []) m)
gap_high b us at m high = rw (high_letter b high) refl

-- in quotes
pub quote_high : (bs w rest : List ℕ) (q at : ℕ) (m : Machine) → AreHigh bs → q < 128 → outcome_at (bs ++ rest) at (with (in_quote q w) m) ≡ outcome_at rest (at + length bs) (with (in_quote q (w ++ bs)) m)
quote_high [] w rest q at m high low = let e : at ≡ at + 0 = omega arith in ap (λ n. outcome_at rest n (with (in_quote q w) m)) e ∙ ap (λ u. outcome_at rest (at + 0) (with (in_quote q u) m)) (sym (append-nil w))
quote_high (b ∷ bs) w rest q at m (first, high) low =
    let e : suc at + length bs ≡ at + suc (length bs) = omega arith in
    rw (unequal b q first low, unequal b 92 first (omega arith))
    (quote_high bs (w ++ b ∷ []) rest q (suc at) m high low
    ∙ ap (λ n. outcome_at rest n (with (in_quote q ((w ++ b ∷ []) ++ bs)) m)) e
    ∙ ap (λ u. outcome_at rest (at + suc (length bs)) (with (in_quote q u) m)) (append_assoc w (b ∷ []) bs))

-- after a backslash, which stays
pub slash_high : (b : ℕ) (us w : List ℕ) (q at : ℕ) (m : Machine) → 128 ≤ b → q < 128 → outcome_at (b ∷ us) at (with (after_slash q w) m) ≡ outcome_at (b ∷ us) at (with (in_quote q (w ++ 92 ∷ [])) m)
slash_high b us w q at m high low =
    rw (unequal b q high low, unequal b 92 high (omega arith)) (ap (λ u. outcome_at us (suc at) (with (in_quote q u) m)) (sym (append_assoc w (92 ∷ []) (b ∷ []))))

-- after a sign that stands alone
pub after_high : (b : ℕ) (us : List ℕ) (c : Comparison) (d : Option Comparison) (at : ℕ) (m k : Machine) → 128 ≤ b → stepped at at (alone_step d m) ≡ Ok k → outcome_at (b ∷ us) at (with (after c d) m) ≡ outcome_at (b ∷ us) at (with gap k)
after_high b us c d at m k high e = rw (unequal b 61 high (omega arith), e) refl

pub after_high_refused : (b : ℕ) (us : List ℕ) (c : Comparison) (d : Option Comparison) (at : ℕ) (m : Machine) (f : TextFault) → 128 ≤ b → stepped at at (alone_step d m) ≡ Err f → outcome_at (b ∷ us) at (with (after c d) m) ≡ Err f
after_high_refused b us c d at m f high e = rw (unequal b 61 high (omega arith), e) refl

-- ---- a character that is not ASCII

pub record Wide (c : ℕ) : Type 0 where
  pub first : ℕ
  pub others : List ℕ
  pub bytes_are : encode c ≡ first ∷ others
  pub first_high : 128 ≤ first
  pub all_high : AreHigh (encode c)

pub wide_of : (c : ℕ) → 128 ≤ c → Wide c
wide_of c high = by_bytes (encode c) refl (encode_high c high) (one_or_more c)
  where
    one_or_more : (c : ℕ) → 0 < length (encode c)
    one_or_more c = let e = length-encode c in let (least, most) = len_utf8_bounds c in omega arith

    by_bytes : (bs : List ℕ) → encode c ≡ bs → AreHigh bs → 0 < length bs → Wide c
    by_bytes [] e h some = absurd (omega arith)
    by_bytes (b ∷ bs) e (first, h) some = record { first = b; others = bs; bytes_are = e; first_high = first; all_high = encode_high c high }
