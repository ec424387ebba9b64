-- The scan reads the pieces of each text.
use Rattle.std.proofs.Common.{◌≡◌, inl, inr, ℕ, List, [], ◌∷◌, ◌++◌, Bool, true, false, not, Option, Some, None, refl, sym, ap, ◌∙◌, append_assoc, append-nil}
use Rattle.std.specs.Prelude.{is_some, nat_eq}
use Rattle.std.proofs.lemmas.Bool.{eq-eqb, eqb-true, and_parts, or_parts}
use Rattle.filter_machine.specs.Machine.{Machine, step, run, then}
use Rattle.filter_machine.specs.Text.{Class, space, letter, quote, class_of, is_letter, are_letters, word_token, is_special, Item, byte, escaped, kept, is_item, texts, values, are_items, Piece, blank, word, quoted, sign, pair, alone, spelled, token_in, spell, tokens, IsPiece, starts_no, Stops, AreCut}
use Rattle.filter_machine.specs.Scan.{gap, in_word, in_quote, after, with, takes, outcome}
use Rattle.filter_machine.specs.declared.token.Token.{Token}
use Rattle.filter_machine.specs.declared.token.Token.TheVariants.{Text, Compare}
use Rattle.filter_machine.specs.declared.token.Comparison.{Comparison}
use Rattle.filter_machine.specs.declared.token.Comparison.TheVariants.{Equal, Above, AtLeast, Below, AtMost}
use Rattle.filter_machine.proofs.Taking.{takes_text, takes_compare, fits_word}

pub some_same : (m n : Machine) → Some m ≡ Some n → m ≡ n
some_same m n e = cc

pub one_step : (o : Option Machine) (m : Machine) → then (run []) o ≡ Some m → o ≡ Some m
one_step None m e = e
one_step (Some n) m e = e

pub letter_is : (b : ℕ) → is_letter b ≡ true → class_of b ≡ letter
letter_is b h = by_class (class_of b) refl h
  where
    by_class : (k : Class) → class_of b ≡ k → is_letter b ≡ true → class_of b ≡ letter
    by_class letter e h = e
    by_class space e h = let wrong = rw e at h in cc
    by_class _ e h = let wrong = rw e at h in cc

pub special_parts : (q b : ℕ) → not (is_special q b) ≡ true → (nat_eq b q ≡ false) × (nat_eq b 92 ≡ false)
special_parts q b h = or_parts (nat_eq b q) (nat_eq b 92) (flipped (is_special q b) h)
  where
    flipped : (x : Bool) → not x ≡ true → x ≡ false
    flipped true e = cc
    flipped false e = refl

pub quote_run : (q : ℕ) (is : List Item) (w rest : List ℕ) (m n : Machine) → nat_eq 92 q ≡ false → are_items q is ≡ true → step m (Text (w ++ values is)) ≡ Some n
    → outcome (texts is ++ q ∷ rest) (with (in_quote q w) m) ≡ outcome rest (with gap n)
quote_run q [] w rest m n apart good e =
    rw (eq-eqb q q refl, ap (λ u. step m (Text u)) (sym (append-nil w)) ∙ e) refl
quote_run q (byte b ∷ is) w rest m n apart good e =
    let both = and_parts (is_item q (byte b)) (are_items q is) good in
    let other = special_parts q b both.0 in
    rw (other.0, other.1) (quote_run q is (w ++ b ∷ []) rest m n apart both.1 (ap (λ u. step m (Text u)) (append_assoc w (b ∷ []) (values is)) ∙ e))
quote_run q (escaped b ∷ is) w rest m n apart good e =
    let both = and_parts (is_item q (escaped b)) (are_items q is) good in
    rw (apart, both.0) (quote_run q is (w ++ b ∷ []) rest m n apart both.1 (ap (λ u. step m (Text u)) (append_assoc w (b ∷ []) (values is)) ∙ e))
quote_run q (kept b ∷ is) w rest m n apart good e =
    let both = and_parts (is_item q (kept b)) (are_items q is) good in
    let other = special_parts q b both.0 in
    rw (apart, other.0, other.1) (quote_run q is (w ++ 92 ∷ b ∷ []) rest m n apart both.1 (ap (λ u. step m (Text u)) (append_assoc w (92 ∷ b ∷ []) (values is)) ∙ e))

word_end : (u rest : List ℕ) (m n : Machine) → starts_no is_letter rest → step m (word_token u) ≡ Some n
    → outcome rest (with (in_word u) m) ≡ outcome rest (with gap n)
word_end u [] m n stops e = e
word_end u (b ∷ rest) m n stops e = rw (stops, e) refl

pub word_run : (v u rest : List ℕ) (m n : Machine) → are_letters v ≡ true → starts_no is_letter rest → step m (word_token (u ++ v)) ≡ Some n
    → outcome (v ++ rest) (with (in_word u) m) ≡ outcome rest (with gap n)
word_run [] u rest m n good stops e = word_end u rest m n stops (ap (λ w. step m (word_token w)) (sym (append-nil u)) ∙ e)
word_run (b ∷ v) u rest m n good stops e =
    let both = and_parts (is_letter b) (are_letters v) good in
    let e' : step m (word_token ((u ++ b ∷ []) ++ v)) ≡ Some n = ap (λ w. step m (word_token w)) (append_assoc u (b ∷ []) v) ∙ e in
    rw (both.0, fits_word m.state m.level m.outer (u ++ b ∷ []) v (ap is_some e'))
    (word_run v (u ++ b ∷ []) rest m n both.1 stops e')

not_quote : class_of 92 ≡ quote → ⊥
unfolding class_of
not_quote e = cc

pub slash_apart : (q : ℕ) → class_of q ≡ quote → nat_eq 92 q ≡ false
slash_apart q e = by_eq (nat_eq 92 q) refl
  where
    by_eq : (b : Bool) → nat_eq 92 q ≡ b → nat_eq 92 q ≡ false
    by_eq false h = h
    by_eq true h = absurd (not_quote (ap class_of (eqb-true 92 q h) ∙ e))

alone_run : (b : ℕ) (c : Comparison) (rest : List ℕ) (m n : Machine) (k : Comparison) → starts_no (λ x. nat_eq x 61) rest → step m (Compare c) ≡ Some n
    → outcome rest (with (after k (Some c)) m) ≡ outcome rest (with gap n)
alone_run b c [] m n k stops e = e
alone_run b c (x ∷ rest) m n k stops e = rw (stops, e) refl

pub piece_run : (p : Piece) (rest : List ℕ) (m n : Machine) → IsPiece p → Stops p rest → run (token_in p) m ≡ Some n
    → outcome (spelled p ++ rest) (with gap m) ≡ outcome rest (with gap n)
piece_run (blank b) rest m n piece stops e = rw (piece, some_same m n e) refl
piece_run (sign b t) rest m n piece stops e = rw (piece, one_step (step m t) n e) refl
piece_run (word []) rest m n piece stops e = absurd (cc)
piece_run (word (b ∷ w)) rest m n piece stops e =
    let both = and_parts (is_letter b) (are_letters w) piece in
    let e' : step m (word_token (b ∷ w)) ≡ Some n = one_step (step m (word_token (b ∷ w))) n e in
    rw (letter_is b both.0, fits_word m.state m.level m.outer (b ∷ []) w (ap is_some e'))
    (word_run w (b ∷ []) rest m n both.1 stops e')
piece_run (quoted q is) rest m n piece stops e =
    let e' : step m (Text (values is)) ≡ Some n = one_step (step m (Text (values is))) n e in
    rw (piece.0, sym (takes_text m.state (values is) m.level m.outer) ∙ ap is_some e')
    (ap (λ us. outcome us (with (in_quote q []) m)) (append_assoc (texts is) (q ∷ []) rest)
    ∙ quote_run q is [] rest m n (slash_apart q piece.0) piece.1 e')
piece_run (pair b c) rest m n piece stops e = by_kind piece
  where
    e' : step m (Compare c) ≡ Some n
    e' = one_step (step m (Compare c)) n e

    taken : takes m.state (Compare Equal) ≡ true
    taken = sym (takes_compare m.state c m.level m.outer) ∙ ap is_some e'

    by_kind : IsPiece (pair b c) → outcome (b ∷ 61 ∷ rest) (with gap m) ≡ outcome rest (with gap n)
    by_kind (inl (k, same)) = rw (k, taken, ap (λ d. step m (Compare d)) (sym same) ∙ e') refl
    by_kind (inr (inl (k, same))) = rw (k, taken, ap (λ d. step m (Compare d)) (sym same) ∙ e') refl
    by_kind (inr (inr (k, same))) = rw (k, taken, ap (λ d. step m (Compare d)) (sym same) ∙ e') refl
piece_run (alone b c) rest m n piece stops e = by_kind piece
  where
    e' : step m (Compare c) ≡ Some n
    e' = one_step (step m (Compare c)) n e

    taken : takes m.state (Compare Equal) ≡ true
    taken = sym (takes_compare m.state c m.level m.outer) ∙ ap is_some e'

    by_kind : IsPiece (alone b c) → outcome (b ∷ rest) (with gap m) ≡ outcome rest (with gap n)
    by_kind (inl (k, same)) = rw (k, taken) (alone_run b Above rest m n AtLeast stops (ap (λ d. step m (Compare d)) (sym same) ∙ e'))
    by_kind (inr (k, same)) = rw (k, taken) (alone_run b Below rest m n AtMost stops (ap (λ d. step m (Compare d)) (sym same) ∙ e'))

pub run_parts : (ts us : List Token) (m n : Machine) → run (ts ++ us) m ≡ Some n → (k : Machine) × (run ts m ≡ Some k) × (run us k ≡ Some n)
run_parts [] us m n e = (m, refl, e)
run_parts (t ∷ ts) us m n e = by_step (step m t) e (λ k later. run_parts ts us k n later)
  where
    by_step : (o : Option Machine) → then (run (ts ++ us)) o ≡ Some n
        → ((k : Machine) → run (ts ++ us) k ≡ Some n → (j : Machine) × (run ts k ≡ Some j) × (run us j ≡ Some n))
        → (j : Machine) × (then (run ts) o ≡ Some j) × (run us j ≡ Some n)
    by_step None e later = absurd (cc)
    by_step (Some k) e later = later k e

pub pieces_run : (ps : List Piece) (rest : List ℕ) (m n : Machine) → AreCut ps rest → run (tokens ps) m ≡ Some n
    → outcome (spell ps ++ rest) (with gap m) ≡ outcome rest (with gap n)
pieces_run [] rest m n cut e = ap (λ k. outcome rest (with gap k)) (some_same m n e)
pieces_run (p ∷ ps) rest m n (piece, stops, cut) e =
    let (k, one, later) = run_parts (token_in p) (tokens ps) m n e in
    ap (λ us. outcome us (with gap m)) (append_assoc (spelled p) (spell ps) rest)
    ∙ piece_run p (spell ps ++ rest) m k piece stops one
    ∙ pieces_run ps rest k n cut later
