-- What the scan has read to the end is spelled by pieces, whose tokens the machine reads.
use Rattle.std.proofs.Common.{◌≡◌, inl, inr, ℕ, List, [], ◌∷◌, ◌++◌, Bool, true, false, Option, Some, None, refl, sym, ap, subst, ◌∙◌, append_assoc, append-nil, cond}
use Rattle.std.specs.Prelude.{nat_eq}
use Rattle.std.proofs.lemmas.Bool.{eqb-true, and_parts}
use Rattle.filter_machine.specs.Machine.{Machine, step, run, then}
use Rattle.filter_machine.specs.Text.{Class, space, letter, quote, bang, greater, less, single, strange, class_of, is_letter, are_letters, is_word, word_token, is_special, Item, byte, escaped, kept, item_text, item_value, is_item, texts, values, are_items, Piece, blank, word, quoted, sign, pair, alone, spelled, token_in, spell, tokens, IsPiece, Stops, AreCut}
use Rattle.filter_machine.specs.Scan.{Lex, gap, in_word, in_quote, after_slash, after, Scan, with, takes, fits, if_so, spaced, begin_by, begin, begin_after, alone_step, feed, end_by, goes, outcome}
use Rattle.filter_machine.specs.declared.token.Token.{Token}
use Rattle.filter_machine.specs.declared.token.Token.TheVariants.{Text, Compare}
use Rattle.filter_machine.specs.declared.token.Comparison.{Comparison}
use Rattle.filter_machine.specs.declared.token.Comparison.TheVariants.{Equal, Unequal, Above, AtLeast, Below, AtMost}

pub record Spelled (text : List ℕ) (m n : Machine) : Type 0 where
  pub pieces : List Piece
  pub cut : AreCut pieces []
  pub text_is : text ≡ spell pieces
  pub run_is : run (tokens pieces) m ≡ Some n

abbrev pub AloneIs : Option Comparison → ℕ → Type 0
AloneIs None b = Unit {0}
AloneIs (Some c) b = IsPiece (alone b c)

abbrev pub Explains : Lex → List ℕ → Machine → Machine → Type 0
Explains gap text m n = Spelled text m n
Explains (in_word w) text m n = is_word w ≡ true → Spelled (w ++ text) m n
Explains (in_quote q w) text m n = (is : List Item) → class_of q ≡ quote → are_items q is ≡ true → values is ≡ w → Spelled (q ∷ (texts is ++ text)) m n
Explains (after_slash q w) text m n = (is : List Item) → class_of q ≡ quote → are_items q is ≡ true → values is ≡ w → Spelled (q ∷ (texts is ++ 92 ∷ text)) m n
Explains (after c d) text m n = (b : ℕ) → IsPiece (pair b c) → AloneIs d b → Spelled (b ∷ text) m n

-- ---- lists

pub run_join : (ts us : List Token) (m k n : Machine) → run ts m ≡ Some k → run us k ≡ Some n → run (ts ++ us) m ≡ Some n
run_join [] us m k n e f = let same : m ≡ k = cc in rw same f
run_join (t ∷ ts) us m k n e f = by_step (step m t) e (λ j later. run_join ts us j k n later f)
  where
    by_step : (o : Option Machine) → then (run ts) o ≡ Some k → ((j : Machine) → run ts j ≡ Some k → run (ts ++ us) j ≡ Some n) → then (run (ts ++ us)) o ≡ Some n
    by_step None e later = cc
    by_step (Some j) e later = later j e

pub texts_more : (is : List Item) (i : Item) (rest : List ℕ) → texts (is ++ i ∷ []) ++ rest ≡ texts is ++ (item_text i ++ rest)
texts_more [] i rest = ap (λ us. us ++ rest) (append-nil (item_text i))
texts_more (x ∷ is) i rest = append_assoc (item_text x) (texts (is ++ i ∷ [])) rest
    ∙ ap (λ us. item_text x ++ us) (texts_more is i rest) ∙ sym (append_assoc (item_text x) (texts is) (item_text i ++ rest))

pub values_more : (is : List Item) (i : Item) → values (is ++ i ∷ []) ≡ values is ++ item_value i
values_more [] i = append-nil (item_value i)
values_more (x ∷ is) i = ap (λ us. item_value x ++ us) (values_more is i) ∙ sym (append_assoc (item_value x) (values is) (item_value i))

pub items_more : (q : ℕ) (is : List Item) (i : Item) → are_items q is ≡ true → is_item q i ≡ true → are_items q (is ++ i ∷ []) ≡ true
items_more q [] i good one = rw one refl
items_more q (x ∷ is) i good one =
    let both = and_parts (is_item q x) (are_items q is) good in
    rw (both.0, items_more q is i both.1 one) refl

pub letters_more : (w : List ℕ) (b : ℕ) → are_letters w ≡ true → is_letter b ≡ true → are_letters (w ++ b ∷ []) ≡ true
letters_more [] b good one = rw one refl
letters_more (x ∷ w) b good one =
    let both = and_parts (is_letter x) (are_letters w) good in
    rw (both.0, letters_more w b both.1 one) refl

pub word_more : (w : List ℕ) (b : ℕ) → is_word w ≡ true → is_letter b ≡ true → is_word (w ++ b ∷ []) ≡ true
word_more [] b good one = cc
word_more (x ∷ w) b good one =
    let both = and_parts (is_letter x) (are_letters w) good in
    rw (both.0, letters_more w b both.1 one) refl

-- ---- one piece more in front

pub stops_nil : (p : Piece) (text : List ℕ) → Stops p text → Stops p (text ++ [])
stops_nil p text h = subst (Stops p) (sym (append-nil text)) h

put : (p : Piece) (rest : List ℕ) (m k n : Machine) → IsPiece p → Stops p rest → run (token_in p) m ≡ Some k → Spelled rest k n → Spelled (spelled p ++ rest) m n
put p rest m k n piece stops one later = record {
  pieces = p ∷ later.pieces;
  cut = (piece, stops_nil p (spell later.pieces) (subst (Stops p) later.text_is stops), later.cut);
  text_is = ap (λ us. spelled p ++ us) later.text_is;
  run_is = run_join (token_in p) (tokens later.pieces) m k n one later.run_is;
}

none_left : (m n : Machine) → Some m ≡ Some n → Spelled [] m n
none_left m n e = record { pieces = []; cut = tt; text_is = refl; run_is = e }

pub one_run : (t : Token) (m k : Machine) → step m t ≡ Some k → run (t ∷ []) m ≡ Some k
one_run t m k e = rw e refl

-- ---- what the scan's options say

so_parts : (f : Scan → Option Machine) (c : Bool) (lex : Lex) (m n : Machine) → goes f (if_so c lex m) ≡ Some n → f (with lex m) ≡ Some n
so_parts f true lex m n e = e
so_parts f false lex m n e = cc

spaced_parts : (f : Scan → Option Machine) (o : Option Machine) (n : Machine) → goes f (spaced o) ≡ Some n → (k : Machine) × (o ≡ Some k) × (f (with gap k) ≡ Some n)
spaced_parts f None n e = absurd (cc)
spaced_parts f (Some k) n e = (k, refl, e)

after_parts : (f : Scan → Option Machine) (b : ℕ) (o : Option Machine) (n : Machine) → goes f (begin_after b o) ≡ Some n → (k : Machine) × (o ≡ Some k) × (goes f (begin b k) ≡ Some n)
after_parts f b None n e = absurd (cc)
after_parts f b (Some k) n e = (k, refl, e)

pub letter_from : (b : ℕ) → class_of b ≡ letter → is_letter b ≡ true
letter_from b e = rw e refl

begins : (b : ℕ) (bs : List ℕ) (m n : Machine) → goes (outcome bs) (begin b m) ≡ Some n
    → ((lex : Lex) (k : Machine) → outcome bs (with lex k) ≡ Some n → Explains lex bs k n) → Spelled (b ∷ bs) m n
begins b bs m n e ih = by_class (class_of b) refl e
  where
    by_class : (k : Class) → class_of b ≡ k → goes (outcome bs) (begin_by k b m) ≡ Some n → Spelled (b ∷ bs) m n
    by_class space is e = put (blank b) bs m m n is tt refl (ih gap m e)
    by_class letter is e = ih (in_word (b ∷ [])) m (so_parts (outcome bs) (fits m.state (b ∷ [])) (in_word (b ∷ [])) m n e) (rw (letter_from b is) refl)
    by_class quote is e = ih (in_quote b []) m (so_parts (outcome bs) (takes m.state (Text [])) (in_quote b []) m n e) [] is refl refl
    by_class bang is e = ih (after Unequal None) m (so_parts (outcome bs) (takes m.state (Compare Equal)) (after Unequal None) m n e) b (inl (is, refl)) tt
    by_class greater is e =
        ih (after AtLeast (Some Above)) m (so_parts (outcome bs) (takes m.state (Compare Equal)) (after AtLeast (Some Above)) m n e) b (inr (inl (is, refl))) (inl (is, refl))
    by_class less is e =
        ih (after AtMost (Some Below)) m (so_parts (outcome bs) (takes m.state (Compare Equal)) (after AtMost (Some Below)) m n e) b (inr (inr (is, refl))) (inr (is, refl))
    by_class (single t) is e =
        let (k, one, later) = spaced_parts (outcome bs) (step m t) n e in
        put (sign b t) bs m k n is tt (one_run t m k one) (ih gap k later)
    by_class strange is e = absurd (cc)

ends : (lex : Lex) (m n : Machine) → end_by lex m ≡ Some n → Explains lex [] m n
ends gap m n e = none_left m n e
ends (in_word w) m n e = λ good. put (word w) [] m n n good tt (one_run (word_token w) m n e) (none_left n n refl)
ends (in_quote q w) m n e = absurd (cc)
ends (after_slash q w) m n e = absurd (cc)
ends (after c None) m n e = absurd (cc)
ends (after c (Some d)) m n e = λ b is other. put (alone b d) [] m n n other tt (one_run (Compare d) m n e) (none_left n n refl)

more : (b : ℕ) (bs : List ℕ) (lex : Lex) (m n : Machine) → goes (outcome bs) (feed b (with lex m)) ≡ Some n
    → ((next : Lex) (k : Machine) → outcome bs (with next k) ≡ Some n → Explains next bs k n) → Explains lex (b ∷ bs) m n
more b bs gap m n e ih = begins b bs m n e ih
more b bs (in_word w) m n e ih = λ good. by_letter good (is_letter b) refl e
  where
    by_letter : is_word w ≡ true → (c : Bool) → is_letter b ≡ c
        → goes (outcome bs) (cond c (if_so (fits m.state (w ++ b ∷ [])) (in_word (w ++ b ∷ [])) m) (begin_after b (step m (word_token w)))) ≡ Some n → Spelled (w ++ b ∷ bs) m n
    by_letter good true is e =
        subst (λ us. Spelled us m n) (append_assoc w (b ∷ []) bs)
        (ih (in_word (w ++ b ∷ [])) m (so_parts (outcome bs) (fits m.state (w ++ b ∷ [])) (in_word (w ++ b ∷ [])) m n e) (word_more w b good is))
    by_letter good false is e =
        let (k, one, later) = after_parts (outcome bs) b (step m (word_token w)) n e in
        put (word w) (b ∷ bs) m k n good is (one_run (word_token w) m k one) (begins b bs k n later ih)
more b bs (in_quote q w) m n e ih = λ is quoting good same. by_end is quoting good same (nat_eq b q) refl e
  where
    by_slash : (is : List Item) → class_of q ≡ quote → are_items q is ≡ true → values is ≡ w → nat_eq b q ≡ false → (c : Bool) → nat_eq b 92 ≡ c
        → goes (outcome bs) (cond c (Some (with (after_slash q w) m)) (Some (with (in_quote q (w ++ b ∷ [])) m))) ≡ Some n → Spelled (q ∷ (texts is ++ b ∷ bs)) m n
    by_slash is quoting good same other true slash e =
        subst (λ x. Spelled (q ∷ (texts is ++ x ∷ bs)) m n) (sym (eqb-true b 92 slash)) (ih (after_slash q w) m e is quoting good same)
    by_slash is quoting good same other false slash e =
        subst (λ us. Spelled (q ∷ us) m n) (texts_more is (byte b) bs)
        (ih (in_quote q (w ++ b ∷ [])) m e (is ++ byte b ∷ []) quoting (items_more q is (byte b) good (rw (other, slash) refl))
        (values_more is (byte b) ∙ ap (λ us. us ++ b ∷ []) same))

    by_end : (is : List Item) → class_of q ≡ quote → are_items q is ≡ true → values is ≡ w → (c : Bool) → nat_eq b q ≡ c
        → goes (outcome bs) (cond c (spaced (step m (Text w))) (cond (nat_eq b 92) (Some (with (after_slash q w) m)) (Some (with (in_quote q (w ++ b ∷ [])) m)))) ≡ Some n
        → Spelled (q ∷ (texts is ++ b ∷ bs)) m n
    by_end is quoting good same true end e =
        let (k, one, later) = spaced_parts (outcome bs) (step m (Text w)) n e in
        subst (λ us. Spelled (q ∷ us) m n) (append_assoc (texts is) (q ∷ []) bs ∙ ap (λ x. texts is ++ x ∷ bs) (sym (eqb-true b q end)))
        (put (quoted q is) bs m k n (quoting, good) tt (one_run (Text (values is)) m k (ap (λ us. step m (Text us)) same ∙ one)) (ih gap k later))
    by_end is quoting good same false end e = by_slash is quoting good same end (nat_eq b 92) refl e
more b bs (after_slash q w) m n e ih = λ is quoting good same. by_kind is quoting good same (is_special q b) refl e
  where
    by_kind : (is : List Item) → class_of q ≡ quote → are_items q is ≡ true → values is ≡ w → (c : Bool) → is_special q b ≡ c
        → goes (outcome bs) (cond c (Some (with (in_quote q (w ++ b ∷ [])) m)) (Some (with (in_quote q (w ++ 92 ∷ b ∷ [])) m))) ≡ Some n → Spelled (q ∷ (texts is ++ 92 ∷ b ∷ bs)) m n
    by_kind is quoting good same true special e =
        subst (λ us. Spelled (q ∷ us) m n) (texts_more is (escaped b) bs)
        (ih (in_quote q (w ++ b ∷ [])) m e (is ++ escaped b ∷ []) quoting (items_more q is (escaped b) good special)
        (values_more is (escaped b) ∙ ap (λ us. us ++ b ∷ []) same))
    by_kind is quoting good same false special e =
        subst (λ us. Spelled (q ∷ us) m n) (texts_more is (kept b) bs)
        (ih (in_quote q (w ++ 92 ∷ b ∷ [])) m e (is ++ kept b ∷ []) quoting (items_more q is (kept b) good (rw special refl))
        (values_more is (kept b) ∙ ap (λ us. us ++ 92 ∷ b ∷ []) same))
more b bs (after c d) m n e ih = λ x is other. by_equal x is other (nat_eq b 61) refl e
  where
    alone_is : (x : ℕ) (d : Option Comparison) → AloneIs d x → nat_eq b 61 ≡ false → goes (outcome bs) (begin_after b (alone_step d m)) ≡ Some n → Spelled (x ∷ b ∷ bs) m n
    alone_is x None other unlike e = absurd (cc)
    alone_is x (Some k) other unlike e =
        let (j, one, later) = after_parts (outcome bs) b (step m (Compare k)) n e in
        put (alone x k) (b ∷ bs) m j n other unlike (one_run (Compare k) m j one) (begins b bs j n later ih)

    by_equal : (x : ℕ) → IsPiece (pair x c) → AloneIs d x → (y : Bool) → nat_eq b 61 ≡ y
        → goes (outcome bs) (cond y (spaced (step m (Compare c))) (begin_after b (alone_step d m))) ≡ Some n → Spelled (x ∷ b ∷ bs) m n
    by_equal x is other true same e =
        let (k, one, later) = spaced_parts (outcome bs) (step m (Compare c)) n e in
        subst (λ y. Spelled (x ∷ y ∷ bs) m n) (sym (eqb-true b 61 same))
        (put (pair x c) bs m k n is tt (one_run (Compare c) m k one) (ih gap k later))
    by_equal x is other false same e = alone_is x d other same e

pub explains : (text : List ℕ) (lex : Lex) (m n : Machine) → outcome text (with lex m) ≡ Some n → Explains lex text m n
explains [] lex m n e = ends lex m n e
explains (b ∷ bs) lex m n e = more b bs lex m n e (λ next k later. explains bs next k n later)
