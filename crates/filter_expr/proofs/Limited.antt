-- What the scan within the limit has read is spelled by pieces, no token of which is deeper, up to the end or up to the piece that is.
use Rattle.std.proofs.Common.{◌≡◌, ◌⊎◌, inl, inr, ℕ, suc, ◌+◌, ◌-◌, ◌≤◌, ◌<◌, List, [], ◌∷◌, ◌++◌, length, Bool, true, false, Option, Some, None, Result, Ok, Err, refl, sym, ap, subst, ◌∙◌, append_assoc, append-nil, cond, arith, length-append}
use Rattle.std.specs.Prelude.{nat_eq, nat_lt}
use Rattle.std.proofs.lemmas.Bool.{eqb-true}
use Rattle.filter_machine.specs.Machine.{Machine, step, run, then, new_machine, Reading, accept, opened}
use Rattle.filter_machine.specs.Grammar.{Ors}
use Rattle.filter_expr.specs.Limit.{TextFault, syntax_at, too_deep_at, stepped, spaced_at, so_at, begin_by_at, begin_after_at, feed_by_at, end_at, goes_at, outcome_at, depths}
use Rattle.filter_expr.specs.Faults.{most_depth}
use Rattle.filter_machine.specs.Text.{Class, space, letter, quote, bang, greater, less, single, strange, class_of, is_letter, is_word, word_token, is_special, Item, byte, escaped, kept, item_text, texts, values, are_items, Piece, blank, word, quoted, sign, pair, alone, spelled, token_in, spell, tokens, IsPiece, Stops, AreCut, IsFilter}
use Rattle.filter_machine.specs.Scan.{Lex, gap, in_word, in_quote, after_slash, after, Scan, with, takes, fits, alone_step}
use Rattle.filter_expr.specs.Faults.{IsWithin}
use Rattle.filter_machine.specs.declared.token.Token.{Token}
use Rattle.filter_machine.specs.declared.token.Token.TheVariants.{Text, Compare}
use Rattle.filter_machine.specs.declared.token.Comparison.{Comparison}
use Rattle.filter_machine.specs.declared.token.Comparison.TheVariants.{Equal, Unequal, Above, AtLeast, Below, AtMost}
use Rattle.filter_machine.proofs.Sound.{tokens_of}
use Rattle.filter_expr.proofs.Traces.{filter_trace}
use Rattle.filter_machine.proofs.Explains.{AloneIs, texts_more, values_more, items_more, word_more, stops_nil, letter_from}
use Rattle.filter_expr.proofs.Depths.{Fits, AreShallow, IsFlat, flat_fits, one_shallow}
use Rattle.filter_machine.proofs.Readings.{filter_reading, reading_is}

pub record Spelled (text : List ℕ) (m n : Machine) : Type 0 where
  pub pieces : List Piece
  pub cut : AreCut pieces []
  pub text_is : text ≡ spell pieces
  pub run_is : run (tokens pieces) m ≡ Some n
  pub shallow : AreShallow (depths (tokens pieces) m)

-- From the place `from` on, the pieces are within the limit up to the one at the place `p`.
pub record Overdeep (text : List ℕ) (from p : ℕ) (m : Machine) : Type 0 where
  pub before : List Piece
  pub opening : Piece
  pub token : Token
  pub rest : List ℕ
  pub last : Machine
  pub next : Machine
  pub cut : AreCut (before ++ opening ∷ []) rest
  pub text_is : text ≡ spell (before ++ opening ∷ []) ++ rest
  pub place_is : p ≡ from + length (spell before)
  pub run_is : run (tokens before) m ≡ Some last
  pub token_is : token_in opening ≡ token ∷ []
  pub step_is : step last token ≡ Some next
  pub was : Fits last
  pub deep : most_depth < opened next
  pub shallow : AreShallow (depths (tokens before) m)

abbrev pub Says : List ℕ → ℕ → Machine → Result Machine TextFault → Type 0
Says text from m (Ok n) = Spelled text m n
Says text from m (Err (syntax_at p)) = Unit {0}
Says text from m (Err (too_deep_at p)) = Overdeep text from p m

-- the same where a part of a piece came before the text
abbrev pub SaysAfter : Lex → List ℕ → ℕ → Machine → Result Machine TextFault → Type 0
SaysAfter gap text at m r = Says text at m r
SaysAfter (in_word w) text at m r = (from : ℕ) → at ≡ from + length w → is_word w ≡ true → Says (w ++ text) from m r
SaysAfter (in_quote q w) text at m r =
    (from : ℕ) (is : List Item) → at ≡ from + length (q ∷ texts is) → class_of q ≡ quote → are_items q is ≡ true → values is ≡ w → Says (q ∷ (texts is ++ text)) from m r
SaysAfter (after_slash q w) text at m r =
    (from : ℕ) (is : List Item) → at ≡ from + length (q ∷ texts is) + 1 → class_of q ≡ quote → are_items q is ≡ true → values is ≡ w → Says (q ∷ (texts is ++ 92 ∷ text)) from m r
SaysAfter (after c d) text at m r = (from : ℕ) (b : ℕ) → at ≡ from + 1 → IsPiece (pair b c) → AloneIs d b → Says (b ∷ text) from m r

-- ---- one piece more in front

put_blank : (b : ℕ) (rest : List ℕ) (at : ℕ) (m : Machine) (r : Result Machine TextFault) → class_of b ≡ space → Says rest (suc at) m r → Says (b ∷ rest) at m r
put_blank b rest at m (Ok n) is later = record {
  pieces = blank b ∷ later.pieces;
  cut = (is, tt, later.cut);
  text_is = ap (λ us. b ∷ us) later.text_is;
  run_is = later.run_is;
  shallow = later.shallow;
}
put_blank b rest at m (Err (syntax_at p)) is later = tt
put_blank b rest at m (Err (too_deep_at p)) is later = record {
  before = blank b ∷ later.before;
  opening = later.opening;
  token = later.token;
  rest = later.rest;
  last = later.last;
  next = later.next;
  cut = (is, tt, later.cut);
  text_is = ap (λ us. b ∷ us) later.text_is;
  place_is = let e = later.place_is in omega arith;
  run_is = later.run_is;
  token_is = later.token_is;
  step_is = later.step_is;
  was = later.was;
  deep = later.deep;
  shallow = later.shallow;
}

-- a piece of one token
abbrev IsToken : Piece → Token → Type 0
IsToken p t = token_in p ≡ t ∷ []

put_front : (p : Piece) (t : Token) (rest : List ℕ) (from at : ℕ) (m k : Machine) (r : Result Machine TextFault) → at ≡ from + length (spelled p) → IsToken p t → IsPiece p → Stops p rest
    → step m t ≡ Some k → Fits m → Fits k → Says rest at k r → Says (spelled p ++ rest) from m r
put_front p t rest from at m k (Ok n) far one_is piece stops one was now later = record {
  pieces = p ∷ later.pieces;
  cut = (piece, stops_nil p (spell later.pieces) (subst (Stops p) later.text_is stops), later.cut);
  text_is = ap (λ us. spelled p ++ us) later.text_is;
  run_is = subst (λ ts. run (ts ++ tokens later.pieces) m ≡ Some n) (sym one_is) (ap (then (run (tokens later.pieces))) one ∙ later.run_is);
  shallow = subst (λ ts. AreShallow (depths (ts ++ tokens later.pieces) m)) (sym one_is) (one_shallow t (tokens later.pieces) m k one was now later.shallow);
}
put_front p t rest from at m k (Err (syntax_at q)) far one_is piece stops one was now later = tt
put_front p t rest from at m k (Err (too_deep_at q)) far one_is piece stops one was now later = record {
  before = p ∷ later.before;
  opening = later.opening;
  token = later.token;
  rest = later.rest;
  last = later.last;
  next = later.next;
  cut = (piece, subst (Stops p) later.text_is stops, later.cut);
  text_is = ap (λ us. spelled p ++ us) later.text_is ∙ sym (append_assoc (spelled p) (spell (later.before ++ later.opening ∷ [])) later.rest);
  place_is = let e = later.place_is in let sum = length-append (spelled p) (spell later.before) in omega arith;
  run_is = subst (λ ts. run (ts ++ tokens later.before) m ≡ Some later.last) (sym one_is) (ap (then (run (tokens later.before))) one ∙ later.run_is);
  token_is = later.token_is;
  step_is = later.step_is;
  was = later.was;
  deep = later.deep;
  shallow = subst (λ ts. AreShallow (depths (ts ++ tokens later.before) m)) (sym one_is) (one_shallow t (tokens later.before) m k one was now later.shallow);
}

-- the piece itself is too deep
found_deep : (p : Piece) (t : Token) (rest : List ℕ) (from began : ℕ) (m k : Machine) → began ≡ from → IsToken p t → IsPiece p → Stops p rest → step m t ≡ Some k → Fits m → most_depth < opened k
    → Overdeep (spelled p ++ rest) from began m
found_deep p t rest from began m k same one_is piece stops one was deep = record {
  before = [];
  opening = p;
  token = t;
  rest = rest;
  last = m;
  next = k;
  cut = (piece, stops, tt);
  text_is = ap (λ us. us ++ rest) (sym (append-nil (spelled p)));
  place_is = omega arith;
  run_is = refl;
  token_is = one_is;
  step_is = one;
  was = was;
  deep = deep;
  shallow = tt;
}

pub above_by : (a b : ℕ) → nat_lt a b ≡ true → a < b
above_by a b e = grind (arith, e)

within_by : (a b : ℕ) → nat_lt a b ≡ false → b ≤ a
within_by a b e = grind (arith, e)

-- a step with its limit, and then what `g` goes on with
put_stepped : (p : Piece) (t : Token) (rest : List ℕ) (from at end began : ℕ) (m : Machine) (g : Result Machine TextFault → Result Machine TextFault)
    → at ≡ from + length (spelled p) → (began ≡ from) ⊎ IsFlat t → IsToken p t → IsPiece p → Stops p rest → Fits m → ((e : TextFault) → g (Err e) ≡ Err e)
    → ((k : Machine) → Fits k → Says rest at k (g (Ok k))) → Says (spelled p ++ rest) from m (g (stepped end began (step m t)))
put_stepped p t rest from at end began m g far place one_is piece stops was fails later = by_step (step m t) refl
  where
    by_place : (k : Machine) → (began ≡ from) ⊎ IsFlat t → step m t ≡ Some k → most_depth < opened k → Overdeep (spelled p ++ rest) from began m
    by_place k (inl same) one deep = found_deep p t rest from began m k same one_is piece stops one was deep
    by_place k (inr flat) one deep = absurd (let low : opened k ≤ most_depth = flat_fits t m k flat one was in omega arith)

    by_limit : (k : Machine) → step m t ≡ Some k → (c : Bool) → nat_lt most_depth (opened k) ≡ c → Says (spelled p ++ rest) from m (g (cond c (Err (too_deep_at began)) (Ok k)))
    by_limit k one true is = subst (Says (spelled p ++ rest) from m) (sym (fails (too_deep_at began))) (by_place k place one (above_by most_depth (opened k) is))
    by_limit k one false is =
        let now : Fits k = within_by most_depth (opened k) is in
        put_front p t rest from at m k (g (Ok k)) far one_is piece stops one was now (later k now)

    by_step : (o : Option Machine) → step m t ≡ o → Says (spelled p ++ rest) from m (g (stepped end began o))
    by_step None one = subst (Says (spelled p ++ rest) from m) (sym (fails (syntax_at end))) tt
    by_step (Some k) one = by_limit k one (nat_lt most_depth (opened k)) refl

-- ---- byte by byte

texts_length : (is : List Item) (i : Item) (n : ℕ) → length (item_text i) ≡ n → length (texts (is ++ i ∷ [])) ≡ length (texts is) + n
texts_length is i n e =
    let all : texts (is ++ i ∷ []) ≡ texts is ++ item_text i =
    sym (append-nil (texts (is ++ i ∷ []))) ∙ texts_more is i [] ∙ ap (λ us. texts is ++ us) (append-nil (item_text i)) in
    let sum = length-append (texts is) (item_text i) in
    let same = ap length all in
    omega arith

so_says : (text : List ℕ) (from at : ℕ) (f : Scan → Result Machine TextFault) (c : Bool) (lex : Lex) (m : Machine) → Says text from m (f (with lex m)) → Says text from m (goes_at f (so_at at c lex m))
so_says text from at f true lex m h = h
so_says text from at f false lex m h = tt

begins : (b : ℕ) (bs : List ℕ) (at : ℕ) (m : Machine) → Fits m → ((lex : Lex) (k : Machine) → Fits k → SaysAfter lex bs (suc at) k (outcome_at bs (suc at) (with lex k)))
    → Says (b ∷ bs) at m (goes_at (outcome_at bs (suc at)) (begin_by_at (class_of b) at b m))
begins b bs at m was ih = by_class (class_of b) refl
  where
    by_class : (k : Class) → class_of b ≡ k → Says (b ∷ bs) at m (goes_at (outcome_at bs (suc at)) (begin_by_at k at b m))
    by_class space is = put_blank b bs at m (outcome_at bs (suc at) (with gap m)) is (ih gap m was)
    by_class letter is =
        so_says (b ∷ bs) at at (outcome_at bs (suc at)) (fits m.state (b ∷ [])) (in_word (b ∷ [])) m (ih (in_word (b ∷ [])) m was at (omega arith) (rw (letter_from b is) refl))
    by_class quote is =
        so_says (b ∷ bs) at at (outcome_at bs (suc at)) (takes m.state (Text [])) (in_quote b []) m (ih (in_quote b []) m was at [] (omega arith) is refl refl)
    by_class bang is =
        so_says (b ∷ bs) at at (outcome_at bs (suc at)) (takes m.state (Compare Equal)) (after Unequal None) m (ih (after Unequal None) m was at b (omega arith) (inl (is, refl)) tt)
    by_class greater is =
        so_says (b ∷ bs) at at (outcome_at bs (suc at)) (takes m.state (Compare Equal)) (after AtLeast (Some Above)) m
        (ih (after AtLeast (Some Above)) m was at b (omega arith) (inr (inl (is, refl))) (inl (is, refl)))
    by_class less is =
        so_says (b ∷ bs) at at (outcome_at bs (suc at)) (takes m.state (Compare Equal)) (after AtMost (Some Below)) m
        (ih (after AtMost (Some Below)) m was at b (omega arith) (inr (inr (is, refl))) (inr (is, refl)))
    by_class (single t) is =
        put_stepped (sign b t) t bs at (suc at) at at m (λ r. goes_at (outcome_at bs (suc at)) (spaced_at r)) (omega arith) (inl refl) refl is tt was (λ e. refl) (λ k now. ih gap k now)
    by_class strange is = tt

ends : (lex : Lex) (at : ℕ) (m : Machine) → Fits m → SaysAfter lex [] at m (end_at lex at m)
ends gap at m was = record { pieces = []; cut = tt; text_is = refl; run_is = refl; shallow = tt }
ends (in_word w) at m was = λ from far good.
    put_stepped (word w) (word_token w) [] from at at (at - length w) m (λ r. r) far (inl (omega arith)) refl good tt was (λ e. refl)
    (λ k now. record { pieces = []; cut = tt; text_is = refl; run_is = refl; shallow = tt })
ends (in_quote q w) at m was = λ from is far quoting good same. tt
ends (after_slash q w) at m was = λ from is far quoting good same. tt
ends (after c None) at m was = λ from b far is other. tt
ends (after c (Some d)) at m was = λ from b far is other.
    put_stepped (alone b d) (Compare d) [] from at at at m (λ r. r) far (inr tt) refl other tt was (λ e. refl)
    (λ k now. record { pieces = []; cut = tt; text_is = refl; run_is = refl; shallow = tt })

more : (b : ℕ) (bs : List ℕ) (lex : Lex) (at : ℕ) (m : Machine) → Fits m → ((next : Lex) (k : Machine) → Fits k → SaysAfter next bs (suc at) k (outcome_at bs (suc at) (with next k)))
    → SaysAfter lex (b ∷ bs) at m (goes_at (outcome_at bs (suc at)) (feed_by_at lex at b m))
more b bs gap at m was ih = begins b bs at m was ih
more b bs (in_word w) at m was ih = λ from far good. by_letter from far good (is_letter b) refl
  where
    by_letter : (from : ℕ) → at ≡ from + length w → is_word w ≡ true → (c : Bool) → is_letter b ≡ c
        → Says (w ++ b ∷ bs) from m (goes_at (outcome_at bs (suc at)) (cond c (so_at at (fits m.state (w ++ b ∷ [])) (in_word (w ++ b ∷ [])) m) (begin_after_at at b (stepped at (at - length w) (step m (word_token w))))))
    by_letter from far good true is =
        let longer = length-append w (b ∷ []) in
        let here : suc at ≡ from + length (w ++ b ∷ []) = omega arith in
        subst (λ us. Says us from m (goes_at (outcome_at bs (suc at)) (so_at at (fits m.state (w ++ b ∷ [])) (in_word (w ++ b ∷ [])) m))) (append_assoc w (b ∷ []) bs)
        (so_says ((w ++ b ∷ []) ++ bs) from at (outcome_at bs (suc at)) (fits m.state (w ++ b ∷ [])) (in_word (w ++ b ∷ [])) m
        (ih (in_word (w ++ b ∷ [])) m was from here (word_more w b good is)))
    by_letter from far good false is =
        put_stepped (word w) (word_token w) (b ∷ bs) from at at (at - length w) m (λ r. goes_at (outcome_at bs (suc at)) (begin_after_at at b r)) far (inl (omega arith)) refl good is was
        (λ e. refl) (λ k now. begins b bs at k now ih)
more b bs (in_quote q w) at m was ih = λ from is far quoting good same. by_end from is far quoting good same (nat_eq b q) refl
  where
    by_slash : (from : ℕ) (is : List Item) → at ≡ from + length (q ∷ texts is) → class_of q ≡ quote → are_items q is ≡ true → values is ≡ w → nat_eq b q ≡ false → (c : Bool) → nat_eq b 92 ≡ c
        → Says (q ∷ (texts is ++ b ∷ bs)) from m (goes_at (outcome_at bs (suc at)) (cond c (Ok (with (after_slash q w) m)) (Ok (with (in_quote q (w ++ b ∷ [])) m))))
    by_slash from is far quoting good same other true slash =
        subst (λ x. Says (q ∷ (texts is ++ x ∷ bs)) from m (outcome_at bs (suc at) (with (after_slash q w) m))) (sym (eqb-true b 92 slash)) (ih (after_slash q w) m was from is (omega arith) quoting good same)
    by_slash from is far quoting good same other false slash =
        let longer : length (texts (is ++ byte b ∷ [])) ≡ length (texts is) + 1 = texts_length is (byte b) 1 refl in
        subst (λ us. Says (q ∷ us) from m (outcome_at bs (suc at) (with (in_quote q (w ++ b ∷ [])) m))) (texts_more is (byte b) bs)
        (ih (in_quote q (w ++ b ∷ [])) m was from (is ++ byte b ∷ []) (omega arith) quoting (items_more q is (byte b) good (rw (other, slash) refl))
        (values_more is (byte b) ∙ ap (λ us. us ++ b ∷ []) same))

    by_end : (from : ℕ) (is : List Item) → at ≡ from + length (q ∷ texts is) → class_of q ≡ quote → are_items q is ≡ true → values is ≡ w → (c : Bool) → nat_eq b q ≡ c
        → Says (q ∷ (texts is ++ b ∷ bs)) from m
        (goes_at (outcome_at bs (suc at)) (cond c (spaced_at (stepped at at (step m (Text w)))) (cond (nat_eq b 92) (Ok (with (after_slash q w) m)) (Ok (with (in_quote q (w ++ b ∷ [])) m)))))
    by_end from is far quoting good same true end =
        let joined = length-append (texts is) (q ∷ []) in
        let here : suc at ≡ from + length (spelled (quoted q is)) = omega arith in
        let r = goes_at (outcome_at bs (suc at)) (spaced_at (stepped at at (step m (Text w)))) in
        let put = put_stepped (quoted q is) (Text (values is)) bs from (suc at) at at m (λ r. goes_at (outcome_at bs (suc at)) (spaced_at r)) here (inr tt) refl (quoting, good) tt was
        (λ e. refl) (λ k now. ih gap k now) in
        subst (λ us. Says (q ∷ us) from m r) (append_assoc (texts is) (q ∷ []) bs ∙ ap (λ x. texts is ++ x ∷ bs) (sym (eqb-true b q end)))
        (subst (λ us. Says (spelled (quoted q is) ++ bs) from m (goes_at (outcome_at bs (suc at)) (spaced_at (stepped at at (step m (Text us)))))) same put)
    by_end from is far quoting good same false end = by_slash from is far quoting good same end (nat_eq b 92) refl
more b bs (after_slash q w) at m was ih = λ from is far quoting good same. by_kind from is far quoting good same (is_special q b) refl
  where
    by_kind : (from : ℕ) (is : List Item) → at ≡ from + length (q ∷ texts is) + 1 → class_of q ≡ quote → are_items q is ≡ true → values is ≡ w → (c : Bool) → is_special q b ≡ c
        → Says (q ∷ (texts is ++ 92 ∷ b ∷ bs)) from m (goes_at (outcome_at bs (suc at)) (cond c (Ok (with (in_quote q (w ++ b ∷ [])) m)) (Ok (with (in_quote q (w ++ 92 ∷ b ∷ [])) m))))
    by_kind from is far quoting good same true special =
        let longer : length (texts (is ++ escaped b ∷ [])) ≡ length (texts is) + 2 = texts_length is (escaped b) 2 refl in
        subst (λ us. Says (q ∷ us) from m (outcome_at bs (suc at) (with (in_quote q (w ++ b ∷ [])) m))) (texts_more is (escaped b) bs)
        (ih (in_quote q (w ++ b ∷ [])) m was from (is ++ escaped b ∷ []) (omega arith) quoting (items_more q is (escaped b) good special)
        (values_more is (escaped b) ∙ ap (λ us. us ++ b ∷ []) same))
    by_kind from is far quoting good same false special =
        let longer : length (texts (is ++ kept b ∷ [])) ≡ length (texts is) + 2 = texts_length is (kept b) 2 refl in
        subst (λ us. Says (q ∷ us) from m (outcome_at bs (suc at) (with (in_quote q (w ++ 92 ∷ b ∷ [])) m))) (texts_more is (kept b) bs)
        (ih (in_quote q (w ++ 92 ∷ b ∷ [])) m was from (is ++ kept b ∷ []) (omega arith) quoting (items_more q is (kept b) good (rw special refl))
        (values_more is (kept b) ∙ ap (λ us. us ++ 92 ∷ b ∷ []) same))
more b bs (after c d) at m was ih = λ from x far is other. by_equal from x far is other (nat_eq b 61) refl
  where
    alone_is : (from x : ℕ) (d : Option Comparison) → at ≡ from + 1 → AloneIs d x → nat_eq b 61 ≡ false → Says (x ∷ b ∷ bs) from m (goes_at (outcome_at bs (suc at)) (begin_after_at at b (stepped at at (alone_step d m))))
    alone_is from x None far other unlike = tt
    alone_is from x (Some k) far other unlike =
        put_stepped (alone x k) (Compare k) (b ∷ bs) from at at at m (λ r. goes_at (outcome_at bs (suc at)) (begin_after_at at b r)) far (inr tt) refl other unlike was (λ e. refl) (λ j now. begins b bs at j now ih)

    by_equal : (from x : ℕ) → at ≡ from + 1 → IsPiece (pair x c) → AloneIs d x → (y : Bool) → nat_eq b 61 ≡ y
        → Says (x ∷ b ∷ bs) from m (goes_at (outcome_at bs (suc at)) (cond y (spaced_at (stepped at at (step m (Compare c)))) (begin_after_at at b (stepped at at (alone_step d m)))))
    by_equal from x far is other true same =
        subst (λ y. Says (x ∷ y ∷ bs) from m (goes_at (outcome_at bs (suc at)) (spaced_at (stepped at at (step m (Compare c)))))) (sym (eqb-true b 61 same))
        (put_stepped (pair x c) (Compare c) bs from (suc at) at at m (λ r. goes_at (outcome_at bs (suc at)) (spaced_at r)) (omega arith) (inr tt) refl is tt was (λ e. refl) (λ k now. ih gap k now))
    by_equal from x far is other false same = alone_is from x d far other same

pub says : (text : List ℕ) (lex : Lex) (at : ℕ) (m : Machine) → Fits m → SaysAfter lex text at m (outcome_at text at (with lex m))
says [] lex at m was = ends lex at m was
says (b ∷ bs) lex at m was = more b bs lex at m was (λ next k now. says bs next (suc at) k now)

-- what is read within the limit is a filter within it
pub read_within : (text : List ℕ) (n : Machine) (r : Reading) → outcome_at text 0 (with gap new_machine) ≡ Ok n → accept n ≡ Some r → (f : Ors) × IsFilter text f × IsWithin f × (r ≡ filter_reading f)
read_within text n r e a =
    let h : Spelled text new_machine n = subst (Says text 0 new_machine) e (says text gap 0 new_machine (omega arith)) in
    let (f, tokens_are) = tokens_of (tokens h.pieces) n r h.run_is a in
    let trace = ap (λ ts. depths ts new_machine) tokens_are ∙ filter_trace f in
    (f, record { pieces = h.pieces; cut = h.cut; text_is = h.text_is; tokens_are = tokens_are }, subst AreShallow trace h.shallow, reading_is (tokens h.pieces) f n r tokens_are h.run_is a)
