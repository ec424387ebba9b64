-- The parser's answer for one text, and the grammar.
use Rattle.std.proofs.Common.{◌≡◌, ℕ, suc, ◌+◌, ◌-◌, List, [], ◌∷◌, ◌++◌, length, Bool, true, false, Option, Some, None, Result, Ok, Err, cond, refl, sym, ap, subst, ◌∙◌, append-nil, arith}
use Rattle.std.specs.Prelude.{nat_eq, nat_lt}
use Rattle.filter_machine.specs.Grammar.{Ors}
use Rattle.filter_machine.specs.Machine.{Machine, at, step, Reading, accept, opened}
use Rattle.filter_machine.specs.Text.{Class, space, letter, quote, bang, greater, less, single, strange, class_of, is_letter, word_token, is_special, IsFilter, Begins}
use Rattle.filter_machine.specs.Scan.{Lex, gap, in_word, in_quote, after_slash, after, Scan, with, takes, fits, if_so, spaced, begin_by, begin, begin_after, alone_step, feed, end_by, goes, outcome, scan, proceeds}
use Rattle.filter_expr.specs.Limit.{TextFault, syntax_at, too_deep_at, stepped, spaced_at, so_at, begin_by_at, begin_after_at, feed_by_at, end_at, goes_at, outcome_at, accepted_at, ended_at, reading_of}
use Rattle.filter_expr.specs.Faults.{most_depth}
use Rattle.filter_expr.specs.Faults.{IsSyntaxFault}
use Rattle.filter_machine.specs.declared.token.Token.TheVariants.{Text, Compare}
use Rattle.filter_machine.specs.declared.token.Comparison.TheVariants.{Equal, Unequal, Above, AtLeast, Below, AtMost}
use Rattle.filter_machine.proofs.Readings.{filter_reading, filter_read, read_filter, outcome_scan, refused_text, begins_text, new_scan}

-- the limited answer beside the one without a limit, at a place
abbrev pub Agrees : {X : Type 0} → ℕ → Option X → Result X TextFault → Type 0
Agrees at o (Ok x) = o ≡ Some x
Agrees at o (Err (syntax_at p)) = (p ≡ at) × (o ≡ None)
Agrees at o (Err (too_deep_at p)) = Unit {0}

stepped_is : (at began : ℕ) (o : Option Machine) → Agrees at o (stepped at began o)
stepped_is at began None = (refl, refl)
stepped_is at began (Some m) = by_limit (nat_lt most_depth (opened m))
  where
    by_limit : (b : Bool) → Agrees at (Some m) (cond b (Err (too_deep_at began)) (Ok m))
    by_limit true = tt
    by_limit false = refl

so_is : (at : ℕ) (c : Bool) (lex : Lex) (m : Machine) → Agrees at (if_so c lex m) (so_at at c lex m)
so_is at true lex m = refl
so_is at false lex m = (refl, refl)

spaced_is : (at : ℕ) (o : Option Machine) (r : Result Machine TextFault) → Agrees at o r → Agrees at (spaced o) (spaced_at r)
spaced_is at o (Ok m) h = ap spaced h
spaced_is at o (Err (syntax_at p)) h = (h.0, ap spaced h.1)
spaced_is at o (Err (too_deep_at p)) h = tt

begin_is : (at b : ℕ) (m : Machine) → Agrees at (begin b m) (begin_by_at (class_of b) at b m)
begin_is at b m = by_class (class_of b)
  where
    by_class : (k : Class) → Agrees at (begin_by k b m) (begin_by_at k at b m)
    by_class space = refl
    by_class letter = so_is at (fits m.state (b ∷ [])) (in_word (b ∷ [])) m
    by_class quote = so_is at (takes m.state (Text [])) (in_quote b []) m
    by_class bang = so_is at (takes m.state (Compare Equal)) (after Unequal None) m
    by_class greater = so_is at (takes m.state (Compare Equal)) (after AtLeast (Some Above)) m
    by_class less = so_is at (takes m.state (Compare Equal)) (after AtMost (Some Below)) m
    by_class (single t) = spaced_is at (step m t) (stepped at at (step m t)) (stepped_is at at (step m t))
    by_class strange = (refl, refl)

after_is : (at b : ℕ) (o : Option Machine) (r : Result Machine TextFault) → Agrees at o r → Agrees at (begin_after b o) (begin_after_at at b r)
after_is at b o (Ok m) h = subst (λ x. Agrees at (begin_after b x) (begin_by_at (class_of b) at b m)) (sym h) (begin_is at b m)
after_is at b o (Err (syntax_at p)) h = (h.0, ap (begin_after b) h.1)
after_is at b o (Err (too_deep_at p)) h = tt

feed_is : (lex : Lex) (at b : ℕ) (m : Machine) → Agrees at (feed b (with lex m)) (feed_by_at lex at b m)
feed_is gap at b m = begin_is at b m
feed_is (in_word w) at b m = by_letter (is_letter b)
  where
    by_letter : (c : Bool) → Agrees at (cond c (if_so (fits m.state (w ++ b ∷ [])) (in_word (w ++ b ∷ [])) m) (begin_after b (step m (word_token w))))
        (cond c (so_at at (fits m.state (w ++ b ∷ [])) (in_word (w ++ b ∷ [])) m) (begin_after_at at b (stepped at (at - length w) (step m (word_token w)))))
    by_letter true = so_is at (fits m.state (w ++ b ∷ [])) (in_word (w ++ b ∷ [])) m
    by_letter false = after_is at b (step m (word_token w)) (stepped at (at - length w) (step m (word_token w))) (stepped_is at (at - length w) (step m (word_token w)))
feed_is (in_quote q w) at b m = by_end (nat_eq b q) (nat_eq b 92)
  where
    by_end : (c d : Bool) → Agrees at (cond c (spaced (step m (Text w))) (cond d (Some (with (after_slash q w) m)) (Some (with (in_quote q (w ++ b ∷ [])) m))))
        (cond c (spaced_at (stepped at at (step m (Text w)))) (cond d (Ok (with (after_slash q w) m)) (Ok (with (in_quote q (w ++ b ∷ [])) m))))
    by_end true d = spaced_is at (step m (Text w)) (stepped at at (step m (Text w))) (stepped_is at at (step m (Text w)))
    by_end false true = refl
    by_end false false = refl
feed_is (after_slash q w) at b m = by_kind (is_special q b)
  where
    by_kind : (c : Bool) → Agrees at (cond c (Some (with (in_quote q (w ++ b ∷ [])) m)) (Some (with (in_quote q (w ++ 92 ∷ b ∷ [])) m)))
        (cond c (Ok (with (in_quote q (w ++ b ∷ [])) m)) (Ok (with (in_quote q (w ++ 92 ∷ b ∷ [])) m)))
    by_kind true = refl
    by_kind false = refl
feed_is (after c d) at b m = by_equal (nat_eq b 61)
  where
    by_equal : (y : Bool) → Agrees at (cond y (spaced (step m (Compare c))) (begin_after b (alone_step d m)))
        (cond y (spaced_at (stepped at at (step m (Compare c)))) (begin_after_at at b (stepped at at (alone_step d m))))
    by_equal true = spaced_is at (step m (Compare c)) (stepped at at (step m (Compare c))) (stepped_is at at (step m (Compare c)))
    by_equal false = after_is at b (alone_step d m) (stepped at at (alone_step d m)) (stepped_is at at (alone_step d m))

end_is : (lex : Lex) (at : ℕ) (m : Machine) → Agrees at (end_by lex m) (end_at lex at m)
end_is gap at m = refl
end_is (in_word w) at m = stepped_is at (at - length w) (step m (word_token w))
end_is (in_quote q w) at m = (refl, refl)
end_is (after_slash q w) at m = (refl, refl)
end_is (after c d) at m = stepped_is at at (alone_step d m)

-- ---- a whole text

abbrev pub Refuses : Scan → List ℕ → Type 0
Refuses s [] = end_by s.lex s.machine ≡ None
Refuses s (b ∷ bs) = feed b s ≡ None

pub record StopsAt (text : List ℕ) (at p : ℕ) (s : Scan) : Type 0 where
  pub front : List ℕ
  pub back : List ℕ
  pub last : Scan
  pub text_is : text ≡ front ++ back
  pub scan_is : scan front s ≡ Some last
  pub place_is : p ≡ at + length front
  pub refuses : Refuses last back

abbrev pub OutcomeIs : List ℕ → ℕ → Scan → Result Machine TextFault → Type 0
OutcomeIs text at s (Ok m) = outcome text s ≡ Some m
OutcomeIs text at s (Err (syntax_at p)) = StopsAt text at p s
OutcomeIs text at s (Err (too_deep_at p)) = Unit {0}

end_outcome : (at : ℕ) (s : Scan) (r : Result Machine TextFault) → Agrees at (end_by s.lex s.machine) r → OutcomeIs [] at s r
end_outcome at s (Ok m) h = h
end_outcome at s (Err (syntax_at p)) h = record { front = []; back = []; last = s; text_is = refl; scan_is = refl; place_is = let e = h.0 in omega arith; refuses = h.1 }
end_outcome at s (Err (too_deep_at p)) h = tt

one_more : (b : ℕ) (bs : List ℕ) (at : ℕ) (s t : Scan) (r : Result Machine TextFault) → feed b s ≡ Some t → OutcomeIs bs (suc at) t r → OutcomeIs (b ∷ bs) at s r
one_more b bs at s t (Ok m) e h = ap (goes (outcome bs)) e ∙ h
one_more b bs at s t (Err (syntax_at p)) e h = record {
  front = b ∷ h.front;
  back = h.back;
  last = h.last;
  text_is = ap (λ us. b ∷ us) h.text_is;
  scan_is = ap (proceeds (scan h.front)) e ∙ h.scan_is;
  place_is = let q = h.place_is in omega arith;
  refuses = h.refuses;
}
one_more b bs at s t (Err (too_deep_at p)) e h = tt

fed : (b : ℕ) (bs : List ℕ) (at : ℕ) (s : Scan) (r : Result Scan TextFault) → Agrees at (feed b s) r
    → ((t : Scan) → OutcomeIs bs (suc at) t (outcome_at bs (suc at) t)) → OutcomeIs (b ∷ bs) at s (goes_at (outcome_at bs (suc at)) r)
fed b bs at s (Ok t) h later = one_more b bs at s t (outcome_at bs (suc at) t) h (later t)
fed b bs at s (Err (syntax_at p)) h later = record { front = []; back = b ∷ bs; last = s; text_is = refl; scan_is = refl; place_is = let e = h.0 in omega arith; refuses = h.1 }
fed b bs at s (Err (too_deep_at p)) h later = tt

pub outcome_is : (text : List ℕ) (at : ℕ) (s : Scan) → OutcomeIs text at s (outcome_at text at s)
outcome_is [] at s = end_outcome at s (end_at s.lex at s.machine) (end_is s.lex at s.machine)
outcome_is (b ∷ bs) at s = fed b bs at s (feed_by_at s.lex at b s.machine) (feed_is s.lex at b s.machine) (λ t. outcome_is bs (suc at) t)

-- ---- and the grammar

scan_append : (a b : List ℕ) (s : Scan) → scan (a ++ b) s ≡ proceeds (scan b) (scan a s)
scan_append [] b s = refl
scan_append (x ∷ a) b s = by_next (feed x s) (λ t. scan_append a b t)
  where
    by_next : (o : Option Scan) → ((t : Scan) → scan (a ++ b) t ≡ proceeds (scan b) (scan a t)) → proceeds (scan (a ++ b)) o ≡ proceeds (scan b) (proceeds (scan a) o)
    by_next None later = refl
    by_next (Some t) later = later t

no_outcome : (text : List ℕ) (f : Ors) → outcome text new_scan ≡ None → IsFilter text f → ⊥
no_outcome text f e h = let (n, read, accepted) = filter_read text f h in let wrong : None ≡ Some n = sym e ∙ read in cc

refused_outcome : (s : Scan) (back : List ℕ) → Refuses s back → outcome back s ≡ None
refused_outcome s [] h = h
refused_outcome s (b ∷ bs) h = ap (goes (outcome bs)) h

stop_fault : (text : List ℕ) (p : ℕ) → StopsAt text 0 p new_scan → IsSyntaxFault text p
stop_fault text p h = record {
  front = h.front;
  back = h.back;
  text_is = h.text_is;
  place_is = let e = h.place_is in omega arith;
  begins = begins_text h.front h.last h.scan_is;
  stops = λ b more is. next_refused b more (subst (Refuses h.last) is h.refuses);
  no_filter = λ f is. no_outcome text f
      (ap (λ us. outcome us new_scan) h.text_is ∙ outcome_scan h.front h.back new_scan ∙ ap (goes (outcome h.back)) h.scan_is ∙ refused_outcome h.last h.back h.refuses) is;
}
  where
    next_refused : (b : ℕ) (more : List ℕ) → Refuses h.last (b ∷ more) → Begins (h.front ++ b ∷ []) → ⊥
    next_refused b more refuses begins = refused_text (h.front ++ b ∷ [])
        (scan_append h.front (b ∷ []) new_scan ∙ ap (proceeds (scan (b ∷ []))) h.scan_is ∙ ap (proceeds (scan [])) refuses) begins

scanned : (text : List ℕ) (s : Scan) (m : Machine) → outcome text s ≡ Some m → (t : Scan) × (scan text s ≡ Some t)
scanned text s m e = by_scan (scan text s) refl
  where
    by_scan : (o : Option Scan) → scan text s ≡ o → (t : Scan) × (scan text s ≡ Some t)
    by_scan (Some t) is = (t, is)
    by_scan None is = absurd (let wrong : Some m ≡ None = sym e ∙ ap (λ us. outcome us s) (sym (append-nil text)) ∙ outcome_scan text [] s ∙ ap (goes (outcome [])) is in cc)

unfinished_fault : (text : List ℕ) (m : Machine) → outcome text new_scan ≡ Some m → accept m ≡ None → IsSyntaxFault text (length text)
unfinished_fault text m e none = record {
  front = text;
  back = [];
  text_is = sym (append-nil text);
  place_is = refl;
  begins = let (t, is) = scanned text new_scan m e in begins_text text t is;
  stops = λ b more is begins. absurd (let wrong = is in cc);
  no_filter = λ f is. unaccepted f is;
}
  where
    unaccepted : (f : Ors) → IsFilter text f → ⊥
    unaccepted f is =
        let (n, read, accepted) = filter_read text f is in
        let same : m ≡ n = let w : Some m ≡ Some n = sym e ∙ read in cc in
        let wrong : None ≡ Some (filter_reading f) = sym none ∙ ap accept same ∙ accepted in cc

-- what the answer for a text says
abbrev pub ReadingIs : List ℕ → Result Reading TextFault → Type 0
ReadingIs text (Ok r) = (f : Ors) × IsFilter text f × (r ≡ filter_reading f)
ReadingIs text (Err (syntax_at p)) = IsSyntaxFault text p
ReadingIs text (Err (too_deep_at p)) = Unit {0}

accepted_is : (text : List ℕ) (m : Machine) (o : Option Reading) → outcome text new_scan ≡ Some m → accept m ≡ o → ReadingIs text (accepted_at (length text) o)
accepted_is text m None e a = unfinished_fault text m e a
accepted_is text m (Some t) e a = read_filter text m t e a

ended_is : (text : List ℕ) (r : Result Machine TextFault) → OutcomeIs text 0 new_scan r → ReadingIs text (ended_at (length text) r)
ended_is text (Ok m) h = accepted_is text m (accept m) h refl
ended_is text (Err (syntax_at p)) h = stop_fault text p h
ended_is text (Err (too_deep_at p)) h = tt

pub place_is : (text : List ℕ) → ReadingIs text (reading_of text)
unfolding reading_of
place_is text = ended_is text (outcome_at text 0 new_scan) (outcome_is text 0 new_scan)
