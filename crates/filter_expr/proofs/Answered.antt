-- What the reading of a text says, and that each text has the one that its rule asks for.
use Rattle.std.proofs.Common.{◌≡◌, ℕ, ◌<◌, ◌≤◌, List, [], ◌∷◌, ◌++◌, length, Option, Some, None, Result, Ok, Err, refl, sym, ap, subst, ◌∙◌, append_assoc, arith, length-append}
use Rattle.filter_machine.specs.Grammar.{Ors}
use Rattle.filter_machine.specs.Machine.{Machine, new_machine, Reading, accept}
use Rattle.filter_machine.specs.Scan.{with, gap}
use Rattle.filter_machine.specs.Text.{Piece, spell, spelled, IsFilter, Begins}
use Rattle.filter_expr.specs.Faults.{IsSyntaxFault, IsTooDeep, IsWithin}
use Rattle.filter_expr.specs.Limit.{TextFault, syntax_at, too_deep_at, outcome_at, accepted_at, ended_at, reading_of}
use Rattle.filter_machine.proofs.Readings.{filter_reading}
use Rattle.filter_expr.proofs.Limited.{Says, says, read_within}
use Rattle.filter_expr.proofs.Places.{place_is}
use Rattle.filter_expr.proofs.Deep.{too_deep_is, too_deep_read}

abbrev pub AnswerIs : List ℕ → Result Reading TextFault → Type 0
AnswerIs text (Ok r) = (f : Ors) × IsFilter text f × IsWithin f × (r ≡ filter_reading f)
AnswerIs text (Err (syntax_at p)) = IsSyntaxFault text p × ((q : ℕ) → IsTooDeep text q → ⊥)
AnswerIs text (Err (too_deep_at p)) = IsTooDeep text p

within_at : (text : List ℕ) (r : Result Machine TextFault) (t : Reading) → outcome_at text 0 (with gap new_machine) ≡ r → ended_at (length text) r ≡ Ok t
    → (f : Ors) × IsFilter text f × IsWithin f × (t ≡ filter_reading f)
within_at text (Err x) t e h = absurd (let wrong = h in cc)
within_at text (Ok n) t e h = by_accept (accept n) refl h
  where
    by_accept : (o : Option Reading) → accept n ≡ o → accepted_at (length text) o ≡ Ok t → (f : Ors) × IsFilter text f × IsWithin f × (t ≡ filter_reading f)
    by_accept None a h = absurd (let wrong = h in cc)
    by_accept (Some u) a h = let same : u ≡ t = cc in read_within text n t e (a ∙ ap Some same)

deep_at : (text : List ℕ) (p : ℕ) (r : Result Machine TextFault) → outcome_at text 0 (with gap new_machine) ≡ r → ended_at (length text) r ≡ Err (too_deep_at p) → IsTooDeep text p
deep_at text p (Ok n) e h = by_accept (accept n) h
  where
    by_accept : (o : Option Reading) → accepted_at (length text) o ≡ Err (too_deep_at p) → IsTooDeep text p
    by_accept None h = absurd (let wrong = h in cc)
    by_accept (Some u) h = absurd (let wrong = h in cc)
deep_at text p (Err x) e h =
    let same : outcome_at text 0 (with gap new_machine) ≡ Err (too_deep_at p) = cc in
    too_deep_is text p (subst (Says text 0 new_machine) same (says text gap 0 new_machine (omega arith)))

pub answer_is : (text : List ℕ) → AnswerIs text (reading_of text)
unfolding reading_of
answer_is text = by_answer (reading_of text) refl
  where
    by_answer : (r : Result Reading TextFault) → reading_of text ≡ r → AnswerIs text r
    by_answer (Ok t) e = within_at text (outcome_at text 0 (with gap new_machine)) t refl e
    by_answer (Err (syntax_at p)) e = (let h = place_is text in rw e at h, λ q h. let wrong : Err (too_deep_at q) ≡ Err (syntax_at p) = sym (too_deep_read text q h) ∙ e in cc)
    by_answer (Err (too_deep_at p)) e = deep_at text p (outcome_at text 0 (with gap new_machine)) refl e

-- ---- a place is within its text

pub within_text : (text : List ℕ) (p : ℕ) → IsSyntaxFault text p → p ≤ length text
within_text text p h = let a = h.place_is in let b = ap length h.text_is in let c = length-append h.front h.back in omega arith

spell_front : (ps : List Piece) (p : Piece) → length (spell ps) ≤ length (spell (ps ++ p ∷ []))
spell_front [] p = omega arith
spell_front (q ∷ ps) p =
    let a = spell_front ps p in
    let b = length-append (spelled q) (spell ps) in
    let c = length-append (spelled q) (spell (ps ++ p ∷ [])) in
    omega arith

pub deep_within_text : (text : List ℕ) (p : ℕ) → IsTooDeep text p → p ≤ length text
deep_within_text text p h =
    let a = h.place_is in
    let b = ap length h.text_is in
    let c = length-append (spell (h.before ++ h.opening ∷ [])) h.rest in
    let d = spell_front h.before h.opening in
    omega arith

-- ---- one text, one answer

longer_front : (xs ys us vs : List ℕ) → xs ++ ys ≡ us ++ vs → length xs < length us → (b : ℕ) × (more : List ℕ) × (us ≡ xs ++ b ∷ more) × (ys ≡ b ∷ more ++ vs)
longer_front [] ys [] vs e h = absurd (omega arith)
longer_front [] ys (u ∷ us) vs e h = (u, us, refl, e)
longer_front (x ∷ xs) ys [] vs e h = absurd (omega arith)
longer_front (x ∷ xs) ys (u ∷ us) vs e h =
    let first : x ≡ u = cc in
    let later : xs ++ ys ≡ us ++ vs = cc in
    let (b, more, is, are) = longer_front xs ys us vs later (omega arith) in
    (b, more, cc, are)

-- the front of a text that begins a filter begins one
begins_front : (xs ys : List ℕ) → Begins (xs ++ ys) → Begins xs
begins_front xs ys h = record { more = ys ++ h.more; filter = h.filter; whole = subst (λ us. IsFilter us h.filter) (append_assoc xs ys h.more) h.whole }

no_earlier : (text : List ℕ) (p q : ℕ) → IsSyntaxFault text p → IsSyntaxFault text q → p < q → ⊥
no_earlier text p q h k less =
    let (b, more, is, are) = longer_front h.front h.back k.front k.back (sym h.text_is ∙ k.text_is) (let x = h.place_is in let y = k.place_is in omega arith) in
    let longer : Begins ((h.front ++ b ∷ []) ++ more) = subst Begins (is ∙ sym (append_assoc h.front (b ∷ []) more)) k.begins in
    h.stops b (more ++ k.back) are (begins_front (h.front ++ b ∷ []) more longer)

pub one_place : (text : List ℕ) (p q : ℕ) → IsSyntaxFault text p → IsSyntaxFault text q → p ≡ q
one_place text p q h k =
    let a : p < q → ⊥ = no_earlier text p q h k in
    let b : q < p → ⊥ = no_earlier text q p k h in
    omega arith
