-- Whether a document of a universe has a place in a list.
use Rattle.std.proofs.Common.{◌≡◌, ℕ, ◌/◌, ◌^◌, ◌==◌, Bool, true, false, ◌||◌, List, [], ◌∷◌, refl, sym, ap, ap₂, ◌∙◌}
use Rattle.std.specs.List.{list_any}
use Rattle.std.proofs.lemmas.Bool.{eq-eqb, eqb-true, eqb-false, ne_eqb, or_parts, or_right}
use Rattle.doc_sets.specs.Sets.{has}
use Rattle.facet_index.specs.Places.{has_document}

-- whether a document of the universe has one of the entries
abbrev pub is_in : List ℕ → List ℕ → Bool
is_in universe entries = list_any (λ d. has_document d entries) universe

pub in_none : (universe : List ℕ) → is_in universe [] ≡ false
in_none [] = refl
in_none (d ∷ ds) = in_none ds

pub in_first : (entry id : ℕ) (rest universe : List ℕ) → id ≡ entry / 2 ^ 32 → has universe id ≡ true → is_in universe (entry ∷ rest) ≡ true
in_first entry id rest [] is h = absurd (cc)
in_first entry id rest (x ∷ xs) is h = by (x == id) refl h (in_first entry id rest xs is)
  where
    by : (b : Bool) → b ≡ (x == id) → (b || has xs id) ≡ true → (has xs id ≡ true → is_in xs (entry ∷ rest) ≡ true)
        → (has_document x (entry ∷ rest) || is_in xs (entry ∷ rest)) ≡ true
    by true s h later = ap (λ b. (b || has_document x rest) || is_in xs (entry ∷ rest)) (eq-eqb (entry / 2 ^ 32) x (sym is ∙ sym (eqb-true x id (sym s))))
    by false s h later = or_right (has_document x (entry ∷ rest)) (is_in xs (entry ∷ rest)) (later h)

pub not_in_first : (entry id : ℕ) (rest universe : List ℕ) → id ≡ entry / 2 ^ 32 → has universe id ≡ false → is_in universe (entry ∷ rest) ≡ is_in universe rest
not_in_first entry id rest [] is h = refl
not_in_first entry id rest (x ∷ xs) is h =
    let parts = or_parts (x == id) (has xs id) h in
    ap₂ (λ a b. (a || has_document x rest) || b) (ne_eqb (entry / 2 ^ 32) x (λ e. eqb-false x id parts.0 (sym e ∙ sym is)))
    (not_in_first entry id rest xs is parts.1)
