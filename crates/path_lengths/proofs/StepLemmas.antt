-- The spots of places, one after the other.
use Rattle.std.proofs.Common.{◌≡◌, ℕ, ◌+◌, ◌^◌, ◌<◌, ◌==◌, Bool, true, false, ◌||◌, List, [], ◌∷◌, ◌++◌, take, length, get_or, refl, sym, ap, ap₂, subst, ◌∙◌}
use Rattle.std.proofs.lemmas.List.{take_more}
use Rattle.std.proofs.lemmas.List.Folds.{list_any-append}
use Rattle.search_base.specs.declared.document.Place.{Place}
use Rattle.sorted_pages.specs.Entries.{has}
use Rattle.postings.specs.Documents.{AreNarrow}
use Rattle.postings.proofs.ListLemmas.{has_push}
use Rattle.path_lengths.specs.Lasts.{spot_of, is_taken}

-- ---- one place more
pub spot_more : (places : List Place) (i : ℕ) (place : Place) (spots after : List ℕ) (spot q : ℕ) → i < length places → place ≡ get_or places i place
    → spot ≡ spot_of place → after ≡ spots ++ spot ∷ [] → has spots q ≡ is_taken (take i places) q → has after q ≡ is_taken (take (i + 1) places) q
spot_more places i place spots after spot q inside here is pushed old =
    ap (λ v. has v q) pushed ∙ has_push spots spot q
    ∙ ap₂ (λ a b. a || b) (ap (λ s. s == q) (is ∙ ap spot_of here)) old
    ∙ turned (spot_of (get_or places i place) == q) (is_taken (take i places) q)
    ∙ sym (ap (λ v. is_taken v q) (take_more places i place inside) ∙ list_any-append (λ p. spot_of p == q) (take i places) (get_or places i place ∷ []))
  where
    turned : (a b : Bool) → (a || b) ≡ (b || (a || false))
    turned true true = refl
    turned true false = refl
    turned false true = refl
    turned false false = refl

pub narrow_more : (places : List Place) (i : ℕ) (place : Place) → i < length places → place ≡ get_or places i place
    → place.path.0 < 2 ^ 16 → place.position < 2 ^ 16 → AreNarrow (take i places) → AreNarrow (take (i + 1) places)
narrow_more places i place inside here path position old =
    subst AreNarrow (sym (take_more places i place inside))
    (push (take i places) (get_or places i place) old (subst (λ (p : Place). (p.path.0 < 2 ^ 16) × (p.position < 2 ^ 16)) here (path, position)))
  where
    push : (ps : List Place) (p : Place) → AreNarrow ps → (p.path.0 < 2 ^ 16) × (p.position < 2 ^ 16) → AreNarrow (ps ++ p ∷ [])
    push [] p h k = (k, tt)
    push (x ∷ xs) p h k = (h.0, push xs p h.1 k)
