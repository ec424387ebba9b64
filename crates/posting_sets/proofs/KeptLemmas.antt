-- The documents of words that are kept as sets.
use Rattle.std.proofs.Common.{◌≡◌, ℕ, ◌<◌, Bool, false, cond, List, [], ◌∷◌, length, refl, ap, ◌∙◌}
use Rattle.std.specs.List.{filter}
use Rattle.sorted_pages.specs.Entries.{has, IsIncreasing}
use Rattle.doc_sets.specs.Sets.{intersection}
use Rattle.postings.specs.Dictionary.{PostingsView, list_at}
use Rattle.posting_sets.specs.Found.{AreOccurring, IsKeptOf, has_document, term_of}
use Rattle.posting_sets.proofs.OccursLemmas.{words_found}
use Rattle.posting_sets.proofs.PrefixLemmas.{are_in_list}

same_filter : (p q : ℕ → Bool) → ((x : ℕ) → p x ≡ q x) → (xs : List ℕ) → filter p xs ≡ filter q xs
same_filter p q same [] = refl
same_filter p q same (x ∷ xs) = ap (λ b. cond b (x ∷ filter p xs) (filter p xs)) (same x) ∙ ap (λ v. cond (q x) (x ∷ v) v) (same_filter p q same xs)

-- what is kept for words tells where they stand
pub kept_found : (view : PostingsView) (words : List (List ℕ)) → 0 < length words → (kept ids set : List ℕ) → IsKeptOf view words kept
    → IsIncreasing ids → set ≡ intersection ids kept → AreOccurring view (term_of false words) ids set
kept_found view [] some kept ids set of up e = absurd of
kept_found view (word ∷ []) some kept ids set of up e =
    let list = list_at word view in
    words_found view (word ∷ []) some ids set (list ∷ []) up refl
    (are_in_list ids set list (list ∷ []) up (e ∙ same_filter (has kept) (has_document list) of ids) refl)
kept_found view (word ∷ (other ∷ words)) some kept ids set of up e = absurd of
