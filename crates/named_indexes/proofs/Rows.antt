-- What became of changes, one after the other.
use Rattle.std.proofs.Common.{◌≡◌, ℕ, ◌+◌, ◌<◌, List, [], ◌∷◌, ◌++◌, length, map, take, slice_index_or, refl, sym, ap, ap₂, ◌∙◌, arith}
use Rattle.std.specs.Result.{result_unwrap_or}
use Rattle.std.proofs.lemmas.List.{take_more, map-append, append_assoc}
use Rattle.document_changes.specs.Changes.{KindData}
use Rattle.index_changes.specs.Batches.{changed_by, faults_of}
use Rattle.index_changes.specs.Index.{Index}

-- one more is put behind the others
pub behind : {B C : Type 0} (row : B → C) (done next : List B) (outcome : B) → next ≡ done ++ outcome ∷ [] → map row next ≡ map row done ++ row outcome ∷ []
behind row done next outcome pushed = ap (map row) pushed ∙ map-append row done (outcome ∷ [])

-- those of the first of a list
pub row_more : {A B C : Type 0} (row : B → C) (fault : A → C) (done next : List B) (outcome : B) (xs : List A) (i : ℕ) (d : A) → i < length xs
    → next ≡ done ++ outcome ∷ [] → row outcome ≡ fault (slice_index_or xs i d) → map row done ≡ map fault (take i xs) → map row next ≡ map fault (take (i + 1) xs)
row_more {C = C} row fault done next outcome xs i d less pushed is so_far =
    behind row done next outcome pushed ∙ ap₂ (λ (rows : List C) (n : C). rows ++ n ∷ []) so_far is
    ∙ sym (ap (map fault) (take_more xs i d less) ∙ map-append fault (take i xs) (slice_index_or xs i d ∷ []))

-- those of a list that is taken apart
pub row_next : {A B C : Type 0} (row : B → C) (fault : A → C) (done next : List B) (outcome : B) (x : A) (left all : List A)
    → next ≡ done ++ outcome ∷ [] → row outcome ≡ fault x → map row done ++ map fault (x ∷ left) ≡ map fault all → map row next ++ map fault left ≡ map fault all
row_next {C = C} row fault done next outcome x left all pushed is so_far =
    ap (λ (rows : List C). rows ++ map fault left) (behind row done next outcome pushed)
    ∙ append_assoc (map row done) (row outcome ∷ []) (map fault left) ∙ ap (λ (n : C). map row done ++ n ∷ map fault left) is ∙ so_far

-- each change has an outcome
pub many_faults : (ks : List KindData) (i : Index) → length (faults_of ks i) ≡ length ks
many_faults [] i = refl
many_faults (k ∷ ks) i = let more = many_faults ks (result_unwrap_or (changed_by k i) i) in omega (arith, more)
