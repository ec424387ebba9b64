-- Paths that were met before it was known to which store they come.
use Rattle.std.proofs.Common.{◌≡◌, ℕ, List, [], ◌∷◌, map, refl, ap, ◌∙◌}
use Rattle.doc_values.specs.Walk.{paths_of}
use Rattle.path_registry.specs.Met.{all_registered}
use Rattle.path_registry.specs.Paths.{registered}
use Rattle.path_registry.proofs.MetLemmas.{met-behind}
use Rattle.doc_store.specs.declared.rows.StoreRow.{StoreRow}
use Rattle.doc_store.specs.Store.{paths_after}

met-rows : (rows : List StoreRow) (base : List (List ℕ)) → all_registered (map (λ r. r.document) rows) base ≡ paths_after rows base
met-rows [] base = refl
met-rows (r ∷ rows) base = met-rows rows (registered (paths_of r.document) base)

-- the paths that documents have are registered as these documents one after the other
pub met-walked : (met : List (List ℕ)) (rows : List StoreRow) (base : List (List ℕ)) → met ≡ all_registered (map (λ r. r.document) rows) []
    → registered met base ≡ paths_after rows base
met-walked met rows base h = ap (λ v. registered v base) h ∙ met-behind (map (λ r. r.document) rows) [] base ∙ met-rows rows base
