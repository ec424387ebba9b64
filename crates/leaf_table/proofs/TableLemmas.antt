-- What a table of leaves has of documents.
use Rattle.std.proofs.Common.{◌≡◌, ℕ, Bool, true, false, ◌==◌, cond, List, [], ◌∷◌, Option, None, Some, unwrap_or, refl, ap, ◌∙◌}
use Rattle.std.specs.Option.{option_map}
use Rattle.search_base.specs.declared.document.Leaf.{Leaf}
use Rattle.search_base.specs.SortKeys.{leaves_under}
use Rattle.facet_index.specs.LeavesView.{LeavesView, leaves_of}
use Rattle.facet_index.specs.Batches.{document_at}
use Rattle.leaf_table.specs.Tables.{TableView, kept_at, AreLeavesOf}

-- under each id the leaves of its document, and none where there is no document
pub leaves_kept : (table : TableView) (documents : List LeavesView) → AreLeavesOf table documents → (id : ℕ)
    → kept_at id table ≡ leaves_of (document_at id documents)
leaves_kept table documents are id = ap (λ row. unwrap_or row []) (are id) ∙ by (document_at id documents)
  where
    by : (o : Option LeavesView) → unwrap_or (option_map (λ (document : LeavesView). document.leaves) o) [] ≡ leaves_of o
    by None = refl
    by (Some document) = refl

-- the leaves under a path are all under it
pub under_twice : (path : ℕ) (leaves : List Leaf) → leaves_under path (leaves_under path leaves) ≡ leaves_under path leaves
under_twice path [] = refl
under_twice path (x ∷ xs) = by (x.path.0 == path) refl (under_twice path xs)
  where
    by : (b : Bool) → (x.path.0 == path) ≡ b → leaves_under path (leaves_under path xs) ≡ leaves_under path xs
        → leaves_under path (cond b (x ∷ leaves_under path xs) (leaves_under path xs)) ≡ cond b (x ∷ leaves_under path xs) (leaves_under path xs)
    by true h later =
        ap (λ b. cond b (x ∷ leaves_under path (leaves_under path xs)) (leaves_under path (leaves_under path xs))) h ∙ ap (λ list. x ∷ list) later
    by false h later = later
