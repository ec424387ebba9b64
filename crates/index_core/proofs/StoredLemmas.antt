-- The values of stored documents under an attribute.
use mathlib.Core.Path.{fun_ext}
use Rattle.std.proofs.Common.{◌≡◌, ℕ, true, List, [], ◌∷◌, map, Option, None, Some, refl, ap, ◌∙◌, append-nil}
use Rattle.std.specs.Option.{option_map}
use Rattle.serde_json.specs.Data.{Data}
use Rattle.search_base.specs.declared.document.PathId.{PathId}
use Rattle.search_base.specs.declared.value.FacetValue.{FacetValue}
use Rattle.doc_values.specs.Leaves.{found_at}
use Rattle.doc_values.specs.Walk.{walk}
use Rattle.doc_rows.specs.Facets.{leaves_of_path}
use Rattle.doc_rows.specs.Rows.{rows_of}
use Rattle.doc_search.specs.Searched.{DocumentsView, documents_in}
use Rattle.doc_search.specs.Valued as kept
use Rattle.doc_store.specs.Store.{Row}
use Rattle.index_changes.specs.Index.{Index}
use Rattle.index_core.specs.Among.{IsKeptPath, stored_values, values_of_row}
use Rattle.index_core.specs.Distinct.{values_under}
use Rattle.index_core.specs.Matching.{uses_in}
use Rattle.index_core.proofs.KeptLeaves.{kept-values}

-- a document as the only path is used sees it
pub one-path : (attribute : List ℕ) (document : Data)
    → map (λ leaf. leaf.value) (rows_of document (attribute ∷ []) (record { rank = None; faceted = true } ∷ [])).leaves ≡ values_under attribute document
one-path attribute document = ap (map (λ leaf. leaf.value)) (append-nil (leaves_of_path 0 (found_at attribute (walk document))))

-- a document that was read
pub stored-some : (attribute : List ℕ) (o : Option Row) (document : Data) (values : List FacetValue) → Some document ≡ option_map (λ r. r.document) o → values ≡ values_under attribute document
    → values ≡ values_of_row attribute o
stored-some attribute None document values there are = absurd (cc)
stored-some attribute (Some r) document values there are = are ∙ ap (values_under attribute) (same document r.document there)
  where
    same : (d e : Data) → Some d ≡ Some e → d ≡ e
    same d e h = cc

pub stored-none : (attribute : List ℕ) (o : Option Row) → None ≡ option_map (λ (r : Row). r.document) o → [] ≡ values_of_row attribute o
stored-none attribute None there = refl
stored-none attribute (Some r) there = absurd (cc)

-- the values that an index keeps are the stored ones
pub values-same : (index : Index) (attribute : List ℕ) (path : PathId) (documents : DocumentsView) → IsKeptPath index attribute path → documents ≡ documents_in index.store (uses_in index)
    → kept.values_under documents.documents path.0 ≡ stored_values attribute index.store.rows
values-same index attribute path documents is are =
    ap (λ (d : DocumentsView). kept.values_under d.documents path.0) are ∙ fun_ext (kept-values index attribute path is)
