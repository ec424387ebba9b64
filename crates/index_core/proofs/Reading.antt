-- What a search finds, opens and tells apart among the documents of an index, by what it is given.
use Rattle.std.proofs.Common.{◌≡◌, ℕ, List, map, Result, Option, Ok, Err, ap₂, subst, ◌∙◌}
use Rattle.std.specs.Prelude.{IfOk, length}
use Rattle.doc_search.specs.Found.{matches_in, counts_in}
use Rattle.doc_search.specs.Searched.{DocumentsView, documents_in}
use Rattle.doc_search.specs.declared.found.DocumentsFound.{DocumentsFound}
use Rattle.doc_search.specs.declared.found.Search.{Search}
use Rattle.doc_store.specs.Sound.{IsSound}
use Rattle.doc_store.specs.Store.{Row}
use Rattle.search_base.specs.declared.document.DocId.{DocId}
use Rattle.search_call.specs.SearchView.{SearchView}
use Rattle.index_changes.specs.Index.{Index}
use Rattle.index_core.specs.Among.{IsFound, IsSearchOf, ids_found, opened_found, compared_found}
use Rattle.index_core.specs.Distinct.{distinct_attribute_in}
use Rattle.index_core.specs.Fetches.{compared}
use Rattle.index_core.specs.Matching.{uses_in}
use Rattle.index_core.specs.Opened.{opened_in}
use Rattle.index_core.proofs.Finding.{compared-are}
use Rattle.index_core.proofs.Tracing.{opened-are}

-- the parts of what is found
pub if-found : {E : Type 0} (r : Result DocumentsFound E) (o : Option (List ℕ)) (rows : List Row) (among : DocumentsView) (search : Search)
    → IfOk r (λ found. map (λ (id : DocId). id.0) found.hits.items ≡ ids_found o rows among search) → IfOk r (λ found. found.total ≡ length (matches_in among search))
    → IfOk r (λ found. found.facets.items ≡ counts_in among search) → IfOk r (λ found. IsFound o rows among search found)
if-found (Ok found) o rows among search hits total facets = record { hits = hits; total = total; facets = facets }
if-found (Err e) o rows among search hits total facets = tt

module _ (index : Index) (call : SearchView) (search : Search) (sound : IsSound index.store) (is : IsSearchOf search index call) (o : Option (List ℕ)) (among : DocumentsView)
    (named : o ≡ distinct_attribute_in index call) (searched : among ≡ documents_in index.store (uses_in index)) where
  pub found-as : (found : DocumentsFound) → IsFound o index.store.rows among search found
      → IsFound (distinct_attribute_in index call) index.store.rows (documents_in index.store (uses_in index)) search found
  found-as found h =
      subst (λ name. IsFound name index.store.rows (documents_in index.store (uses_in index)) search found) named (subst (λ (d : DocumentsView). IsFound o index.store.rows d search found) searched h)

  pub opened-same : opened_found o index.store.rows among search ≡ opened_in index call
  opened-same = ap₂ (λ name d. opened_found name index.store.rows d search) named searched ∙ opened-are index call search sound is (distinct_attribute_in index call)

  pub compared-same : compared_found o index.store.rows among search ≡ compared index call
  compared-same = ap₂ (λ name d. compared_found name index.store.rows d search) named searched ∙ compared-are index call search sound is (distinct_attribute_in index call)
