use Rattle.std.proofs.Common.{map, ap, ◌∙◌}
use Rattle.doc_sets.specs.Sets.{has}
use Rattle.row_index.specs.Documents.{IndexedDocument}
use Rattle.doc_search.specs.Searched.{DocumentsView}
use Rattle.doc_search.proofs.OrderLemmas.{all_ids}
use Rattle.doc_search.proofs.documents.IndexedDocuments.ids.Goals as goal

pub returns : goal.returns
returns c =
    let is = c.self.invariant in
    all_ids _ c.ids-ids.result.now.ids is.order c.len-count.ensures.increasing (λ d. ap (λ ids. has ids d) c.ids-ids.ensures ∙ is.stands.ids d)
    ∙ ap (λ (among : DocumentsView). map (λ (document : IndexedDocument). document.id) among.documents) c.self.view_is
