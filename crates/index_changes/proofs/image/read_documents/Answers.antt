use Rattle.std.proofs.Common.{List, [], map, sym, subst, ◌∙◌}
use Rattle.doc_rows.specs.declared.path_use.PathUse.{PathUse}
use Rattle.doc_store.specs.Restored.{restored_row}
use Rattle.doc_store.specs.Store.{Row}
use Rattle.row_index.specs.Changes.{IsChangeOf}
use Rattle.row_index.specs.Standing.{StandsFor}
use Rattle.doc_index.specs.Documents.{documents_of, rising}
use Rattle.doc_index.proofs.RisingLemmas.{apart-rising, stands-rising}
use Rattle.index_changes.proofs.image.read_documents.Goals as goal

pub returns-clause-kept : goal.returns-clause-kept
returns-clause-kept g c = λ next_id sound.
    let paths = c.args.paths.now in
    let uses = c.as_slice.result.now in
    let rows : List Row = map restored_row c.in_ok-rows.rows.items in
    let change = subst (λ (rs : List Row). IsChangeOf c.read_each.new.change [] (rising paths uses rs [])) (sym c.in_ok-rows.ensures.rows) (c.in_ok-rows.ensures.change c.new-change.ensures) in
    let told = c.in_ok-index_of_change.ensures.stands (rising paths uses rows []) change (apart-rising paths uses 0 rows next_id sound.increase) in
    record {
      stands = subst (λ (us : List PathUse). StandsFor c.in_ok-index_of_change.field-0 (documents_of paths us rows)) (c.as_slice.ensures.value ∙ c.in_ok-uses.ensures.uses)
          (stands-rising paths uses c.in_ok-index_of_change.field-0 0 rows next_id sound.increase told);
      tight = c.in_ok-index_of_change.ensures.tight;
      uses = c.in_ok-uses.ensures.uses;
      sound = sound;
    }
