use Rattle.std.proofs.Common.{map, sym, ap, ◌∙◌}
use Rattle.std.proofs.lemmas.Result.{IfOk-weaker}
use Rattle.search_base.specs.declared.document.Leaf.{Leaf}
use Rattle.search_base.specs.SortKeys.{leaves_under}
use Rattle.leaf_table.proofs.TableLemmas.{leaves_kept}
use Rattle.row_index.specs.Standing.{faceted}
use Rattle.doc_search.proofs.RowLemmas.{leaves_same}
use Rattle.doc_search.proofs.leaf_values.values_of.Goals as goal

pub returns : goal.returns
returns c =
    let documents = c.args.documents.now.documents in
    let id = c.args.id.0 in
    IfOk-weaker c.values_in.result _ _ (λ values same. same
    ∙ ap (map (λ (leaf : Leaf). leaf.value)) (c.in_ok-copy_under.ensures
    ∙ ap (leaves_under c.args.path.0) (leaves_kept c.leaves.result.now (map faceted documents) c.leaves.ensures id ∙ sym (leaves_same documents id)))) c.values_in.ensures
