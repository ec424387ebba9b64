use Rattle.std.proofs.Common.{◌≡◌, get_or, rules, ◌∙◌}
use Rattle.std.specs.Vec.{with_items}
use Rattle.std.proofs.lemmas.List.{with_items_is}
use Rattle.leaf_table.proofs.ColumnLemmas.{column_is, others_set, leaf_set}
use Rattle.leaf_table.proofs.columns.add_leaf.Goals as goal

pub returns-then-path-columns-clause-told : goal.returns-then-path-columns-clause-told
returns-then-path-columns-clause-told c =
    let was = get_or c.args.columns.now c.from-path.result c.index-columns-path.result in
    let items : (with_items was c.add_value.new.column).items ≡ c.add_value.new.column = with_items_is was c.add_value.new.column (search rules) in
    leaf_set c.args.columns.now c.from-path.result c.args.id.0 (with_items was c.add_value.new.column) c.if-path-columns.true c.as_mut_slice.result.now
    c.add_value.new.column c.args.leaf.now
    (c.as_mut_slice.ensures.value ∙ column_is c.args.columns.now c.from-path.result c.index-columns-path.result c.if-path-columns.true)
    items c.from-path.ensures c.add_value.ensures.told

pub returns-then-path-columns-clause-others : goal.returns-then-path-columns-clause-others
returns-then-path-columns-clause-others c =
    let was = get_or c.args.columns.now c.from-path.result c.index-columns-path.result in
    let items : (with_items was c.add_value.new.column).items ≡ c.add_value.new.column = with_items_is was c.add_value.new.column (search rules) in
    others_set c.args.columns.now c.from-path.result c.args.id.0 (with_items was c.add_value.new.column) c.if-path-columns.true c.as_mut_slice.result.now
    c.add_value.new.column
    (c.as_mut_slice.ensures.value ∙ column_is c.args.columns.now c.from-path.result c.index-columns-path.result c.if-path-columns.true)
    items c.add_value.ensures.others
