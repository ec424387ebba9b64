use Rattle.std.proofs.Common.{◌≡◌, ◌<◌, ◌-◌, ◌++◌, ◌∙◌, ap, map, arith, option_copied}
use Rattle.serde_json.specs.View.{view}
use Rattle.search_routes.specs.Machine.{slice}
use Rattle.search_routes.proofs.RowLemmas.{taken, items_have_float-push, index_has_no_float}
use Rattle.search_routes.proofs.indexes.put_index.Goals as goal

pub returns-clause-rows : goal.returns-clause-rows
returns-clause-rows c = λ rest.
    let none : c.args.left.skip ≡ 0 = omega (arith, c.if-left-gt0.false) in
    let some : 0 < c.args.left.room = omega (arith, c.if-left-eq0.false) in
    ap (λ vs. map view vs ++ slice 0 (c.args.left.room - 1) rest) c.in_ok-push.ensures.items
    ∙ taken c.args.values.now.items _ c.args.left.skip c.args.left.room _ rest c.in_ok-index_value.ensures none some

pub returns-clause-whole : goal.returns-clause-whole
returns-clause-whole c = λ clean.
    rw c.in_ok-push.ensures.items (items_have_float-push _ _ clean (rw c.in_ok-index_value.ensures (index_has_no_float c.args.uid.now (option_copied c.args.key))))
