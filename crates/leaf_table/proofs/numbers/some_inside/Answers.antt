use Rattle.std.proofs.Common.{◌+◌, ◌++◌, take, drop, take_all, sym, ap, ◌∙◌}
use Rattle.std.specs.List.{list_any}
use Rattle.search_base.specs.SortKeys.{leaves_under}
use Rattle.leaf_table.specs.Rows.{leaves_named}
use Rattle.leaf_table.proofs.NumberLemmas.{is_in, in_under, last_in, last_out}
use Rattle.leaf_table.proofs.RowLemmas.{under_some, under_none, under_split}
use Rattle.leaf_table.proofs.numbers.some_inside.Goals.{in-Some+else-has_value, in_default}
use Rattle.leaf_table.proofs.numbers.some_inside.Goals as goal

pub returns-then-has_value : goal.returns-then-has_value
returns-then-has_value c =
    let leaves = c.args.leaves.now in
    let numbers = c.args.numbers.now in
    let range = c.args.range.now in
    let i = c.loop-number.number-index in
    let rest = leaves_under range.path.0 (leaves_named leaves (drop (i + 1) numbers)) in
    sym (sym (in_under range.path.0 range.low range.high (leaves_named leaves numbers))
    ∙ ap (list_any (is_in range.low range.high)) (under_split leaves numbers (i + 1) range.path.0
    ∙ ap (λ list. list ++ rest) (under_some leaves numbers i 0 c.loop-number-test.true range.path.0 c.in-Some.leaf.now c.in-Some.ensures))
    ∙ last_in range.low range.high (leaves_under range.path.0 (leaves_named leaves (take i numbers))) rest c.in-Some.leaf.now
    (sym c.has_value.ensures ∙ c.if-has_value.true))

pub loop-number-preserved : goal.loop-number-preserved
loop-number-preserved c =
    let leaves = c.args.leaves.now in
    let numbers = c.args.numbers.now in
    let range = c.args.range.now in
    let i = c.loop-number.number-index in
    let within = c.loop-number-test.true in
    elim c.match-leaf_under.branch [
      | in-Some+else-has_value w ↦
          ap (list_any (is_in range.low range.high)) (under_some leaves numbers i 0 within range.path.0 w.in-Some.leaf.now w.in-Some.ensures)
          ∙ last_out range.low range.high (leaves_under range.path.0 (leaves_named leaves (take i numbers))) w.in-Some.leaf.now c.loop-number.invariant
          (sym w.has_value.ensures ∙ w.if-has_value.false)
      | in_default w ↦
          ap (list_any (is_in range.low range.high)) (under_none leaves numbers i 0 within range.path.0 w.in_default.ensures) ∙ c.loop-number.invariant
    ]

pub returns : goal.returns
returns c =
    let range = c.args.range.now in
    sym (sym (in_under range.path.0 range.low range.high (leaves_named c.args.leaves.now c.args.numbers.now))
    ∙ ap (λ ns. list_any (is_in range.low range.high) (leaves_under range.path.0 (leaves_named c.args.leaves.now ns)))
    (sym (take_all c.loop-number.number-index c.args.numbers.now c.loop-number-test.false))
    ∙ c.loop-number.invariant)
