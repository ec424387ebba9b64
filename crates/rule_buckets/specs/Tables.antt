-- The tables that are kept of conditions on a number.
use Rattle.std.specs.Prelude.{ℕ}
use Rattle.search_base.specs.RowsView.{RowsView}
use Rattle.condition_graph.specs.Meets.{meets}
use Rattle.path_costs.specs.Sets.{AreByNumber}
use Rattle.rule_buckets.specs.declared.asked.Table.{Table}

-- the documents of the table's universe stand at the numbers on which they meet its condition
abbrev pub IsTable : (ℕ → RowsView) → Table → Type 0
IsTable rows table =
    AreByNumber (λ asked d. meets (rows d).places asked) table.condition table.universe.ids table.rows.items
