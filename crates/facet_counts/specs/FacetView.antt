-- What contracts see of the counts of an attribute.
use Rattle.std.specs.Prelude.{ℕ, ℤ, List, Option}
use Rattle.facet_counts.specs.declared.rows.CountRow.{CountRow}

pub record FacetView : Type 0 where
  pub attribute : List ℕ
  pub rows : List CountRow
  pub stats : Option (ℤ × ℤ)
