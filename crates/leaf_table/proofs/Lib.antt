pub mod TableLemmas
pub mod ChangeLemmas
pub mod ColumnLemmas
pub mod RowLemmas
pub mod NumberLemmas
