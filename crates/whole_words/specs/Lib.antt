-- Documents by the whole query.
pub mod Costs
