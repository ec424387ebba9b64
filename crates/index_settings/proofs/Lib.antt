mod Ordered
mod Endings
mod Printed
mod Bounds
mod Lengths
mod Once
mod RuleTexts
pub mod Whole
