pub mod FieldNames
pub mod SetLemmas
pub mod Steps
pub mod ColumnSteps
pub mod Verdicts
pub mod KeptSteps
pub mod Folded
pub mod Kept
