pub mod Ascending
pub mod Callers
pub mod Days
pub mod FieldNames
pub mod Numerals
