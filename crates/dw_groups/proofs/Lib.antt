pub mod Counting
mod InOrder
pub mod CsvRows
pub mod KeptBatches
pub mod Grouping
mod Cuts
