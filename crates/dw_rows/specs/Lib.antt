pub mod Values
pub mod Entries
pub mod Sets
pub mod Gathering
pub mod JsonRecords
pub mod CsvRecords
pub mod Answers
