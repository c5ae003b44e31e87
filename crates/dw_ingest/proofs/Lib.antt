pub mod Lists
pub mod Over
pub mod NewIndexes
pub mod EntryTables
pub mod Items
pub mod Steps
pub mod Ending
pub mod Keeping
