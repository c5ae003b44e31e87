pub mod Standing
pub mod Going
pub mod Errors
pub mod Ingested
pub mod Reindexed
