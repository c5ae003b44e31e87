pub mod Batches
pub mod Groups
