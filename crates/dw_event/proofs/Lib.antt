pub mod Apart
pub mod PageLemmas
pub mod Spelling
pub mod ViewLemmas
