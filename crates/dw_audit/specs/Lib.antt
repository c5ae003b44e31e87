pub mod WorldOf
pub mod Sound
pub mod Meta
pub mod Making
pub mod Comparing
pub mod Runs
pub mod Found
pub mod Laws
