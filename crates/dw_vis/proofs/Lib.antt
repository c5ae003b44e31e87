pub mod Order
pub mod Walking
pub mod Places
pub mod Running
pub mod Levels
pub mod Complete
pub mod Strict
pub mod Sound
pub mod Standing
pub mod Verdicts
mod Testing
pub mod Nesting
