pub mod Undone
pub mod Following
pub mod Running
