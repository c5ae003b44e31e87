pub mod Bounds
pub mod Kleene
pub mod Places
pub mod Shapes
pub mod Parts
pub mod Search
pub mod Leaves
