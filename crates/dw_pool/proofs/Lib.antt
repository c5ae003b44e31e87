pub mod Closing
pub mod Hands
pub mod Lists
pub mod Passes
pub mod Rules
pub mod Waves
