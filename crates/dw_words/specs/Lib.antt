pub mod Laws
pub mod Options
pub mod Sizes
pub mod Values
pub mod Words
