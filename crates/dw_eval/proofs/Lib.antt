pub mod Befores
pub mod Texts
pub mod Searches
pub mod Lawful
pub mod Forms
pub mod NamedFields
pub mod Again
pub mod Begun
