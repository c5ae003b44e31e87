pub mod Tokens
pub mod Levels
pub mod Grammar
pub mod Patterns
pub mod Reading
pub mod Spelling
pub mod Printed
pub mod Laws
