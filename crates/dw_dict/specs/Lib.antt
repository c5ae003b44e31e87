pub mod Rules
pub mod Dictionary
