pub mod Commands
pub mod Limits
pub mod Numbers
pub mod Ordered
pub mod Spelled
pub mod Walking
