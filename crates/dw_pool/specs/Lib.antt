pub mod Counter
pub mod Drawn
pub mod Numbers
pub mod Waves
