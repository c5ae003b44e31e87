pub mod EqualTops
pub mod SetTops
pub mod SetDocs
pub mod Parts
pub mod Lacking
