pub mod Frames
pub mod Fixed
pub mod Reading
pub mod Next
pub mod OpenErrors
pub mod Journal
pub mod Opening
pub mod Laws
