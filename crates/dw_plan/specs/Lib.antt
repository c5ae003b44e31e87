pub mod Anchored
pub mod Hit
pub mod Staying
pub mod Spans
pub mod Joins
pub mod Cells
pub mod Reads
pub mod PlanLaws
