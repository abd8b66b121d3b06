pub mod Differences
pub mod DriftLaws
