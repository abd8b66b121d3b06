pub mod Line
pub mod Outcome
