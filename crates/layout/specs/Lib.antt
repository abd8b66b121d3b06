pub mod Layout
pub mod Ranges
