pub mod Counts
pub mod Panel
pub mod Words
