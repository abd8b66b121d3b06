pub mod History
pub mod Tally
