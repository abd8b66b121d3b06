pub mod Codeword
pub mod Found
pub mod Ranges
pub mod Readings
pub mod Rows
