pub mod Bit
pub mod Bytes
pub mod Check
pub mod Search
pub mod Sum
pub mod Tab
