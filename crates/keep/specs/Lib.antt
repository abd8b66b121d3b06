pub mod Heard
pub mod Lines
pub mod Rows
