pub mod Judging
pub mod Parts
pub mod Write
