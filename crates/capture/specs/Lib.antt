pub mod Call
pub mod Capture
pub mod Scan
