pub mod Answer
pub mod Held
pub mod Scan
pub mod Wish
