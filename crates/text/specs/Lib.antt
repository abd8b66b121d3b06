pub mod Answer
pub mod Held
pub mod Said
pub mod Scan
pub mod Text
