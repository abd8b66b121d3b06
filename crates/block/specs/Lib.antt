pub mod Block
pub mod Gray
pub mod Grid
