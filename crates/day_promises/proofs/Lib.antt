pub mod File
pub mod Listing
pub mod Long
pub mod Numbers
pub mod Steps
pub mod Walk
