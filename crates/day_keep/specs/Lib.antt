pub mod Storing
pub mod Written
