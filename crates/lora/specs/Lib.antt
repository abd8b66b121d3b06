pub mod Airtime
pub mod Code
pub mod Count
pub mod Head
pub mod Read
pub mod Received
pub mod Stages
