pub mod Day
pub mod Script
pub mod Stages
pub mod Walk
