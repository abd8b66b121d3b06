pub mod Nibbles
pub mod Ranges
pub mod Stages
pub mod Symbols
