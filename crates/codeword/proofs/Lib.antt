pub mod Alike
pub mod CodeLaws
pub mod EveryWord
pub mod Lookup
pub mod Perfect
