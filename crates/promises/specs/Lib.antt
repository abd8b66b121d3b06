pub mod Damage
pub mod Drifted
pub mod Refusals
pub mod Tallied
