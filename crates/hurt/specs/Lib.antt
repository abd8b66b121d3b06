pub mod Answer
pub mod Hurt
