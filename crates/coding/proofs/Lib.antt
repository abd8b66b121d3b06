pub mod CodingLaws
pub mod CodingLoop
pub mod NibbleLaws
