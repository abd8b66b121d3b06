pub mod LinesLaws
pub mod Parts
pub mod StreamLaws
