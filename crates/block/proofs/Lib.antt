pub mod BlockLaws
pub mod GrayLaws
pub mod GrayLoop
pub mod GridLoop
