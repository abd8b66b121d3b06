pub mod DataLaws
pub mod HurtLaws
pub mod LaterLaws
pub mod ReadLoop
pub mod ReadingLaws
pub mod RowLaws
