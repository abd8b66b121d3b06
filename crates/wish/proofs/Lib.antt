pub mod AnswerLaws
pub mod HexLaws
pub mod PayloadLaws
pub mod ScanLaws
pub mod TakenLaws
pub mod WishLaws
