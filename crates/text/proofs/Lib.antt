pub mod AnswerLaws
pub mod HeldLaws
pub mod TextLaws
