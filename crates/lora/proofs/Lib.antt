pub mod AnswerLaws
pub mod CountLaws
pub mod HeadLaws
pub mod ReadLaws
pub mod SendLaws
pub mod TimeLaws
