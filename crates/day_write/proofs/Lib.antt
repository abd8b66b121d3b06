pub mod EachLaws
pub mod JudgingLaws
pub mod PutLaws
pub mod RowLaws
pub mod WriteLaws
pub mod WrittenLaws
