pub mod TableLaws
pub mod MappedLaws
pub mod SizeLaws
pub mod PassLaws
pub mod JudgeLaws
pub mod ReplyLaws
pub mod AnswerLaws
pub mod Demand3
