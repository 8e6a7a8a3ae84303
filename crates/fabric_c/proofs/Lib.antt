pub mod AnswerLaws
pub mod EntryLaws
