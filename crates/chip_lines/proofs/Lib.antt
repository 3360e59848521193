pub mod PrintLaws
pub mod AnswerLaws
