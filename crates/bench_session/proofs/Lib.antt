mod OutputLaws
mod AnswerLaws
