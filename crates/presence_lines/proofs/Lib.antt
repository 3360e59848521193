mod AnswerLaws
mod PrintLaws
mod ReadLaws
mod RoundLaws
mod PlaceLaws
