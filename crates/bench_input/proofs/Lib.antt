mod ReadLaws
mod WordsLaws
mod EndLaws
mod TableLaws
