mod NextLaws
mod NumberLaws
