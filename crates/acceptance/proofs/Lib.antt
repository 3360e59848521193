pub mod Tags
-- the theorem, and what it rests on
pub mod Theorem
pub mod Runs
pub mod OrderLaws
pub mod PutLinesLaws
