pub mod Outputs
pub mod Answers
pub mod Sessions
