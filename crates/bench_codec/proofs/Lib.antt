mod AnswerLaws
mod BlockLaws
mod CodecLaws
mod FrameLaws
pub mod Branches
