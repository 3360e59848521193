pub mod Ring
pub mod Requests
pub mod Plays
pub mod Sentences
pub mod Lines
pub mod Represents
