pub mod Answers
pub mod Crc
pub mod Examples
pub mod Laws
