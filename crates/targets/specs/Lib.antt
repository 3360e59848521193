pub mod Bitrates
pub mod Form
pub mod TypeA
