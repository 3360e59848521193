pub mod ChipLines
pub mod Lines
pub mod Readings
pub mod Meaning
