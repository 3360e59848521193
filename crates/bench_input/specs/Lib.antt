pub mod Arguments
pub mod Letters
pub mod Table
pub mod Readings
pub mod Lines
