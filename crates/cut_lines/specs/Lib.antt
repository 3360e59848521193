pub mod Shown
pub mod Readings
pub mod Runs
