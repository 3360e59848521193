pub mod Demand3
pub mod Chatter
pub mod Entries
pub mod Outcomes
pub mod Outputs
pub mod Steps
pub mod Unchanged
