pub mod Readers
pub mod HostCalls
pub mod ChipCode
pub mod FilledChip
