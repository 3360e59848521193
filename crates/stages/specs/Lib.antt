-- Definitions of stages and decisions; what the code's starts and decisions say; laws of them.
pub mod Stages
pub mod Put
pub mod Starts
pub mod Bitrates
pub mod Few
pub mod Decided
pub mod Laws
