mod LineLaws
mod PlaceLaws
mod ScriptLaws
-- the theorem; the same of a machine, of the engine and the host's entries
pub mod Theorem
pub mod Machines
pub mod Hosts
-- what they rest on
pub mod Runs
pub mod Readings
