-- definitions: the question, the kinds and their runs, the runs as lines of `session`
pub mod Question
pub mod Kinds
pub mod Texts
-- definitions: the slowest run; the same of a machine and of the host's entries
pub mod Theorem
pub mod Machines
pub mod Hosts
-- what the theorems in proofs/ are said with, and first laws
pub mod Readings
pub mod Fields
pub mod Tables
pub mod Bound
pub mod Weights
pub mod Runs
