-- the theorems: N10's sentences; a reply added exactly where the field then is allowed
pub mod Theorem
pub mod SessionReader
pub mod AllowedReplies
-- what they rest on: what a script comes to; a run comes to that; each call's script; the same of a machine, and with another chip
pub mod Intact
pub mod Run
pub mod Search
pub mod Fits
pub mod Found
pub mod Ends
pub mod CallEnds
pub mod Exactly
pub mod Simulated
