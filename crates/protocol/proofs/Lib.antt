-- the theorems; what simulates the definitions has demand 3
pub mod Demand3
pub mod Machine
pub mod Reference
pub mod CountSum
pub mod PollEqual
pub mod PollMachine
pub mod ChatterSame
pub mod ChatterPairs
pub mod ChatterMachine
-- what they rest on
pub mod RunLaws
pub mod Sound
pub mod PollSound
pub mod PollAlong
pub mod PollRuns
pub mod BlocksSound
pub mod CallsSound
pub mod Preserved
pub mod Seen
pub mod Theorem
pub mod Once
pub mod Count
pub mod ChatterLaws
