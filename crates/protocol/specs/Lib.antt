-- definitions: the exchange, the calls as scripts, the session
pub mod Names
pub mod Scripts
pub mod Rules
pub mod Arguments
pub mod Calls
pub mod Chipset
pub mod Device
pub mod Discovery
pub mod Blocks
pub mod Starts
pub mod Session
-- definitions: the record, its counts, which bytes of an answer are no card bytes, and demand 3
pub mod Record
pub mod Own
pub mod Claim
-- definitions: a machine that simulates the session, runs, polls, chatter; and samples
pub mod Machine
pub mod Runs
pub mod PollList
pub mod PollEqual
pub mod PollMachine
pub mod Chatter
pub mod UidAndAts
pub mod Sample
-- what the theorems in proofs/ are said with, and first laws
pub mod Laws
pub mod Values
pub mod Sound
pub mod PollSound
pub mod PollAlong
pub mod PollRuns
pub mod BlocksHanded
pub mod CallsSound
pub mod Invariant
pub mod Seen
pub mod Theorem
pub mod Count
pub mod CountSum
pub mod Reference
pub mod ChatterLaws
pub mod ChatterPairs
pub mod ChatterWider
pub mod ChatterMachine
