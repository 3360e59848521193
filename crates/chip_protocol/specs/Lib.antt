-- definitions: the chip
pub mod Names
pub mod Packets
pub mod Field
pub mod Chip
pub mod Add
-- definitions: a reader and a chip over a channel, the first card of its kind, what the calls hand out, the sentences
pub mod Channel
pub mod First
pub mod Answers
pub mod Claim
pub mod SessionReader
-- a card added exactly where the field then is allowed; runs by computation
pub mod Allowed
pub mod AllowedReplies
pub mod Samples
pub mod AddSamples
-- what the theorems in proofs/ are said with, and first laws
pub mod Script
pub mod Intact
pub mod Run
pub mod Sent
pub mod Search
pub mod Fits
pub mod Found
pub mod Handed
pub mod Requests
pub mod Alike
pub mod Begins
pub mod Machines
pub mod Exactly
