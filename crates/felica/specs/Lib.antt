-- FeliCa's commands without encryption (JIS X 6319-4): the packets, what is taken apart, and the laws of both.
pub mod Names
pub mod Packets
pub mod Fields
pub mod Rules
pub mod Lists
pub mod Laid
pub mod Checks
pub mod Taken
pub mod Requests
pub mod Replies
pub mod Accepted
