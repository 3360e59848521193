pub mod Packets
pub mod Exchange
pub mod Steps
pub mod Spans
pub mod Responses
pub mod Rules
