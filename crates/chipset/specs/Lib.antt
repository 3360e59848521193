-- Definitions of the kinds, of the commands, and of what their responses come to; laws of them.
pub mod Kinds
pub mod Commands
pub mod Responses
pub mod Laws
