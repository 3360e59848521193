-- Definitions of how the discoveries start and of what follows their replies; laws of them.
pub mod Kinds
pub mod Decisions
pub mod Firsts
pub mod Laws
pub mod FirstLaws
pub mod PollLaws
pub mod SplitLaws
