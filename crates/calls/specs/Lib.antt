-- The calls by their numbers and kinds, and that what is decided at each stage is what the scripts have.
pub mod Kinds
pub mod Numbers
pub mod Firsts
pub mod Tables
pub mod Refines
pub mod Single
pub mod Blocks
pub mod Opening
pub mod TypeA
pub mod Discoveries
pub mod Polls
pub mod Starts
