-- Definitions of the opening, of its answer, of transceive, and of FeliCa blocks.
pub mod Kinds
pub mod Names
pub mod Opening
pub mod Transceive
pub mod Blocks
