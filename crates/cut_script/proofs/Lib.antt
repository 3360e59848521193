pub mod Shortest
pub mod Answer
pub mod Loop
pub mod Run
