pub mod Order
pub mod Steps
pub mod Claim
pub mod OrderLaws
pub mod LineLaws
pub mod PutLinesLaws
pub mod OneToOne
pub mod Theorem
