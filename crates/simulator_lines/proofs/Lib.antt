pub mod RingLaws
pub mod PlayLaws
