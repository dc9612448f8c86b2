pub mod Round
pub mod Whole
pub mod Refusal
pub mod Single
