pub mod Wind
pub mod Answer
pub mod Work
