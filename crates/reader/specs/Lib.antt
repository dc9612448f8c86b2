pub mod Read
pub mod Work
