pub mod Value
pub mod Receive
pub mod Work
