pub mod Limits
pub mod States
pub mod Convert
