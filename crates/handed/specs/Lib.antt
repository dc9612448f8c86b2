pub mod Handed
pub mod Words
