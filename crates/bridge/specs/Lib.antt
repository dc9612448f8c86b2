pub mod Calls
pub mod Sentences
