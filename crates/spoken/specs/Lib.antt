pub mod Figures
pub mod Sentences
pub mod Refusals
