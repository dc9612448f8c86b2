pub mod Layout
pub mod Words
