pub mod Layout
pub mod Bits
pub mod Window
