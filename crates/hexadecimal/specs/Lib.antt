pub mod Row
pub mod Hex
