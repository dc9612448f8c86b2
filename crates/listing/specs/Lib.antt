pub mod Listing
pub mod Lines
