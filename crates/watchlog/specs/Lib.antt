pub mod Placing
pub mod Places
