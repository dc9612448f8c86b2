pub mod Sines
pub mod Sine
