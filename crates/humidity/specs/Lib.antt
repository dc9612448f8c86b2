pub mod Humidity
pub mod Parts
