pub mod Anemometer
