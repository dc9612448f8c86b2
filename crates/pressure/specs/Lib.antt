pub mod Pressure
pub mod Before
