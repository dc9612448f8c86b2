pub mod Source
pub mod Told
pub mod Questions
pub mod Parts
pub mod Before
