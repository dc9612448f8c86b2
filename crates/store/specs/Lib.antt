pub mod Block
pub mod Noting
pub mod Before
pub mod History
