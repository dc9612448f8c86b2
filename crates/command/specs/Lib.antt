pub mod Forms
pub mod Commands
pub mod Laid
