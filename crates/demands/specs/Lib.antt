pub mod Working
pub mod Demands
pub mod EmptyPrograms
