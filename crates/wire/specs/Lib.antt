pub mod Bytes
pub mod Finite
pub mod Kinds
pub mod Decode
