pub mod Exp
pub mod Vapour
pub mod Tables
