pub mod Letters
pub mod Text
