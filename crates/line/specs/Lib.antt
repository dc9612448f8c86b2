pub mod Words
pub mod Numeral
pub mod Next
