pub mod SingleAnswers
pub mod Worked
