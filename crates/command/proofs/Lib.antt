pub mod FormLaws
pub mod Worked
pub mod SingleAnswers
