pub mod HandedLaws
pub mod WordLaws
pub mod SingleAnswers
