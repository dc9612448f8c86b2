pub mod EnteredLaws
pub mod SingleAnswers
