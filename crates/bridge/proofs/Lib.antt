pub mod SaidLaws
pub mod SingleAnswers
