pub mod SingleAnswers
