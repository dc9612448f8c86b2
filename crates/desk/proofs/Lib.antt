pub mod CountLaws
pub mod SingleAnswers
pub mod FitTheorems
