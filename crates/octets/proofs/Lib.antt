pub mod ByteLaws
pub mod LentLaws
pub mod WordLaws
pub mod SingleAnswers
