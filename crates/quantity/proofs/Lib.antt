pub mod ConvertLaws
pub mod LimitLaws
pub mod SingleAnswers
