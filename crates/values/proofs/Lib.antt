pub mod ValueLaws
pub mod SingleAnswers
