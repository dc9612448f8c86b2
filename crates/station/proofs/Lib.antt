pub mod KeptLaws
pub mod KindLaws
pub mod AnswerLaws
pub mod PressureLaws
pub mod WindLaws
pub mod HumidityLaws
pub mod SingleAnswers
pub mod SourceLaws
