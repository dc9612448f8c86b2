pub mod ReceivedLaws
pub mod CellLaws
pub mod SingleAnswers
