pub mod SheetLaws
pub mod SingleAnswers
