pub mod DewExists
pub mod DewRules
pub mod FieldLaws
pub mod PassedLaws
pub mod SmallLaws
pub mod SingleAnswers
