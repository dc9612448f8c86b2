pub mod EndLaws
pub mod WordLaws
pub mod FieldLaws
pub mod NumeralLaws
pub mod SingleAnswers
