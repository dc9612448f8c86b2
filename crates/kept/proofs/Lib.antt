pub mod KeptLaws
pub mod KeptTheorems
pub mod SingleAnswers
