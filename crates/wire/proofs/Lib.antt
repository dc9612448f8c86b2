pub mod Pattern
pub mod DecodeLaws
pub mod SingleAnswers
pub mod RefusalsInOrder
