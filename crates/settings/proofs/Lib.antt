pub mod EveryLaws
pub mod HoldsLaws
pub mod SingleAnswers
pub mod RefusalsInOrder
pub mod MadeLaws
