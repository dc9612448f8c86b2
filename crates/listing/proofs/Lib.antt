pub mod LineLaws
pub mod PlaceLaws
pub mod FitLaws
pub mod ListLaws
pub mod ListTheorems
pub mod RefusalsInOrder
pub mod SingleAnswers
pub mod Worked
