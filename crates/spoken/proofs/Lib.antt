pub mod FigureLaws
pub mod Worked
pub mod FitLaws
pub mod SingleAnswers
