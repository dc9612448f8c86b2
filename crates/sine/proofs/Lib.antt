pub mod EveryNumber
pub mod TableLaws
pub mod SineLaws
pub mod SingleAnswers
