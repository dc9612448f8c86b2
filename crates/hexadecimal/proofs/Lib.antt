pub mod HexLaws
pub mod RowLaws
pub mod SingleAnswers
