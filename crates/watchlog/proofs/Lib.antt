pub mod InsertLaws
pub mod PlaceLaws
pub mod OutLaws
pub mod SingleAnswers
pub mod PlaceTheorems
pub mod OutTheorems
pub mod LaidLaws
