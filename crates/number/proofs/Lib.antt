pub mod Sizes
pub mod Machine
pub mod RoundLaws
pub mod RefusalLaws
pub mod SingleAnswers
