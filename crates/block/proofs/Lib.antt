pub mod BlockLaws
pub mod ListedLaws
pub mod OpenedLaws
pub mod AlikeLaws
pub mod WrittenLaws
pub mod SettingsLaws
pub mod SingleAnswers
