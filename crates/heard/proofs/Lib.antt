pub mod StoreLaws
pub mod WaterAsBefore
pub mod FedLaws
pub mod ReplacedLaws
pub mod RefusalsInOrder
pub mod SettingsAlike
pub mod NoStoreLaws
