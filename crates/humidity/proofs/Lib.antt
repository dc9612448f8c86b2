pub mod VapourPressureLaws
pub mod IceLaws
pub mod MoistureLaws
pub mod HumidityTheorems
pub mod RefusalsInOrder
pub mod SingleAnswers
pub mod ByTests
pub mod DecidingCases
