pub mod MeasuredLaws
pub mod CertificateLaws
pub mod SingleAnswers
pub mod SpeedTheorems
pub mod DecidingCases
