pub mod Verdicts
pub mod LogLaws
pub mod LogStates
pub mod Readings
