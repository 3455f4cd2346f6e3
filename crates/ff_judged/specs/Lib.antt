pub mod Lines
pub mod Sheets
pub mod Judgements
pub mod Answers
