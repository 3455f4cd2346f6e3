pub mod Outcomes
pub mod Reports
pub mod Written
pub mod Choices
pub mod Laws
pub mod Summaries
