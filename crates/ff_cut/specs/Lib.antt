pub mod Drawn
pub mod Answers
pub mod Laws
