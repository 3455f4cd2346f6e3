pub mod Givens
pub mod Making
pub mod Marks
pub mod Telling
pub mod Trimming
