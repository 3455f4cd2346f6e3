pub mod Tacos
pub mod Making
