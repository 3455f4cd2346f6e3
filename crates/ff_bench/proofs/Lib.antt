mod Following
pub mod Dealing
pub mod Scripts
