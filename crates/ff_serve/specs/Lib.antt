pub mod Reaching
pub mod Served
