pub mod Reaching
mod Following
mod Gathered
mod Beginning
pub mod Classes
pub mod Factoring
mod Zipped
mod Touching
mod Apart
