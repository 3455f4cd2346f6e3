pub mod Limits
pub mod Layers
pub mod Problems
pub mod Laws
