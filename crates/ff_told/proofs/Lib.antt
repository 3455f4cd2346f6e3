pub mod Refuted
pub mod Kept
mod Choosing
pub mod Filled
pub mod Asked
pub mod Earlier
