mod Cutting
mod Spelled
pub mod AlikeTexts
