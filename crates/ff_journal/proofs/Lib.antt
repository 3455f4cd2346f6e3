pub mod Snoc
mod NextEntry
pub mod Right
mod Explained
mod Creases
mod Levels
mod EpochGivens
mod InForce
mod Touches
mod Holders
mod JournalTests
pub mod LastPublished
mod Answered
pub mod PinGivens
