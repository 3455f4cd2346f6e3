pub mod Claims
mod OneMore
pub mod Makes
mod Marked
mod Written
mod Stepping
mod Accepting
mod Trimmed
mod Rested
