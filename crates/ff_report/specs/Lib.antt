pub mod Refusals
pub mod Heads
pub mod Logs
pub mod Parts
pub mod Lines
pub mod Alike
pub mod Summaries
