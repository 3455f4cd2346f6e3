pub mod Lines
pub mod Meetings
pub mod Drawings
pub mod Gathered
pub mod Sweeps
pub mod Heads
pub mod Laws
