mod Steps
mod Marks
mod Got
mod Dues
mod Tops
pub mod Counts
pub mod Sweeps
mod Examined
mod Rounds
mod Closure
mod Readings
mod Collected
mod Openings
pub mod Going
