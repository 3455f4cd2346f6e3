pub mod Reports
mod Building
mod Coming
pub mod Patterns
mod Deciding
mod SomeLogs
mod Closures
mod Classes
mod Ending
mod Finite
mod Signs
mod Ranks
mod Cells
mod Pairs
mod Keys
mod Places
mod Cites
mod Constraints
