mod OneSide
mod Growing
mod Rising
mod Keys
pub mod Flags
mod Sorting
mod Numbered
mod Families
mod Given
mod Orders
mod Whole
