pub mod Searching
mod Lists
mod NoPins
mod Pieces
mod Boards
mod OneOutcome
mod OneParts
pub mod OneReport
pub mod Stacked
