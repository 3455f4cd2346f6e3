mod Lists
pub mod Nodes
pub mod Listing
pub mod Branching
pub mod Inverting
mod Visited
pub mod Running
pub mod Existing
pub mod Unique
mod Touching
mod Copies
mod Copied
mod OwnTrees
mod Advancing
mod Started
mod Renaming
mod Noting
mod Fewer
mod Unsolved
mod Going
mod Rooted
