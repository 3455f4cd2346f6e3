mod Dividing
mod Cuts
pub mod Sharing
mod Letters
mod Astride
pub mod Nearness
mod Touching
mod TwoLines
pub mod Gathers
mod Apart
mod Swept
mod PointLists
pub mod Ordered
pub mod Edging
mod HeadLists
mod Cursors
pub mod Patterns
