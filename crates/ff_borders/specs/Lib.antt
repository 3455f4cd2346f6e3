pub mod Folded
pub mod Lying
pub mod RingEdges
pub mod SideFaces
pub mod PlainPlaces
pub mod Running
pub mod Terms
pub mod FlatSheets
