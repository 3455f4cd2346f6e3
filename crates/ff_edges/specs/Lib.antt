pub mod Ways
pub mod Listing
pub mod SharedSegments
pub mod Clips
pub mod EdgesInside
pub mod Extents
