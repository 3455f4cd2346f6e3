pub mod Tests
mod Steps
pub mod TwoSides
mod Parallels
mod Asides
pub mod Lying
pub mod Runs
mod Weights
mod RingEdges
mod Beside
pub mod SideFaces
mod Nearby
mod Middles
pub mod Running
pub mod Witnesses
mod PairKeys
mod Matching
mod CoveringFaces
mod FaceTerms
mod SegmentTerms
pub mod Terms
mod SharedEdges
mod FlatSheets
