mod Fractions
pub mod Gaps
mod Between
pub mod Cuts
mod Corners
mod Starts
mod Nexts
mod Ends
mod Stacks
mod Tidy
mod Passing
mod Emitting
mod Sweeping
mod Exact
mod Strips
mod Filtering
mod Reached
mod Stepping
mod FaceRings
mod Faces
pub mod BarEdges
pub mod FaceLists
pub mod Drawn
pub mod Slices
mod SliceCells
mod Rows
mod Merging
mod GapCells
mod AllXs
mod Sweeps
mod Moved
pub mod OneCount
mod Complete
pub mod BarsThere
pub mod Counting
