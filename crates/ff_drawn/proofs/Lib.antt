pub mod EdgeCrossings
mod Forks
mod EdgeExtents
mod Halves
mod Eithers
mod SamePoints
pub mod VertexSpots
mod BoxTests
mod DartOrder
mod SeenDarts
pub mod Starts
mod StartTables
pub mod TwoDarts
pub mod WholeDrawings
pub mod DartLists
