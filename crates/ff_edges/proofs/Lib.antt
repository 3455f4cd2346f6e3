pub mod OnWays
mod CommonWays
mod Rows
mod RingSides
mod OneSide
pub mod Segments
pub mod PairLists
mod Gaps
mod Clipping
mod PartsInside
pub mod FaceSteps
mod FaceParts
mod FaceLists
mod StrictlyInside
mod Eithers
mod ExtentLists
mod BesideFaces
mod ApartEdges
