pub mod SortedPairs
mod Members
mod Named
mod Computing
mod ComputedDrawings
pub mod ComputedFaces
mod ComputedFoldings
mod DrawingTests
mod FaceTests
mod FoldingTests
mod SheetTests
mod CiteTests
mod PlacingTests
pub mod TwoFaces
pub mod FewFaces
mod StackingTests
mod CaseTests
mod DegenerateTests
mod PairOrder
mod Starts
pub mod ConvexEdges
pub mod PlainSheets
pub mod SubRings
mod OneCrease
mod CutRings
pub mod CreaseFaces
mod RefusalTests
pub mod FoldedEdges
pub mod FoldedOverlap
pub mod CreaseOverlap
mod CreasedSheets
mod Split
