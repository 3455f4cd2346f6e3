mod Boxes
mod Neighbours
mod NextDarts
mod CyclicSums
mod SameWalks
mod Orbits
mod NextTables
mod OrbitWalks
mod AreaSums
mod FilledSides
mod TracedWalks
mod TraceSteps
mod FoundDarts
mod RingReads
mod RingTests
mod UnbentRings
mod OuterDarts
mod Rims
mod EdgePoints
mod InnerEdges
mod RingsFrom
mod SameRings
mod Chains
mod FacesFrom
mod RingWalks
mod FacesWalks
mod SortedRings
pub mod FacesOnce
mod ReachedFaces
mod LinkedFaces
mod NoFaces
mod GivenFaces
pub mod Stages
mod SomeTraces
pub mod SomeFaces
pub mod GivenNotRefused
