-- the kit: identities, signs, sizes
pub mod Laws
pub mod Ring
pub mod Signs
pub mod Bounds
pub mod Searches
-- formulas and identities of points, lines and places
pub mod Formulas
pub mod ThreeTerms
pub mod Turns
pub mod Offsets
-- the calls: places in lowest terms, and where lines meet
pub mod Reducing
pub mod LinesMeeting
pub mod SharedPlaces
pub mod Lowest
-- places added up and moved
pub mod Combinations
pub mod Sums
pub mod Shifts
pub mod Moves
pub mod Alongs
mod Ratios
pub mod Exits
-- segments and directions
pub mod OnEdges
pub mod SegmentPoints
pub mod SegmentSigns
pub mod SharedPoints
pub mod CyclicOrder
pub mod Images
-- rings
pub mod ClosedLists
pub mod Triangles
pub mod Fans
pub mod Slabs
pub mod Between
pub mod ConvexBorders
pub mod Corners
pub mod Reversals
pub mod Areas
-- the test of a convex ring in linear time
pub mod PointOrder
pub mod Directions
pub mod Ranks
mod Turning
pub mod ConvexRings
