pub mod Listings
pub mod Alternating
pub mod RowMeanings
pub mod ChordMembers
pub mod CrossingLaws
pub mod Crossed
pub mod CaseLaws
pub mod Pins
