mod ListedFaces
mod Triples
mod Seats
mod ThreePlaces
mod AlternatingChords
mod SwappedChords
mod RowTests
mod RowOrders
mod ChordLists
pub mod BorderLaws
mod EdgeFaces
mod ChordForms
mod FormChords
mod Matchings
mod Comparing
mod PlainOrders
pub mod CiteRows
mod PlainRows
mod RowStackings
pub mod PairSets
pub mod CaseRows
mod Creases
pub mod Truth
pub mod SortedLists
pub mod Alike
pub mod Behind
pub mod Pinning
