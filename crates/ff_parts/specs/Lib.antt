pub mod Labels
pub mod Marks
pub mod Gathers
pub mod Lists
pub mod Factors
pub mod PartLaws
