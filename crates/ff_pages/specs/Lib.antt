pub mod Paging
pub mod Rims
