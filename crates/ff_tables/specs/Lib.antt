pub mod Orders
pub mod Rows
pub mod Listed
pub mod Masks
pub mod Forces
pub mod MoreKnown
pub mod Systems
pub mod Fitting
