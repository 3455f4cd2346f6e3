pub mod Paged
pub mod Stacked
pub mod Ends
pub mod Earlier
