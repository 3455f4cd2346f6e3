pub mod Trying
pub mod Carrying
pub mod Keeping
pub mod Laws
pub mod Ends
pub mod Placing
