pub mod Accordions
pub mod Laws
