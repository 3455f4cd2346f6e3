pub mod Together
pub mod Tables
