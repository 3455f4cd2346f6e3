pub mod Sizes
pub mod Points
pub mod Places
pub mod Meeting
pub mod Convex
pub mod Turning
