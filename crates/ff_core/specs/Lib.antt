pub mod States
pub mod Lower
pub mod Steps
pub mod Scans
pub mod Ends
pub mod Runs
