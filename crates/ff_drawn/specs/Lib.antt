pub mod Graphs
pub mod Firsts
pub mod Drawn
pub mod Extents
pub mod Beside
pub mod Darts
