mod Marks
mod Follows
mod Reaches
mod Rows
pub mod Widths
mod PairsOf
