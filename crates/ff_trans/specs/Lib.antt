pub mod Triples
pub mod Rows
