pub mod Witnessing
