pub mod Counts
pub mod OneProblem
pub mod Assembly
mod Refusing
mod Steps
pub mod CreaseStarts
mod Making
pub mod SamePatterns
pub mod FewInCases
