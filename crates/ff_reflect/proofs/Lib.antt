mod Cases
mod Shapes
mod Growth
mod Firsts
mod Meetings
mod Across
mod Orders
mod Foldings
pub mod Refused
pub mod OneFolding
mod Motions
mod Carried
mod Indexed
mod Walks
mod Taken
mod Turned
mod Products
mod Puts
mod Stand
mod Stops
mod Carry
mod CarrySteps
mod Whole
pub mod Assembly
mod SomeTrees
pub mod SomeFoldings
pub mod OneRefusal
