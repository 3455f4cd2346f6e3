pub mod Lists
mod Outcomes
pub mod OneReading
pub mod Sizes
mod Good
mod SeenEdges
mod SortedEdges
mod Texts
mod Members
mod FoldRefusals
mod OneCheck
mod ScriptLists
mod OneBench
