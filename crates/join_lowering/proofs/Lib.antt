pub mod Nodes
pub mod Sides
pub mod Counted
pub mod PlainKeys
pub mod Parts
pub mod Keyed
