pub mod Nodes
pub mod Ones
