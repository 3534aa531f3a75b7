pub mod Nodes
pub mod Adds
pub mod Dealing
pub mod Pushes
pub mod Free
pub mod Stages
pub mod StageNodes
