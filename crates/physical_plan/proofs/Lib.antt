pub mod Folds
pub mod Nodes
pub mod ExprFacts
pub mod Everywhere
pub mod Renamings
pub mod Sums
pub mod PartitionCounts
