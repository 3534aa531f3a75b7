pub mod Fronts
pub mod Woven
pub mod Vectors
pub mod Steps
pub mod Arms
pub mod Lanes
pub mod Items
