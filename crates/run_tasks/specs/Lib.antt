pub mod Stands
pub mod Moved
pub mod Asked
