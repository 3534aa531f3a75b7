pub mod Inherited
pub mod There
pub mod Fed
pub mod Fronts
pub mod Sound
pub mod Nodes
pub mod Carried
pub mod Frames
pub mod Laws
mod Worked
