mod Rows
mod Values
mod Nodes
pub mod Bodies
pub mod Fields
pub mod Files
pub mod KindedSteps
pub mod Worked
