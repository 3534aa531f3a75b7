pub mod Sound
pub mod Rows
pub mod Known
pub mod Engine
