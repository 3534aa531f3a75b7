pub mod Uneven
pub mod FirstColumns
pub mod Shorter
