pub mod Cells
pub mod Columns
pub mod Masked
pub mod Pieces
pub mod Storage
