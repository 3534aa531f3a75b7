pub mod Left
pub mod Windows
pub mod Cursors
pub mod Places
pub mod Marks
