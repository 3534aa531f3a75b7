pub mod Covering
pub mod Cutting
pub mod Quoting
pub mod Runs
pub mod Sole
pub mod Turning
