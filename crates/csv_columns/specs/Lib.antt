pub mod Filled
pub mod Left
pub mod Progress
pub mod ScanView
pub mod Stops
