pub mod CsvItems
pub mod TableItems
pub mod Records
pub mod Rows
pub mod Scans
pub mod ScanView
pub mod Progress
