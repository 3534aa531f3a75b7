pub mod Keys
pub mod Lowering
pub mod SidesUsed
