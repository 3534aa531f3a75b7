pub mod Sites
pub mod Good
