pub mod Kinded
pub mod Giving
pub mod Tables
