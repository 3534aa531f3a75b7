pub mod Facts
pub mod Properties
pub mod Everywhere
pub mod Needs
pub mod Numbers
pub mod Rebuilt
