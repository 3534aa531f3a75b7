pub mod Stored
pub mod Turns
pub mod Goes
pub mod Served
pub mod Ends
pub mod Beginnings
pub mod Claims
pub mod Sounds
