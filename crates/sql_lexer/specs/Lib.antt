pub mod Bytes
pub mod Cuts
pub mod Parts
pub mod Refusals
pub mod Texts
pub mod Tokens
