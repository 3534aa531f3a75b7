pub mod Answer
pub mod Scopes
pub mod Literals
pub mod Typed
pub mod Case
pub mod Refusals
