pub mod SameKinds
pub mod KindSteps
pub mod BodySteps
pub mod Examples
pub mod AllowedLaws
