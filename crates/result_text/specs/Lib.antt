pub mod AnswerText
pub mod Buffers
