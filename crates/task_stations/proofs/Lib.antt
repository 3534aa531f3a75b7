pub mod Ups
pub mod Replies
pub mod ScanReads
pub mod TaskTurns
pub mod TaskReplies
pub mod Names
pub mod Parts
