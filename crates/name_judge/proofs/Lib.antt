pub mod Results
pub mod Bytes
pub mod WaitLaws
pub mod GivenLaws
pub mod RequestLaws
pub mod ReplyLaws
pub mod TransferLaws
pub mod JudgeLaws
