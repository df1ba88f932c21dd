-- The same over a link of bytes that may fail.
pub mod SessionsRun
pub mod SessionsAnswered
pub mod LostOnce
pub mod SessionsEnd
