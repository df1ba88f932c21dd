pub mod Transfers
pub mod ErrorNumbers
pub mod Calls
pub mod Listed
pub mod Streamed
