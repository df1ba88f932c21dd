-- The server: nodeids, generations, lookup counts, kept replies and their copies.
pub mod Nodes
pub mod Server
pub mod Memory
pub mod Taking
pub mod Performs
pub mod Copies
pub mod Refusals
