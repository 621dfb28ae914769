-- The proofs about a block's rows.
pub mod Lists
pub mod Places
pub mod Stored
pub mod Calls
pub mod Filling
pub mod Counting
pub mod Progress
pub mod Bytes
pub mod Repairing
pub mod Repaired
pub mod Stopping
