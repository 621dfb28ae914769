-- What the promises of this crate are made in: bits and check words, headers, rows, super frames, what writing and reading answer, and how
-- they undo each other.
pub mod Bytes
pub mod BlockRows
pub mod Checks
pub mod Layouts
pub mod Headers
pub mod SuperFrames
pub mod Places
pub mod Writing
pub mod Laws
pub mod States
pub mod Examples
pub mod Texts
pub mod steps
