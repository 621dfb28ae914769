-- The proofs about blocks that are written or not legible, the frames of a recording, and instances of the laws.
pub mod Judging
pub mod Lines
pub mod Instancing
pub mod Pulling
pub mod Demonstrating
pub mod HandedIn
pub mod Losing
