-- What private steps promise each other. No public contract speaks of these.
pub mod Dividing
pub mod Filling
pub mod Elimination
pub mod Syndromes
pub mod Decoding
pub mod Matrices
