-- The integers modulo 13, which this program brings as a field of its own.
pub mod Modulo13
pub mod laws
