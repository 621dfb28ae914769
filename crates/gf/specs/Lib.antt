-- What the promises of this crate are made in: fields, rows of bits, the three fields, and the refusals.
pub mod Theory
pub mod Bits
pub mod Fields
pub mod Refusals
pub mod laws
