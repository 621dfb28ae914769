-- Polynomials over a field, their division, and the check code.
pub mod Polynomials
pub mod Division
pub mod Codewords
pub mod Correcting
pub mod steps
