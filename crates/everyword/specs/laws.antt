-- The proof that the integers modulo 13 keep the laws. It stands here since an `impl` may name no file of proofs/; no clause speaks of it.
pub mod Modulo13Laws
