-- The proofs that the three fields keep the laws. They stand here since an `impl` may name no file of proofs/; no public contract speaks of them.
pub mod Tests
pub mod Ring
pub mod Numbers
pub mod Computed
pub mod Powers
pub mod FieldLaws
