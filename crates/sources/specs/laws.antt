-- The proofs that each waiting frame has the frame length. They stand here since an `impl` may name no file of proofs/; no clause speaks of
-- them.
pub mod FrameLengths
