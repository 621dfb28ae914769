-- The proofs about held frames, repaired blocks, the rules and the laws over runs.
pub mod Framing
pub mod RepairedBlocks
pub mod Judging
pub mod Ruling
pub mod Drives
pub mod Lists
pub mod Steps
pub mod NotRefused
pub mod Carrying
pub mod Places
pub mod WholeRuns
pub mod Recovering
pub mod HuntingLaw
pub mod Serving
pub mod OnlyChoices
pub mod OneWay
pub mod Answering
