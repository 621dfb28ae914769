-- What the promises of this crate are made in: what a receiver is, its rules, runs by them, and the laws over runs.
pub mod Receptions
pub mod Blocks
pub mod Rules
pub mod Runs
pub mod Recovery
pub mod Service
pub mod Driving
pub mod steps
