-- What recordings are said to be, and what becomes of runs over them.
pub mod Instances
pub mod Losses
pub mod steps
