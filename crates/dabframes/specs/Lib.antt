-- What comes of passing a recording through a queue.
pub mod Tallies
pub mod steps
