-- Which words name a subchannel index.
pub mod Subchannel
