mod Summing
mod Planning
mod Replaying
