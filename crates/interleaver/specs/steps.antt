-- What private steps promise each other. No public contract speaks of these.
pub mod OneRow
