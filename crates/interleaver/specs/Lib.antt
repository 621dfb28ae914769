-- What the promises of this crate are made in: the rows of a block, and what filling their checks and correcting them does.
pub mod Rows
pub mod Layouts
pub mod steps
