-- What the rows' library answers to C.
pub mod Rows
