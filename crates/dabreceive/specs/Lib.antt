-- What dabreceive sums up of the calls that it makes, and how these are answered.
pub mod Summaries
pub mod Plans
pub mod Reports
pub mod Units
pub mod Lines
