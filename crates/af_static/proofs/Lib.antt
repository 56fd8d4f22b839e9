mod Numbering
mod Rows
mod Newest
pub mod Calling
mod Cuts
