pub mod Supplies
pub mod History
pub mod Ends
pub mod InStep
