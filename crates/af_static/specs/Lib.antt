pub mod Loops
pub mod Ends
pub mod Numbers
pub mod Played
pub mod InStep
pub mod Calls
