pub mod Order
pub mod Calls
pub mod Sends
