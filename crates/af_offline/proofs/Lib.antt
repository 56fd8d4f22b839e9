pub mod Common
mod Entries
pub mod Chains
mod Taped
mod Rolling
pub mod Loads
pub mod Draws
pub mod Generated
mod FrontFault
pub mod BeyondFault
pub mod Verified
