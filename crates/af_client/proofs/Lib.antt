pub mod Common
pub mod Kept
pub mod Stores
pub mod Opened
pub mod Answered
