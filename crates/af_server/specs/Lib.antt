pub mod Order
pub mod Looks
pub mod Slot
