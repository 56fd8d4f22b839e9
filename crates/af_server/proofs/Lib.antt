pub mod Common
pub mod Basics
pub mod Kept
pub mod Looked
pub mod Took
pub mod SomeShown
pub mod SlotPlayed
