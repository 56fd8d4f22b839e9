pub mod Common
pub mod Basics
mod LentState
mod HeldFacts
mod SlotSteps
mod SlotsDone
mod Counted
mod Quiet
mod HeardMix
mod Parts
mod Adopted
mod Noted
mod Added
mod Forgotten
pub mod LogForms
pub mod Meeting
