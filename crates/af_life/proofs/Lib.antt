pub mod Words
pub mod Common
pub mod Basics
mod Effects
mod Drains
pub mod Lives
mod Reached
pub mod Settles
pub mod Smalls
pub mod SmallTurns
pub mod Weights
pub mod DraftBits
pub mod SoundLives
pub mod SoundSlots
pub mod SoundEdits
pub mod SoundTurns
pub mod LooksSoFar
pub mod LooksMade
pub mod TurnForms
