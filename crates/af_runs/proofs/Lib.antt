pub mod Words
pub mod Common
pub mod Basics
mod Begun
pub mod RunGrows
pub mod RoundEntries
pub mod StatesFor
mod RunChecks
mod CutExample
