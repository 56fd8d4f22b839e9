pub mod Common
pub mod Basics
pub mod Spelling
mod Releases
pub mod Noting
pub mod Fronts
pub mod NotesRead
pub mod Rears
pub mod Turns
pub mod Rounds
pub mod Refusals
