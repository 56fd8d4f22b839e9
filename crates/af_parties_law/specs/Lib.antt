pub mod Hostile
pub mod Sparing
pub mod Spelled
pub mod PlayedAlone
pub mod Telling
