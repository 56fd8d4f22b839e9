pub mod Sample
pub mod Gain
pub mod Mix
pub mod Command
pub mod Part
pub mod Log
pub mod Roomy
pub mod Turn
