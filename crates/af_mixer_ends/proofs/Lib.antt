pub mod Told
pub mod Moves
pub mod Opened
pub mod GoesOn
pub mod Crossing
