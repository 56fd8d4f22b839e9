pub mod Alone
pub mod SideBySide
pub mod Logging
pub mod TurnsInRoom
