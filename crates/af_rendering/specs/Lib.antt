pub mod Rendered
pub mod Stages
pub mod Alone
pub mod SoFar
pub mod Rounds
