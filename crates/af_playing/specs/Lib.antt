pub mod PlayedRuns
pub mod InTime
pub mod PlayedStages
pub mod PlayKept
pub mod Pieces
pub mod RoundsSoFar
