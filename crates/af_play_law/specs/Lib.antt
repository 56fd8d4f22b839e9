pub mod Polls
pub mod Loads
pub mod RoundPlayed
pub mod Rounds
pub mod PlayRuns
pub mod InTime
pub mod PlayLaws
pub mod KeptPlays
