pub mod Summaries
pub mod Noting
pub mod Steps
pub mod Tallies
pub mod Sound
