pub mod Words
pub mod Common
pub mod Basics
pub mod Booleans
pub mod FirstFound
pub mod JudgedExactly
mod JournalJudged
pub mod RunEnds
mod RunMayEnd
pub mod OneVerdict
mod RoundParts
mod LeastOnes
mod CallsJudged
mod CallsFollow
mod NewRun
mod PartiesEnded
mod FirstFault
mod RoundFollows
pub mod SidesKept
mod RoundEnds
mod TrackThere
mod RoundJudged
mod TurnKept
mod RoundTheorem
mod EarlyOnes
mod MeetingsFound
mod PipeCells
mod TracksMade
mod MixersTell
mod VerdictLaws
mod TurnTells
pub mod DoneTracks
pub mod MixerEnds
pub mod MixerTurns
pub mod Older
pub mod MixerRounds
mod PipeDrains
mod PipeRounds
mod DropsNoticed
pub mod FileReleased
pub mod TrackStands
pub mod RunStands
pub mod TakenRecorded
pub mod FatesTold
pub mod EmptiedTold
pub mod CallsUnshut
pub mod LooksUnshut
pub mod RearsSeen
pub mod TrackUnshut
mod RunUnshut
pub mod SparedTold
pub mod Sending
pub mod StepsTaken
pub mod TracksSeen
pub mod StopSent
pub mod Stopped
pub mod Measure
pub mod Growing
pub mod Attached
pub mod Bounded
pub mod Late
pub mod Bounds
pub mod Quiet
pub mod LateRuns
pub mod EntryParts
mod LateRound
pub mod Heard
pub mod Consumed
pub mod Reached
pub mod SentTold
mod Flushes
pub mod Drops
pub mod Grown
pub mod Meeting
pub mod FewFlushes
pub mod FewRounds
pub mod SeenKept
pub mod KnownSeen
pub mod TurnSees
mod StartWords
mod SentWords
mod StartsSettled
pub mod StatusWords
mod TurnSettles
pub mod CommandDrops
pub mod CommandRounds
pub mod SettledRounds
pub mod DrainedTold
pub mod SettledTold
pub mod HeardMix
