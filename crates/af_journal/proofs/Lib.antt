pub mod Words
pub mod Common
pub mod Basics
mod Texts
mod Entries
mod Decimal
mod Spelled
mod LineLaws
mod Parts
mod FirstLine
mod Counting
mod Hex
mod Lacking
mod StagesMet
mod InOrder
mod TurnsInOrder
mod JournalInOrder
mod RoundsLeft
mod LinesLeft
mod MixLeft
mod EntriesLeft
mod JournalOf
mod Readable
mod Leaving
mod Spelling
pub mod Judged
pub mod Fitting
mod Rising
mod MixReading
mod EntriesRead
mod RoundsRead
mod OneText
mod OneTurn
mod OneEntry
pub mod OneJournal
mod PokeLines
mod MarkLines
mod Beginnings
mod Rows
pub mod DigitLines
pub mod RowLines
pub mod WordNumbers
