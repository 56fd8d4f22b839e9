pub mod Notes
pub mod NoteFronts
pub mod NoteEnds
pub mod LogText
pub mod NoteRears
pub mod NoteRounds
