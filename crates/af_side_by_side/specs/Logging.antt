-- The log of a play, if one is kept: what its two ends do in a round, and what it comes to.
use Rattle.std.specs.Prelude.{◌≡◌, ◌⊎◌, ℕ, ◌+◌, ◌*◌, ◌≤◌, All, Bool, true, false, Option, Some, None, List, [], ◌∷◌, ◌++◌, length, map, drop, MatchOption}
use Rattle.std.specs.List.{flat_map}
use Rattle.af_base.specs.declared.log.CycleEntry.{CycleEntry}
use Rattle.af_base.specs.Roomy.{Roomy}
use Rattle.af_cblk.specs.Sides.{Made}
use Rattle.af_fast.specs.Mixer.{MixerState}
use Rattle.af_model.specs.Journals.{JournalData, RoundNoted, entries_of}
use Rattle.af_nblog.specs.declared.entries.Note.{Note}
use Rattle.af_nblog.specs.LogText.{log_text}
use Rattle.af_nblog.specs.Notes.{note_of}
use Rattle.af_nblog.specs.NoteEnds.{WriterState, ReaderState, AreInOrder, writer_made, reader_made, accepted, read}
use Rattle.af_nblog.specs.NoteRounds.{EachRefusesLate, HasDrained, HasNoted, IsBetween}
use Rattle.af_side_by_side.specs.Alone.{most_cycles}

-- ## Which entries were noted

-- the notes of these entries that were accepted; the first entry has this place in the mixer's log
abbrev pub notes_kept : (frames place : ℕ) → List CycleEntry → List Bool → List Note
notes_kept frames place (entry ∷ entries) (true ∷ outcomes) = note_of place entry frames ∷ notes_kept frames (place + 1) entries outcomes
notes_kept frames place (entry ∷ entries) (false ∷ outcomes) = notes_kept frames (place + 1) entries outcomes
notes_kept frames place _ _ = []

-- how many of these outcomes are refusals
abbrev pub count_refused : List Bool → ℕ
count_refused [] = 0
count_refused (true ∷ outcomes) = count_refused outcomes
count_refused (false ∷ outcomes) = 1 + count_refused outcomes

-- The log of a journal: each entry of each round was noted, and kept or refused. The notes are those of the entries kept, in order, and a refusal came late
pub record IsLogOf (frames room : ℕ) (j : JournalData) (notes : List Note) (refused : ℕ) : Type 0 where
  pub outcomes : List (List Bool)
  pub each : map length outcomes ≡ map (λ r. length r.entries) j.rounds
  pub notes_are : notes ≡ notes_kept frames 0 (map (λ e. e.entry) (entries_of j.rounds)) (flat_map (λ round. round) outcomes)
  pub count : refused ≡ count_refused (flat_map (λ round. round) outcomes)
  pub late : EachRefusesLate room 0 outcomes

-- ## The two parties

-- the end of the fast mixer's party, if there is a log
pub record ScribeState : Type 0 where
  pub end : Option WriterState

-- the end of the party that reads, if there is a log; for how many notes there is room in all; and the notes that it keeps
pub record AuditorState : Type 0 where
  pub end : Option ReaderState
  pub room : ℕ
  pub notes : Roomy Note

-- a scribe has the end of this log, and has noted so many entries
abbrev pub IsScribe : Option Made → ℕ → ScribeState → Type 0
IsScribe None entries s = s.end ≡ None
IsScribe (Some block) entries s = (w : WriterState) × (s.end ≡ Some w) × (writer_made w ≡ block) × (length (accepted w) + w.refused ≡ entries)

-- an auditor has the end of this log, and room for what its next turn reads
abbrev pub IsAuditor : Option Made → AuditorState → Type 0
IsAuditor None a = a.end ≡ None
IsAuditor (Some block) a = (r : ReaderState) × (a.end ≡ Some r) × (reader_made r ≡ block) × (length a.notes.items + a.room ≤ a.notes.room) × (a.notes.items ≡ read r)

-- ## The turns of a round

-- the entries of the mixer's log from this place on were noted, each once and in order
pub record Logs (first : ℕ) (m : MixerState) (w w' : WriterState) : Type 0 where
  pub outcomes : List Bool
  pub noted : HasNoted w.pass.part outcomes w'.pass.part
  pub each : first + length outcomes ≡ length m.log.entries
  pub notes : accepted w' ≡ accepted w ++ notes_kept m.frames first (drop first m.log.entries) outcomes
  pub refused : w'.refused ≡ w.refused + count_refused outcomes
  pub made : writer_made w' ≡ writer_made w

-- the entries of the mixer's log from this place on were noted, if there is a log; else the scribe is as before
abbrev pub HasLogged : ℕ → MixerState → ScribeState → ScribeState → Type 0
HasLogged first m s s' = MatchOption s.end (s' ≡ s) (λ w. (w' : WriterState) × (s'.end ≡ Some w') × Logs first m w w')

-- the auditor read until it saw no note left, or had read as many as there is room for, and keeps what it read
abbrev pub HasAudited : AuditorState → AuditorState → Type 0
HasAudited a a' =
    MatchOption a.end (a' ≡ a)
    (λ r. (r' : ReaderState) × (more : List Note) × (a' ≡ record a { end = Some r'; notes = record a.notes { items = a.notes.items ++ more } }) × (reader_made r' ≡ reader_made r) × (read r' ≡ read r ++ more)
    × HasDrained a.room r.pass more r'.pass)

-- ## The whole

-- the log of a play: its block, if it keeps one, and the two parties' ends
pub record LoggingState : Type 0 where
  pub log : Option Made
  pub scribe : ScribeState
  pub auditor : AuditorState

-- no log is kept
abbrev pub no_log : LoggingState → Type 0
no_log l = (l.log ≡ None) × (l.scribe.end ≡ None) × (l.auditor.end ≡ None)

-- a log is kept in this block, and the parties have its ends
pub record HasEnds (block : Made) (l : LoggingState) : Type 0 where
  pub writer : WriterState
  pub reader : ReaderState
  pub log : l.log ≡ Some block
  pub scribe : l.scribe.end ≡ Some writer
  pub auditor : l.auditor.end ≡ Some reader
  pub made : (writer_made writer ≡ block) × (reader_made reader ≡ block)

-- the parties have the ends of one log, or none is kept
abbrev pub AreEnds : LoggingState → Type 0
AreEnds l = no_log l ⊎ ((block : Made) × HasEnds block l)

-- both parties made their turns on a log
pub record HasBothLogged (first : ℕ) (m : MixerState) (l l' : LoggingState) : Type 0 where
  pub log : l'.log ≡ l.log
  pub scribe : HasLogged first m l.scribe l'.scribe
  pub auditor : HasAudited l.auditor l'.auditor

-- The two ends met: the notes accepted and read stay, and the two lists are in order. If the ends were between two rounds, and then noted and read in a round, they are between two rounds again
pub record NotesMet (block : Made) (w w' : WriterState) (r r' : ReaderState) : Type 0 where
  pub kept : (accepted w' ≡ accepted w) × (w'.refused ≡ w.refused) × (read r' ≡ read r)
  pub order : AreInOrder (accepted w') (read r')
  pub rounds : (room : ℕ) (rounds : List (List Bool)) (round : List Bool) (notes : List Note) (v : WriterState) (q : ReaderState) → block.shape.frames ≡ 8 * room
      → IsBetween room rounds v q → HasNoted v.pass.part round w.pass.part → HasDrained room q.pass notes r.pass → IsBetween room (rounds ++ round ∷ []) w' r'

-- the ends of a log met, if one is kept; else nothing changes
pub record HasMetLog (l l' : LoggingState) : Type 0 where
  pub none : no_log l → l' ≡ l
  pub some : (block : Made) (a : HasEnds block l) → (b : HasEnds block l') × (l'.auditor ≡ record l.auditor { end = Some b.reader }) × NotesMet block a.writer b.writer a.reader b.reader

-- A log by the rounds played so far: each entry was noted, in its round, of which none had more than sixteen. The notes read are kept, and there is room for all that may come
pub record IsLogged (room : ℕ) (m : MixerState) (rounds : List RoundNoted) (w : WriterState) (r : ReaderState) (kept : Roomy Note) : Type 0 where
  pub outcomes : List (List Bool)
  pub each : map length outcomes ≡ map (λ round. round.cycles) rounds
  pub few : All (λ round. length round ≤ most_cycles) outcomes
  pub all : length (flat_map (λ round. round) outcomes) ≡ length m.log.entries
  pub notes_are : accepted w ≡ notes_kept m.frames 0 m.log.entries (flat_map (λ round. round) outcomes)
  pub count : w.refused ≡ count_refused (flat_map (λ round. round) outcomes)
  pub noted : length (accepted w) + w.refused ≡ length m.log.entries
  pub between : IsBetween room outcomes w r
  pub left : length (read r) ≤ length (accepted w)
  pub kept_is : kept.items ≡ read r
  pub space : kept.room ≡ m.cycles + room

-- a log with this room is kept, by the rounds played so far
pub record HasLog (room : ℕ) (m : MixerState) (rounds : List RoundNoted) (l : LoggingState) : Type 0 where
  pub block : Made
  pub size : block.shape.frames ≡ 8 * room
  pub room_is : l.auditor.room ≡ room
  pub ends : HasEnds block l
  pub logged : IsLogged room m rounds ends.writer ends.reader l.auditor.notes

-- a log with this room is kept, by the rounds played so far, or none is kept
abbrev pub LogsPlay : Option ℕ → MixerState → List RoundNoted → LoggingState → Type 0
LogsPlay None m rounds l = no_log l
LogsPlay (Some room) m rounds l = HasLog room m rounds l

-- a log with this room, or none, is kept for a mixer that has made no cycle yet and makes at most so many
abbrev pub BeginsLog : Option ℕ → ℕ → LoggingState → Type 0
BeginsLog kept cycles l = (m : MixerState) → m.cycles ≡ cycles → m.log.entries ≡ [] → LogsPlay kept m [] l

-- ## The end

-- the log of a journal, whose ends have met behind the last round
pub record HasLogOf (frames room : ℕ) (j : JournalData) (l : LoggingState) : Type 0 where
  pub block : Made
  pub size : block.shape.frames ≡ 8 * room
  pub room_is : l.auditor.room ≡ room
  pub ends : HasEnds block l
  pub is_log : IsLogOf frames room j (accepted ends.writer) ends.writer.refused
  pub none : 32 ≤ room → ends.writer.refused ≡ 0
  pub rounds : List (List Bool)
  pub between : IsBetween room rounds ends.writer ends.reader
  pub kept : l.auditor.notes.items ≡ read ends.reader
  pub space : length l.auditor.notes.items + room ≤ l.auditor.notes.room

-- the auditor keeps all notes that were accepted, and so many were refused as before
abbrev pub HasReadAll : WriterState → LoggingState → Type 0
HasReadAll w l = (l.auditor.notes.items ≡ accepted w) × ((v : WriterState) × (l.scribe.end ≡ Some v) × (v.refused ≡ w.refused))

-- the text of a log stands behind another text
abbrev pub AppendsLog : WriterState → List ℕ → List ℕ → Type 0
AppendsLog w text text' = text' ≡ text ++ log_text (accepted w) w.refused

-- the log of a journal with this room is kept, or none is
abbrev pub TellsLog : Option ℕ → ℕ → JournalData → LoggingState → Type 0
TellsLog None frames j l = no_log l
TellsLog (Some room) frames j l = HasLogOf frames room j l
