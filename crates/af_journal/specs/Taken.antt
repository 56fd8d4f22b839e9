-- What a reader takes from a text, and what it leaves of it.
use Rattle.std.specs.Prelude.{◌≡◌, ℕ, List, [], ◌∷◌, ◌++◌, map, flat_map, length, All, if◌then◌else◌}
use Rattle.std.specs.List.{AllByRecursion}
use Rattle.af_base.specs.declared.frame.Frame.{Frame}
use Rattle.af_base.specs.declared.log.CycleEntry.{CycleEntry}
use Rattle.af_base.specs.Sample.{IsFrame}
use Rattle.af_base.specs.Turn.{Turn}
use Rattle.af_model.specs.Cycles.{is_mixed}
use Rattle.af_model.specs.Journals.{EntrySeen, RoundNoted, RoundSeen, RoundsNoted, entries_of, frames_of, taken_by}
use Rattle.af_model.specs.JournalForm.{AreEntries, IsEntry, IsRound}
use Rattle.af_journal.specs.declared.line.Line.TheVariants as line
use Rattle.af_journal.specs.Lines.{Written, numbers}
use Rattle.af_journal.specs.Ranges.{IsWritten}
use Rattle.af_journal.specs.Texts.{client_lines, each_from, fast_lines, slots_lines, take_lines, text_of_lines, track_lines, turns_lines}

-- some bytes are those of some lines, whose numbers fit, and then others
pub record Leaves (before : List ℕ) (lines : List Written) (after : List ℕ) : Type 0 where
  pub text : before ≡ text_of_lines lines ++ after
  pub fits : AllByRecursion IsWritten lines

-- the lines of a turn that went on, without the first
abbrev pub open_lines : Turn → List Written
open_lines e = each_from track_lines 0 e.tracks ++ numbers (line.Pushed e.push) ∷ flat_map take_lines e.mixes

-- the lines of a round, without the first
abbrev pub body_lines : RoundSeen → List Written
body_lines round = each_from client_lines 0 round.calls ++ turns_lines round.turn ++ fast_lines round.entries

-- the lines of an entry, without the first
abbrev pub more_lines : EntrySeen → List Written
more_lines e = if is_mixed e.entry.cycle then slots_lines e else []

-- one entry more, of its form: its frames are added
pub record AddsEntry (frames : List Frame) (e : EntrySeen) (new_frames : List Frame) : Type 0 where
  pub frames_are : new_frames ≡ frames ++ e.frames
  pub form : IsEntry (length frames) e.entry
  pub count : length e.frames ≡ taken_by e.entry
  pub samples : All IsFrame e.frames

-- some entries more, and their frames
pub record AddsEntries (entries : List CycleEntry) (frames : List Frame) (seen : List EntrySeen) (new_entries : List CycleEntry) (new_frames : List Frame) : Type 0 where
  pub entries_are : new_entries ≡ entries ++ map (λ (e : EntrySeen). e.entry) seen
  pub frames_are : new_frames ≡ frames ++ frames_of seen
  pub form : AreEntries (length frames) seen

-- a round as it is noted
abbrev pub noted_of : RoundSeen → RoundNoted
noted_of round = record { calls = round.calls; turn = round.turn; cycles = length round.entries }

-- a round more, whose entries were added
pub record AddsRound (tracks : ℕ) (noted : RoundsNoted) (entries : List CycleEntry) (frames : List Frame) (round : RoundSeen) (new_noted : RoundsNoted) (new_entries : List CycleEntry) (new_frames : List Frame) : Type 0 where
  pub noted_are : new_noted ≡ record noted { rounds = noted.rounds ++ noted_of round ∷ [] }
  pub added : AddsEntries entries frames round.entries new_entries new_frames
  pub form : IsRound tracks round

-- all that some rounds tell was noted and added
pub record AreTaken (tracks : ℕ) (rounds : List RoundSeen) (noted : RoundsNoted) (entries : List CycleEntry) (frames : List Frame) : Type 0 where
  pub noted_are : noted ≡ record { tracks = tracks; rounds = map noted_of rounds }
  pub entries_are : entries ≡ map (λ (e : EntrySeen). e.entry) (entries_of rounds)
  pub frames_are : frames ≡ frames_of (entries_of rounds)
  pub form : All (IsRound tracks) rounds
  pub each : AreEntries 0 (entries_of rounds)
