-- The form of a journal: what every journal keeps, legal or not.
use Rattle.std.specs.Prelude.{◌≡◌, ◌⊎◌, ℕ, ◌+◌, ◌<◌, ◌≤◌, ◌^◌, Bool, true, false, List, [], ◌∷◌, All, length, MatchOption, slice_index_or}
use Rattle.std.specs.Int.{bit_at}
use Rattle.af_base.specs.declared.log.Cycle.{Cycle}
use Rattle.af_base.specs.declared.log.Cycle.TheVariants as cycle
use Rattle.af_base.specs.declared.log.CycleEntry.{CycleEntry}
use Rattle.af_base.specs.declared.log.SlotEntry.{SlotEntry}
use Rattle.af_base.specs.declared.seen.Seen.TheVariants as seen
use Rattle.af_base.specs.declared.turn.CommandLook.{CommandLook}
use Rattle.af_base.specs.Log.{Logged, slots, absent, entry_slot, count_seen}
use Rattle.af_base.specs.Sample.{IsFrame}
use Rattle.af_base.specs.Turn.{TakeSeen, Turn, ended_turn}
use Rattle.af_model.specs.Cycles.{IsSeen, is_mixed, place_of, taken_before, still_entry, shown}
use Rattle.af_model.specs.Journals.{EntrySeen, RoundSeen, JournalData, RoundsNoted, cycles_of, entries_of, entries_seen, frames_of, taken_by}
use Rattle.af_model.specs.Numbers.{HasRanges}

-- a look at a command block: only one of two frames has words
abbrev pub IsCommandLook : CommandLook → Type 0
IsCommandLook l = IsSeen l.seen × ((l.seen ≡ seen.Frames 2) ⊎ ((l.code ≡ 0) × (l.argument ≡ 0)))

-- a take names one of the tracks, and has as many frames as its look shows, each of two samples
pub record IsTake (tracks : ℕ) (t : TakeSeen) : Type 0 where
  pub track : t.track < tracks
  pub look : IsSeen t.slot.seen
  pub first : t.slot.first ≡ 0
  pub frames : length t.frames ≡ count_seen t.slot.seen
  pub samples : All IsFrame t.frames

-- the tracks of takes rise, from `low` on
abbrev pub TracksRise : ℕ → List TakeSeen → Type 0
TracksRise low [] = Unit {0}
TracksRise low (t ∷ ts) = (low ≤ t.track) × TracksRise (t.track + 1) ts

-- a turn that went on has seen each track once
pub record IsOpenTurn (tracks : ℕ) (e : Turn) : Type 0 where
  pub open_is : e.ended ≡ false
  pub each : length e.tracks ≡ tracks
  pub looks : All (λ t. All IsCommandLook t.looks) e.tracks
  pub takes : All (IsTake tracks) e.mixes
  pub rise : TracksRise 0 e.mixes

-- a turn is one that answered that the mixer has ended, or one that went on
abbrev pub IsTurn : ℕ → Turn → Type 0
IsTurn tracks e = (e ≡ ended_turn) ⊎ IsOpenTurn tracks e

-- the submix shows frames or nothing, at unity
abbrev pub IsSubmix : SlotEntry → Type 0
IsSubmix slot = (slot.gains ≡ 268439552) × (slot.flush ≡ 0) × (slot.seen ≡ shown (count_seen slot.seen))

-- a slot that isn't of the mask is all zeros, with no scale and no mark
abbrev pub IsAbsent : CycleEntry → ℕ → Type 0
IsAbsent entry i = (entry_slot entry i ≡ absent) × (slice_index_or entry.scales i 0 ≡ 0) × (bit_at entry.mono i ≡ 0)

-- the slots of a mix whose frames begin at `place` in the log
pub record IsMixed (place : ℕ) (entry : CycleEntry) : Type 0 where
  pub whole : (length entry.slots ≡ slots) × (length entry.scales ≡ slots) × (entry.mono < 2 ^ slots)
  pub submix : IsSubmix (entry_slot entry 0) × (slice_index_or entry.scales 0 0 ≡ 4096) × (bit_at entry.mono 0 ≡ 0)
  pub others : (i : ℕ) → 0 < i → i < slots → IsAbsent entry i ⊎ IsSeen (entry_slot entry i).seen
  pub placed : (i : ℕ) → i < slots → (entry_slot entry i).first ≡ place_of (place + taken_before entry i) (entry_slot entry i).seen

-- a cycle says that the log had all of its entries
abbrev pub is_spent : Cycle → Bool
is_spent (cycle.Spent cycles) = true
is_spent _ = false

-- an entry has the slots of a mix, or none; none tells of a full log
pub record IsEntry (place : ℕ) (entry : CycleEntry) : Type 0 where
  pub kept : is_spent entry.cycle ≡ false
  pub mixes : is_mixed entry.cycle ≡ true → IsMixed place entry
  pub still : is_mixed entry.cycle ≡ false → entry ≡ still_entry entry.state entry.cycle

-- the entries have their form, one after the other, each with as many frames as its slots took
abbrev pub AreEntries : ℕ → List EntrySeen → Type 0
AreEntries place [] = Unit {0}
AreEntries place (e ∷ es) = IsEntry place e.entry × (length e.frames ≡ taken_by e.entry) × All IsFrame e.frames × AreEntries (place + length e.frames) es

-- a round has the calls of each track, and a turn of its form if it has one
pub record IsRound (tracks : ℕ) (round : RoundSeen) : Type 0 where
  pub calls : length round.calls ≡ tracks
  pub turn : MatchOption round.turn (Unit {0}) (IsTurn tracks)

-- what every journal keeps: the form of its rounds and of its entries, and the ranges of its numbers
pub record IsJournal (j : JournalData) : Type 0 where
  pub rounds : All (IsRound j.tracks) j.rounds
  pub entries : AreEntries 0 (entries_of j.rounds)
  pub numbers : HasRanges j

-- the log has as many entries as the rounds, and no frames beside those that its entries took
abbrev pub IsWhole : RoundsNoted → Logged → Type 0
IsWhole noted log = (cycles_of noted.rounds ≡ length log.entries) × (frames_of (entries_seen log.frames log.entries) ≡ log.frames)
