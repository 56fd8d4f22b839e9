-- The numbers of a journal lie in the ranges of their fields: words, counts and tracks have 32 bits, the numbers of cycles and states 64, and scales 16. The samples of frames are of their form (JournalForm), and no other number is free.
use Rattle.std.specs.Prelude.{ℕ, ◌<◌, ◌^◌, List, [], ◌∷◌, All, Option, MatchOption, slice_index_or}
use Rattle.std.specs.List.{AllByRecursion}
use Rattle.af_base.specs.declared.event.ClientCall.{ClientCall}
use Rattle.af_base.specs.declared.event.ClientCall.TheVariants as call
use Rattle.af_base.specs.declared.log.CycleEntry.{CycleEntry}
use Rattle.af_base.specs.declared.log.SlotEntry.{SlotEntry}
use Rattle.af_base.specs.declared.seen.Seen.{Seen}
use Rattle.af_base.specs.declared.seen.Seen.TheVariants as seen
use Rattle.af_base.specs.declared.state.Push.{Push}
use Rattle.af_base.specs.declared.state.Push.TheVariants as pushing
use Rattle.af_base.specs.declared.turn.CommandLook.{CommandLook}
use Rattle.af_base.specs.Log.{slots, entry_slot}
use Rattle.af_base.specs.Turn.{TakeSeen, TrackSeen, Turn}
use Rattle.af_model.specs.Journals.{JournalData, RoundSeen}

-- each number has 32 bits
abbrev pub AreWords : List ℕ → Type 0
AreWords ns = AllByRecursion (λ n. n < 2 ^ 32) ns

-- ## Numbers of 32 bits

-- the numbers of a call
abbrev pub call_words : ClientCall → List ℕ
call_words (call.Put front count) = front ∷ count ∷ []
call_words (call.Full front) = front ∷ []
call_words (call.Dead flags) = flags ∷ []
call_words (call.Corrupt front rear) = front ∷ rear ∷ []
call_words (call.Cleared flags) = flags ∷ []
call_words (call.Flush count) = count ∷ []
call_words (call.Gain word) = word ∷ []
call_words (call.Sent front code argument) = front ∷ code ∷ argument ∷ []
call_words (call.SendFull front) = front ∷ []
call_words (call.SendDead flags) = flags ∷ []
call_words (call.SendCorrupt front rear) = front ∷ rear ∷ []
call_words (call.Status word) = word ∷ []
call_words (call.Poke command word value) = word ∷ value ∷ []

-- the numbers of what a look showed
abbrev pub seen_words : Seen → List ℕ
seen_words seen.Absent = []
seen_words (seen.Frames count) = count ∷ []
seen_words seen.Empty = []
seen_words (seen.Flushed dropped) = dropped ∷ []
seen_words (seen.Shut front rear) = front ∷ rear ∷ []

-- ## All numbers

-- the numbers of a call lie in their ranges
abbrev pub FitsCall : ClientCall → Type 0
FitsCall c = AreWords (call_words c)

-- the numbers of a look at a command block lie in their ranges
abbrev pub FitsLook : CommandLook → Type 0
FitsLook l = AreWords (l.flush ∷ l.rear ∷ l.code ∷ l.argument ∷ seen_words l.seen)

-- the numbers of a slot lie in their ranges
abbrev pub FitsSlot : SlotEntry → Type 0
FitsSlot slot = AreWords (slot.gains ∷ slot.flush ∷ slot.rear ∷ seen_words slot.seen)

-- the numbers of a take lie in their ranges
abbrev pub FitsTake : TakeSeen → Type 0
FitsTake t = (t.track < 2 ^ 32) × FitsSlot t.slot

-- the numbers of what a push answered lie in their ranges
abbrev pub FitsPush : Push → Type 0
FitsPush pushing.Clean = Unit {0}
FitsPush (pushing.Pushed number) = number < 2 ^ 64
FitsPush (pushing.Busy word expected) = AreWords (word ∷ expected ∷ [])

-- the numbers of what a turn saw and did of a track lie in their ranges
pub record FitsTrack (t : TrackSeen) : Type 0 where
  pub looks : All FitsLook t.looks
  pub status : MatchOption t.status (Unit {0}) (λ word. word < 2 ^ 32)

-- the numbers of a turn lie in their ranges
pub record FitsTurn (e : Turn) : Type 0 where
  pub room : e.room < 2 ^ 32
  pub cycle : e.cycle < 2 ^ 64
  pub tracks : All FitsTrack e.tracks
  pub push : FitsPush e.push
  pub takes : All FitsTake e.mixes

-- the numbers of an entry lie in their ranges
pub record FitsEntry (entry : CycleEntry) : Type 0 where
  pub state : entry.state < 2 ^ 64
  pub looks : (i : ℕ) → i < slots → FitsSlot (entry_slot entry i)
  pub scales : (i : ℕ) → i < slots → slice_index_or entry.scales i 0 < 2 ^ 16

-- the numbers of each client's calls in a round, and of its turn if there was one, lie in their ranges
abbrev pub FitTurns : List (List ClientCall) → Option Turn → Type 0
FitTurns calls turn = All (λ calls. All FitsCall calls) calls × MatchOption turn (Unit {0}) FitsTurn

-- the numbers of a round lie in their ranges
abbrev pub FitsRound : RoundSeen → Type 0
FitsRound round = FitTurns round.calls round.turn × All (λ e. FitsEntry e.entry) round.entries

-- the numbers of a journal lie in their ranges
pub record HasRanges (j : JournalData) : Type 0 where
  pub tracks : j.tracks < 2 ^ 32
  pub rounds : All FitsRound j.rounds
