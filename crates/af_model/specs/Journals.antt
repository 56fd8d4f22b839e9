-- A journal: what each party of a run saw and did, round by round. The lists of the program's entries keep room that isn't part of a journal.
use Rattle.std.specs.Prelude.{ℕ, ◌+◌, List, [], ◌∷◌, map, flat_map, take, drop, Option, None, slice_index_or}
use Rattle.af_base.specs.declared.event.ClientCall.{ClientCall}
use Rattle.af_base.specs.declared.frame.Frame.{Frame}
use Rattle.af_base.specs.declared.log.CycleEntry.{CycleEntry}
use Rattle.af_base.specs.Log.{Logged, slots, entry_slot, count_seen}
use Rattle.af_base.specs.Turn.{Turn}
use Rattle.af_model.specs.Cycles.{taken_before}

-- an entry of the fast mixer, with the frames that its slots took, one after the other
pub record EntrySeen : Type 0 where
  pub entry : CycleEntry
  pub frames : List Frame

-- the frames that a slot took
abbrev pub slot_frames : EntrySeen → ℕ → List Frame
slot_frames e i = take (count_seen (entry_slot e.entry i).seen) (drop (taken_before e.entry i) e.frames)

-- a round: the calls of each client, in order of tracks, the normal mixer's turn if it made one, and the entries that the fast mixer added
pub record RoundSeen : Type 0 where
  pub calls : List (List ClientCall)
  pub turn : Option Turn
  pub entries : List EntrySeen

-- a journal: how many tracks there are, and the rounds
pub record JournalData : Type 0 where
  pub tracks : ℕ
  pub rounds : List RoundSeen

-- what stands past the end of the rounds
abbrev pub no_round : RoundSeen
no_round = record { calls = []; turn = None; entries = [] }

abbrev pub round_at : JournalData → ℕ → RoundSeen
round_at j round = slice_index_or j.rounds round no_round

-- the calls of a client in a round
abbrev pub calls_at : JournalData → ℕ → ℕ → List ClientCall
calls_at j round track = slice_index_or (round_at j round).calls track []

-- all entries of some rounds, in order
abbrev pub entries_of : List RoundSeen → List EntrySeen
entries_of rounds = flat_map (λ round. round.entries) rounds

-- the frames that some entries took
abbrev pub frames_of : List EntrySeen → List Frame
frames_of entries = flat_map (λ e. e.frames) entries

-- ## How a journal is put together

-- a round as it is noted: the fast mixer's entries are in its log, and only their number stands here
pub record RoundNoted : Type 0 where
  pub calls : List (List ClientCall)
  pub turn : Option Turn
  pub cycles : ℕ

-- the rounds noted, of so many tracks
pub record RoundsNoted : Type 0 where
  pub tracks : ℕ
  pub rounds : List RoundNoted

-- how many entries some rounds have
abbrev pub cycles_of : List RoundNoted → ℕ
cycles_of [] = 0
cycles_of (r ∷ rs) = r.cycles + cycles_of rs

-- how many frames all slots of an entry took
unfoldable pub taken_by : CycleEntry → ℕ
taken_by e = taken_before e slots

-- the entries of a log, each with its frames
abbrev pub entries_seen : List Frame → List CycleEntry → List EntrySeen
entries_seen frames [] = []
entries_seen frames (e ∷ es) = record { entry = e; frames = take (taken_by e) frames } ∷ entries_seen (drop (taken_by e) frames) es

-- the rounds, with the entries dealt out in order
abbrev pub rounds_seen : List EntrySeen → List RoundNoted → List RoundSeen
rounds_seen entries [] = []
rounds_seen entries (r ∷ rs) = record { calls = r.calls; turn = r.turn; entries = take r.cycles entries } ∷ rounds_seen (drop r.cycles entries) rs

-- the journal of some rounds and the log of their cycles
abbrev pub journal_of : RoundsNoted → Logged → JournalData
journal_of noted log = record { tracks = noted.tracks; rounds = rounds_seen (entries_seen log.frames log.entries) noted.rounds }
