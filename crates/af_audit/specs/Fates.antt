-- What becomes of each frame that a track's client released, as a journal records it: mixed in place, discarded by a flush that was noticed, or still queued.
use Rattle.std.specs.Prelude.{◌≡◌, ◌≢◌, ℕ, ◌+◌, ◌<◌, true, List, [], ◌∷◌, ◌++◌, map, flat_map, take, length, Option, Some, None}
use Rattle.af_base.specs.declared.event.ServerEvent.{ServerEvent}
use Rattle.af_base.specs.declared.event.ServerEvent.TheVariants as server
use Rattle.af_base.specs.declared.frame.Frame.{Frame}
use Rattle.af_base.specs.Sample.{packed_word}
use Rattle.af_base.specs.Turn.{Turn}
use Rattle.af_life.specs.TurnEvents.{going, takes_from}
use Rattle.af_model.specs.declared.shape.Shape.{Shape}
use Rattle.af_model.specs.Discards.{DiscardsBefore}
use Rattle.af_model.specs.Journals.{EntrySeen, RoundSeen, JournalData, slot_frames}
use Rattle.af_model.specs.ServerCalls.{server_kept}
use Rattle.af_model.specs.Spans.{fates_of, HasOneFate, mixed_by}
use Rattle.af_runs.specs.Blocks.{BlockTold, server_list, HasBlockHistory}
use Rattle.af_runs.specs.LegalRuns.{is_lawful_track, session_of, run_of}
use Rattle.af_runs.specs.Rounds.{early_of, late_of, after_turn, after_round}
use Rattle.af_runs.specs.Runs.{Run, new_run, told_at, slot_playing, state_for, with_calls, with_poll, with_cycle}
use Rattle.af_runs.specs.Sessions.{Session, track_count, file_words}
use Rattle.af_script.specs.Data.{ScriptData}

-- ## Where the frames of a track are recorded

-- the frames of a track in an entry: those of the slot that plays the track, by the state that was polled
abbrev pub recorded_by : Session → Run → EntrySeen → ℕ → List ℕ
recorded_by s run e track = elim (slot_playing (state_for s run e.entry.state) e.entry track) as (λ o. List ℕ) [ None ↦ [] | Some i ↦ map packed_word (slot_frames e i) ]

-- the frames of a track in some entries, one after the other
abbrev pub recorded_by_all : Session → Run → List EntrySeen → ℕ → List ℕ
recorded_by_all s run [] track = []
recorded_by_all s run (e ∷ entries) track = recorded_by s (with_poll s e.entry.state run) e track ++ recorded_by_all s (with_cycle s run e) entries track

-- the frames of a track in the normal mixer's turn, if there is one: those of its takes of the track
abbrev pub recorded_by_turn : Option Turn → ℕ → List ℕ
recorded_by_turn None track = []
recorded_by_turn (Some e) track = going e (map packed_word (flat_map (λ take. take.frames) (takes_from e.mixes track)))

-- the frames of a track in some rounds, one after the other: of each in the entries before the turn, in the turn, and in the entries after it
abbrev pub recorded : Session → Run → List RoundSeen → ℕ → List ℕ
recorded s run [] track = []
recorded s run (round ∷ rounds) track =
    (recorded_by_all s (with_calls round run) (early_of run round) track ++ recorded_by_turn round.turn track
    ++ recorded_by_all s (after_turn s run round) (late_of run round) track) ++ recorded s (after_round s run round) rounds track

-- ## Noticed flushes

-- a server's events end with a look whose flush word isn't the one that it saw last
pub record SeesNewFlush (k : Shape) (events : List ServerEvent) : Type 0 where
  pub before : List ServerEvent
  pub flush : ℕ
  pub rear : ℕ
  pub front : ℕ
  pub look : events ≡ before ++ server.SawFlush flush ∷ server.SawRear rear ∷ server.SawFront front ∷ []
  pub is_new : flush ≢ (server_kept k before).flush

-- an event comes behind the events `before`: a drop only if these end with a look that saw a new flush word
abbrev pub ComesByFlush : Shape → List ServerEvent → ServerEvent → Type 0
ComesByFlush k before (server.Drop to) = SeesNewFlush k before
ComesByFlush k before _ = Unit {0}

-- each drop among `events` comes behind a look that saw a new flush word
abbrev pub DropsByFlush : Shape → (before events : List ServerEvent) → Type 0
DropsByFlush k before [] = Unit {0}
DropsByFlush k before (e ∷ events) = ComesByFlush k before e × DropsByFlush k (before ++ e ∷ []) events

-- ## Fates

-- The frames released on a block are the first ones of a file. In a history of the block each of them has one fate: a take mixed it, a drop discarded it, or it is queued. The frames mixed are those recorded, in order. Each drop follows a look that noticed a new flush, and if flush words carry positions it discards what was released before that flush, and no more
pub record HasFates (file recorded : List ℕ) (b : BlockTold) : Type 0 where
  pub history : HasBlockHistory b
  pub from_file : b.released ≡ take (length b.released) file
  pub one_fate : (frame : ℕ) → frame < length b.released → HasOneFate (fates_of history) (b.shape.base + frame)
  pub mixed : b.taken ≡ mixed_by b.released b.shape.base (fates_of history)
  pub in_place : b.taken ≡ recorded
  pub noticed : DropsByFlush b.shape [] (server_list b)
  pub no_more : b.shape.wrap ≢ 0 → DiscardsBefore b.shape history.order

-- by the end of the journal each frame that the client of a track without a poke released has one fate
abbrev pub EachFrameHasOneFate : ScriptData → List (List Frame) → JournalData → Type 0
EachFrameHasOneFate script files j = let s = session_of script files in
    (track : ℕ) → track < track_count s → is_lawful_track j.rounds track ≡ true → HasFates (file_words s track) (recorded s (new_run s) j.rounds track) (told_at (run_of script files j) track).stream
