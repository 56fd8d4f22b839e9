-- What a run shows for its summary: a function of its rounds, of the states that were pushed and of the log.
use Rattle.std.specs.Prelude.{ℕ, ◌+◌, ◌*◌, ◌≡◌, ◌≤◌, if◌then◌else◌, List, [], ◌∷◌, ◌++◌, length, map, slice_index_or, Option, Some, None}
use Rattle.std.specs.List.{flat_map, range_with_len}
use Rattle.af_base.specs.declared.event.ClientCall.{ClientCall}
use Rattle.af_base.specs.declared.frame.Frame.{Frame}
use Rattle.af_base.specs.declared.log.Cycle.{Cycle}
use Rattle.af_base.specs.declared.log.CycleEntry.{CycleEntry}
use Rattle.af_base.specs.declared.state.FastState.{FastState}
use Rattle.af_base.specs.Log.{Logged, slots, takes_of}
use Rattle.af_base.specs.Mix.{mix}
use Rattle.af_base.specs.Turn.{Turn}
use Rattle.af_model.specs.declared.states.MutatorEvent.{MutatorEvent}
use Rattle.af_model.specs.Cycles.{is_mixed, state_of}
use Rattle.af_model.specs.Journals.{JournalData, RoundNoted, RoundsNoted, entries_of, frames_of}
use Rattle.af_fast.specs.Mixer.{MixerState}
use Rattle.af_server.specs.Order.{ServerState}
use Rattle.af_stateq.specs.Laws.{polled_states, pushed_states}
use Rattle.af_tally.specs.declared.summary.Summary.{Summary}
use Rattle.af_party.specs.Parties.{PartyState}
use Rattle.af_session.specs.Ends.{EndsState}
use Rattle.af_tally.specs.Summaries.{EntryUsed, Shown, summary_of}
use Rattle.af_tally.specs.Tallies.{Tallied, IsTally}

-- ## Of rounds and a log

-- an entry with the state that it names among these states, of which the first has the number 1
abbrev pub use_of : List FastState → CycleEntry → EntryUsed
use_of states entry = record { entry = entry; state = state_of states entry.state }

-- the frames that a cycle wrote: none if it didn't mix
abbrev pub frames_written : Cycle → List Frame → List Frame
frames_written cycle out = if is_mixed cycle then out else []

-- all calls of the client of track i, by the calls of each round
abbrev pub calls_over : List (List (List ClientCall)) → ℕ → List ClientCall
calls_over rounds i = flat_map (λ calls. slice_index_or calls i []) rounds

-- the turn of a round, if it had one
abbrev pub turn_in : Option Turn → List Turn
turn_in None = []
turn_in (Some turn) = turn ∷ []

-- what rounds with these calls and turns show of so many tracks, with the entries of a log that name these states; an entry wrote, at this length of a cycle, the frames of its mix, from the frames of the log
unfoldable pub shows : (states : List FastState) (len tracks : ℕ) (calls : List (List (List ClientCall))) (turns : List (Option Turn)) (frames : List Frame) (entries : List CycleEntry) → Shown
shows states len tracks calls turns frames entries = record {
  frames = len;
  calls = map (calls_over calls) (range_with_len 0 tracks);
  turns = flat_map turn_in turns;
  entries = map (use_of states) entries;
  written = flat_map (λ entry. frames_written entry.cycle (mix (takes_of frames entry) len)) entries;
}

-- ## Of a journal

-- what a run shows by its journal, at so many frames a cycle, and by what the mutator pushed
abbrev pub shown_by : ℕ → JournalData → List (MutatorEvent ServerState) → Shown
shown_by len j events = let seen = entries_of j.rounds in
    shows (pushed_states events) len j.tracks (map (λ r. r.calls) j.rounds) (map (λ r. r.turn) j.rounds) (frames_of seen) (map (λ e. e.entry) seen)

-- how many frames the client of each track has released
abbrev pub released_by : List PartyState → List ℕ
released_by clients = map (λ p. p.stream.released) clients

-- the summary of the run that a journal records, at so many frames a cycle, with the ends that the run left
abbrev pub summary_told : ℕ → JournalData → EndsState → Summary
summary_told len j ends = summary_of (shown_by len j ends.normal.mutator.past.events) (released_by ends.clients)

-- what a run shows by the rounds noted and the log of their cycles
abbrev pub shown_in : ℕ → RoundsNoted → Logged → List (MutatorEvent ServerState) → Shown
shown_in len noted log events = shows (pushed_states events) len noted.tracks (map (λ r. r.calls) noted.rounds) (map (λ r. r.turn) noted.rounds) log.frames log.entries

-- ## While the run goes on

-- what the rounds noted so far show, by the states that the fast mixer polled, by the state before the first of them, and by its log
abbrev pub shown_at : FastState → ℕ → List RoundNoted → MixerState → Shown
shown_at first tracks rounds m =
    shows (polled_states first m.observer.past.events) m.frames tracks (map (λ r. r.calls) rounds) (map (λ r. r.turn) rounds) m.log.frames m.log.entries

-- A tally follows the fast mixer: if it was that of some rounds before, it is so again
abbrev pub Follows : MixerState → MixerState → Tallied → Tallied → Type 0
Follows m m' a b = (first : FastState) (tracks : ℕ) (rounds : List RoundNoted) → IsTally (shown_at first tracks rounds m) a → IsTally (shown_at first tracks rounds m') b

-- A tally follows a round: if it was that of the rounds before, it is that of them and this one
abbrev pub FollowsRound : RoundNoted → MixerState → MixerState → Tallied → Tallied → Type 0
FollowsRound r m m' a b = (first : FastState) (tracks : ℕ) (rounds : List RoundNoted) → IsTally (shown_at first tracks rounds m) a → IsTally (shown_at first tracks (rounds ++ r ∷ []) m') b

-- After so many rounds with so many entries a tally has each track, and no more looks and cycles than those can show
pub record HasPlaces (rounds tracks entries : ℕ) (t : Tallied) : Type 0 where
  pub tracks_are : length t.tracks ≡ tracks
  pub looks : t.looks ≤ slots * (rounds + entries)
  pub cycles : t.cycles ≤ entries
