-- A block that is spared, as a journal records it: no call of its client found that its words don't fit, and no mixer's look at it was Shut. `commands` says which of a track's two blocks is meant.
use Rattle.std.specs.Prelude.{◌≡◌, ℕ, ◌<◌, ◌&&◌, not, Bool, true, false, List, [], ◌∷◌, Option, Some, None}
use Rattle.std.specs.List.{list_all}
use Rattle.af_base.specs.declared.event.ClientCall.{ClientCall}
use Rattle.af_base.specs.declared.event.ClientCall.TheVariants.{Corrupt, SendCorrupt}
use Rattle.af_base.specs.declared.frame.Frame.{Frame}
use Rattle.af_base.specs.Log.{entry_slot}
use Rattle.af_base.specs.Turn.{Turn}
use Rattle.af_life.specs.Kept.{track_in}
use Rattle.af_life.specs.Obeys.{is_shut}
use Rattle.af_life.specs.TurnEvents.{takes_from}
use Rattle.af_model.specs.Journals.{EntrySeen, RoundSeen, JournalData}
use Rattle.af_runs.specs.LegalRuns.{is_lawful_block, session_of}
use Rattle.af_runs.specs.Rounds.{early_of, late_of, after_turn, after_round}
use Rattle.af_runs.specs.Runs.{Run, calls_in, new_run, slot_playing, state_for, with_calls, with_poll, with_cycle}
use Rattle.af_runs.specs.Sessions.{Session, track_count}
use Rattle.af_script.specs.Data.{ScriptData}

-- ## Calls

-- a send, or a write, found that the words of its block don't fit it
abbrev pub is_corrupt_on : Bool → ClientCall → Bool
is_corrupt_on commands (SendCorrupt front rear) = commands
is_corrupt_on commands (Corrupt front rear) = not commands
is_corrupt_on commands _ = false

-- none of these calls found that the words of the block don't fit it
abbrev pub none_corrupt_on : Bool → List ClientCall → Bool
none_corrupt_on commands calls = list_all (λ call. not (is_corrupt_on commands call)) calls

-- a call found that the words of one of the two blocks don't fit it
abbrev pub is_corrupt : ClientCall → Bool
is_corrupt (SendCorrupt front rear) = true
is_corrupt (Corrupt front rear) = true
is_corrupt _ = false

-- none of these calls found that the words of one of the two blocks don't fit it
abbrev pub none_corrupt : List ClientCall → Bool
none_corrupt calls = list_all (λ call. not (is_corrupt call)) calls

-- ## Looks

-- the slot of an entry that plays the track, by the state that was polled, isn't Shut
abbrev pub is_spared_by : Session → Run → EntrySeen → ℕ → Bool
is_spared_by s run e track = elim (slot_playing (state_for s run e.entry.state) e.entry track) as (λ o. Bool) [ None ↦ true | Some i ↦ not (is_shut (entry_slot e.entry i).seen) ]

-- in none of these entries, one after the other, the slot that plays the track is Shut
abbrev pub is_spared_by_all : Session → Run → List EntrySeen → ℕ → Bool
is_spared_by_all s run [] track = true
is_spared_by_all s run (e ∷ entries) track = is_spared_by s (with_poll s e.entry.state run) e track && is_spared_by_all s (with_cycle s run e) entries track

-- no look of a turn at the block is Shut: of a command block no look at the track's commands, of a stream block no take for the buffer
abbrev pub is_spared_in_turn : Bool → Turn → ℕ → Bool
is_spared_in_turn true e track = list_all (λ look. not (is_shut look.seen)) (track_in e track).looks
is_spared_in_turn false e track = list_all (λ take. not (is_shut take.slot.seen)) (takes_from e.mixes track)

-- no look of the normal mixer's turn at the block is Shut, if there is a turn
abbrev pub is_spared_by_turn : Bool → Option Turn → ℕ → Bool
is_spared_by_turn commands None track = true
is_spared_by_turn commands (Some e) track = is_spared_in_turn commands e track

-- ## Rounds

-- a block is spared in a round: by its client's calls and by the turn, and a stream block by the entries before the turn and after it
pub record IsSparedIn (commands : Bool) (s : Session) (run : Run) (round : RoundSeen) (track : ℕ) : Type 0 where
  pub calls : none_corrupt_on commands (calls_in round track) ≡ true
  pub early : commands ≡ false → is_spared_by_all s (with_calls round run) (early_of run round) track ≡ true
  pub turn : is_spared_by_turn commands round.turn track ≡ true
  pub late : commands ≡ false → is_spared_by_all s (after_turn s run round) (late_of run round) track ≡ true

-- a block is spared in some rounds, one after the other
abbrev pub IsSpared : Bool → Session → Run → List RoundSeen → ℕ → Type 0
IsSpared commands s run [] track = Unit {0}
IsSpared commands s run (round ∷ rounds) track = IsSparedIn commands s run round track × IsSpared commands s (after_round s run round) rounds track

-- in the whole journal each block without a poke is spared
abbrev pub EachLawfulBlockIsSpared : ScriptData → List (List Frame) → JournalData → Type 0
EachLawfulBlockIsSpared script files j = let s = session_of script files in
    (commands : Bool) (track : ℕ) → track < track_count s → is_lawful_block commands j.rounds track ≡ true → IsSpared commands s (new_run s) j.rounds track
