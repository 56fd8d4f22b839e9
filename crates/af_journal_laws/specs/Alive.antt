-- Calls that show a client that its track was shut, up to a meeting.
use Rattle.std.specs.Prelude.{◌≡◌, ℕ, ◌<◌, ◌==◌, not, Bool, true, false, List, ◌++◌}
use Rattle.std.specs.List.{list_all}
use Rattle.af_base.specs.declared.event.ClientCall.{ClientCall}
use Rattle.af_base.specs.declared.event.ClientCall.TheVariants.{Dead, SendDead, Status}
use Rattle.af_base.specs.declared.frame.Frame.{Frame}
use Rattle.af_model.specs.Journals.{RoundSeen, JournalData}
use Rattle.af_runs.specs.Clients.{state_in}
use Rattle.af_runs.specs.LegalRuns.{is_lawful_track, run_from, session_of}
use Rattle.af_runs.specs.Runs.{calls_in, new_run, takes_part}
use Rattle.af_runs.specs.Sessions.{track_count}
use Rattle.af_runs.specs.TurnRuns.{run_alone}
use Rattle.af_script.specs.Data.{ScriptData}

-- a call shows that the track was shut: a write saw INVALID in the flags of its stream block, a send in those of its command block, or a status had the state 15
abbrev pub is_dead : ClientCall → Bool
is_dead (Dead flags) = true
is_dead (SendDead flags) = true
is_dead (Status word) = state_in word == 15
is_dead _ = false

-- none of these calls shows that the track was shut
abbrev pub none_dead : List ClientCall → Bool
none_dead calls = list_all (λ call. not (is_dead call)) calls

-- no call shows that its track was shut, in the rounds up to a meeting in which the track's stream proxy takes part, no poke on either of its blocks among them; a REMOVE or the session's end makes no exception
abbrev pub NoMetCallIsDead : ScriptData → List (List Frame) → JournalData → Type 0
NoMetCallIsDead script files j = let s = session_of script files in
    (now : List RoundSeen) (later : List RoundSeen) → j.rounds ≡ now ++ later → (track : ℕ) → track < track_count s → takes_part s (run_from s (new_run s) now) track ≡ true → is_lawful_track now track ≡ true
    → list_all (λ round. none_dead (calls_in round track)) now ≡ true

-- in turn runs no call shows that its track was shut, in the rounds up to a meeting in which the track's stream proxy takes part, no poke on either of its blocks among them
abbrev pub NoMetCallIsDeadAlone : ScriptData → List (List Frame) → JournalData → Type 0
NoMetCallIsDeadAlone script files j = let s = session_of script files in
    (now : List RoundSeen) (later : List RoundSeen) → j.rounds ≡ now ++ later → (track : ℕ) → track < track_count s → takes_part s (run_alone s (new_run s) script.turns now) track ≡ true → is_lawful_track now track ≡ true
    → list_all (λ round. none_dead (calls_in round track)) now ≡ true
