-- What a turn makes of each track before the draft is edited.
use Rattle.std.specs.Prelude.{◌≡◌, ℕ, zero, suc, ◌+◌, ◌*◌, ◌%◌, ◌==◌, ◌||◌, Bool, true, if◌then◌else◌, is_some, MatchBool, List, [], slice_set, Option, Some, None}
use Rattle.std.specs.List.{list_any}
use Rattle.af_base.specs.declared.turn.CommandLook.{CommandLook}
use Rattle.af_base.specs.Turn.{TrackSeen}
use Rattle.af_life.specs.declared.kept.Heard.{Heard}
use Rattle.af_life.specs.declared.kept.TrackKept.{TrackKept}
use Rattle.af_life.specs.declared.track.Life.{Life}
use Rattle.af_life.specs.State.{life_code}
use Rattle.af_life.specs.Reports.{by_report, told_by_report}
use Rattle.af_life.specs.Kept.{Setup, Learnt, track_at, nothing_seen, seen_at}
use Rattle.af_life.specs.Heard.{heard, ready}
use Rattle.af_life.specs.Obeys.{slot_for, is_shut, commanded, are_due}

-- how many looks at the command block a turn makes at most
abbrev pub most_looks : ℕ
most_looks = 64

-- the number of a state in the status word: 15 if the track was shut
abbrev pub state_code : Bool → Life → ℕ
state_code shut life = if shut then 15 else life_code life.state

-- the status word: the state, 16 if it is drained, and 256 for each command that is settled; it has 24 bits for these, and the count begins anew when they are full
unfoldable pub status_word : Bool → TrackKept → ℕ
status_word shut s = state_code shut s.life + (if s.life.drained then 16 else 0) + 256 * (s.settled % 16777216)

-- ## One track. `given` is the slot that an OPEN gives, `h` what the turn heard of the stream, and `s` the track once that was noted

-- the stream block was shut, or a look found the command block shut
abbrev pub is_found_shut : Heard → List CommandLook → Bool
is_found_shut h looks = h.known.shut || list_any (λ look. is_shut look.seen) looks

-- the track after its commands
abbrev pub after_commands : Option ℕ → Heard → List CommandLook → TrackKept → TrackKept
after_commands given h looks s = commanded given h.flush_seen looks s

-- the track after its commands and the report
abbrev pub after_report : Option ℕ → Heard → List CommandLook → TrackKept → TrackKept
after_report given h looks s = let t = after_commands given h looks s in record t { life = by_report h.known t.life }

-- the status word of the track after its commands and the report
abbrev pub status_due : Option ℕ → Heard → List CommandLook → TrackKept → ℕ
status_due given h looks s = status_word (is_found_shut h looks) (after_report given h looks s)

-- the track after its part of the turn
unfoldable pub after_part : Option ℕ → Heard → List CommandLook → TrackKept → TrackKept
after_part given h looks s = record (after_report given h looks s) { status = status_due given h looks s }

-- the word that is stored: none if it is the same as the last one
abbrev pub stored_over : ℕ → ℕ → Option ℕ
stored_over last word = if word == last then None else Some word

-- no look if a START waits, else those that are due
abbrev pub HasDueLooks : Option ℕ → ℕ → List CommandLook → TrackKept → Type 0
HasDueLooks given flush_seen looks s = MatchBool (is_some s.awaits) (looks ≡ []) (are_due most_looks given flush_seen looks s ≡ true)

-- the looks are those due, DISABLED is set if the report says so, and the status is stored if it is new
pub record IsServed (given : Option ℕ) (h : Heard) (seen : TrackSeen) (s : TrackKept) : Type 0 where
  pub looks : HasDueLooks given h.flush_seen seen.looks s
  pub disabled : seen.disabled ≡ told_by_report h.known (after_commands given h seen.looks s).life
  pub status : seen.status ≡ stored_over s.status (status_due given h seen.looks s)

-- ## All tracks

-- the track i after its part of the turn; one that had ended is passed over
unfoldable pub served : Setup → Learnt → List CommandLook → List TrackKept → ℕ → TrackKept
served c k looks tracks i = let s = track_at tracks i in
    if s.life.ended then s else after_part (slot_for c tracks i) (heard k i s) looks (ready k i s)

-- the tracks with the track i served, by what the tracks before it left
abbrev pub with_served : Setup → Learnt → List TrackSeen → ℕ → List TrackKept → List TrackKept
with_served c k seen i tracks = slice_set tracks i (served c k (seen_at seen i).looks tracks i)

-- the tracks after the first ones were served
abbrev pub served_to : Setup → Learnt → List TrackSeen → List TrackKept → ℕ → List TrackKept
served_to c k seen tracks zero = tracks
served_to c k seen tracks (suc i) = with_served c k seen i (served_to c k seen tracks i)

-- what the entry holds of the track i is what is due there; of one that had ended, nothing
abbrev pub LegalTrack : Setup → Learnt → TrackSeen → List TrackKept → ℕ → Type 0
LegalTrack c k seen tracks i = let s = track_at tracks i in
    MatchBool s.life.ended (seen ≡ nothing_seen) (IsServed (slot_for c tracks i) (heard k i s) seen (ready k i s))
