-- What a turn of the normal mixer makes of one track, step by step.
use Rattle.std.proofs.Common.{◌≡◌, ℕ, ◌==◌, Bool, true, false, if◌then◌else◌, List, [], ◌∷◌, Option}
use Rattle.af_enough_law.proofs.Common.{FastState, CommandLook, Turn, TakeSeen, Counts, Heard, Returning, TrackKept, welcomed, must_leave, must_enter, lent_by, heard, ready, Setup, asked as buffer, NormalKept, Learnt, track_at, track_in, slot_for, look_counted, after_part, turn_after, tracks_at}

-- the track once the acknowledgement was looked at
abbrev pub greeted : Bool → FastState → TrackKept → TrackKept
greeted ack last s = if ack then welcomed last s else s

-- the track once it was served; one that had ended is passed over
abbrev pub attended : Option ℕ → Learnt → ℕ → List CommandLook → TrackKept → TrackKept
attended given k i looks s = if s.life.ended then s else after_part given (heard k i s) looks (ready k i s)

-- what the edits of the draft make of a track
pub data Edited (own : Heard) (s : TrackKept) : TrackKept → Type 0 where
  stays : must_leave s ≡ false → must_enter s ≡ false → Edited own s s
  leaves : must_leave s ≡ true → Edited own s (record s { holder = Returning })
  enters : (draft : FastState) → must_enter s ≡ true → Edited own s (lent_by draft own s)

-- the mixer's own looks at the track i, added to these
abbrev pub own_after : ℕ → ℕ → Counts → List TakeSeen → Counts
own_after asked i counts [] = counts
own_after asked i counts (take ∷ takes) = own_after asked i (if take.track == i then look_counted asked take.slot.seen counts else counts) takes

-- The track i after a turn: greeted, served, edited, and with the looks of the mix. No other track changes anything of it but the slot that an OPEN gives
pub record TrackTurned (c : Setup) (k : Learnt) (m : NormalKept) (e : Turn) (i : ℕ) : Type 0 where
  pub given : Option ℕ
  pub free : given ≡ slot_for c (tracks_at c k m e i) i
  pub edited : TrackKept
  pub edit : Edited (k.own i) (attended given k i (track_in e i).looks (greeted e.ack m.last (track_at m.tracks i))) edited
  pub after : track_at (turn_after c k m e).tracks i ≡ record edited { own = own_after (buffer c) i edited.own e.mixes }
