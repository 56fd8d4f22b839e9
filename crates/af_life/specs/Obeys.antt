-- What the commands of a track make of it.
use Rattle.std.specs.Prelude.{ℕ, zero, suc, ◌+◌, ◌-◌, ◌==◌, ◌&&◌, not, nat_lt, Bool, true, false, if◌then◌else◌, is_some, find, length, List, [], ◌∷◌, Option, Some, None}
use Rattle.std.specs.List.{list_any, range_with_len}
use Rattle.af_base.specs.declared.seen.Seen.{Seen}
use Rattle.af_base.specs.declared.seen.Seen.TheVariants as seen
use Rattle.af_base.specs.declared.turn.CommandLook.{CommandLook}
use Rattle.af_base.specs.Log.{slots, count_seen}
use Rattle.af_life.specs.declared.state.LifeState.TheVariants.{Absent}
use Rattle.af_life.specs.declared.track.Life.{Life}
use Rattle.af_life.specs.State.{is_among}
use Rattle.af_life.specs.Commands.{by_command, starts}
use Rattle.af_life.specs.declared.kept.TrackKept.{TrackKept}
use Rattle.af_life.specs.Kept.{Setup, setting_of, is_home, slot_number}

-- ## The slots

-- a track has this slot, from its OPEN until it has ended and its proxy is home
abbrev pub holds : ℕ → TrackKept → Bool
holds slot s = is_some s.slot && (slot_number s == slot) && not (s.life.ended && is_home s.holder)

-- the lowest slot, from 1 on, that no track has
abbrev pub free_slot : List TrackKept → Option ℕ
free_slot tracks = find (λ slot. not (list_any (holds slot) tracks)) (range_with_len 1 (slots - 1))

-- the slot that an OPEN gives to the track i: none to one that isn't fast
abbrev pub slot_for : Setup → List TrackKept → ℕ → Option ℕ
slot_for c tracks i = if (setting_of c i).fast then free_slot tracks else None

-- ## One look

-- the command is an OPEN, of a life that is not there yet and has not ended
abbrev pub opens : ℕ → Life → Bool
opens code life = (code == 1) && (not life.ended && is_among (Absent ∷ []) life.state)

-- the life after a command, and the slot that an OPEN gives
abbrev pub told : Option ℕ → ℕ → ℕ → TrackKept → TrackKept
told given code argument s = record s { life = by_command code argument s.life; slot = if opens code s.life then given else s.slot }

-- a START that isn't ignored, of a flush count that is not seen yet
abbrev pub must_wait : ℕ → ℕ → ℕ → Life → Bool
must_wait flush_seen code argument life = starts code life && nat_lt flush_seen argument

-- a command is settled as it is taken, but for a START that must wait
unfoldable pub obeyed : Option ℕ → ℕ → ℕ → ℕ → TrackKept → TrackKept
obeyed given flush_seen code argument s = let t = told given code argument s in
    if must_wait flush_seen code argument s.life then record t { awaits = Some argument } else record t { settled = t.settled + 1 }

-- the track has ended, and is not in the mix
abbrev pub ended : TrackKept → TrackKept
ended s = record s { life = record s.life { ended = true; member = false } }

-- what a look shows of the command block: a command is two frames
abbrev pub shows_command : Seen → Bool
shows_command answer = count_seen answer == 2

abbrev pub is_shut : Seen → Bool
is_shut (seen.Shut front rear) = true
is_shut _ = false

-- a look at the command block: a command is obeyed, and a block that was shut ends the track
unfoldable pub after_look : Option ℕ → ℕ → CommandLook → TrackKept → TrackKept
after_look given flush_seen look s =
    if shows_command look.seen then obeyed given flush_seen look.code look.argument s
    else if is_shut look.seen then ended s
    else s

-- ## All looks of a turn

-- after a command the next look follows, unless a START waits
abbrev pub goes_on : CommandLook → TrackKept → Bool
goes_on look s = shows_command look.seen && not (is_some s.awaits)

-- the looks one after the other, up to one that ends them
abbrev pub after_looks : Option ℕ → ℕ → List CommandLook → TrackKept → TrackKept
after_looks given flush_seen [] s = s
after_looks given flush_seen (look ∷ looks) s = let t = after_look given flush_seen look s in
    if goes_on look t then after_looks given flush_seen looks t else t

-- no look is made while a START waits
abbrev pub commanded : Option ℕ → ℕ → List CommandLook → TrackKept → TrackKept
commanded given flush_seen looks s = if is_some s.awaits then s else after_looks given flush_seen looks s

-- the looks are as many as are due if up to so many are made: they end with the first that ends them, or with the last that may be made
abbrev pub are_due : ℕ → Option ℕ → ℕ → List CommandLook → TrackKept → Bool
are_due zero given flush_seen [] s = true
are_due zero given flush_seen (look ∷ looks) s = false
are_due (suc n) given flush_seen [] s = false
are_due (suc n) given flush_seen (look ∷ looks) s = let t = after_look given flush_seen look s in
    if goes_on look t then are_due n given flush_seen looks t else length looks == 0
