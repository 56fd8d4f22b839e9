-- The buffer that a turn mixes.
use Rattle.std.specs.Prelude.{◌≡◌, ℕ, ◌+◌, ◌&&◌, nat_le, not, Bool, if◌then◌else◌, is_some, fold, List, [], ◌∷◌, length, map, slice_set, filter}
use Rattle.std.specs.List.{range_with_len}
use Rattle.af_base.specs.declared.frame.Frame.{Frame}
use Rattle.af_base.specs.declared.seen.Seen.{Seen}
use Rattle.af_base.specs.Log.{count_seen}
use Rattle.af_base.specs.Mix.{Take, mix}
use Rattle.af_base.specs.Turn.{TakeSeen}
use Rattle.af_model.specs.Cycles.{LooksBy}
use Rattle.af_model.specs.Reports.{one_if, is_full, is_partial, is_empty}
use Rattle.af_life.specs.declared.kept.Counts.{Counts}
use Rattle.af_life.specs.declared.kept.TrackKept.{TrackKept}
use Rattle.af_life.specs.Kept.{Setup, asked as buffer, setting_of, NormalKept, track_at, Outside, plays}

-- the track has no slot and is to be heard
abbrev pub is_mixed_here : TrackKept → Bool
is_mixed_here s = not (is_some s.slot) && plays s.life

-- the tracks that are mixed here, in order
abbrev pub mixed_here : List TrackKept → List ℕ
mixed_here tracks = filter (λ i. is_mixed_here (track_at tracks i)) (range_with_len 0 (length tracks))

-- the tracks that are mixed into a buffer, if the pipe has room for one
abbrev pub tracks_due : Setup → ℕ → List TrackKept → List ℕ
tracks_due c room tracks = if nat_le (buffer c) room then mixed_here tracks else []

-- one look more
abbrev pub look_counted : ℕ → Seen → Counts → Counts
look_counted asked answer counts = record { fulls = counts.fulls + one_if (is_full asked answer); partials = counts.partials + one_if (is_partial asked answer); empties = counts.empties + one_if (is_empty answer) }

-- the tracks after one of them was mixed: its own look counts at the next turn
abbrev pub after_take : ℕ → List TrackKept → TakeSeen → List TrackKept
after_take asked tracks take = let s = track_at tracks take.track in
    slice_set tracks take.track (record s { own = look_counted asked take.slot.seen s.own })

abbrev pub after_takes : Setup → List TakeSeen → NormalKept → NormalKept
after_takes c takes m = record m { tracks = fold (after_take (buffer c)) m.tracks takes }

-- what a take gives to the mix
abbrev pub take_of : Setup → TakeSeen → Take
take_of c take = record { frames = take.frames; mono = (setting_of c take.track).mono; gains = take.slot.gains; scale = (setting_of c take.track).scale }

-- the frames put into the pipe: one buffer of the mix, if some track was mixed
abbrev pub put_by : Setup → List TakeSeen → List Frame
put_by c [] = []
put_by c (take ∷ takes) = mix (map (take_of c) (take ∷ takes)) (buffer c)

-- A take's look answers by the words seen and the list before, all frames shown are taken, and its place is 0
pub record LegalTake (c : Setup) (o : Outside) (take : TakeSeen) : Type 0 where
  pub looks : LooksBy (buffer c) (o.streams take.track) take.slot (o.stream_front take.track)
  pub frames : length take.frames ≡ count_seen take.slot.seen
  pub place : take.slot.first ≡ 0
