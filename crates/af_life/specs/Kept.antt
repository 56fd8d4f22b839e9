-- What the normal mixer is between two turns, in plain values, and what a turn sees beside its entry.
use Rattle.std.specs.Prelude.{ℕ, ◌*◌, length, replicate, ◌&&◌, not, Bool, true, false, List, [], slice_index_or, Option, Some, None}
use Rattle.af_base.specs.declared.report.Report.{Report}
use Rattle.af_base.specs.declared.state.FastState.{FastState}
use Rattle.af_base.specs.Turn.{Turn, TrackSeen}
use Rattle.af_model.specs.Cycles.{Listed}
use Rattle.af_model.specs.Draft.{initial}
use Rattle.af_life.specs.declared.kept.Counts.{Counts}
use Rattle.af_life.specs.declared.kept.Heard.{Heard}
use Rattle.af_life.specs.declared.kept.Holder.{Holder}
use Rattle.af_life.specs.declared.kept.Holder.TheVariants.{Home, Lent, Returning}
use Rattle.af_life.specs.declared.kept.Setting.{Setting}
use Rattle.af_life.specs.declared.kept.TrackKept.{TrackKept}
use Rattle.af_life.specs.declared.track.Life.{Life}
use Rattle.af_life.specs.State.{new_life}

-- ## What never changes

-- what a mixer is made of: the frames of a fast cycle, the cycles of a normal buffer, and what each track is
pub record Setup : Type 0 where
  pub frames : ℕ
  pub normal : ℕ
  pub settings : List Setting

-- the frames of a normal buffer
abbrev pub asked : Setup → ℕ
asked c = c.normal * c.frames

-- the frames that the pipe holds: four normal buffers
abbrev pub pipe_size : Setup → ℕ
pipe_size c = 4 * asked c

-- what the track of a number is
abbrev pub setting_of : Setup → ℕ → Setting
setting_of c i = slice_index_or c.settings i (record { fast = false; mono = false; scale = 0 })

-- ## What a turn leaves to the next

-- what a mixer keeps: the tracks, the draft and whether it is to be pushed, how many states were pushed and the last of them, and whether a turn answered that the mixer has ended
pub record NormalKept : Type 0 where
  pub tracks : List TrackKept
  pub draft : FastState
  pub dirty : Bool
  pub pushed : ℕ
  pub last : FastState
  pub ended : Bool

abbrev pub no_counts : Counts
no_counts = record { fulls = 0; partials = 0; empties = 0 }

-- what is known of a proxy that has done nothing
abbrev pub nothing_heard : Heard
nothing_heard = record { known = record { consumed = 0; fulls = 0; partials = 0; empties = 0; shut = false }; flush_seen = 0 }

-- a track before its first turn: its proxy is home, it holds no slot, and no command was settled
abbrev pub new_track : TrackKept
new_track = record { life = new_life; holder = Home; slot = None; generation = 0; at_attach = nothing_heard; reported = no_counts; own = no_counts; awaits = None; settled = 0; status = 0 }

-- the track of a number
abbrev pub track_at : List TrackKept → ℕ → TrackKept
track_at tracks i = slice_index_or tracks i new_track

-- the mixer before its first turn
abbrev pub new_normal : Setup → NormalKept
new_normal c = record { tracks = replicate (length c.settings) new_track; draft = initial c.frames; dirty = false; pushed = 0; last = initial c.frames; ended = false }

-- a track is to be heard: it is in the mix and has not ended
abbrev pub plays : Life → Bool
plays life = life.member && not life.ended

abbrev pub is_home : Holder → Bool
is_home Home = true
is_home _ = false

abbrev pub is_lent : Holder → Bool
is_lent Lent = true
is_lent _ = false

abbrev pub is_returning : Holder → Bool
is_returning Returning = true
is_returning _ = false

-- the number of a slot, 0 if there is none
abbrev pub number_of : Option ℕ → ℕ
number_of None = 0
number_of (Some k) = k

-- the number of a track's slot, 0 if it has none
abbrev pub slot_number : TrackKept → ℕ
slot_number s = number_of s.slot

-- ## What a turn sees

-- What a turn learns: the report that it loaded, and what each stream proxy knows that is home
pub record Learnt : Type 0 where
  pub report : Report
  pub own : ℕ → Heard

-- What a turn sees that its entry doesn't hold: the report that it loaded, each track's two servers with their lists before the turn, and the front of each look, in order
pub record Outside : Type 0 where
  pub report : Report
  pub streams : ℕ → Listed
  pub commands : ℕ → Listed
  pub stream_front : ℕ → ℕ
  pub command_fronts : ℕ → List ℕ

-- what a turn saw and did of a track that it passes over
abbrev pub nothing_seen : TrackSeen
nothing_seen = record { looks = []; status = None; disabled = false }

-- what a turn saw and did of the track of a number, by its list of tracks
abbrev pub seen_at : List TrackSeen → ℕ → TrackSeen
seen_at turns i = slice_index_or turns i nothing_seen

-- what a turn saw and did of the track of a number, by its entry
abbrev pub track_in : Turn → ℕ → TrackSeen
track_in e i = seen_at e.tracks i
