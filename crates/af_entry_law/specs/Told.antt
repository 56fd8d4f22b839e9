-- What the entries of its turns tell of the normal mixer.
use Rattle.std.specs.Prelude.{◌≡◌, false, map}
use Rattle.af_base.specs.Turn.{Turn}
use Rattle.af_life.specs.declared.kept.TrackKept.{TrackKept}
use Rattle.af_life.specs.declared.track.Life.{Life}
use Rattle.af_life.specs.Heard.{learnt}
use Rattle.af_life.specs.Kept.{NormalKept, Outside, Setup, no_counts, nothing_heard}
use Rattle.af_life.specs.Turn.{LegalTurn, after_edits, turn_after}

-- what the entries tell of a life: all but the retries that are left
abbrev pub life_told : Life → Life
life_told l = record l { retries = 50 }

-- what the entries tell of a track: all but its retries, what was heard of its stream as it was attached, and what was counted of its looks
abbrev pub track_told : TrackKept → TrackKept
track_told s = record s { life = life_told s.life; at_attach = nothing_heard; reported = no_counts; own = no_counts }

-- what the entries tell of the mixer: what they tell of its tracks, and all else
abbrev pub mixer_told : NormalKept → NormalKept
mixer_told m = record m { tracks = map track_told m.tracks }

-- two turns leave what tells the same, and edit the draft to the same state
pub record LeaveTheSame (c : Setup) (o o' : Outside) (m m' : NormalKept) (e : Turn) : Type 0 where
  pub kept : mixer_told (turn_after c (learnt o) m e) ≡ mixer_told (turn_after c (learnt o') m' e)
  pub draft : e.ended ≡ false → (after_edits c (learnt o) e m).draft ≡ (after_edits c (learnt o') e m').draft

-- two turns of one entry leave what tells the same, if each is legal by what it saw itself and the same was told before them
abbrev pub EntryTellsAll : Setup → Outside → Outside → NormalKept → NormalKept → Turn → Type 0
EntryTellsAll c o o' m m' e = mixer_told m ≡ mixer_told m' → LegalTurn c o m e → LegalTurn c o' m' e → LeaveTheSame c o o' m m' e
