-- The entry of a turn tells what the turn leaves.
use Rattle.std.proofs.Common.{◌≡◌, ℕ, Bool, true, false, if◌then◌else◌, List, length, refl, ap, ◌∙◌, arith}
use Rattle.af_entry_law.proofs.Common.{GoesOn, LegalTurn, NormalKept, Outside, Setup, TrackKept, Turn, after_ack, after_edits, after_push, after_takes, after_tracks, learnt, served_to, turn_after}
use Rattle.af_life.proofs.Lives.{acked_len}
use Rattle.af_entry_law.specs.Told.{EntryTellsAll, mixer_told}
use Rattle.af_entry_law.proofs.SameEdits.{acked_same, mutated_same, pushed_same, taken_same}
use Rattle.af_entry_law.proofs.SameTracks.{all_served_same}
use Rattle.af_entry_law.proofs.ToldLists.{same_length, tracks_told}

module _ (c : Setup) (o o' : Outside) (m n : NormalKept) (e : Turn) (same : mixer_told m ≡ mixer_told n) where
  acked : mixer_told (after_ack e.ack m) ≡ mixer_told (after_ack e.ack n)
  acked = acked_same e.ack m n same

  abbrev ts : List TrackKept
  ts = (after_ack e.ack m).tracks

  abbrev us : List TrackKept
  us = (after_ack e.ack n).tracks

  tracks : tracks_told ts ≡ tracks_told us
  tracks = ap (λ (x : NormalKept). x.tracks) acked

  module _ (goes : GoesOn c o m e) (goes' : GoesOn c o' n e) where
    served : mixer_told (after_tracks c (learnt o) e (after_ack e.ack m)) ≡ mixer_told (after_tracks c (learnt o') e (after_ack e.ack n))
    served = λ j. record (acked j) {
      tracks = (
          ap (λ (count : ℕ). tracks_told (served_to c (learnt o) e.tracks ts count)) (same_length ts us tracks)
          ∙ all_served_same c (learnt o) (learnt o') e.tracks ts us tracks (length us)
          (λ i lt. goes.tracks i (let a = acked_len e.ack m in let b = same_length ts us tracks in omega (arith, lt, a, b)))
          (λ i lt. goes'.tracks i (let a = acked_len e.ack n in omega (arith, lt, a)))
          ) j;
    }

    edits : mixer_told (after_edits c (learnt o) e m) ≡ mixer_told (after_edits c (learnt o') e n)
    edits = mutated_same c (learnt o) (learnt o') e.room (after_tracks c (learnt o) e (after_ack e.ack m)) (after_tracks c (learnt o') e (after_ack e.ack n)) served

    left : mixer_told (after_takes c e.mixes (after_push e.push (after_edits c (learnt o) e m))) ≡ mixer_told (after_takes c e.mixes (after_push e.push (after_edits c (learnt o') e n)))
    left = taken_same c e.mixes (after_push e.push (after_edits c (learnt o) e m)) (after_push e.push (after_edits c (learnt o') e n))
        (pushed_same e.push (after_edits c (learnt o) e m) (after_edits c (learnt o') e n) edits)

  module _ (legal : LegalTurn c o m e) (legal' : LegalTurn c o' n e) where
    kept : mixer_told (turn_after c (learnt o) m e) ≡ mixer_told (turn_after c (learnt o') n e)
    unfolding turn_after
    kept = by_end e.ended refl
      where
        by_end : (b : Bool) → e.ended ≡ b → mixer_told (if b then record m { ended = true } else after_takes c e.mixes (after_push e.push (after_edits c (learnt o) e m)))
            ≡ mixer_told (if b then record n { ended = true } else after_takes c e.mixes (after_push e.push (after_edits c (learnt o') e n)))
        by_end true is = λ j. record (same j) { ended = true }
        by_end false is = left (legal.goes_on is) (legal'.goes_on is)

pub turns_same : (c : Setup) (o o' : Outside) (m n : NormalKept) (e : Turn) → EntryTellsAll c o o' m n e
turns_same c o o' m n e same legal legal' = record {
  kept = kept c o o' m n e same legal legal';
  draft = (λ goes. ap (λ (x : NormalKept). x.draft) (edits c o o' m n e same (legal.goes_on goes) (legal'.goes_on goes)));
}
