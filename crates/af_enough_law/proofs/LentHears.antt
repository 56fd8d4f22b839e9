-- A lent track hears of the frames that were taken of it in the turn of the same round, or in the next one.
use Rattle.std.proofs.Common.{◌≡◌, ◌⊎◌, inl, inr, ℕ, ◌+◌, ◌≤◌, ◌<◌, ◌||◌, nat_lt, true, false, sym, ap, ◌∙◌, arith}
use Rattle.af_enough_law.proofs.Common.{Counts, FastTrack, Marks, RoundSeen, Run, Session, TrackKept, after_round, below_or_not, cycle_frames, heard, is_home, learnt, slot_reported, told_at, track_at}
use Rattle.af_enough_law.proofs.FastWords.{slot_told, frames_left_in}
use Rattle.af_enough_law.proofs.NormalRounds.{TurnMade}
use Rattle.af_enough_law.proofs.FastReports.{hears_some}
use Rattle.af_enough_law.proofs.Following.{greeted_in}
use Rattle.af_enough_law.proofs.FastFound.{shown_looks}
use Rattle.af_enough_law.proofs.Generations.{greeted_lent, greeted_same}
use Rattle.af_enough_law.proofs.HeardFresh.{greeted_reported, hears_fresh}
use Rattle.af_enough_law.proofs.LentFlows.{LentGone}
use Rattle.af_enough_law.proofs.LentRounds.{LentCarried, HeardOf}

-- the looks that showed frames and were heard of
abbrev pub looks_noted : TrackKept → ℕ
looks_noted s = s.reported.fulls + s.reported.partials

-- some looks that the last report tells of weren't heard of yet
abbrev pub IsUnheard : Run → ℕ → ℕ → Type 0
IsUnheard run i slot = looks_noted (track_at run.normal.tracks i) < shown_looks (slot_told run slot)

-- the turn hears of frames
abbrev pub HearsFrames : (s : Session) (marks : Marks) (run : Run) (round : RoundSeen) (i : ℕ) → TurnMade s marks run round → Type 0
HearsFrames s marks run round i t = (let h = heard (learnt t.by.outside) i (greeted_in run.normal t.turn i) in nat_lt 0 h.known.fulls || nat_lt 0 h.known.partials) ≡ true

module _ (s : Session) (marks : Marks) (run : Run) (round : RoundSeen) (i most total slot : ℕ) (item : FastTrack) (t : TurnMade s marks run round) (told : ℕ) (l : LentCarried s run i slot item) (gone : LentGone s marks run round i most total slot item t told) where
  abbrev g : TrackKept
  g = greeted_in run.normal t.turn i

  pub by_report : looks_noted (track_at run.normal.tracks i) < shown_looks (slot_reported (learnt t.by.outside) g) → HearsFrames s marks run round i t
  by_report less =
      let away : is_home g.holder ≡ false = ap is_home (greeted_lent t.turn.ack run.normal.last (track_at run.normal.tracks i) l.lent) in
      let same : item.generation ≡ g.generation = ap (λ (x : FastTrack). x.generation) l.item_is ∙ sym (greeted_same t.turn.ack run.normal.last (track_at run.normal.tracks i)).generation in
      let noted = greeted_reported t.turn.ack run.normal.last (track_at run.normal.tracks i) in
      let fulls = ap (λ (n : Counts). n.fulls) noted in
      let partials = ap (λ (n : Counts). n.partials) noted in
      hears_fresh ((learnt t.by.outside).own i) (slot_reported (learnt t.by.outside) g) g away (gone.found.since.generation ∙ same) (omega (arith, less, fulls, partials))

  -- what wasn't heard of before the round is heard of by its turn
  pub hears_unheard : IsUnheard run i slot → HearsFrames s marks run round i t
  hears_unheard unheard = let more = gone.found.since.heard in by_report (omega (arith, unheard, more))

  -- frames that were left before the round are heard of by its turn, or are told of by its last report and not heard of yet
  pub hears_taken : HeardOf run i slot → 1 ≤ cycle_frames s → 1 ≤ frames_left_in (told_at run i).stream → HearsFrames s marks run round i t ⊎ IsUnheard (after_round s run round) i slot
  hears_taken before some left = by (below_or_not (looks_noted (track_at run.normal.tracks i)) (shown_looks (slot_reported (learnt t.by.outside) g)))
    where
      by : (looks_noted (track_at run.normal.tracks i) < shown_looks (slot_reported (learnt t.by.outside) g)) ⊎ (shown_looks (slot_reported (learnt t.by.outside) g) ≤ looks_noted (track_at run.normal.tracks i)) → HearsFrames s marks run round i t ⊎ IsUnheard (after_round s run round) i slot
      by (inl less) = inl (by_report less)
      by (inr few) =
          let one = hears_some s run round i slot gone.flowed some left in
          let counted = (gone.reported.counted l.used).heard in
          let fulls = ap (λ (n : Counts). n.fulls) gone.noted in
          let partials = ap (λ (n : Counts). n.partials) gone.noted in
          inr (omega (arith, few, one, counted, before, fulls, partials))
