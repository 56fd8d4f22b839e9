-- Once its STOP is taken a track keeps its retries, and a lent one that plays has 49 again by the second turn after frames were taken.
use Rattle.std.proofs.Common.{◌≡◌, ◌⊎◌, inl, inr, ℕ, ◌+◌, ◌≤◌, nat_le, if◌then◌else◌, Bool, true, false, None, refl, sym, ap, ◌∙◌, subst, arith}
use Rattle.af_enough_law.proofs.Common.{FastTrack, Known, Life, Marks, RoundSeen, Run, Session, Stopping1, Stopping2, after_round, by_report, cycle_frames, heard, learnt, told_at, track_at}
use Rattle.af_enough_law.proofs.Courses.{course, Course, absent, idle, playing, stopping, drained, stopped, over, life_in, told_words}
use Rattle.af_enough_law.proofs.FastWords.{frames_left_in}
use Rattle.af_enough_law.proofs.NormalRounds.{TurnMade}
use Rattle.af_enough_law.proofs.Able.{words_keep}
use Rattle.af_enough_law.proofs.CommandsGo.{OpenTurn}
use Rattle.af_enough_law.proofs.CourseGoes.{OnCourse, CourseGone}
use Rattle.af_enough_law.proofs.Coursing.{course_all, over_out}
use Rattle.af_enough_law.proofs.Following.{greeted_in, greeted_alike, told_life}
use Rattle.af_enough_law.proofs.LentFlows.{LentGone}
use Rattle.af_enough_law.proofs.LentHears.{IsUnheard, HearsFrames, hears_unheard, hears_taken}
use Rattle.af_enough_law.proofs.LentRounds.{LentCarried, HeardOf}
use Rattle.af_enough_law.proofs.RetriesGone.{retries_gone, fresh_gone}

-- a report leaves the retries of a life that is on its way to a stop, has stopped or has ended
kept_calm : (count k n : ℕ) (known : Known) (l : Life) → Course count k l → 3 ≤ k → n ≤ l.retries → n ≤ (by_report (record known { shut = false }) l).retries
unfolding by_report
kept_calm count k n known l absent some has = absurd (let z : ⊥ = omega (arith, some) in z)
kept_calm count k n known l idle some has = absurd (let z : ⊥ = omega (arith, some) in z)
kept_calm count k n known l (playing retries a b) some has = absurd (let z : ⊥ = omega (arith, some) in z)
kept_calm count k n known l (stopping retries) some has = by (nat_le count known.consumed)
  where
    by : (b : Bool) → n ≤ (if b then record (life_in Stopping1 true false retries count) { state = Stopping2; drained = true } else life_in Stopping1 true false retries count).retries
    by true = has
    by false = has
kept_calm count k n known l (drained retries) some has = has
kept_calm count k n known l (stopped retries) some has = has
kept_calm count k n known l (over life e) some has = subst (λ (x : Life). n ≤ x.retries) (sym (over_out (record known { shut = false }) life refl e)) has

-- a round after which three commands or more were taken takes no retries
pub retries_kept : (s : Session) (marks : Marks) (run : Run) (round : RoundSeen) (i n : ℕ) (t : TurnMade s marks run round) (on : OnCourse run i) → OpenTurn s marks run round i t → (gone : CourseGone s marks run round i t on.told) → 3 ≤ gone.after.told → n ≤ (track_at run.normal.tracks i).life.retries → n ≤ 50
    → n ≤ (track_at (after_round s run round).normal.tracks i).life.retries
retries_kept s marks run round i n t on turn gone three has few = by (track_at run.normal.tracks i).life.ended refl
  where
    by : (b : Bool) → (track_at run.normal.tracks i).life.ended ≡ b → n ≤ (track_at (after_round s run round).normal.tracks i).life.retries
    by true ended = subst (λ (y : Life). n ≤ y.retries) (sym (gone.life ∙ ap (λ (b : Bool). if b then (track_at run.normal.tracks i).life else by_report (heard (learnt t.by.outside) i (greeted_in run.normal t.turn i)).known (told_words (course gone.after.count on.told gone.more) (track_at run.normal.tracks i).life)) ended)) has
    by false alive =
        let known = (heard (learnt t.by.outside) i (greeted_in run.normal t.turn i)).known in
        let y : Life = told_words (course gone.after.count on.told gone.more) (track_at run.normal.tracks i).life in
        let life : (track_at (after_round s run round).normal.tracks i).life ≡ by_report known y = gone.life ∙ ap (λ (b : Bool). if b then (track_at run.normal.tracks i).life else by_report known y) alive in
        let open_is : known.shut ≡ false = turn.unshut (ap (λ (z : Life). z.ended) (greeted_alike t.turn.ack run.normal.last (track_at run.normal.tracks i)).life ∙ alive) in
        let kept : n ≤ y.retries = words_keep n few (course gone.after.count on.told gone.more) (track_at run.normal.tracks i).life has in
        subst (λ (z : Life). n ≤ z.retries) (sym life) (calmly known open_is y (there y refl) kept)
      where
        calmly : (known : Known) → known.shut ≡ false → (y : Life) → Course gone.after.count gone.after.told y → n ≤ y.retries → n ≤ (by_report known y).retries
        calmly known open_is y c has = subst (λ (b : Bool). n ≤ (by_report (record known { shut = b }) y).retries) (sym open_is) (kept_calm gone.after.count gone.after.told n known y c three has)

        there : (y : Life) → y ≡ told_words (course gone.after.count on.told gone.more) (track_at run.normal.tracks i).life → Course gone.after.count gone.after.told y
        there y is = subst (Course gone.after.count gone.after.told) (sym is) (subst (λ (m : ℕ). Course gone.after.count m (told_words (course gone.after.count on.told gone.more) (track_at run.normal.tracks i).life)) (sym gone.next)
            (subst (Course gone.after.count (on.told + gone.more)) (told_life None (course gone.after.count on.told gone.more) (track_at run.normal.tracks i))
            (course_all gone.after.count None gone.more on.told (track_at run.normal.tracks i) (let a = gone.next in let b = gone.after.within in let d = gone.after.few in omega (arith, a, b, d)) gone.before)))

-- ## A lent track that plays

module _ (s : Session) (marks : Marks) (run : Run) (round : RoundSeen) (i most total slot : ℕ) (item : FastTrack) (t : TurnMade s marks run round) (on : OnCourse run i) (l : LentCarried s run i slot item) (gone : LentGone s marks run round i most total slot item t on.told) (plays : gone.track.gone.after.told ≡ 2) (two : 2 ≤ (track_at run.normal.tracks i).life.retries) where
  -- if frames were taken that the track hadn't heard of, it has 49 retries after the round
  pub unheard_back : IsUnheard run i slot → 49 ≤ (track_at (after_round s run round).normal.tracks i).life.retries
  unheard_back unheard = fresh_gone s marks run round i t on gone.open_is gone.track.gone plays two (hears_unheard s marks run round i most total slot item t on.told l gone unheard)

  -- if frames were left, the track has 49 retries after the round, or there are some that it hasn't heard of, and it has one retry less at most
  pub left_back : HeardOf run i slot → (n : ℕ) → n + 1 ≤ (track_at run.normal.tracks i).life.retries → n + 1 ≤ 50 → 1 ≤ cycle_frames s → 1 ≤ frames_left_in (told_at run i).stream
      → (49 ≤ (track_at (after_round s run round).normal.tracks i).life.retries) ⊎ (IsUnheard (after_round s run round) i slot × (n ≤ (track_at (after_round s run round).normal.tracks i).life.retries))
  left_back before n some few one left = by (hears_taken s marks run round i most total slot item t on.told l gone before one left)
    where
      by : HearsFrames s marks run round i t ⊎ IsUnheard (after_round s run round) i slot
          → (49 ≤ (track_at (after_round s run round).normal.tracks i).life.retries) ⊎ (IsUnheard (after_round s run round) i slot × (n ≤ (track_at (after_round s run round).normal.tracks i).life.retries))
      by (inl fresh) = inl (fresh_gone s marks run round i t on gone.open_is gone.track.gone plays two fresh)
      by (inr unheard) = inr (unheard, retries_gone s marks run round i on.told n t gone.track.gone some few)
