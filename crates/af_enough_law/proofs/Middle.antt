-- From the first round in which all is carried until each life has ended: a round of all tracks.
use Rattle.std.proofs.Common.{◌≡◌, inl, inr, ℕ, suc, ◌+◌, ◌^◌, ◌≤◌, ◌<◌, ◌==◌, ◌&&◌, ◌||◌, not, Bool, true, false, true≢false, All, length, refl, sym, ◌∙◌, arith}
use Rattle.af_enough_law.proofs.Common.{LegalRound, Life, Marks, RoundSeen, Run, Session, Setting, after_round, is_over, plays, setup_of, spec_of, track_at, track_count}
use Rattle.af_enough_law.proofs.Courses.{stage, is_heard}
use Rattle.af_enough_law.proofs.NormalRounds.{TurnMade}
use Rattle.af_enough_law.proofs.Carrying.{Carried, carried_on}
use Rattle.af_enough_law.proofs.Coursing.{course_plays}
use Rattle.af_enough_law.proofs.Ends.{silent}
use Rattle.af_enough_law.proofs.NearEnds.{Near, ended, living, GivesRound, near_round, near_over}
use Rattle.af_enough_law.proofs.NearGives.{out_stopped}
use Rattle.af_enough_law.proofs.Nearing.{TrackRound, BlockKept, reports}
use Rattle.af_enough_law.proofs.NearSums.{IsPortion}
use Rattle.af_enough_law.proofs.PipeKept.{PipeKept, IsSized, pipe_round}
use Rattle.af_enough_law.proofs.RemoveRounds.{told_three}
use Rattle.af_enough_law.proofs.TrackGives.{gives_round}

-- All is carried; while some track is to be heard the pipe has room; and at most so many rounds are left of each life
pub record Middle (s : Session) (run : Run) (most total q full : ℕ → ℕ) (n : ℕ) : Type 0 where
  pub carried : Carried s run most total
  pub pipe : (i : ℕ) → i < track_count s → plays (track_at run.normal.tracks i).life ≡ true → PipeKept s run
  pub near : (i : ℕ) → i < track_count s → Near s run i (q i) (full i) (total i) n

-- if no round is left, all lives have ended
pub middle_over : (s : Session) (run : Run) (most total q full : ℕ → ℕ) → Middle s run most total q full 0 → (i : ℕ) → i < track_count s → (track_at run.normal.tracks i).life.ended ≡ true
middle_over s run most total q full m i named = by (m.near i named)
  where
    by : Near s run i (q i) (full i) (total i) 0 → (track_at run.normal.tracks i).life.ended ≡ true
    by (ended e) = e
    by (living kept near) = near_over run i (q i) (full i) (total i) near

three_out : (told n : ℕ) → told ≡ 3 → n ≡ 3 → is_heard told n ≡ false
three_out told n a b = λ j. (a j == 2) || ((a j == 3) && not (b j == 3))

-- a track that is to be heard after a round was to be heard before it, once it was started
heard_back : (cut : Bool) (s : Session) (marks : Marks) (run : Run) (round : RoundSeen) (i : ℕ) (t : TurnMade s marks run round) (legal : LegalRound cut s marks run round) (N base : ℕ) (kept : BlockKept run i N base) (r : TrackRound s marks run round i t) → (track_at run.normal.tracks i).life.ended ≡ false
    → plays (track_at (after_round s run round).normal.tracks i).life ≡ true → plays (track_at run.normal.tracks i).life ≡ true
heard_back cut s marks run round i t legal N base kept r alive heard = by (plays (track_at run.normal.tracks i).life) refl
  where
    l : Life
    l = (track_at run.normal.tracks i).life

    after : Life
    after = (track_at (after_round s run round).normal.tracks i).life

    going : (b : Bool) → (track_at (after_round s run round).normal.tracks i).life.ended ≡ b → (track_at (after_round s run round).normal.tracks i).life.ended ≡ false
    going true e = absurd (true≢false (sym heard ∙ silent (track_at (after_round s run round).normal.tracks i).life e))
    going false e = e

    out : stage (track_at run.normal.tracks i).life ≡ 3 → ⊥
    out three =
        let lives = going (track_at (after_round s run round).normal.tracks i).life.ended refl in
        elim (reports cut s marks run round i t legal N base kept r alive (omega (arith, three))) as (λ _. ⊥) [
          | inl over ↦ true≢false (sym over ∙ lives)
          | inr far ↦
              let still = far.2 (omega (arith, three)) in
              let told = told_three r.gone.after.count r.gone.after.told (track_at (after_round s run round).normal.tracks i).life r.gone.after.follows.course lives (omega (arith, still)) in
              true≢false (sym heard ∙ course_plays r.gone.after.count r.gone.after.told (track_at (after_round s run round).normal.tracks i).life r.gone.after.follows.course ∙ three_out r.gone.after.told (stage (track_at (after_round s run round).normal.tracks i).life) told still)
        ]

    by : (b : Bool) → plays (track_at run.normal.tracks i).life ≡ b → plays (track_at run.normal.tracks i).life ≡ true
    by true is = is
    by false is =
        let settled = r.on.follows.settled in
        let started = kept.started in
        absurd (out (out_stopped r.on.count r.on.told (track_at run.normal.tracks i).life (omega (arith, settled, started)) r.on.follows.course is alive))

-- A legal round that is followed by another one leaves one round less, if each track has two retries before it and not all is over after it
pub middle_round : (s : Session) (marks : Marks) → All (λ (x : Setting). x.scale ≤ 4096) (setup_of s).settings → length (setup_of s).settings ≡ track_count s → s.script.normal ≤ 16 → IsSized s → ((i : ℕ) → i < track_count s → marks.commands i ≡ true) → (most total q full : ℕ → ℕ)
    → ((i : ℕ) → i < track_count s → IsPortion s i (q i) (full i)) → ((i : ℕ) → i < track_count s → total i < (spec_of s i).base + 2 ^ 32) → (run : Run) (round next : RoundSeen) (n : ℕ)
    → LegalRound false s marks run round → LegalRound false s marks (after_round s run round) next → ((i : ℕ) → i < track_count s → 2 ≤ (track_at run.normal.tracks i).life.retries) → is_over (after_round s run round).normal.tracks ≡ false
    → Middle s run most total q full (suc n) → Middle s (after_round s run round) most total q full n
middle_round s marks scales long small sizes lawful most total q full portions under run round next n legal legal_next two over m = record {
  carried = carried_on s marks scales long lawful run round next most total legal legal_next two over m.carried;
  pipe = λ i named heard. pipe_round s marks scales long run round legal m.carried.session sizes (m.pipe i named (was_heard i named heard (m.near i named))) i heard;
  near = λ i named. near_round false s marks run round i (q i) (full i) (total i) n (portions i named) (under i named) (gives i named) (m.near i named);
}
  where
    gives : (i : ℕ) → i < track_count s → GivesRound false s marks run round i
    gives i named = gives_round s marks scales long small sizes run round legal m.carried.session next legal_next i (most i) (total i) named (lawful i named) (two i named) (m.carried.tracks i named) (m.pipe i named)

    was_heard : (i : ℕ) → i < track_count s → plays (track_at (after_round s run round).normal.tracks i).life ≡ true → Near s run i (q i) (full i) (total i) (suc n) → plays (track_at run.normal.tracks i).life ≡ true
    was_heard i named heard (ended e) = absurd (true≢false (sym heard ∙ silent (track_at (after_round s run round).normal.tracks i).life ((gives i named).stays e)))
    was_heard i named heard (living kept near) = by (track_at run.normal.tracks i).life.ended refl
      where
        by : (b : Bool) → (track_at run.normal.tracks i).life.ended ≡ b → plays (track_at run.normal.tracks i).life ≡ true
        by true e = absurd (true≢false (sym heard ∙ silent (track_at (after_round s run round).normal.tracks i).life ((gives i named).stays e)))
        by false alive = let g = gives i named in heard_back false s marks run round i g.made legal (spec_of s i).frames (spec_of s i).base kept (g.goes alive kept) alive heard
