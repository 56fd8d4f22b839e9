-- The life that a turn leaves of a track that lived: that of its commands and its report.
use Rattle.std.proofs.Common.{◌≡◌, ◌⊎◌, ℕ, ◌≤◌, ◌<◌, if◌then◌else◌, Bool, true, false, true≢false, Option, length, refl, sym, ap, ◌∙◌, subst, arith}
use Rattle.af_enough_law.proofs.Common.{GoesOn, IsServed, Learnt, Life, NormalKept, Outside, Setup, TrackKept, Turn, after_part, by_report, heard, learnt, nothing_seen, plays, ready, ready_life, report_ends, track_at, track_in, turn_after, words_taken}
use Rattle.af_life.specs.Obeys.{commanded}
use Rattle.af_enough_law.proofs.TrackTurns.{attended, TrackTurned}
use Rattle.af_enough_law.proofs.Able.{commanded_keeps}
use Rattle.af_enough_law.proofs.Following.{greeted_in, greeted_alike, edited_alike, legal_greeted, by_true}
use Rattle.af_enough_law.proofs.SentPlain.{plain_words, InPlay, commanded_in, stays_in}
use Rattle.af_enough_law.proofs.Served.{track_turned}

module _ (c : Setup) (k : Learnt) (m : NormalKept) (e : Turn) (i : ℕ) (lt : i < length m.tracks) (runs : e.ended ≡ false) where
  abbrev g : TrackKept
  g = greeted_in m e i

  abbrev t : TrackTurned c k m e i
  t = track_turned c k m e i lt runs

  abbrev told_life : Life
  told_life = (commanded t.given (heard k i g).flush_seen (track_in e i).looks (ready k i g)).life

  part_life : (given : Option ℕ) (s : TrackKept) (b : Bool) → b ≡ false → (if b then s else after_part given (heard k i s) (track_in e i).looks (ready k i s)).life ≡ by_report (heard k i s).known (commanded given (heard k i s).flush_seen (track_in e i).looks (ready k i s)).life
  unfolding after_part
  part_life given s true alive = absurd (true≢false alive)
  part_life given s false alive = refl

  pub life_turned : g.life.ended ≡ false → (track_at (turn_after c k m e).tracks i).life ≡ by_report (heard k i g).known told_life
  life_turned alive =
      let at : TrackKept = attended t.given k i (track_in e i).looks g in
      ap (λ (x : TrackKept). x.life) t.after ∙ (edited_alike (k.own i) at t.edited t.edit).life ∙ part_life t.given g g.life.ended alive

  -- a track that hears that its stream is shut has ended
  pub shut_turned : g.life.ended ≡ false → (heard k i g).known.shut ≡ true → (track_at (turn_after c k m e).tracks i).life.ended ≡ true
  shut_turned alive shut = ap (λ (l : Life). l.ended) (life_turned alive) ∙ report_ends (heard k i g).known told_life shut

  -- a track that goes on doesn't hear that its server is shut, if what it heard would be open once its life had ended
  pub unshut_turned : ((track_at (turn_after c k m e).tracks i).life.ended ≡ true → (heard k i g).known.shut ≡ false) → g.life.ended ≡ false → (heard k i g).known.shut ≡ false
  unshut_turned unless alive = by (heard k i g).known.shut refl
    where
      by : (b : Bool) → (heard k i g).known.shut ≡ b → (heard k i g).known.shut ≡ false
      by false is = is
      by true is = unless (shut_turned alive is)

  -- a track that plays, takes plain words and hears that its stream is open plays on, or has ended
  pub in_turned : g.life.ended ≡ false → (heard k i g).known.shut ≡ false → plain_words (words_taken (track_in e i).looks) ≡ true → InPlay g.life → 2 ≤ g.life.retries
      → ((track_at (turn_after c k m e).tracks i).life.ended ≡ true) ⊎ (plays (track_at (turn_after c k m e).tracks i).life ≡ true)
  in_turned alive unshut plain play two =
      let same = ready_life k i g in
      let retries = ap (λ (l : Life). l.retries) same in
      let there : InPlay told_life = commanded_in t.given (heard k i g).flush_seen (track_in e i).looks (ready k i g) plain (subst InPlay (sym same) play) in
      let left = commanded_keeps 2 (omega arith) t.given (heard k i g).flush_seen (track_in e i).looks (ready k i g) (omega (arith, retries, two)) in
      subst (λ (l : Life). (l.ended ≡ true) ⊎ (plays l ≡ true)) (sym (life_turned alive)) (stays_in (heard k i g).known told_life unshut there left)

-- the entry of a turn says nothing of a track that had ended
pub ended_unseen : (c : Setup) (o : Outside) (m : NormalKept) (e : Turn) (i : ℕ) → i < length m.tracks → e.ended ≡ false → GoesOn c o m e → (track_at m.tracks i).life.ended ≡ true → track_in e i ≡ nothing_seen
ended_unseen c o m e i lt runs goes over =
    let t : TrackTurned c (learnt o) m e i = track_turned c (learnt o) m e i lt runs in
    let g : TrackKept = greeted_in m e i in
    by_true (track_in e i ≡ nothing_seen) (IsServed t.given (heard (learnt o) i g) (track_in e i) (ready (learnt o) i g)) g.life.ended
    (ap (λ (l : Life). l.ended) (greeted_alike e.ack m.last (track_at m.tracks i)).life ∙ over) (legal_greeted c o m e i lt goes t)
