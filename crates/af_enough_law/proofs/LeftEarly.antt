-- Whether a track is to be heard, by where its proxy is.
use Rattle.std.proofs.Common.{◌≡◌, ℕ, ◌≤◌, ◌<◌, if◌then◌else◌, is_some, Bool, true, false, true≢false, All, length, refl, sym, ap, ◌∙◌, arith}
use Rattle.af_enough_law.proofs.Common.{LegalRound, Lent, Marks, NormalKept, Returning, RoundSeen, Run, Session, Setting, TrackKept, after_round, is_home, is_lent, learnt, plays, setup_of, track_at, track_count, turn_after, turn_len}
use Rattle.af_enough_law.proofs.Carried.{SessionStands}
use Rattle.af_enough_law.proofs.Drafts.{next_holder, holder_turned}
use Rattle.af_enough_law.proofs.NormalRounds.{TurnMade}
use Rattle.af_enough_law.proofs.Generations.{greeted_lent, lent_plays}
use Rattle.af_enough_law.proofs.HomeRounds.{IsNamed}
use Rattle.af_enough_law.proofs.Lending.{lent_now}
use Rattle.af_enough_law.proofs.SessionRounds.{turn_of, turn_runs}

module _ (s : Session) (marks : Marks) (scales : All (λ (x : Setting). x.scale ≤ 4096) (setup_of s).settings) (long : length (setup_of s).settings ≡ track_count s) (run : Run) (round : RoundSeen) (legal : LegalRound false s marks run round) (c : SessionStands s run) (i : ℕ) (named : i < track_count s) where
  abbrev t : TurnMade s marks run round
  t = turn_of s marks scales long run round legal c

  goes : t.turn.ended ≡ false
  goes = turn_runs s marks scales long run round legal c

  abbrev after : Run
  after = after_round s run round

  there : i < length run.normal.tracks
  there = let a = c.kept in omega (arith, a, named)

  pub named_by : marks.commands i ≡ true → IsNamed s marks run i
  named_by lawful = record { low = (let a = c.tracks in omega (arith, a, named)); named = named; there = there; lawful = lawful }

  -- the track is there after the round
  pub many_then : i < length after.normal.tracks
  many_then = let a = ap (λ (m : NormalKept). length m.tracks) t.after in let b = turn_len (setup_of s) (learnt t.by.outside) run.normal t.turn in let d = there in omega (arith, a, b, d)

  -- a track whose proxy is lent is to be heard
  pub lent_heard : is_home (track_at run.normal.tracks i).holder ≡ true → (track_at after.normal.tracks i).holder ≡ Lent → plays (track_at after.normal.tracks i).life ≡ true
  lent_heard home lent = (lent_now s marks scales long run round legal c i named home lent).lending.heard

  pub still_heard : (track_at run.normal.tracks i).holder ≡ Lent → (track_at after.normal.tracks i).holder ≡ Lent → plays (track_at after.normal.tracks i).life ≡ true
  still_heard lent stays = ap (λ (m : NormalKept). plays (track_at m.tracks i).life) t.after ∙ lent_plays (setup_of s) (learnt t.by.outside) run.normal t.turn i there goes lent (ap (λ (m : NormalKept). (track_at m.tracks i).holder) (sym t.after) ∙ stays)

  left_by : (b : Bool) → is_lent (if b then Lent else Returning) ≡ false → b ≡ false
  left_by true e = absurd (true≢false e)
  left_by false e = refl

  -- a track that takes its proxy back isn't to be heard
  pub left_silent : (track_at run.normal.tracks i).holder ≡ Lent → is_lent (track_at after.normal.tracks i).holder ≡ false → plays (track_at after.normal.tracks i).life ≡ false
  left_silent lent leaves =
      let u : TrackKept = track_at (turn_after (setup_of s) (learnt t.by.outside) run.normal t.turn).tracks i in
      let is : u.holder ≡ (if plays u.life then Lent else Returning) = holder_turned (setup_of s) (learnt t.by.outside) run.normal t.turn i there goes ∙ ap (next_holder (plays u.life) (is_some u.slot)) (greeted_lent t.turn.ack run.normal.last (track_at run.normal.tracks i) lent) in
      ap (λ (m : NormalKept). plays (track_at m.tracks i).life) t.after ∙ left_by (plays u.life) (ap is_lent (sym is) ∙ ap (λ (m : NormalKept). is_lent (track_at m.tracks i).holder) (sym t.after) ∙ leaves)

  pub left_back : (track_at run.normal.tracks i).holder ≡ Lent → is_lent (track_at after.normal.tracks i).holder ≡ false → (track_at after.normal.tracks i).holder ≡ Returning
  left_back lent leaves =
      let u : TrackKept = track_at (turn_after (setup_of s) (learnt t.by.outside) run.normal t.turn).tracks i in
      let is : u.holder ≡ (if plays u.life then Lent else Returning) = holder_turned (setup_of s) (learnt t.by.outside) run.normal t.turn i there goes ∙ ap (next_holder (plays u.life) (is_some u.slot)) (greeted_lent t.turn.ack run.normal.last (track_at run.normal.tracks i) lent) in
      let silent : plays u.life ≡ false = ap (λ (m : NormalKept). plays (track_at m.tracks i).life) (sym t.after) ∙ left_silent lent leaves in
      ap (λ (m : NormalKept). (track_at m.tracks i).holder) t.after ∙ is ∙ ap (λ (b : Bool). if b then Lent else Returning) silent
