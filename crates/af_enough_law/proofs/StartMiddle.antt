-- What a round leaves of a track whose START was settled before it: it starts to flow, or is on its way out, and has what makes its retries two at least.
use Rattle.std.proofs.Common.{◌≡◌, ◌⊎◌, inl, inr, ℕ, ◌+◌, ◌≤◌, ◌<◌, Bool, true, false, true≢false, All, None, List, length, refl, sym, ap, ◌∙◌, arith}
use Rattle.af_enough_law.proofs.Common.{LegalRound, Life, Marks, Op, RoundSeen, Run, Session, Setting, after_round, ends_part, is_lent, met_after, plays, setup_of, spec_of, takes_part, track_at, track_count}
use Rattle.af_enough_law.proofs.Basics.{course_long}
use Rattle.af_enough_law.proofs.Carried.{SessionCarried}
use Rattle.af_enough_law.proofs.Courses.{Course, absent, idle, playing, stopping, drained, stopped as stopped_life, over, stage}
use Rattle.af_enough_law.proofs.NormalRounds.{TurnMade}
use Rattle.af_enough_law.proofs.Playing.{way_ops, way_frames}
use Rattle.af_enough_law.proofs.Carrying.{TrackIs, slotless, lent, stopped, gone_over, lent_is}
use Rattle.af_enough_law.proofs.CourseGoes.{CourseGone}
use Rattle.af_enough_law.proofs.HomeKept.{home_fresh}
use Rattle.af_enough_law.proofs.HomeStill.{HasNone}
use Rattle.af_enough_law.proofs.LeftGoes.{left_gone}
use Rattle.af_enough_law.proofs.LeftRounds as left_round
use Rattle.af_enough_law.proofs.LentAble.{lent_fresh}
use Rattle.af_enough_law.proofs.LentFlows as lent_flows
use Rattle.af_enough_law.proofs.LentFlows.{LentGone, lent_gone}
use Rattle.af_enough_law.proofs.Lookahead.{ended_then}
use Rattle.af_enough_law.proofs.MiddleEnds.{TrackStarts}
use Rattle.af_enough_law.proofs.NearStarts.{starts_track}
use Rattle.af_enough_law.proofs.PipeKept.{IsSized}
use Rattle.af_enough_law.proofs.SessionRounds.{turn_of}
use Rattle.af_enough_law.proofs.StartCounts.{Counting, counting_round, known_start}
use Rattle.af_enough_law.proofs.StartLent.{retries_round}
use Rattle.af_enough_law.proofs.StartSends.{HasStarted}
use Rattle.af_enough_law.proofs.StoppedPlaces.{stopped_out}
use Rattle.af_enough_law.proofs.StoppedRounds.{place_gone}
use Rattle.af_enough_law.proofs.StoppedTracks.{stopped_gone}
use Rattle.af_enough_law.proofs.TakesAll.{CommandsMet}
use Rattle.af_enough_law.proofs.TrackAble as can
use Rattle.af_enough_law.proofs.TrackAble.{TrackAble}
use Rattle.af_enough_law.proofs.TrackGives.{home_parts, two_told}

-- a life that took two commands and isn't to be heard has ended, or was drained by its STOP
silent_ends : (count told : ℕ) (l : Life) → Course count told l → 2 ≤ told → plays l ≡ false → (l.ended ≡ true) ⊎ ((3 ≤ told) × (2 ≤ stage l))
silent_ends count told l absent two silent = absurd (let z : ⊥ = omega (arith, two) in z)
silent_ends count told l idle two silent = absurd (let z : ⊥ = omega (arith, two) in z)
silent_ends count told l (playing retries a b) two silent = absurd (true≢false silent)
silent_ends count told l (stopping retries) two silent = absurd (true≢false silent)
silent_ends count told l (drained retries) two silent = inr (omega arith, omega arith)
silent_ends count told l (stopped_life retries) two silent = inr (omega arith, omega arith)
silent_ends count told l (over life e) two silent = inl e

-- how a track starts, with what makes its retries two at least
pub record MiddleTrack (s : Session) (run : Run) (i : ℕ) (rest : List Op) : Type 0 where
  pub starts : TrackStarts s run i rest
  pub able : TrackAble run i

module _ (s : Session) (marks : Marks) (scales : All (λ (x : Setting). x.scale ≤ 4096) (setup_of s).settings) (long : length (setup_of s).settings ≡ track_count s) (small : s.script.normal ≤ 16) (sizes : IsSized s) (run : Run) (round : RoundSeen) (legal : LegalRound false s marks run round) (c : SessionCarried s run)
    (next : RoundSeen) (legal_next : LegalRound false s marks (after_round s run round) next) (i most total : ℕ) (named : i < track_count s) (lawful : marks.commands i ≡ true) (many : 23 ≤ (track_at run.normal.tracks i).life.retries)
    (rest : List Op) (most_is : most ≡ way_ops rest) (total_is : total ≡ (spec_of s i).base + way_frames rest) (counting : Counting run i (spec_of s i).frames (spec_of s i).base)
    (out : (track_at run.normal.tracks i).slot ≡ None → (track_at (after_round s run round).normal.tracks i).slot ≡ None → HasNone i (after_round s run round).normal.last) where
  abbrev t : TurnMade s marks run round
  t = turn_of s marks scales long run round legal c.stands

  abbrev after : Run
  after = after_round s run round

  two : 2 ≤ (track_at run.normal.tracks i).life.retries
  two = omega (arith, many)

  many_then : 22 ≤ (track_at after.normal.tracks i).life.retries
  many_then = retries_round s marks scales long run round legal c.stands i 22 named (omega arith) many

  two_then : 2 ≤ (track_at after.normal.tracks i).life.retries
  two_then = let a = many_then in omega (arith, a)

  ended_is : (track_at run.normal.tracks i).life.ended ≡ true → MiddleTrack s after i rest
  ended_is e = let gone = ended_then s marks scales long run round legal c i named e in record { starts = inl gone; able = can.gone (inl gone) two_then }

  -- a track that isn't to be heard after the round
  silent_is : (told : ℕ) (gone : CourseGone s marks run round i t told) → 2 ≤ told → plays (track_at after.normal.tracks i).life ≡ false → MiddleTrack s after i rest
  silent_is told gone some silent = by (silent_ends gone.after.count gone.after.told (track_at (after_round s run round).normal.tracks i).life gone.after.follows.course (let n = gone.next in omega (arith, n, some)) silent)
    where
      by : ((track_at (after_round s run round).normal.tracks i).life.ended ≡ true) ⊎ ((3 ≤ gone.after.told) × (2 ≤ stage (track_at (after_round s run round).normal.tracks i).life)) → MiddleTrack s (after_round s run round) i rest
      by (inl e) = record { starts = inl e; able = can.gone (inl e) two_then }
      by (inr at) =
          let settled = gone.after.follows.settled in
          let three = at.0 in
          let far = at.1 in
          let within = gone.after.within in
          let sent = ap (λ (ws : List ℕ). length ws) gone.after.released in
          let words = course_long gone.after.count 0 gone.after.sent in
          record {
            starts = inr (inr (record {
              kept = record {
                block = (counting_round s marks scales long run round legal c.stands i named lawful (spec_of s i).frames (spec_of s i).base counting).block;
                started = omega (arith, settled, three);
                known = known_start s marks scales long run round legal c.stands i named lawful counting.opens;
                met = λ alive low. absurd (let z : ⊥ = omega (arith, low, far) in z);
              };
              sent = omega (arith, within, sent, words, three);
              drained = far;
            }));
            able = can.gone (inr (omega (arith, settled, three))) two_then;
          }

  -- What each track is once its START is settled
  module _ (met : CommandsMet run i) where
    started_is : TrackIs s run i most total → 2 ≤ (track_at run.normal.tracks i).settled → MiddleTrack s after i rest
    started_is (slotless track never none) settled =
        let p = home_parts s marks scales long small sizes run round legal c next legal_next i most total named lawful two track never none in
        record {
          starts = inr (inl (starts_track false s marks run round i most total t legal p.turn p.part track two rest most_is total_is p.gone met counting.block settled));
          able = can.home p.slot_then (out none p.slot_then) (home_fresh after i most total p.gone.carried.stands many_then);
        }
    started_is (lent slot item track l) settled = by (is_lent (track_at after.normal.tracks i).holder) refl
      where
        by : (b : Bool) → is_lent (track_at (after_round s run round).normal.tracks i).holder ≡ b → MiddleTrack s (after_round s run round) i rest
        by true stays =
            let lends = lent_is (track_at after.normal.tracks i).holder stays in
            let gone : LentGone s marks run round i most total slot item t track.on.told = lent_gone s marks scales long run round legal c i most total named lawful track two slot item l lends in
            let part : takes_part s (met_after s run round) i ≡ true = sym (ends_part s (met_after s run round) i) ∙ lent_flows.part s marks scales long run round legal c i most total named lawful track two slot item l lends in
            record {
              starts = inr (inl (starts_track false s marks run round i most total t legal gone.open_is part track two rest most_is total_is gone.track met counting.block settled));
              able = can.lent slot gone.lent.slot_is gone.heard_of (lent_fresh after i slot most total gone.track.carried.stands many_then);
            }
        by false leaves =
            silent_is track.on.told (left_gone s marks scales long run round legal c i most total named lawful track slot item l leaves next legal_next two)
            (two_told s marks scales long small sizes run round legal c next legal_next track.on.count track.on.told (track_at run.normal.tracks i).life track.on.follows.course l.heard)
            (left_round.left s marks scales long run round legal c i most total named lawful track slot item l leaves next legal_next).0
    started_is (stopped slot item low' item_is slot_is z place) settled =
        let turn = (place_gone s marks scales long run round legal c i most total named lawful z two slot item low' item_is slot_is next legal_next place).turn in
        let course = stopped_gone s marks scales long run round legal c i most total named lawful z two turn in
        silent_is z.on.told course (let three = z.told in omega (arith, three)) (stopped_out s marks run round i most total t z turn course)
    started_is (gone_over h) settled = ended_is h.life

    pub middle_track : TrackIs s run i most total → HasStarted run i → MiddleTrack s after i rest
    middle_track is (inl e) = ended_is e
    middle_track is (inr settled) = started_is is settled
