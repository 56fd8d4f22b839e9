-- What is kept of the tracks of a run follows the calls of a round.
use Rattle.std.proofs.Common.{◌≡◌, ℕ, ◌<◌, List, length, Option, arith, sym, subst, ◌∙◌}
use Rattle.af_audit.proofs.Common.{IsServedTrack, IsTrackAt, IsTrackOf, KeepsTracks, Marks, RoundSeen, Run, Session, TrackJudge, called_in_turn, calls_in, each_long, keeps_of, sides_of, slice_index_or, spec_of, there_is, told_at, told_each, turn_told, with_calls}
use Rattle.af_judge.proofs.ServedCalls.{track_called}
use Rattle.af_audit.specs.RunKept.{AreSides, CallsJudged, AreFit, LeastBelow}
use Rattle.af_audit.proofs.Words.{IsLegalCaller}

-- the track of a number once all clients made their calls
pub told_called : (round : RoundSeen) (run : Run) (n : ℕ) → n < length run.tracks → told_at (with_calls round run) n ≡ called_in_turn (calls_in round n) (told_at run n)
unfolding with_calls
told_called round run n lt = told_each (λ track t. called_in_turn (calls_in round track) t) run n lt

pub calls_long : (round : RoundSeen) (run : Run) → length (with_calls round run).tracks ≡ length run.tracks
unfolding with_calls
calls_long round run = each_long (λ track t. called_in_turn (calls_in round track) t) 0 run.tracks

module _ (s : Session) (marks : Marks) (run : Run) (round : RoundSeen) (tracks after : List TrackJudge) (found : Option ℕ) where
  -- the sides of each track as its client finds them are kept
  sides : KeepsTracks s marks (λ i. Unit {0}) tracks run → AreFit s run → AreSides s.script.tracks s.files tracks (λ i. sides_of (told_at run i))
  sides keeps files = record {
    file = λ i lt. (files i (let all = keeps.all in omega (arith, lt, all))).file;
    kept = λ i t at. keeps_of (spec_of s i).ops t (told_at run i) (keeps.whole i t at tt);
  }

  -- each track is kept as it was served, and whole if its client's turn was legal; and the least client is found whose turn wasn't legal
  pub calls_follow : KeepsTracks s marks (λ i. Unit {0}) tracks run → AreFit s run → length after ≡ length tracks
      → CallsJudged (length tracks) s.script.tracks s.files (calls_in round) tracks after found → KeepsTracks s marks (IsLegalCaller run round) after (with_calls round run)
  calls_follow keeps files many judged = record {
    many = many ∙ (keeps.many ∙ sym (calls_long round run));
    all = many ∙ keeps.all;
    served = λ n k at. let lt = within n k at in
        subst (IsServedTrack marks n k) (sym (told n lt)) (track_called marks n (slice_index_or tracks n k) k (told_at run n) (calls_in round n) (keeps.served n (slice_index_or tracks n k) (before n k lt)) (judged.servers n (slice_index_or tracks n k) k lt (before n k lt) at));
    whole = λ n k at legal. let lt = within n k at in
        subst (IsTrackOf (spec_of s n).ops k) (sym (told n lt)) (turn_told (spec_of s n).ops (slice_index_or tracks n k) k (told_at run n) (calls_in round n) (keeps.whole n (slice_index_or tracks n k) (before n k lt) tt)
        (judged.kept (λ i. sides_of (told_at run i)) (sides keeps files) n k lt at legal) (judged.servers n (slice_index_or tracks n k) k lt (before n k lt) at));
  }
    where
      within : (n : ℕ) (k : TrackJudge) → IsTrackAt after n k → n < length tracks
      within n k at = let a = at.0 in omega (arith, a, many)

      before : (n : ℕ) (k : TrackJudge) → n < length tracks → IsTrackAt tracks n (slice_index_or tracks n k)
      before n k lt = there_is tracks n k lt

      told : (n : ℕ) → n < length tracks → told_at (with_calls round run) n ≡ called_in_turn (calls_in round n) (told_at run n)
      told n lt = told_called round run n (let m = keeps.many in omega (arith, lt, m))

  pub caller_found : KeepsTracks s marks (λ i. Unit {0}) tracks run → AreFit s run → CallsJudged (length tracks) s.script.tracks s.files (calls_in round) tracks after found → LeastBelow (IsLegalCaller run round) (length tracks) found
  caller_found keeps files judged = judged.turns (λ i. sides_of (told_at run i)) (sides keeps files)
