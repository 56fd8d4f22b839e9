-- What is kept of a run between two rounds, so that its next round is one of a turn run: each round of which the lists have histories keeps it.
use Rattle.std.proofs.Common.{◌≡◌, ℕ, ◌<◌, ◌≤◌, [], Bool, true, false, fold, length, All, Option, Some, None, refl, sym, subst, arith}
use Rattle.af_render_law.proofs.Common.{All-get_or, FindsShutUnseen, HaveHistories, IsMadeBy, IsScript, IsTrack, Marks, RoundSeen, Run, Session, Setting, Turn, TurnSpec, all_find, cycle_alone, found_before, loaded, made_alone, met, met_alone, new_run, new_told_track, no_spec, pushed_in, setup_of, takes_part, told_at, track_count, turned, turns_new, with_ends}
use Rattle.std.proofs.lemmas.List.FromFn.{length-map-range_with_len}
use Rattle.af_model.specs.ClientCalls as list
use Rattle.af_script.specs.declared.op.TurnSpec.TheVariants as makes
use Rattle.af_audit.proofs.FatesTold.{told_new}
use Rattle.af_turn_law.proofs.RunShared.{SharedDone, shared_rest, shared_mixed, shared_cycles}
use Rattle.af_turn_law.proofs.TurnActs.{acts}
use Rattle.af_turn_law.proofs.TurnsForced.{TurnsReady, turn_by, queue_told, round_forced, legal_alone}
use Rattle.af_render_law.proofs.RunCalm.{RunCalm, AllOpen, run_calm_met, run_calm_ends, open_ends, run_calm_calls, run_calm_cycles, run_calm_turned}
use Rattle.af_told_law.proofs.TakesRise.{turn_rises}
use Rattle.af_render_law.proofs.TrackCalm.{TrackCalm, IsOpenStream, stream_open}

-- all that is kept between two rounds
pub record TameReady (s : Session) (run : Run) : Type 0 where
  pub turns : TurnsReady s run
  pub calm : RunCalm s run
  pub is_open : AllOpen run

module _ (s : Session) (marks : Marks) (scales : All (λ (x : Setting). x.scale ≤ 4096) (setup_of s).settings) where
  -- the servers of stream blocks that are tame so far are open after the meetings
  all_open : (run : Run) → RunCalm s run → HaveHistories s run → AllOpen run
  all_open run calm h n low = by_part (takes_part s run n) refl
    where
      by_part : (b : Bool) → takes_part s run n ≡ b → IsOpenStream (told_at run n)
      by_part true is = λ tame. stream_open (takes_part s run n) (told_at run n) (calm.tracks n low) ((h.blocks n (let m = calm.many in omega (arith, low, m))).stream is tame)
      by_part false is = (calm.tracks n low).unshut is

  -- of a track that a turn finds shut as its stream proxy comes home, the client has not seen INVALID
  abbrev pub Unseen : Run → RoundSeen → Type 0
  Unseen run round = (e : Turn) → round.turn ≡ Some e → FindsShutUnseen s run (found_before s run [] e) e

  calm_made : (run : Run) (turn : TurnSpec) (round : RoundSeen) → TameReady s run → IsMadeBy s marks run turn round → HaveHistories s (met_alone s run turn round) → Unseen run round → RunCalm s (made_alone s run turn round)
  calm_made run (makes.Client track) round h made histories unseen = run_calm_calls s track round run made.3 h.calm
  calm_made run (makes.Fast cycles) round h made histories unseen =
      let last = fold (cycle_alone s) run round.entries in
      let shared : SharedDone last = shared_mixed last (shared_cycles s round.entries run (shared_rest run h.turns.shared)) in
      run_calm_cycles s marks round.entries run (pushed_in s run.queue) (all_find s round.entries run (pushed_in s run.queue) refl (queue_told s marks scales last shared histories)) (legal_alone s marks scales run cycles round made) h.is_open h.calm
  calm_made run makes.Normal round h made histories unseen = by_turn round.turn refl
    where
      by_turn : (o : Option Turn) → round.turn ≡ o → RunCalm s (loaded o (turned s (found_before s run []) o run))
      by_turn None is = h.calm
      by_turn (Some e) is =
          let legal = turn_by s marks scales run round e is made.2 in
          run_calm_turned s marks e run (turn_rises (setup_of s) legal.outside run.normal e legal.legal) legal (acts s marks run (found_before s run [] e) e scales legal h.turns.normal (unseen e is)) h.is_open h.calm

  pub round_tame : (run : Run) (turn : TurnSpec) (round : RoundSeen) → TameReady s run → IsMadeBy s marks run turn round → HaveHistories s (met_alone s run turn round) → Unseen run round → TameReady s (with_ends (met_alone s run turn round))
  round_tame run turn round h made histories unseen =
      let m = made_alone s run turn round in
      let calm = run_calm_met s m (calm_made run turn round h made histories unseen) in
      record {
        turns = (round_forced s marks scales run turn round h.turns made histories unseen).1;
        calm = run_calm_ends s (met s m) calm;
        is_open = open_ends (met s m) (all_open (met s m) calm histories);
      }

-- what is kept before the first round
pub tame_new : (s : Session) → IsScript s.script → TameReady s (new_run s)
tame_new s script = record {
  turns = turns_new s;
  calm = record { many = many; tracks = λ n low. subst (TrackCalm (takes_part s (new_run s) n)) (sym (told_new s n (there n low))) (new_calm n (there n low) (takes_part s (new_run s) n)) };
  is_open = λ n low. subst IsOpenStream (sym (told_new s n (there n low))) (λ tame. refl);
}
  where
    many : length (new_run s).tracks ≡ track_count s
    many = length-map-range_with_len (new_told_track s) 0 (track_count s)

    there : (n : ℕ) → n < length (new_run s).tracks → n < track_count s
    there n low = let m = many in omega (arith, low, m)

    new_calm : (n : ℕ) → n < track_count s → (part : Bool) → TrackCalm part (new_told_track s n)
    new_calm n low part = record {
      trim = record { rears = tt; tame = λ on. refl; shape = refl };
      client = record {
        spelled = record { stream = list.begins; commands = list.begins };
        stream = (let b = (All-get_or IsTrack s.script.tracks n no_spec low script.tracks).buffer in omega (arith, b.1));
        commands = omega arith;
      };
      unshut = λ off tame. refl;
    }
