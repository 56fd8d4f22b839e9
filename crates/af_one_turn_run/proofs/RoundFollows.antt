-- What each round of a turn run keeps, and what is told at its end.
use Rattle.std.proofs.Common.{◌≡◌, ℕ, ◌+◌, ◌<◌, MatchOption, fold, List, [], ◌∷◌, length, Option, Some, None, refl, sym, ◌∙◌, subst, arith}
use Rattle.af_one_turn_run.proofs.Common.{BlockTold, EntrySeen, IsHistoryAsTold, IsLegal, IsPipeAsTold, IsQueueAsTold, IsReportAsTold, IsRound, IsScript, IsTurn, Legal, PipeTold, RoundSeen, Run, RunKept, SameNormal, Session, Turn, TurnSpec, after, calls_alone, cycle_alone, cycle_frames, ends_same, found_before, kept_beside, kept_turn, load_same, loaded, made_alone, met, met_alone, met_same, pipe_size, setup_of, start, taken_of, told_at, track_count, turned, with_ends, with_load, with_turn, ends_blocks}
use Rattle.af_model.specs.PipeHistory as piped
use Rattle.af_script.specs.declared.op.TurnSpec.TheVariants as makes
use Rattle.af_one_turn_run.proofs.Growing.{IsCounted}
use Rattle.af_one_turn_run.proofs.Taking.{IsTakenOf, HasFrames}
use Rattle.af_one_turn_run.proofs.Told.{IsToldLegally}
use Rattle.af_one_turn_run.proofs.OneFast.{AreForms, cycles_follow, cycle_normal}
use Rattle.af_one_turn_run.proofs.OneTurn.{IsBlockTold}
use Rattle.af_one_turn_run.proofs.RunFollows.{Follows, follows_not, follows_then, calls_follow, met_follows, ends_follow, turn_follows}
use Rattle.af_one_turn_run.proofs.TakenWords.{from_base}

-- ## What a history as told says

pub told_legally : (b : BlockTold) → IsHistoryAsTold b → IsToldLegally b
told_legally b h = subst (λ l. IsLegal (start b.shape) l) h.1 h.0.legal

pub told_taken_of : (b : BlockTold) → IsHistoryAsTold b → IsTakenOf b.released b
told_taken_of b h = subst (λ l. taken_of b.released b.shape l ≡ b.taken) h.1 h.0.taken_is

pub told_frames : (b : BlockTold) → IsHistoryAsTold b → HasFrames b.released b.shape.base (after (start b.shape) b.told)
told_frames b h =
    let is : (after (start b.shape) b.told).released ≡ b.shape.base + length b.released = subst (λ l. (after (start b.shape) l).released ≡ b.shape.base + length b.released) h.1 h.0.released_is in
    record { places = from_base b.shape b.told; within = omega (arith, is) }

pub pipe_legal : (size : ℕ) (p : PipeTold) → IsPipeAsTold size p → Legal (piped.legal_in_pipe size) piped.next_in_pipe piped.start_of_pipe p.told
pipe_legal size p h = subst (Legal (piped.legal_in_pipe size) piped.next_in_pipe piped.start_of_pipe) h.1 h.0.history.is_legal

-- ## A round

-- how a run stands before a round
pub record RoundReady (s : Session) (many : ℕ) (run : Run) : Type 0 where
  pub tracks : length run.tracks ≡ many
  pub count : many ≡ track_count s
  pub kept : RunKept s run
  pub counted : (n : ℕ) → n < many → IsCounted (told_at run n).stream
  pub commands : (n : ℕ) → n < many → IsHistoryAsTold (told_at run n).commands

-- how a run stands after the meetings of a round: each stream block is told right, with the frames of its file
pub record RoundTold (s : Session) (many : ℕ) (frames : ℕ → List ℕ) (last : Run) : Type 0 where
  pub streams : (n : ℕ) → n < many → IsBlockTold (frames n) (told_at last n).stream
  pub commands : (n : ℕ) → n < many → IsHistoryAsTold (told_at last n).commands
  pub queue : IsQueueAsTold (cycle_frames s) last.queue
  pub report : IsReportAsTold last.report
  pub pipe : IsPipeAsTold (pipe_size (setup_of s)) last.pipe

-- the form of a round
pub record RoundForm (many : ℕ) (round : RoundSeen) : Type 0 where
  pub form : IsRound many round
  pub entries : AreForms round.entries

module _ (s : Session) (form : IsScript s.script) (many : ℕ) where
  -- the turn of the one party goes on with the run
  pub made_follows : (run : Run) (turn : TurnSpec) (round : RoundSeen) → RoundForm many round → Follows run (made_alone s run turn round)
  made_follows run (makes.Client track) round is = calls_follow track round run
  made_follows run makes.Normal round is = by_turn round.turn is.form.turn
    where
      by_turn : (o : Option Turn) → MatchOption o (Unit {0}) (IsTurn many) → Follows run (loaded o (turned s (found_before s run []) o run))
      by_turn None is = follows_not run
      by_turn (Some e) is = turn_follows s (found_before s run [] e) e many run is
  made_follows run (makes.Fast cycles) round is = cycles_follow s run round.entries is.entries

  cycles_kept : (entries : List EntrySeen) (run : Run) → RunKept s run → RunKept s (fold (cycle_alone s) run entries)
  cycles_kept [] run h = h
  cycles_kept (e ∷ entries) run h = cycles_kept entries (cycle_alone s run e) (kept_beside s run (cycle_alone s run e) (cycle_normal s run e) h)

  calls_normal : (track : ℕ) (round : RoundSeen) (run : Run) → SameNormal run (calls_alone track round run)
  calls_normal track round run = record { normal = refl; states = refl }

  made_kept : (run : Run) (turn : TurnSpec) (round : RoundSeen) → RoundForm many round → RunKept s run → RunKept s (made_alone s run turn round)
  made_kept run (makes.Client track) round is h = kept_beside s run (calls_alone track round run) (calls_normal track round run) h
  made_kept run makes.Normal round is h = by_turn round.turn is.form.turn
    where
      by_turn : (o : Option Turn) → MatchOption o (Unit {0}) (IsTurn many) → RunKept s (loaded o (turned s (found_before s run []) o run))
      by_turn None is = h
      by_turn (Some e) is = let after_is = with_turn s (found_before s run [] e) e run in kept_beside s after_is (with_load e after_is) (load_same e after_is) (kept_turn s form (found_before s run [] e) many e run is h)
  made_kept run (makes.Fast cycles) round is h = cycles_kept round.entries run h

  -- the meetings go on with the run
  pub met_alone_follows : (run : Run) (turn : TurnSpec) (round : RoundSeen) → RoundForm many round → Follows run (met_alone s run turn round)
  met_alone_follows run turn round is = follows_then run (made_alone s run turn round) (met_alone s run turn round) (made_follows run turn round is) (met_follows s (made_alone s run turn round))

  -- the whole round goes on with the run
  pub round_follows : (run : Run) (turn : TurnSpec) (round : RoundSeen) → RoundForm many round → Follows run (with_ends (met_alone s run turn round))
  round_follows run turn round is = follows_then run (met_alone s run turn round) (with_ends (met_alone s run turn round)) (met_alone_follows run turn round is) (ends_follow (met_alone s run turn round))

  -- after a round that is told all is ready for the next one
  pub round_ready : (frames : ℕ → List ℕ) (run : Run) (turn : TurnSpec) (round : RoundSeen) → RoundForm many round → RoundReady s many run → ((n : ℕ) → n < many → IsHistoryAsTold (told_at (met_alone s run turn round) n).commands) → RoundReady s many (with_ends (met_alone s run turn round))
  round_ready frames run turn round is h told =
      let made = made_alone s run turn round in
      let last = met s made in
      let f = round_follows run turn round is in
      let g = met_alone_follows run turn round is in
      record {
        tracks = f.long ∙ h.tracks;
        count = h.count;
        kept = kept_beside s last (with_ends last) (ends_same last) (kept_beside s made last (met_same s made) (made_kept run turn round is h.kept));
        counted = λ n low. f.counted n (let t = h.tracks in omega (arith, t, low)) (h.counted n low);
        commands = λ n low. subst IsHistoryAsTold (sym (ends_blocks last n (let l = g.long in let t = h.tracks in omega (arith, l, t, low))).1) (told n low);
      }
