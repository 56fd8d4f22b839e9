-- The rounds of a render are steps of the run that its journal tells, one after the other.
use Rattle.std.proofs.Common.{◌≡◌, ℕ, zero, suc, ◌+◌, ◌≤◌, Bool, true, false, MatchBool, List, [], ◌∷◌, Option, slice_get, length, drop, sym, ap, subst, ◌∙◌, refl, arith}
use Rattle.af_render_law.proofs.Common.{All, All-head, All-tail, AreRoundsMarked, ClientState, Cycle, CycleEntry, EntrySeen, Given, GrowsBy, IsFastTurn, IsRound, IsRoundMarked, IsTurn, Made, Marks, Met, NormalKept, NormalState, NormalTurned, Pushes, QueueKnown, Quiet, RoundNoted, RoundSeen, Run, ServerState, Session, SessionState, Setting, StandsBetween, StreamNames, Turn, TurnSpec, WritesCycle, all_asked, asked_by, clients_ended, cycle_frames, ends_keep, entries_grown, fast_round, found_before, given_of, is_mixed, known_same, length-append, loaded, made_alone, met_alone, normal_round, quiet_calls, quiet_cycles, quiet_ends, quiet_met, quiet_then, round_grows, round_marked, round_notes, round_small, rounds_seen, run_grows, setup_of, still_round, turned, with_ends}
use Rattle.af_runs.specs.Runs as run_of
use Rattle.af_script.specs.declared.op.TurnSpec.TheVariants as makes
use Rattle.af_session.specs.Rounds.{IsTurnRun, with_ends as with_ends_of}
use Rattle.af_render_law.proofs.AwayKnown.{KnowsAway, away_ends, knows_away}
use Rattle.af_render_law.proofs.Chain.{AreCounted, FastTurnIsAStep, Holds, NormalTurnIsAStep, StepIsTold, round_of}
use Rattle.af_render_law.proofs.OwnKept.{ToldBy}
use Rattle.af_render_law.proofs.StepTurns.{AreSteps}
use Rattle.af_render_law.proofs.InvalidKept.{invalid_round}
use Rattle.af_told_law.proofs.KnownSteps.{report_ends}
use Rattle.af_render_law.proofs.BetweenRounds.{client_stands, normal_stands, still_stands}
use Rattle.af_render_law.proofs.ClientRound.{client_step}
use Rattle.af_told_law.proofs.EntriesDealt.{first_dealt, rest_dealt}
use Rattle.af_render_law.proofs.StillRound.{fast_still, normal_still}
use Rattle.af_render_law.proofs.TameRounds.{round_tame}

-- ## Pushes

-- the normal mixer keeps the same of its pushes
abbrev SamePast : SessionState → SessionState → Type 0
SamePast x y = (y.normal.mutator.past.clear ≡ x.normal.mutator.past.clear) × (y.normal.mutator.past.before ≡ x.normal.mutator.past.before)

same_past : (x y : SessionState) → y.normal ≡ x.normal → SamePast x y
same_past x y same = (ap (λ (m : NormalState). m.mutator.past.clear) same, ap (λ (m : NormalState). m.mutator.past.before) same)

past_then : (x y z : SessionState) → SamePast x y → SamePast y z → SamePast x z
past_then x y z a b = (b.0 ∙ a.0, b.1 ∙ a.1)

cycle_past : (x y : SessionState) (answer : Cycle) (bytes : List ℕ) → WritesCycle x answer bytes y → SamePast x y
cycle_past x y answer bytes w =
    let same : y.normal ≡ w.cycle.met.normal = ap (λ (z : SessionState). z.normal) w.cycle.others in
    let past = ap (λ (m : NormalState). m.mutator.past) (same ∙ w.cycle.meets.ends.normal) in
    (ap (λ (q : Pushes ServerState StreamNames). q.clear) past, ap (λ (q : Pushes ServerState StreamNames). q.before) past)

-- the normal mixer keeps the same of its pushes in a turn of the fast mixer
fast_past : (count : ℕ) (x : SessionState) (bytes : List ℕ) (y : SessionState) → IsFastTurn count x bytes y → SamePast x y
fast_past zero x bytes y turn = same_past x y (ap (λ (z : SessionState). z.normal) turn.1)
fast_past (suc left) x bytes y (answer, next, front, back, w, bytes_are, goes, stops) = by_mixed (λ is. fast_past left next back y (goes is)) (is_mixed answer) refl
  where
    by_mixed : (is_mixed answer ≡ true → SamePast next y) → (b : Bool) → is_mixed answer ≡ b → SamePast x y
    by_mixed later true is = past_then x next y (cycle_past x next answer front w) (later is)
    by_mixed later false is = past_then x next y (cycle_past x next answer front w) (same_past next y (ap (λ (z : SessionState). z.normal) (stops is).1))

module _ (s : Session) (marks : Marks) (scales : All (λ (x : Setting). x.scale ≤ 4096) (setup_of s).settings) (normal_step : NormalTurnIsAStep s marks) (fast_step : FastTurnIsAStep s marks) where
  abbrev g : Given
  g = given_of s

  -- a round whose entries are those by which the log grew
  module _ (run : Run) (x : SessionState) (r : RoundNoted) (bytes : List ℕ) (y : SessionState) (entries : List EntrySeen) (left : ℕ) (holds : Holds s marks run x left) where
    told : ToldBy s run x
    told = holds.told

    stands : StandsBetween x
    stands = holds.stands

    -- the queue is known after a turn in which the normal mixer did nothing
    known_still : (turn : TurnSpec) (turned met : SessionState) → Met turned met → y ≡ with_ends_of met → SamePast x turned → Quiet run (made_alone s run turn (round_of r entries)) → QueueKnown (cycle_frames s) (with_ends (met_alone s run turn (round_of r entries))) y.normal
    known_still turn turned met meets ends normal quiet =
        let made : Run = made_alone s run turn (round_of r entries) in
        let all : Quiet run (with_ends (run_of.met s made)) = quiet_then run made _ quiet (quiet_then made (run_of.met s made) _ (quiet_met s made) (quiet_ends (run_of.met s made))) in
        let same : y.normal ≡ met.normal = ap (λ (z : SessionState). z.normal) ends ∙ (ends_keep met).normal in
        let past = ap (λ (m : NormalState). m.mutator.past) (same ∙ meets.ends.normal) in
        known_same (cycle_frames s) run (with_ends (run_of.met s made)) x.normal y.normal all.states all.looks (ap (λ (q : Pushes ServerState StreamNames). q.clear) past ∙ normal.0)
        (ap (λ (q : Pushes ServerState StreamNames). q.before) past ∙ normal.1) holds.queue

    abbrev Steps : TurnSpec → Type 0
    Steps turn = StepIsTold s marks run turn (round_of r entries) y × StandsBetween y × QueueKnown (cycle_frames s) (with_ends (met_alone s run turn (round_of r entries))) y.normal

    client_steps : (i : ℕ) → IsRound g (makes.Client i) x r bytes y → Steps (makes.Client i)
    client_steps i w = (client_step w.together.links s marks run i x r bytes y entries told.told told.saw w w.together.turned w.together.met, client_stands g x r bytes y stands i w, known_still (makes.Client i) w.turned w.met w.meets w.ends (same_past x w.turned (ap (λ (z : SessionState). z.normal) w.turns.3.leaves)) (quiet_calls i (round_of r entries) run))

    normal_steps : IsRound g makes.Normal x r bytes y → Steps makes.Normal
    normal_steps w = by_end x.normal.ended refl w.turns.1
      where
        stands_now : StandsBetween y
        stands_now = normal_stands g x r bytes y stands w

        by_end : (b : Bool) → x.normal.ended ≡ b → MatchBool b ((r ≡ still_round x) × (w.turned ≡ x)) ((e : Turn) × (r ≡ normal_round x e) × NormalTurned x w.turned e) → Steps makes.Normal
        by_end true over none = (
          normal_still w.together.links s marks run x r bytes y entries told w.together.before over w w.together.met,
          stands_now,
          known_still makes.Normal w.turned w.met w.meets w.ends (same_past x w.turned (ap (λ (z : SessionState). z.normal) none.1))
              (subst (λ (o : Option Turn). Quiet run (loaded o (turned s (found_before s run []) o run))) (sym (ap (λ (n : RoundNoted). n.turn) none.0)) (record { states = refl; looks = (λ k. refl) })),
        )
        by_end false runs one = let step = normal_step run x r bytes y entries left holds runs w in (step.0, stands_now, step.1)

    fast_steps : (count : ℕ) → 1 ≤ count → length run.entries + count ≤ s.script.cycles → (round_of r entries).entries ≡ entries_grown x.fast.log y.fast.log → IsRound g (makes.Fast count) x r bytes y → Steps (makes.Fast count)
    fast_steps count some room grown w = by_exit x.fast.exited refl w.turns
      where
        by_exit : (b : Bool) → x.fast.exited ≡ b → MatchBool b ((r ≡ still_round x) × (bytes ≡ []) × (w.turned ≡ x)) ((r ≡ fast_round x w.turned) × IsFastTurn count x bytes w.turned) → Steps (makes.Fast count)
        by_exit true over still = (
          fast_still w.together.links s marks run x r bytes y entries told w.together.before count over w w.together.met,
          still_stands g x r bytes y stands w.turned w.met w.meets w.ends w.together.met.fast.0 (ap (λ (z : SessionState). z.normal) still.2) (ap (λ (z : SessionState). z.fast) still.2),
          known_still (makes.Fast count) w.turned w.met w.meets w.ends (same_past x w.turned (ap (λ (z : SessionState). z.normal) still.2)) (quiet_cycles s (round_of r entries).entries run),
        )
        by_exit false runs turn = let step = fast_step run count x r bytes y entries left holds runs some room grown w in (
          step.0,
          step.1,
          known_still (makes.Fast count) w.turned w.met w.meets w.ends (fast_past count x bytes w.turned turn.1) (quiet_cycles s (round_of r entries).entries run),
        )

    any_steps : (turn : TurnSpec) (tracks : ℕ) → IsTurn tracks turn → length run.entries + asked_by turn ≤ s.script.cycles → (round_of r entries).entries ≡ entries_grown x.fast.log y.fast.log → IsRound g turn x r bytes y → Steps turn
    any_steps (makes.Client i) tracks form room grown w = client_steps i w
    any_steps makes.Normal tracks form room grown w = normal_steps w
    any_steps (makes.Fast count) tracks form room grown w = fast_steps count form.0 room grown w

  -- ## What holds after the round

  module _ (turn : TurnSpec) (left : ℕ) (run : Run) (x : SessionState) (r : RoundNoted) (bytes : List ℕ) (y : SessionState) (entries : List EntrySeen) (holds : Holds s marks run x (asked_by turn + left)) (w : IsRound g turn x r bytes y) (free : IsRoundMarked marks r.calls)
      (steps : StepIsTold s marks run turn (round_of r entries) y × StandsBetween y × QueueKnown (cycle_frames s) (with_ends (met_alone s run turn (round_of r entries))) y.normal) where
    abbrev round : RoundSeen
    round = round_of r entries

    -- the pipe is of the same links
    same_cells : y.normal.pipe.pass.part.shape.cells ≡ x.normal.pipe.pass.part.shape.cells
    same_cells =
        let last : y.normal ≡ w.met.normal = ap (λ (z : SessionState). z.normal) w.ends ∙ (ends_keep w.met).normal in
        let now = w.together.met.normal.tied.linked in
        let was = w.together.before.normal.tied.linked in
        ap (λ (m : NormalState). m.pipe.pass.part.shape.cells) last ∙ ap (λ (b : Made). b.shape.cells) (now.pipe_is ∙ sym was.pipe_is)

    -- each client is in order after the meetings
    counted_now : AreCounted y
    counted_now i p is =
        let was = clients_ended w.met i p (ap (λ (z : SessionState). slice_get z.clients i) (sym w.ends) ∙ is) in
        subst (λ (c : ClientState). c.released ≡ length c.pass.part.frames) (sym was.2) (w.together.met.clients i was.0 was.1).in_order.0.released_is

    -- the hands know what proxies that missed the meetings had done
    aware_now : KnowsAway y
    aware_now = subst KnowsAway (sym w.ends) (away_ends w.met (knows_away w.together.links w.turned w.met w.together.turned w.together.met w.meets))

    long_tracks : length run.tracks ≤ length run.normal.tracks
    long_tracks = (let a = holds.told.told.count.0 in let b = holds.told.told.count.1 in let c = w.together.before.count in let d = ap (λ (k : NormalKept). length k.tracks) holds.told.told.normal.kept in omega (arith, a, b, c, d))

    holds_after : Holds s marks (with_ends (met_alone s run turn round)) y left
    holds_after = record {
      told = steps.0.left;
      stands = steps.1;
      queue = steps.2;
      report = report_ends s (made_alone s run turn round);
      small = round_small s run turn round holds.small;
      cells = same_cells ∙ holds.cells;
      counted = counted_now;
      marked = round_marked marks s run turn round free holds.marked;
      aware = aware_now;
      tame = round_tame s marks scales run turn round holds.tame steps.0.made steps.0.histories steps.0.unseen;
      invalid = invalid_round s marks run turn round steps.0.made long_tracks holds.invalid;
      room = let grows : GrowsBy (asked_by turn) x.fast.log y.fast.log = round_grows g turn x r bytes y w in
          let now : length y.fast.log.entries ≡ length (with_ends (met_alone s run turn round)).entries = ap (λ (es : List CycleEntry). length es) steps.0.left.told.fast.entries in
          let was : length x.fast.log.entries ≡ length run.entries = ap (λ (es : List CycleEntry). length es) holds.told.told.fast.entries in
          let more : length y.fast.log.entries ≡ length x.fast.log.entries + length grows.more = ap (λ (es : List CycleEntry). length es) grows.entries ∙ length-append x.fast.log.entries grows.more in
          let count = grows.count in let room = holds.room in omega arith;
    }

  -- ## All rounds

  pub chain : (tracks : ℕ) (turns : List TurnSpec) (run : Run) (x : SessionState) (rounds : List RoundNoted) (bytes : List ℕ) (t : SessionState) → All (IsTurn tracks) turns → AreRoundsMarked marks rounds → Holds s marks run x (all_asked turns) → IsTurnRun g turns x rounds bytes t
      → AreSteps s marks run turns (rounds_seen (entries_grown x.fast.log t.fast.log) rounds) t × AreCounted t
  chain tracks [] run x rounds bytes t forms free holds (none, no_bytes, same) = (
    (ap (rounds_seen (entries_grown x.fast.log t.fast.log)) none, subst (ToldBy s run) (sym same) holds.told),
    subst AreCounted (sym same) holds.counted,
  )
  chain tracks (turn ∷ turns) run x rounds bytes t forms free holds (r, rs, front, back, y, rounds_are, bytes_are, w, rest) =
      let all : List EntrySeen = entries_grown x.fast.log t.fast.log in
      let free_all : AreRoundsMarked marks (r ∷ rs) = subst (AreRoundsMarked marks) rounds_are free in
      let here : GrowsBy (asked_by turn) x.fast.log y.fast.log = round_grows g turn x r front y w in
      let later : GrowsBy (all_asked turns) y.fast.log t.fast.log = run_grows g turns y rs back t rest in
      let count : length x.fast.log.entries + r.cycles ≡ length y.fast.log.entries = (round_notes g turn x r front y w).count in
      let grown = first_dealt (asked_by turn) (all_asked turns) x.fast.log y.fast.log t.fast.log here later r.cycles count in
      let room : length run.entries + asked_by turn ≤ s.script.cycles = (let r = holds.room in omega arith) in
      let steps = any_steps run x r front y all (asked_by turn + all_asked turns) holds turn tracks (All-head (IsTurn tracks) turn turns forms) room grown w in
      let next : Run = with_ends (met_alone s run turn (round_of r all)) in
      let more = chain tracks turns next y rs back t (All-tail (IsTurn tracks) turn turns forms) free_all.1 (holds_after turn (all_asked turns) run x r front y all holds w free_all.0 steps) rest in
      let dealt : rounds_seen (drop r.cycles all) rs ≡ rounds_seen (entries_grown y.fast.log t.fast.log) rs =
      ap (λ (es : List EntrySeen). rounds_seen es rs) (rest_dealt (asked_by turn) (all_asked turns) x.fast.log y.fast.log t.fast.log here later r.cycles count) in
      let both : AreSteps s marks run (turn ∷ turns) (rounds_seen all (r ∷ rs)) t × AreCounted t = (
        (y, steps.0, subst (λ (seen : List RoundSeen). AreSteps s marks next turns seen t) (sym dealt) more.0),
        more.1,
      ) in
      subst (λ (rounds : List RoundNoted). AreSteps s marks run (turn ∷ turns) (rounds_seen all rounds) t × AreCounted t) (sym rounds_are) both
