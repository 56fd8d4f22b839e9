-- The clients' turns and the early entries of a round of all parties are told, and what the polls of the round show of the normal mixer's turn.
use Rattle.std.proofs.Common.{◌≡◌, ◌⊎◌, inl, inr, ℕ, ◌+◌, Bool, true, false, map, drop, List, [], ◌∷◌, ◌++◌, length, refl, sym, ap, subst, ◌∙◌, arith}
use Rattle.af_play_law.proofs.Common.{AreTogether, ClientPlayed, CyclesOn, Deeds, EntrySeen, HasStateHistory, IsInOrder as IsFastInOrder, Links, Logged, MatchBool, MixerState, NormalState, QueueKnown, Quiet, RoundSeen, Run, SawUpTo, Session, SessionState, StandsBefore, Tells, TurnPlayed, before_turn, calls_in, cycle_frames, drop-append_seam, early_count, early_of, entries_seen, given_of, late_of, most_cycles, quiet_then, with_calls, zip_long}
use Rattle.af_model.specs.declared.states.MutatorEvent.TheVariants as mutator
use Rattle.af_play_law.specs.Polls.{GrowsByTurn, Polled}
use Rattle.af_play_law.specs.RoundPlayed.{PlayStands, RoundPlayed}
use Rattle.af_play_law.proofs.BeforeTurn.{known_quiet, quiet_calls, quiet_cycles}
use Rattle.af_play_law.proofs.CallsTold.{AreNumbered, calls_told}
use Rattle.af_play_law.proofs.Cycled.{CyclesAre, CyclesOf, TwoParts, chain_entries, chain_grows, chain_parts, chain_seen, cycles_of, none_added, same_end}
use Rattle.af_play_law.proofs.CyclesGrow.{EndsGrow, grow_both, grow_none}
use Rattle.af_play_law.proofs.CyclesTold.{AllShown, CyclesTold, Reaches, cycles_told, history_after, reaches_after}
use Rattle.af_play_law.proofs.OneCycle.{MayCycle}
use Rattle.af_play_law.proofs.PollsShown.{AllEarly, PollsLate, StartsLate, back_late, chain_late, early_shown, front_early}
use Rattle.af_play_law.proofs.RoundTurn.{first_same}
use Rattle.af_play_law.proofs.RoundTurned.{Later, history_turned, later_turned, none_late, saw_turned}
use Rattle.af_play_law.proofs.TurnGrows.{legal_grows, still_grows}

module _ (links : Links) (s : Session) (run : Run) (d : Deeds) (x u z : SessionState) (bytes : List ℕ) (round : RoundSeen) (stands : PlayStands s run d x) (w : RoundPlayed links s x u z bytes round) where
  -- ## The clients

  abbrev pub called : SessionState
  called = record x { clients = u.clients }

  many_clients : length u.clients ≡ length x.clients
  many_clients = zip_long (ClientPlayed (given_of s)) x.clients u.clients w.plays.clients

  numbers : AreNumbered s round x 0 x.clients u.clients
  numbers = record {
    tracks = (λ j p is. w.before.tracks j p is ∙ (let same : j ≡ 0 + j = omega arith in same));
    calls = (λ j q is. ap (calls_in round) (let same : 0 + j ≡ j = omega arith in same) ∙ w.notes.calls j q is);
  }

  told_called : Tells s (with_calls round run) d called
  told_called = calls_told s round x run u.clients (let a = many_clients in let b = stands.told.count.0 in let c = stands.told.count.1 in omega (arith, a, b, c)) w.plays.clients numbers stands.told

  together_called : AreTogether links called
  together_called = record { normal = w.before.normal; fast = w.before.fast; count = many_clients ∙ w.before.count; tracks = w.turned.tracks; clients = w.turned.clients }

  pub may_called : MayCycle links s (with_calls round run) d called
  may_called = record { told = told_called; together = together_called; state = stands.stands.leads.state; last = stands.stands.leads.last; took = stands.took }

  -- ## The normal mixer's end of the queue

  record AtTheQueue : Type 0 where
    first : u.normal.mutator.past.first ≡ x.normal.mutator.past.first
    grows : GrowsByTurn x.normal.mutator.past.events u.normal.mutator.past.events

  queue_by : (b : Bool) → MatchBool b (u.normal ≡ x.normal) (TurnPlayed x.normal u.normal) → AtTheQueue
  queue_by true is = record { first = ap (λ (n : NormalState). n.mutator.past.first) is; grows = subst (GrowsByTurn x.normal.mutator.past.events) (sym (ap (λ (n : NormalState). n.mutator.past.events) is)) (still_grows x.normal.mutator.past.events) }
  queue_by false (o, legal, made) = record { first = first_same links o x.normal u.normal w.before.normal legal made; grows = legal_grows o x.normal u.normal legal }

  at_queue : AtTheQueue
  at_queue = queue_by x.normal.ended w.plays.normal

  pub first_is : u.normal.mutator.past.first ≡ x.normal.mutator.past.first
  first_is = at_queue.first

  pub grows_is : GrowsByTurn x.normal.mutator.past.events u.normal.mutator.past.events
  grows_is = at_queue.grows

  -- ## The cycles

  cycles_by : (b : Bool) → x.fast.exited ≡ b → MatchBool b ((bytes ≡ []) × (u.fast ≡ x.fast)) (CyclesOn links most_cycles x.fast bytes u.fast) → CyclesOf links x.fast u.fast
  cycles_by true over still = none_added links x.fast u.fast (same_end links x.fast u.fast still.1)
  cycles_by false runs turn = cycles_of links most_cycles x.fast bytes u.fast runs (sym w.before.fast.0.keeps.exited_is ∙ runs) turn

  pub cycles : CyclesOf links x.fast u.fast
  cycles = cycles_by x.fast.exited refl w.plays.fast

  log_is : u.fast.log ≡ cycles.last.log
  log_is = ap (λ (f : MixerState). f.log) cycles.ends

  added_are : drop (length x.fast.log.entries) u.fast.log.entries ≡ map (λ (e : EntrySeen). e.entry) cycles.entries
  added_are =
      ap (λ (l : Logged). drop (length x.fast.log.entries) l.entries) log_is
      ∙ ap (drop (length x.fast.log.entries)) (chain_entries links cycles.entries x.fast cycles.last cycles.chain)
      ∙ drop-append_seam x.fast.log.entries (map (λ (e : EntrySeen). e.entry) cycles.entries)

  entries_are : round.entries ≡ cycles.entries
  entries_are =
      w.notes.entries
      ∙ (λ j. entries_seen (drop (length x.fast.log.frames) (log_is j).frames) (added_are j))
      ∙ sym (chain_seen links cycles.entries x.fast cycles.last cycles.chain)

  pub chain : CyclesAre links round.entries x.fast cycles.last
  chain = subst (λ (l : List EntrySeen). CyclesAre links l x.fast cycles.last) (sym entries_are) cycles.chain

  pub parts : TwoParts links (early_count run round) round.entries x.fast cycles.last
  parts = chain_parts links (early_count run round) round.entries x.fast cycles.last chain

  -- the mixer between the early entries and the late ones
  abbrev pub half : MixerState
  half = parts.between

  pushed_is : x.normal.mutator.past.number ≡ length run.states
  pushed_is = stands.told.normal.number

  low : AllEarly x.normal.mutator.past.number (early_of run round)
  low = subst (λ (n : ℕ). AllEarly n (early_of run round)) (sym pushed_is) (front_early (length run.states) round.entries)

  pub late : StartsLate x.normal.mutator.past.number (late_of run round)
  late = subst (λ (n : ℕ). StartsLate n (late_of run round)) (sym pushed_is) (back_late (length run.states) round.entries)

  pub grown_half : EndsGrow x.fast half
  grown_half = chain_grows links (early_of run round) x.fast half parts.front

  pub grown_end : EndsGrow cycles.last u.fast
  grown_end = grow_none cycles.last u.fast (ap (λ (f : MixerState). f.observer.past.events) cycles.ends) (ap (λ (f : MixerState). f.writer.events) cycles.ends) (ap (λ (f : MixerState). f.pipe.pass.part.events) cycles.ends)

  -- ## The early cycles

  shown_early : AllShown links x.normal (early_of run round) x.fast half parts.front
  shown_early = early_shown links x u z w.meets.ends stands.stands first_is grows_is (early_of run round) x.fast half parts.front w.before.fast.0
      (grow_none x.fast x.fast refl refl refl)
      (grow_both half cycles.last u.fast (chain_grows links (late_of run round) half cycles.last parts.back) grown_end) stands.stands.history low

  pub early : CyclesTold links s (with_calls round run) d called (early_of run round) half
  early = cycles_told links s (early_of run round) (with_calls round run) d called half may_called parts.front shown_early

  pub history_half : HasStateHistory x.normal.mutator.past.first x.normal.mutator.past.events half.observer.past.events
  history_half = history_after links x.normal (early_of run round) x.fast half parts.front shown_early stands.stands.history

  reaches_half : Reaches links x.normal half
  reaches_half = reaches_after links x.normal (early_of run round) x.fast half parts.front shown_early (stands.stands.step.few, stands.stands.step.same)

  -- the session before the turn
  abbrev pub halfway : SessionState
  halfway = record called { fast = half }

  pub stands_half : StandsBefore halfway
  stands_half = record {
    step = record { tells = stands.stands.step.tells; few = reaches_half.0; same = reaches_half.1 };
    history = history_half;
    leads = record { draft = stands.stands.leads.draft; last = stands.stands.leads.last; state = early.may.state };
    quiet = stands.stands.quiet;
  }

  quiet_half : Quiet run (before_turn s run round)
  quiet_half = quiet_then run (with_calls round run) (before_turn s run round) (quiet_calls round run) (quiet_cycles s (early_of run round) (with_calls round run))

  pub known_half : QueueKnown (cycle_frames s) (before_turn s run round) x.normal
  known_half = known_quiet (cycle_frames s) run (before_turn s run round) x.normal quiet_half stands.known

  -- ## The turn's end of the queue behind them

  pub polls_late : PollsLate x.normal.mutator.past.number (late_of run round) half cycles.last
  polls_late = chain_late links x.normal.mutator.past.number (late_of run round) half cycles.last parts.back late

  abbrev pub polls : Polled
  polls = polls_late.polls

  pub cut : u.fast.observer.past.events ≡ half.observer.past.events ++ polls
  cut = ap (λ (f : MixerState). f.observer.past.events) cycles.ends ∙ polls_late.polled

  pub order_half : IsFastInOrder half
  order_half = early.may.together.fast.0

  pub later : Later x u z w.meets.ends stands.stands first_is grows_is half.observer.past.events polls cut history_half polls_late.late
  later = later_turned x u z w.meets.ends stands.stands first_is grows_is half.observer.past.events polls cut history_half polls_late.late

  pub saw_half : SawUpTo half.observer.past.number (u.normal.mutator.past.events ++ mutator.Learn later.known_polls ∷ [])
  saw_half = saw_turned x u z w.meets.ends stands.stands first_is grows_is half.observer.past.events polls cut history_half polls_late.late half.observer.past.number order_half.observer.told.acked later

  -- what the turn pushed is there for the late ones
  pub late_start : (late_of run round ≡ []) ⊎ HasStateHistory x.normal.mutator.past.first u.normal.mutator.past.events half.observer.past.events
  late_start = elim (grows_is.ends) as (λ _. (late_of run round ≡ []) ⊎ HasStateHistory x.normal.mutator.past.first u.normal.mutator.past.events half.observer.past.events) [
    | inl is ↦ inl (polls_late.none (none_late x u z w.meets.ends stands.stands first_is grows_is half.observer.past.events polls cut history_half polls_late.late is))
    | inr push ↦ inr (history_turned x u z w.meets.ends stands.stands first_is grows_is half.observer.past.events polls cut history_half polls_late.late grows_is.looks grows_is.none push.0 push.1 push.2 push.3)
  ]

  pub together_turned : AreTogether links (record halfway { normal = u.normal })
  together_turned = record { normal = w.turned.normal; fast = early.may.together.fast; count = w.turned.count; tracks = w.turned.tracks; clients = w.turned.clients }
