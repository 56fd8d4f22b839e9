-- What stands between two rounds of a play stands again after a round of all parties.
use Rattle.std.proofs.Common.{◌≡◌, ℕ, ◌<◌, ◌≤◌, Bool, true, false, List, [], ◌∷◌, ◌++◌, length, sym, ap, subst, ◌∙◌, arith, All}
use Rattle.af_play_law.proofs.Common.{Carried, Deeds, FastState, HasStateHistory, InStep, IsQuiet, Leads, Links, Made, MatchBool, MixerState, MutatorEvent, NormalKept, NormalState, ObserverEvent, Polls, Pushes, QueueKnown, Quiet, RoundSeen, Run, ServerState, Session, SessionState, Setting, Setup, StandsBetween, StreamNames, TookCounted, TurnPlayed, after_round, all_played, cycle_frames, ends_keep, few_acked, kept_of, known_same, learnt, met, observed, quiet_ends, quiet_met, quiet_then, report_ends, setup_of as script_setup_of, turn_of, turn_quiet}
use Rattle.af_model.specs.declared.states.MutatorEvent.TheVariants as mutator
use Rattle.af_model.specs.declared.states.ObserverEvent.TheVariants as observer
use Rattle.af_normal.specs.State.{setup_of}
use Rattle.af_told_law.specs.Leads.{Tells as TellsPushes}
use Rattle.af_told_law.proofs.QueueSteps.{learnt_by, step_met, tells_met}
use Rattle.af_session.specs.Rounds as parties
use Rattle.af_play_law.specs.RoundPlayed.{PlayStands, RoundPlayed}
use Rattle.af_play_law.proofs.Words.{HearsForeseen}
use Rattle.af_play_law.specs.Rounds.{RoundStands, RoundsAreTold}
use Rattle.af_play_law.proofs.CarriedRound.{carried_round}
use Rattle.af_play_law.proofs.Foreseen.{hears_foreseen}
use Rattle.af_play_law.proofs.AfterTurn.{same_end, turn_told}
use Rattle.af_play_law.proofs.ReportsCount.{after_counts}
use Rattle.af_play_law.proofs.RoundLoaded.{known_all}
use Rattle.af_play_law.proofs.RoundMet.{lead, round_told, small_after}
use Rattle.af_play_law.proofs.RoundPipe.{took_met}

module _ (links : Links) (s : Session) (run : Run) (d : Deeds) (x u z : SessionState) (bytes : List ℕ) (round : RoundSeen) (stands : PlayStands s run d x) (w : RoundPlayed links s x u z bytes round) (hears : HearsForeseen s run x u round) where
  abbrev y : SessionState
  y = parties.with_ends z

  abbrev m : Pushes ServerState StreamNames
  m = u.normal.mutator.past

  abbrev o : Polls ServerState StreamNames
  o = u.fast.observer.past

  same_normal : y.normal ≡ z.normal
  same_normal = (ends_keep z).normal

  same_fast : y.fast ≡ z.fast
  same_fast = (ends_keep z).fast

  abbrev ms : List (MutatorEvent ServerState)
  ms = m.events ++ mutator.Learn (length o.events) ∷ []

  abbrev os : List (ObserverEvent ServerState)
  os = o.events ++ observer.Learn (length m.events) ∷ []

  pushed_after : y.normal.mutator.past ≡ learnt_by m (length o.events)
  pushed_after = ap (λ (n : NormalState). n.mutator.past) (same_normal ∙ w.meets.ends.normal)

  polled_after : y.fast.observer.past ≡ record o { events = os }
  polled_after = ap (λ (f : MixerState). f.observer.past) (same_fast ∙ w.meets.ends.fast)

  kept_after : kept_of y.normal ≡ kept_of u.normal
  kept_after = ap kept_of (same_normal ∙ w.meets.ends.normal)

  history : HasStateHistory m.first ms os
  history = subst (λ (q : Pushes ServerState StreamNames × Polls ServerState StreamNames). HasStateHistory q.0.first q.0.events q.1.events)
      (λ j. (ap (λ (n : NormalState). n.mutator.past) w.meets.ends.normal j, ap (λ (f : MixerState). f.observer.past) w.meets.ends.fast j)) w.meets.ends.histories.queue

  acked : (observed os).acked ≡ o.number
  acked = subst (λ (q : Polls ServerState StreamNames). (observed q.events).acked ≡ q.number) (ap (λ (f : MixerState). f.observer.past) w.meets.ends.fast) w.met.fast.0.observer.told.acked

  tells : TellsPushes m
  tells = (turn_told links s run d x u z bytes round stands w hears).tells

  few : o.number ≤ m.number
  few = let pushed = (tells_met m (length o.events) tells).pushed m.first in let all = few_acked m.first _ _ history in omega (arith, all, acked, pushed)

  same : 0 < m.number → o.number ≡ m.number → o.state ≡ m.last
  same = same_end links s run d x u z bytes round stands w hears

  leads : Leads o.state (kept_of u.normal)
  leads = let was = (turn_told links s run d x u z bytes round stands w hears).leads in record { draft = was.draft; last = was.last; state = lead links s run d x u z bytes round stands w hears }

  quiet_by : (b : Bool) → MatchBool b (u.normal ≡ x.normal) (TurnPlayed x.normal u.normal) → IsQuiet (kept_of u.normal)
  quiet_by true is = subst (λ (n : NormalState). IsQuiet (kept_of n)) (sym is) stands.stands.quiet
  quiet_by false (o, legal, made) = subst IsQuiet (sym legal.leaves) (turn_quiet (setup_of x.normal) (learnt o) (kept_of x.normal) (turn_of u.normal.entry) stands.stands.quiet)

  between : StandsBetween y
  between = record {
    step = subst (λ (q : Pushes ServerState StreamNames × Polls ServerState StreamNames). InStep q.0 q.1) (λ j. (sym pushed_after j, sym polled_after j)) (step_met m (length o.events) o tells few same);
    history = subst (λ (q : Pushes ServerState StreamNames × Polls ServerState StreamNames). HasStateHistory q.0.first q.0.events q.1.events) (λ j. (sym pushed_after j, sym polled_after j)) history;
    leads = subst (λ (q : FastState × NormalKept). Leads q.0 q.1) (λ j. (sym (ap (λ (p : Polls ServerState StreamNames). p.state) polled_after) j, sym kept_after j)) leads;
    quiet = subst IsQuiet (sym kept_after) (quiet_by x.normal.ended w.plays.normal);
  }

  known : QueueKnown (cycle_frames s) (after_round s run round) y.normal
  known =
      let played : Run = all_played s run round in
      let quiet : Quiet played (after_round s run round) = quiet_then played (met s played) (after_round s run round) (quiet_met s played) (quiet_ends (met s played)) in
      known_same (cycle_frames s) played (after_round s run round) u.normal y.normal quiet.states quiet.looks (ap (λ (q : Pushes ServerState StreamNames). q.clear) pushed_after) (ap (λ (q : Pushes ServerState StreamNames). q.before) pushed_after)
      (known_all links s run d x u z bytes round stands w hears)

  counted : TookCounted y.fast
  counted = subst TookCounted (sym same_fast) (took_met z.fast.pipe.pass.part.shape.frames z.normal.pipe.pass.part.events z.normal.pipe.pass.part.frames z.fast.pipe.pass.part.events z.fast.pipe.pass.part.frames w.meets.ends.histories.pipe)

  -- what the states carry is kept
  carried_now : Carried (after_round s run round).normal
  carried_now =
      let sizes = w.before.normal.tied.sizes in
      let scales : All (λ (t : Setting). t.scale ≤ 4096) (script_setup_of s).settings = subst (λ (c : Setup). All (λ (t : Setting). t.scale ≤ 4096) c.settings) stands.told.normal.setup sizes.scales in
      let few : length run.normal.tracks ≤ length (script_setup_of s).settings =
      (let a = sizes.settings in let b = ap (λ (c : Setup). length c.settings) stands.told.normal.setup in let c = ap (λ (k : NormalKept). length k.tracks) stands.told.normal.kept in omega (arith, a, b, c)) in
      carried_round s scales run round few stands.carried

  pub stands_after : PlayStands s (after_round s run round) (round_told links s run d x u z bytes round stands w hears).left.deeds y
  stands_after = record {
    told = (round_told links s run d x u z bytes round stands w hears).left.told;
    stands = between;
    known = known;
    report = report_ends s (all_played s run round);
    took = counted;
    cells = ap (λ (n : NormalState). n.pipe.pass.part.shape.cells) same_normal ∙ ap (λ (b : Made). b.shape.cells) (w.met.normal.tied.linked.pipe_is ∙ sym w.before.normal.tied.linked.pipe_is) ∙ stands.cells;
    small = small_after links s run d x u z bytes round stands w hears;
    counts = after_counts s run round stands.counts;
    carried = carried_now;
  }

  pub round_stands : RoundStands s run d round y
  round_stands = record { told = round_told links s run d x u z bytes round stands w hears; stands = stands_after }

pub rounds_told : (s : Session) → RoundsAreTold s
rounds_told s links run d x u z bytes round stands w = round_stands links s run d x u z bytes round stands w (hears_foreseen links s run d x u z bytes round stands w stands.carried)
