-- A round of the fast mixer, from what it finds to what it leaves.
use Rattle.std.proofs.Common.{◌≡◌, inr, ℕ, ◌+◌, ◌≤◌, Bool, true, false, fold, map, take, drop, if◌then◌else◌, MatchBool, List, [], length, sym, ap, ◌∙◌, subst, arith}
use Rattle.af_render_law.proofs.Common.{CycleEntry, EntrySeen, IsMadeBy, IsMarkedRun, IsRound, LegalAlone, Marks, MatchBool-at_false, MixesAreTold, OnlyCalls, RoundNoted, RoundSeen, Run, Session, SessionState, cycle_alone, drop-append_seam, entries_seen, fast_ended, fast_round, form_seen, given_of, none-some, slice_index_or, still_round}
use Rattle.af_runs.specs.Rounds.{IsFastTurn}
use Rattle.af_script.specs.declared.op.TurnSpec.TheVariants as makes
use Rattle.af_session.specs.FastTurns as parties
use Rattle.af_session.specs.Rounds as rounds
use Rattle.af_render_law.proofs.OwnKept.{ToldBy, left_histories, left_met}
use Rattle.af_render_law.proofs.Chain.{StepIsTold, round_of}
use Rattle.af_render_law.proofs.IdlePoll.{IsBetween, between_after}
use Rattle.af_render_law.proofs.ClientRound.{none_else}
use Rattle.af_render_law.proofs.FastTurnTold.{TurnTold, turn_told}

module _ (s : Session) (marks : Marks) (run : Run) (count : ℕ) (x : SessionState) (r : RoundNoted) (bytes : List ℕ) (y : SessionState) (entries : List EntrySeen) (mixes : MixesAreTold s) (h : ToldBy s run x) (tame : IsMarkedRun marks run)
    (between : IsBetween x) (runs : x.fast.exited ≡ false) (some : 1 ≤ count) (room : length run.entries + count ≤ s.script.cycles) (w : IsRound (given_of s) (makes.Fast count) x r bytes y)
    (dealt : take r.cycles entries ≡ entries_seen (drop (length x.fast.log.frames) w.turned.fast.log.frames) (drop (length x.fast.log.entries) w.turned.fast.log.entries)) where
  abbrev round : RoundSeen
  round = round_of r entries

  turns : (r ≡ fast_round x w.turned) × parties.IsFastTurn count x bytes w.turned
  turns = MatchBool-at_false ((r ≡ still_round x) × (bytes ≡ []) × (w.turned ≡ x)) ((r ≡ fast_round x w.turned) × parties.IsFastTurn count x bytes w.turned) runs w.turns

  still_room : length x.fast.log.entries + count ≤ x.fast.cycles
  still_room =
      let cycles = h.told.fast.cycles in
      let many : length x.fast.log.entries ≡ length run.entries = ap (λ (es : List CycleEntry). length es) h.told.fast.entries in
      omega (arith, cycles, many, room)

  turn : TurnTold w.together.links w.turned w.met w.together.turned w.together.met w.meets s marks mixes count run x
  turn = turn_told w.together.links w.turned w.met w.together.turned w.together.met w.meets s marks mixes count run x bytes turns.1 h between tame runs still_room

  -- the entries of the round are those that the turn added
  entries_are : round.entries ≡ entries_seen (drop (length x.fast.log.frames) w.turned.fast.log.frames) turn.entries
  entries_are = dealt ∙ ap (entries_seen (drop (length x.fast.log.frames) w.turned.fast.log.frames)) (ap (drop (length x.fast.log.entries)) turn.added ∙ drop-append_seam x.fast.log.entries turn.entries)

  no_calls : OnlyCalls (λ t. ⊥) round
  no_calls j = inr (ap (λ (n : RoundNoted). slice_index_or n.calls j []) turns.0 ∙ none_else (length x.clients) j)

  form : IsFastTurn count false round.entries × LegalAlone s marks run round.entries
  form = subst (λ (es : List EntrySeen). IsFastTurn count false es × LegalAlone s marks run es) (sym entries_are) (form_seen count (drop (length x.fast.log.frames) w.turned.fast.log.frames) turn.entries some turn.are, turn.legal)

  not_over : fast_ended run ≡ false
  not_over = sym h.told.fast.exited ∙ runs

  made : IsMadeBy s marks run (makes.Fast count) round
  made = (
    no_calls,
    ap (λ (n : RoundNoted). n.turn) turns.0,
    subst (λ (b : Bool). MatchBool b (round.entries ≡ []) (IsFastTurn count false round.entries × LegalAlone s marks run round.entries)) (sym not_over) form,
  )

  left : ToldBy s (fold (cycle_alone s) run round.entries) w.turned
  left = subst (λ (es : List EntrySeen). ToldBy s (fold (cycle_alone s) run es) w.turned) (sym entries_are) turn.told

  -- the round is made legally, leaves the histories, and is told
  pub fast_step : StepIsTold s marks run (makes.Fast count) round y
  fast_step = record {
    made = made;
    histories = left_histories w.together.links s (fold (cycle_alone s) run round.entries) w.turned w.met w.together.turned w.together.met w.meets left;
    left = subst (ToldBy s _) (sym w.ends) (left_met w.together.links s (fold (cycle_alone s) run round.entries) w.turned w.met w.together.turned w.together.met w.meets left);
    unseen = λ e is. absurd (none-some e (sym made.1 ∙ is));
  }

  -- the ends of the queue are in step after the round
  pub fast_between : IsBetween y
  fast_between = subst IsBetween (sym w.ends) (between_ends w.met (between_after w.together.links w.turned w.met w.together.met w.meets turn.between))
    where
      between_ends : (z : SessionState) → IsBetween z → IsBetween (rounds.with_ends z)
      between_ends z b = by_end z.normal.ended
        where
          by_end : (o : Bool) → IsBetween (if o then record z { clients = map rounds.end_party z.clients } else z)
          by_end true = record { step = b.step; history = b.history; state = b.state; last = b.last }
          by_end false = b
