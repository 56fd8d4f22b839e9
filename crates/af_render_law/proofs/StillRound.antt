-- A round of a mixer that has ended, in which nothing is done.
use Rattle.std.proofs.Common.{◌≡◌, inr, ℕ, Bool, true, false, fold, take, MatchBool, MatchOption, List, [], length, Option, None, sym, ap, ◌∙◌, subst}
use Rattle.af_render_law.proofs.Common.{AreTogether, EntrySeen, HaveHistories, IsMadeBy, IsRound, LegalAlone, LegalTurnBy, Links, Marks, MatchBool-at_true, Met, NormalKept, NormalTurned, OnlyCalls, RoundNoted, RoundSeen, Run, Session, SessionState, Turn, TurnSpec, cycle_alone, fast_ended, fast_round, found_before, given_of, loaded, made_alone, none-some, normal_round, setup_of, slice_index_or, still_round, turned, with_ends}
use Rattle.af_runs.specs.Rounds.{IsFastTurn}
use Rattle.af_runs.specs.Runs as run_of
use Rattle.af_script.specs.declared.op.TurnSpec.TheVariants as makes
use Rattle.af_session.specs.FastTurns as parties
use Rattle.af_render_law.proofs.OwnKept.{ToldBy, left_histories, left_met}
use Rattle.af_render_law.proofs.Chain.{StepIsTold, round_of}
use Rattle.af_render_law.proofs.ClientRound.{none_else}

module _ (links : Links) (s : Session) (marks : Marks) (run : Run) (x : SessionState) (r : RoundNoted) (bytes : List ℕ) (y : SessionState) (entries : List EntrySeen) (h : ToldBy s run x) (together : AreTogether links x) where
  abbrev round : RoundSeen
  round = round_of r entries

  -- nothing was done before the meetings
  step_still : (turn : TurnSpec) (w : IsRound (given_of s) turn x r bytes y) → AreTogether links w.met → w.turned ≡ x → made_alone s run turn round ≡ run → IsMadeBy s marks run turn round → round.turn ≡ None → StepIsTold s marks run turn round y
  step_still turn w met same still made none =
      let meets : Met x w.met = subst (λ (z : SessionState). Met z w.met) same w.meets in
      record {
        made = made;
        histories = subst (λ (q : Run). HaveHistories s (run_of.met s q)) (sym still) (left_histories links s run x w.met together met meets h);
        left = subst (λ (q : Run × SessionState). ToldBy s (with_ends (run_of.met s q.0)) q.1) (λ j. (sym still j, sym w.ends j)) (left_met links s run x w.met together met meets h);
        unseen = λ e is. absurd (none-some e (sym none ∙ is));
      }

  module _ (is : r ≡ still_round x) where
    no_calls : OnlyCalls (λ t. ⊥) round
    no_calls j = inr (ap (λ (n : RoundNoted). slice_index_or n.calls j []) is ∙ none_else (length x.clients) j)

    no_turn : round.turn ≡ None
    no_turn = ap (λ (n : RoundNoted). n.turn) is

    no_entries : round.entries ≡ []
    no_entries = ap (λ (n : RoundNoted). take n.cycles entries) is

  -- the normal mixer has ended
  pub normal_still : x.normal.ended ≡ true → (w : IsRound (given_of s) makes.Normal x r bytes y) → AreTogether links w.met → StepIsTold s marks run makes.Normal round y
  normal_still over w met =
      let both = MatchBool-at_true ((r ≡ still_round x) × (w.turned ≡ x)) ((e : Turn) × (r ≡ normal_round x e) × NormalTurned x w.turned e) over w.turns.1 in
      let ended : run.normal.ended ≡ true = sym (ap (λ (k : NormalKept). k.ended) h.told.normal.kept) ∙ over in
      step_still makes.Normal w met both.1 (ap (λ (o : Option Turn). loaded o (turned s (found_before s run []) o run)) (no_turn both.0)) (
        no_calls both.0,
        no_entries both.0,
        subst (λ (b : Bool). MatchBool b (round.turn ≡ None) (MatchOption round.turn ⊥ (λ e. LegalTurnBy (setup_of s) marks (found_before s run [] e) run.normal e))) (sym ended) (no_turn both.0),
      ) (no_turn both.0)

  -- the fast mixer has exited
  pub fast_still : (count : ℕ) → x.fast.exited ≡ true → (w : IsRound (given_of s) (makes.Fast count) x r bytes y) → AreTogether links w.met → StepIsTold s marks run (makes.Fast count) round y
  fast_still count over w met =
      let all = MatchBool-at_true ((r ≡ still_round x) × (bytes ≡ []) × (w.turned ≡ x)) ((r ≡ fast_round x w.turned) × parties.IsFastTurn count x bytes w.turned) over w.turns in
      let ended : fast_ended run ≡ true = sym h.told.fast.exited ∙ over in
      step_still (makes.Fast count) w met all.2 (ap (fold (cycle_alone s) run) (no_entries all.0)) (
        no_calls all.0,
        no_turn all.0,
        subst (λ (b : Bool). MatchBool b (round.entries ≡ []) (IsFastTurn count false round.entries × LegalAlone s marks run round.entries)) (sym ended) (no_entries all.0),
      ) (no_turn all.0)
