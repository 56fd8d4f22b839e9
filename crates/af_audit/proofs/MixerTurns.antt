-- The turn of the normal mixer in a legal round, the mixer that it finds, and the one that the round leaves.
use Rattle.std.proofs.Common.{◌≡◌, Bool, true, false, if◌then◌else◌, is_some, Option, Some, None, refl, sym, ap, ◌∙◌, subst}
use Rattle.af_audit.proofs.Common.{LegalRound, LegalTurnBy, Marks, MatchBool, MatchOption, NormalKept, RoundSeen, Run, Session, Turn, after_round, after_turn, before_turn, cycles_beside, each_track, early_of, ends, found_in, late_of, learnt, loaded, met, no, outside_of, setup_of, turn_after, turned, with_calls, with_cycles, with_ends, with_load, with_turn}

module _ (s : Session) (run : Run) (round : RoundSeen) where
  pub before_normal : (before_turn s run round).normal ≡ run.normal
  unfolding with_calls
  before_normal = (cycles_beside s (early_of run round) (with_calls round run)).normal

  pub loaded_normal : (o : Option Turn) (r : Run) → (loaded o r).normal ≡ r.normal
  unfolding with_load
  loaded_normal None r = refl
  loaded_normal (Some e) r = refl

  pub ends_normal : (r : Run) → (with_ends r).normal ≡ r.normal
  unfolding with_ends
  ends_normal r = by_end r.normal.ended
    where
      by_end : (b : Bool) → (if b then each_track (λ track t. record t { client = ends t.client }) r else r).normal ≡ r.normal
      by_end true = refl
      by_end false = refl

  pub met_normal : (r : Run) → (met s r).normal ≡ r.normal
  unfolding met
  met_normal r = refl

  -- the mixer after a turn, if one was made
  abbrev pub mixer_after : Option Turn → NormalKept
  mixer_after o = elim o as (λ o. NormalKept) [ None ↦ run.normal | Some e ↦ turn_after (setup_of s) (learnt (outside_of (setup_of s) (found_in s run round e) e)) run.normal e ]

  turned_normal : (o : Option Turn) → (turned s (found_in s run round) o (before_turn s run round)).normal ≡ mixer_after o
  unfolding with_turn
  turned_normal None = before_normal
  turned_normal (Some e) = ap (λ (m : NormalKept). turn_after (setup_of s) (learnt (outside_of (setup_of s) (found_in s run round e) e)) m e) before_normal

  pub round_normal : (after_round s run round).normal ≡ mixer_after round.turn
  round_normal =
      let late : Run = with_cycles s (late_of run round) (after_turn s run round) in
      ends_normal (met s (loaded round.turn late)) ∙ met_normal (loaded round.turn late) ∙ loaded_normal round.turn late ∙ (cycles_beside s (late_of run round) (after_turn s run round)).normal ∙ turned_normal round.turn

module _ (cut : Bool) (s : Session) (marks : Marks) (run : Run) (round : RoundSeen) (legal : LegalRound cut s marks run round) where
  -- a turn that the round has is legal
  pub turn_legal : (e : Turn) → round.turn ≡ Some e → LegalTurnBy (setup_of s) marks (found_in s run round e) run.normal e
  turn_legal e is = by_ended run.normal.ended legal.turns.normal
    where
      by_ended : (b : Bool) → MatchBool b (round.turn ≡ None) (MatchOption round.turn ⊥ (λ e. LegalTurnBy (setup_of s) marks (found_in s run round e) run.normal e)) → LegalTurnBy (setup_of s) marks (found_in s run round e) run.normal e
      by_ended true none = no (sym (ap is_some none) ∙ ap is_some is)
      by_ended false turn = subst (λ (o : Option Turn). MatchOption o ⊥ (λ e. LegalTurnBy (setup_of s) marks (found_in s run round e) run.normal e)) is turn
