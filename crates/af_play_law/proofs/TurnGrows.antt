-- A turn of the normal mixer looks at the acknowledgement and then perhaps pushes one state.
use Rattle.std.proofs.Common.{inl, inr, ℕ, ◌-◌, ◌==◌, Bool, true, false, if◌then◌else◌, [], ◌∷◌, ◌++◌, append_assoc, append-nil, refl, sym, subst}
use Rattle.af_play_law.proofs.Common.{IsLegal, Learnt, NormalKept, NormalState, Outside, Setup, Turn, after_edits, kept_of, learnt, mutator_list, number_seen, push_list, turn_of}
use Rattle.af_base.specs.declared.state.Push.{Push}
use Rattle.af_base.specs.declared.state.Push.TheVariants as answer
use Rattle.af_model.specs.declared.states.MutatorEvent.TheVariants as mutator
use Rattle.af_normal.specs.State.{setup_of}
use Rattle.af_play_law.specs.Polls.{GrowsByTurn, Items, Pushed}

module _ (c : Setup) (k : Learnt) (m : NormalKept) (e : Turn) (back again sent : Items) (ms : Pushed) where
  abbrev edits : NormalKept
  edits = after_edits c k e m

  -- the number that the look sees
  abbrev n : ℕ
  n = number_seen m e.ack

  by_first : (b : Bool) (number : ℕ) → GrowsByTurn ms (ms ++ mutator.SawAck n back ∷ ((if b then [] else mutator.SawAck edits.pushed again ∷ []) ++ mutator.Push number edits.draft sent ∷ []))
  by_first true number = record {
    looks = mutator.SawAck n back ∷ [];
    none = refl;
    ends = inr (number, edits.draft, sent, sym (append_assoc ms (mutator.SawAck n back ∷ []) (mutator.Push number edits.draft sent ∷ [])));
  }
  by_first false number = record {
    looks = mutator.SawAck n back ∷ mutator.SawAck edits.pushed again ∷ [];
    none = refl;
    ends = inr (number, edits.draft, sent, sym (append_assoc ms (mutator.SawAck n back ∷ mutator.SawAck edits.pushed again ∷ []) (mutator.Push number edits.draft sent ∷ [])));
  }

  by_push : (push : Push) → GrowsByTurn ms (ms ++ mutator.SawAck n back ∷ push_list edits push again sent)
  by_push answer.Clean = record { looks = mutator.SawAck n back ∷ []; none = refl; ends = inl refl }
  by_push (answer.Busy seen expected) = record { looks = mutator.SawAck n back ∷ mutator.SawAck (edits.pushed - 1) again ∷ []; none = refl; ends = inl refl }
  by_push (answer.Pushed number) = by_first (edits.pushed == 0) number

  by_end : (b d : Bool) → GrowsByTurn ms (ms ++ (if b then [] else mutator.SawAck n back ∷ (if d then [] else push_list edits e.push again sent)))
  by_end true d = record { looks = []; none = refl; ends = inl refl }
  by_end false true = record { looks = mutator.SawAck n back ∷ []; none = refl; ends = inl refl }
  by_end false false = by_push e.push

  pub turn_grows : GrowsByTurn ms (ms ++ mutator_list c k m e back again sent)
  turn_grows = by_end m.ended e.ended

-- a legal turn looks at the acknowledgement and then perhaps pushes one state
pub legal_grows : (o : Outside) (x n : NormalState) → IsLegal o x n → GrowsByTurn x.mutator.past.events n.mutator.past.events
legal_grows o x n legal = subst (GrowsByTurn x.mutator.past.events) (sym legal.lists.mutator)
    (turn_grows (setup_of x) (learnt o) (kept_of x) (turn_of n.entry) legal.lists.back legal.lists.again legal.lists.sent x.mutator.past.events)

-- a mixer that has ended does nothing
pub still_grows : (ms : Pushed) → GrowsByTurn ms ms
still_grows ms = record { looks = []; none = refl; ends = inl (sym (append-nil ms)) }
