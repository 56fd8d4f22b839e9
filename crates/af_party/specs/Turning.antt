-- The parts of a client's turn.
use Rattle.std.specs.Prelude.{◌≡◌, Bool, true, false, List, [], ◌∷◌, ◌++◌, Option, Some, None}
use Rattle.af_base.specs.declared.event.ClientCall.{ClientCall}
use Rattle.af_base.specs.declared.frame.Frame.{Frame}
use Rattle.af_runs.specs.declared.want.Want.{Want}
use Rattle.af_runs.specs.Clients.{Client, at_next_turn, begun, next_want}
use Rattle.af_runs.specs.ClientTurns.{IsMade, LegalClientTurn, after_call, after_calls, wanted_of}
use Rattle.af_script.specs.declared.op.Op.{Op}
use Rattle.af_party.specs.Asking.{track_with}
use Rattle.af_party.specs.Parties.{PartyState, track_of}

-- what a client wants next, with its op begun; if it wants nothing, its turn ends as that of the client before
abbrev pub WantsNext : Client → Option Want → Client → Type 0
WantsNext c None d = (next_want (begun c) ≡ None) × (at_next_turn false d ≡ at_next_turn false c)
WantsNext c (Some wanted) d = (next_want (begun c) ≡ Some wanted) × (d ≡ begun c)

-- the call is the one that the party wants, and answers by the words that it saw
abbrev pub IsMadeBy : List Frame → PartyState → Want → ClientCall → Type 0
IsMadeBy file p wanted answer = (c : Client) → IsMade (track_with c file p) wanted answer

-- one call was made that was wanted
pub record Calls (ops : List Op) (file : List Frame) (p q : PartyState) : Type 0 where
  pub wanted : Want
  pub is : wanted_of (track_of ops file p) ≡ Some wanted
  pub answer : ClientCall
  pub made : IsMade (track_of ops file p) wanted answer
  pub track : track_of ops file q ≡ after_call (track_of ops file p) answer
  pub calls : q.calls ≡ (record p.calls { items = p.calls.items ++ answer ∷ [] })

-- nothing was wanted, and the turn has ended
pub record Rests (ops : List Op) (file : List Frame) (p q : PartyState) : Type 0 where
  pub none : wanted_of (track_of ops file p) ≡ None
  pub same : q ≡ (record p { client = q.client })
  pub track : track_of ops file q ≡ (let t = track_of ops file p in record t { client = at_next_turn false t.client })

-- a call was made, or the turn has ended
abbrev pub Stepped : List Op → List Frame → Bool → PartyState → PartyState → Type 0
Stepped ops file true p q = Calls ops file p q
Stepped ops file false p q = Rests ops file p q

-- a whole turn was made
pub record IsTurned (ops : List Op) (file : List Frame) (p q : PartyState) : Type 0 where
  pub legal : LegalClientTurn (track_of ops file p) q.calls.items
  pub track : track_of ops file q ≡ after_calls (track_of ops file p) q.calls.items
