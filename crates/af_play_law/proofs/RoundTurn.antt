-- The normal mixer's turn in a round of all parties, behind the early entries: the run with it tells the session but for the load of the report, and it is legal by marks on whose blocks each front seen is a server's own.
use Rattle.std.proofs.Common.{◌≡◌, ◌+◌, ◌<◌, Bool, true, false, [], ◌∷◌, ◌++◌, refl}
use Rattle.af_play_law.proofs.Common.{AreTogether, Deeds, GoOn, IsLegal, Leads, LegalTurnBy, Links, Marks, NormalState, Outside, PartsTold, QueueKnown, Run, SawOwnBy, SawUpTo, Session, SessionState, StandsBefore, TurnFound, TurnMade, TurnShown, answer_of, commands_by, cycle_frames, did_by, kept_of, pipe_cells, setup_of, stream_by, turn_of, with_turn}
use Rattle.af_model.specs.declared.states.MutatorEvent.TheVariants as mutator
use Rattle.af_normal.specs.Order.{IsInOrder as IsNormalInOrder}
use Rattle.af_normal.specs.State.{setup_of as mixer_setup}
use Rattle.af_told_law.specs.Leads.{Tells as TellsPushes}
use Rattle.af_told_law.proofs.NormalSteps.{turn_same, turn_tells, turned_leads}
use Rattle.af_told_law.proofs.NormalGoes.{turn_leaves}
use Rattle.af_told_law.proofs.NormalRound.{known_now, legal_now, tells_turned}
use Rattle.af_told_law.proofs.PartsTold.{parts_told}
use Rattle.af_told_law.proofs.TurnCounts.{turns_made}
use Rattle.af_play_law.proofs.OneCycle.{MayCycle}
use Rattle.af_play_law.proofs.TurnApart.{order_unread}

-- the session after the turn, when the reader of the report hasn't loaded yet
abbrev pub unread : SessionState → NormalState → SessionState
unread x n = record x { normal = record n { reader = x.normal.reader } }

-- What a turn to n leaves of a round: the servers' lists, what is so before further cycles, that the turn is legal, and what is known of the queue
pub record TurnLeft (links : Links) (s : Session) (run : Run) (d : Deeds) (x : SessionState) (n : NormalState) (f : TurnFound) : Type 0 where
  pub deeds : Deeds
  pub goes : GoOn d deeds
  pub may : MayCycle links s (with_turn s f (turn_of n.entry) run) deeds (unread x n)
  pub legal : (marks : Marks) → SawOwnBy marks run deeds → LegalTurnBy (setup_of s) marks f run.normal (turn_of n.entry)
  pub known : QueueKnown (cycle_frames s) (with_turn s f (turn_of n.entry) run) n
  pub tells : TellsPushes n.mutator.past
  pub leads : Leads x.fast.observer.past.state (kept_of n)
  pub same : 0 < n.mutator.past.number → x.fast.observer.past.number ≡ n.mutator.past.number → x.fast.observer.past.state ≡ n.mutator.past.last

-- a legal turn leaves the state that the queue began with
pub first_same : (links : Links) (o : Outside) (x n : NormalState) → IsNormalInOrder links x → IsLegal o x n → TurnMade (answer_of (turn_of n.entry)) x n → n.mutator.past.first ≡ x.mutator.past.first
first_same links o x n order legal made = by_end (turn_of n.entry).ended refl
  where
    by_end : (b : Bool) → (turn_of n.entry).ended ≡ b → n.mutator.past.first ≡ x.mutator.past.first
    by_end false goes = ((turn_leaves links o x n order legal made).0 goes).queue.first
    by_end true over = ((turn_leaves links o x n order legal made).1 over).first

module _ (links : Links) (s : Session) (run : Run) (d : Deeds) (x : SessionState) (n : NormalState) (o : Outside) (f : TurnFound) (may : MayCycle links s run d x) (stands : StandsBefore x) (after : AreTogether links (record x { normal = n })) (legal : IsLegal o x.normal n)
    (made : TurnMade (answer_of (turn_of n.entry)) x.normal n) (seen : TurnShown s run x n o f) (known : QueueKnown (cycle_frames s) run x.normal) (lives : x.normal.ended ≡ false) (cells : x.normal.pipe.pass.part.shape.cells ≡ pipe_cells (setup_of s))
    (saw : SawUpTo x.fast.observer.past.number (n.mutator.past.events ++ mutator.Learn seen.polled ∷ [])) where
  parts : PartsTold s run d x n o f legal
  parts = parts_told s links run d x n o f may.together after may.told stands legal made seen known lives

  turns : n.turns ≡ x.normal.turns + 1
  turns = turns_made (answer_of (turn_of n.entry)) x.normal n made

  together_unread : AreTogether links (unread x n)
  together_unread = record { normal = order_unread links x.normal n may.together.normal after.normal; fast = after.fast; count = after.count; tracks = after.tracks; clients = after.clients }

  leads_now : Leads x.fast.observer.past.state (kept_of n)
  leads_now = turned_leads links x.normal n may.together.normal o legal x.fast.observer.past.state x.fast.observer.past.number stands.step.few stands.step.same may.together.fast.0.begins seen.polled saw stands.leads

  pub turn_left : TurnLeft links s run d x n f
  turn_left = record {
    deeds = did_by o x n d;
    goes = record { streams = (λ i. (stream_by (mixer_setup x.normal) (kept_of x.normal) o (turn_of n.entry) i, refl)); commands = (λ i. (commands_by (mixer_setup x.normal) (kept_of x.normal) o (turn_of n.entry) i, refl)) };
    may = record {
      told = tells_turned s run x n links o f may.told may.together after legal made seen stands known lives cells parts turns;
      together = together_unread;
      state = leads_now.state;
      last = leads_now.last;
      took = may.took;
    };
    legal = legal_now s run x n links o f may.told may.together after legal made seen stands known lives cells parts;
    known = known_now s run x n links o f may.told may.together after legal made seen stands known lives cells parts;
    tells = turn_tells links x.normal n may.together.normal o legal stands.step.tells;
    leads = leads_now;
    same = turn_same links x.normal n may.together.normal o legal x.fast.observer.past.state x.fast.observer.past.number stands.step.few stands.step.same;
  }
