-- What a meeting leaves of a client: all but its lists of events.
use Rattle.std.proofs.Common.{◌≡◌, ℕ, List, Option, Some, None, refl, sym, subst, ◌∙◌}
use Rattle.af_session.proofs.Common.{CanWork, ClientState, HandSide, Made, MeetsAway, MeetsStream, Op, PartyState, ServerState, Spot, SpotMet, TrackMet, client_knows, client_made}

-- the client's proxy learnt something, and is as before in all else
abbrev pub HasLearnt : ClientState → ClientState → Type 0
HasLearnt c d = d ≡ record c { pass = record c.pass { part = record c.pass.part { events = d.pass.part.events; learnt = d.pass.part.learnt } } }

knows_learnt : (c d : ClientState) (s : ServerState) → d ≡ client_knows c s → HasLearnt c d
knows_learnt c d s e = subst (HasLearnt c) (sym e) refl

same_learnt : (c d : ClientState) → d ≡ c → HasLearnt c d
same_learnt c d e = subst (HasLearnt c) (sym e) refl

by_home : (block : Made) (s : ServerState) (h : Option HandSide) (c d : ClientState) (t : Option ServerState) (g : Option HandSide) → MeetsStream block (Some s) h c t g d → HasLearnt c d
by_home block s None c d t g m = knows_learnt c d s m.3.client
by_home block s (Some h) c d t g m = knows_learnt c d s m.4.client

by_away : (block : Made) (s : Option ServerState) (h g : HandSide) (c d : ClientState) (t : Option ServerState) → MeetsAway block s h c t g d → HasLearnt c d
by_away block None h g c d t m = same_learnt c d m.1.client
by_away block (Some s) h g c d t m = knows_learnt c d s m.2.client

by_spot : (block : Made) (o : Option ServerState) (a b : Spot) (c d : ClientState) → SpotMet block o a c b d → HasLearnt c d
by_spot block None a b c d m = by_away block a.held m.hand m.hand' c d b.held m.met
by_spot block (Some s) a b c d m = by_home block s a.hand c d b.stream b.hand m.0

module _ (a b : Spot) (p q : PartyState) (met : TrackMet a b p q) where
  pub stream_learnt : HasLearnt p.stream q.stream
  stream_learnt = by_spot (client_made p.stream.pass) a.stream a b p.stream q.stream met.streamed

  pub command_learnt : HasLearnt p.command q.command
  command_learnt = knows_learnt p.command q.command met.command met.commanded.client

  -- a client that can do its work before a meeting still can after it
  pub work_met : (ops : List Op) (frames : ℕ) → CanWork ops frames p → CanWork ops frames q
  work_met ops frames k =
      let learnt : q ≡ record p {
        stream = record p.stream { pass = record p.stream.pass { part = record p.stream.pass.part { events = q.stream.pass.part.events; learnt = q.stream.pass.part.learnt } } };
        command = record p.command { pass = record p.command.pass { part = record p.command.pass.part { events = q.command.pass.part.events; learnt = q.command.pass.part.learnt } } };
      } = met.same ∙ (λ i. record p { stream = stream_learnt i; command = command_learnt i }) in
      subst (CanWork ops frames) (sym learnt)
      (record { file = k.file; few_frames = k.few_frames; flushes = k.flushes; due_fits = k.due_fits; ops_fit = k.ops_fit; commands = k.commands; room = k.room })
