-- What the meetings of a mixer's ends, and of a proxy that it holds, come to.
use Rattle.std.specs.Prelude.{◌≡◌, ℕ, ◌+◌, true, false, [], ◌∷◌, ◌++◌, length, None, Some, slice_set}
use Rattle.af_base.specs.declared.event.ServerEvent.TheVariants as takes
use Rattle.af_model.specs.History.{is_lawful, HasHistory as HasBlockHistory}
use Rattle.af_model.specs.NewestValue.{HasValueHistory as HasReportHistory}
use Rattle.af_model.specs.PipeHistory.{HasPipeHistory}
use Rattle.af_model.specs.StateQueue.{HasStateHistory as HasQueueHistory}
use Rattle.af_model.specs.Reports.{no_report}
use Rattle.af_model.specs.declared.states.MutatorEvent.TheVariants as mutates
use Rattle.af_model.specs.declared.states.ObserverEvent.TheVariants as observes
use Rattle.af_model.specs.declared.newest.WriterEvent.TheVariants as writes
use Rattle.af_model.specs.declared.newest.ReaderEvent.TheVariants as reads
use Rattle.af_cblk.specs.Parts.{client_met, server_did, hand_met}
use Rattle.af_cblk.specs.Sides.{HandSide, server_made, hand_made}
use Rattle.af_client.specs.Order.{ClientState}
use Rattle.af_server.specs.Order.{ServerState}
use Rattle.af_stateq.specs.Mutates.{Mutates}
use Rattle.af_stateq.specs.Observes.{Observes}
use Rattle.af_link.specs.PipeEnds.{InSide, in_made, SeesTaken}
use Rattle.af_link.specs.Reports.{ReaderSide, CyclesNeverFall}
use Rattle.af_link.specs.declared.links.Links.{Links}
use Rattle.af_link.specs.declared.names.StreamNames.{StreamNames}
use Rattle.af_fast.specs.Mixer.{MixerState}
use Rattle.af_client.specs.Order.{IsClientOf}

-- the ends of the other side: the one that pushes states, the one that loads reports, and the one that puts frames
pub record Others : Type 0 where
  pub mutator : Mutates ServerState StreamNames
  pub reader : ReaderSide
  pub pipe : InSide

-- the other ends were made with the objects of these links
pub record AreOthers (links : Links) (o : Others) : Type 0 where
  pub queue_is : o.mutator.past.queue ≡ links.queue.now
  pub report_is : o.reader.cell ≡ links.report.now
  pub pipe_is : in_made o.pipe ≡ links.pipe.now

-- a mixer whose three ends learnt what the others have done so far
abbrev pub mixer_met : MixerState → Others → MixerState
mixer_met m o = record m {
  observer = record m.observer { past = record m.observer.past { events = m.observer.past.events ++ observes.Learn (length o.mutator.past.events) ∷ [] } };
  writer = record m.writer { events = m.writer.events ++ writes.Learn (length o.reader.events) ∷ [] };
  pipe = record m.pipe { pass = record m.pipe.pass { part = server_did m.pipe.pass.part (takes.Learn (length o.pipe.pass.part.events)) } };
}

-- the other ends, which learnt what those of the mixer have done so far
abbrev pub others_met : MixerState → Others → Others
others_met m o = record {
  mutator = record o.mutator { past = record o.mutator.past { events = o.mutator.past.events ++ mutates.Learn (length m.observer.past.events) ∷ [] } };
  reader = record o.reader { events = o.reader.events ++ reads.Learn (length m.writer.events) ∷ [] };
  pipe = record o.pipe { pass = record o.pipe.pass { part = client_met o.pipe.pass.part m.pipe.pass.part.events } };
}

-- The lists of the queue, of the report and of the pipe have histories. No load shows an earlier cycle than one before it, or than what was learnt before it, and each front seen is the number of frames taken before
pub record HaveHistories (m : MixerState) (o : Others) : Type 0 where
  pub queue : HasQueueHistory o.mutator.past.first o.mutator.past.events m.observer.past.events
  pub report : HasReportHistory no_report m.writer.events o.reader.events
  pub never_older : CyclesNeverFall m.writer.events 0 o.reader.events
  pub pipe : HasPipeHistory m.pipe.pass.part.shape.frames o.pipe.pass.part.events o.pipe.pass.part.frames m.pipe.pass.part.events m.pipe.pass.part.frames
  pub fronts : SeesTaken 0 m.pipe.pass.part.events

-- the client and the hand are of the block of this proxy
abbrev pub AreOfBlockOf : ServerState → ClientState → HandSide → Type 0
AreOfBlockOf s c h = IsClientOf (server_made s.pass) c × (hand_made h ≡ server_made s.pass)

-- a proxy that learnt what its client has done so far, with the hand elsewhere
abbrev pub server_met : ServerState → ClientState → ServerState
server_met s c = record s { pass = record s.pass { part = server_did s.pass.part (takes.Learn (length c.pass.part.events)); has_hand = false } }

-- a client that learnt what the proxy has done so far
abbrev pub client_knows : ClientState → ServerState → ClientState
client_knows c s = record c { pass = record c.pass { part = client_met c.pass.part s.pass.part.events } }

-- The proxy s that is held for a slot met its client and its hand. If the client has not poked the three lists have a history, in which no look of this server was shut
pub record MeetsHeld (slot : ℕ) (s : ServerState) (o : Observes ServerState StreamNames) (c : ClientState) (h : HandSide) (o' : Observes ServerState StreamNames) (c' : ClientState) (h' : HandSide) : Type 0 where
  pub observer : o' ≡ record o { items = slice_set o.items slot (Some (server_met s c)) }
  pub client : c' ≡ client_knows c s
  pub hand : h'.part ≡ hand_met h.part (length c.pass.part.events + 1)
  pub others : AreOfBlockOf s c' h'
  pub history : is_lawful c.pass.part.events ≡ true → HasBlockHistory s.pass.part.shape c'.pass.part.events c'.pass.part.frames (server_met s c).pass.part.events (server_met s c).pass.part.frames h'.part.events
  pub unshut : is_lawful c.pass.part.events ≡ true → s.shut ≡ None
