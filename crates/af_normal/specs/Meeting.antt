-- What the meetings of the mixer's ends and proxies come to.
use Rattle.std.specs.Prelude.{◌≡◌, ◌≢◌, ℕ, ◌+◌, true, false, List, [], ◌∷◌, ◌++◌, length, slice_get, slice_set, Option, Some, None}
use Rattle.af_base.specs.declared.event.HandEvent.{HandEvent}
use Rattle.af_base.specs.declared.event.ServerEvent.TheVariants as takes
use Rattle.af_model.specs.History.{is_lawful, HasHistory}
use Rattle.af_model.specs.declared.newest.ReaderEvent.TheVariants as reads
use Rattle.af_model.specs.declared.newest.WriterEvent.TheVariants as writes
use Rattle.af_model.specs.declared.states.MutatorEvent.TheVariants as mutates
use Rattle.af_model.specs.declared.states.ObserverEvent.TheVariants as observes
use Rattle.af_cblk.specs.Parts.{client_met, server_did, hand_met}
use Rattle.af_cblk.specs.Sides.{HandSide, Made, client_made, hand_made}
use Rattle.af_client.specs.Order.{ClientState, IsInOrder as IsClientInOrder}
use Rattle.af_server.specs.Order.{ServerState}
use Rattle.af_stateq.specs.Observes.{Observes}
use Rattle.af_link.specs.Names.{IsStreamOf}
use Rattle.af_link.specs.PipeEnds.{OutSide}
use Rattle.af_link.specs.Reports.{WriterSide}
use Rattle.af_link.specs.declared.links.Links.{Links}
use Rattle.af_link.specs.declared.names.StreamNames.{StreamNames}
use Rattle.af_normal.specs.Mixing.{stream_at}
use Rattle.af_normal.specs.State.{NormalState}

-- ## The ends

-- the reader and the pipe's end learnt what the other ends have done so far
abbrev pub ends_met : NormalState → WriterSide → OutSide → NormalState
ends_met m w out = record m {
  reader = record m.reader { events = m.reader.events ++ reads.Learn (length w.events) ∷ [] };
  pipe = record m.pipe { pass = record m.pipe.pass { part = client_met m.pipe.pass.part out.pass.part.events } };
}

-- the writer and the end that takes learnt what the mixer's ends have done so far
abbrev pub writer_met : NormalState → WriterSide → WriterSide
writer_met m w = record w { events = w.events ++ writes.Learn (length m.reader.events) ∷ [] }

abbrev pub out_met : NormalState → OutSide → OutSide
out_met m out = record out { pass = record out.pass { part = server_did out.pass.part (takes.Learn (length m.pipe.pass.part.events)) } }

-- the mutator learnt what an observer has done so far
abbrev pub queue_met : NormalState → Observes ServerState StreamNames → NormalState
queue_met m o = record m { mutator = record m.mutator { past = record m.mutator.past { events = m.mutator.past.events ++ mutates.Learn (length o.past.events) ∷ [] } } }

-- the observer learnt what the mutator has done so far
abbrev pub observer_met : NormalState → Observes ServerState StreamNames → Observes ServerState StreamNames
observer_met m o = record o { past = record o.past { events = o.past.events ++ observes.Learn (length m.mutator.past.events) ∷ [] } }

-- ## The proxies of a track

-- the two clients of the track i are of its blocks, and in order
pub record AreClientsOf (links : Links) (i : ℕ) (stream command : ClientState) : Type 0 where
  pub stream_is : slice_get links.streams.now i ≡ Some (client_made stream.pass)
  pub command_is : slice_get links.commands.now i ≡ Some (client_made command.pass)
  pub in_order : IsClientInOrder stream × IsClientInOrder command

-- a proxy that learnt what its client has done so far, and the client what the proxy has done
abbrev pub server_knows : ServerState → ClientState → ServerState
server_knows s c = record s { pass = record s.pass { part = server_did s.pass.part (takes.Learn (length c.pass.part.events)) } }

abbrev pub client_knows : ClientState → ServerState → ClientState
client_knows c s = record c { pass = record c.pass { part = client_met c.pass.part s.pass.part.events } }

-- a proxy whose hand is elsewhere, after it learnt what its client has done so far
abbrev pub server_alone : ServerState → ClientState → ServerState
server_alone s c = record s { pass = record s.pass { part = server_did s.pass.part (takes.Learn (length c.pass.part.events)); has_hand = false } }

-- The proxy s of this block met its client, and is t then. If the client has not poked the lists have a history, with some hand's list, which is empty if the proxy still has its hand, and the proxy isn't shut
pub record Meets (block : Made) (s t : ServerState) (c d : ClientState) : Type 0 where
  pub server : t ≡ server_knows s c
  pub client : d ≡ client_knows c s
  pub history : is_lawful c.pass.part.events ≡ true → (hand : List HandEvent) × (s.pass.has_hand ≡ true → hand ≡ []) × HasHistory block.shape d.pass.part.events d.pass.part.frames t.pass.part.events t.pass.part.frames hand
  pub unshut : is_lawful c.pass.part.events ≡ true → t.shut ≡ None

-- The proxy met its client and its hand
pub record MeetsAll (block : Made) (s t : ServerState) (c d : ClientState) (h g : HandSide) : Type 0 where
  pub server : t ≡ server_alone s c
  pub client : d ≡ client_knows c s
  pub hand : g.part ≡ hand_met h.part (length c.pass.part.events + 1)
  pub history : is_lawful c.pass.part.events ≡ true → HasHistory block.shape d.pass.part.events d.pass.part.frames t.pass.part.events t.pass.part.frames g.part.events
  pub unshut : is_lawful c.pass.part.events ≡ true → t.shut ≡ None

-- a stream proxy that is there meets its client, and its hand if that was split off
abbrev pub MeetsStream : Made → Option ServerState → Option HandSide → ClientState → Option ServerState → Option HandSide → ClientState → Type 0
MeetsStream block None h c s' h' d = (s' ≡ None) × (h' ≡ h) × (d ≡ c)
MeetsStream block (Some s) None c s' h' d = (t : ServerState) × (s' ≡ Some t) × (h' ≡ None) × Meets block s t c d
MeetsStream block (Some s) (Some h) c s' h' d = (t : ServerState) × (g : HandSide) × (s' ≡ Some t) × (h' ≡ Some g) × MeetsAll block s t c d h g

-- The proxies of the track i, and its hand if that was split off, met their clients c and e, which are d and f then, and nothing else changed
pub record MeetsTrack (links : Links) (i : ℕ) (streams streams' : List (Option ServerState)) (commands commands' : List ServerState) (hands hands' : List HandSide) (c d e f : ClientState) : Type 0 where
  pub command : ServerState
  pub has_command : slice_get commands i ≡ Some command
  pub command' : ServerState
  pub commands_are : commands' ≡ slice_set commands i command'
  pub commanded : Meets (client_made e.pass) command command' e f
  pub streams_are : streams' ≡ slice_set streams i (stream_at streams' i)
  pub streamed : MeetsStream (client_made c.pass) (stream_at streams i) (slice_get hands i) c (stream_at streams' i) (slice_get hands' i) d
  pub hands_are : (length hands' ≡ length hands) × ((j : ℕ) → j ≢ i → slice_get hands' j ≡ slice_get hands j)

-- the stream proxy and the hand of the track i, if they are there, and its command proxy are of its blocks
pub record AreOf (links : Links) (i : ℕ) (streams : List (Option ServerState)) (commands : List ServerState) (hands : List HandSide) : Type 0 where
  pub command_is : (s : ServerState) → slice_get commands i ≡ Some s → IsStreamOf links.commands.now i s
  pub stream_is : (s : ServerState) → stream_at streams i ≡ Some s → IsStreamOf links.streams.now i s
  pub flag_is : (h : HandSide) → slice_get hands i ≡ Some h → slice_get links.streams.now i ≡ Some (hand_made h)
