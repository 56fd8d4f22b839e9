-- What the parts that a test moves keep.
use Rattle.std.specs.Prelude.{◌≡◌, ℕ, ◌*◌, ◌≤◌, true, List, [], length, All, slice_get, Option, Some}
use Rattle.std.specs.List.{AllZip}
use Rattle.af_base.specs.declared.report.Report.{Report}
use Rattle.af_cblk.specs.Sides.{Made}
use Rattle.af_client.specs.Order.{ClientState, IsClientOf}
use Rattle.af_server.specs.Order.{ServerState, IsServerOf}
use Rattle.af_model.specs.Draft.{initial}
use Rattle.af_stateq.specs.Mutates.{Mutates, IsNewMutator}
use Rattle.af_stateq.specs.Observes.{Observes, InOrder}
use Rattle.af_link.specs.Linked.{AreLinked}
use Rattle.af_link.specs.Names.{IsStreamOf}
use Rattle.af_link.specs.PipeEnds.{InSide, OutSide, in_made, out_made}
use Rattle.af_link.specs.Reports.{ReaderSide, WriterSide, last_cycle}
use Rattle.af_link.specs.declared.links.Links.{Links}
use Rattle.af_link.specs.declared.names.StreamNames.{StreamNames}
use Rattle.af_normal.specs.Making.{TrackList}
use Rattle.af_normal.specs.Mixing.{stream_at}
use Rattle.af_normal.specs.Order.{IsInOrder}
use Rattle.af_normal.specs.State.{NormalState}
use Rattle.af_normal.specs.Turning.{stream_fits}

-- each client is of the block of its place
abbrev pub AreClients : List Made → List ClientState → Type 0
AreClients = AllZip IsClientOf

-- the key names these blocks
abbrev pub NamesBlocks : Option StreamNames → List Made → Type 0
NamesBlocks key blocks = (names : StreamNames) × (key ≡ Some names) × (names.blocks ≡ blocks)

-- the ends of the other mixer, and the clients, are of these links; the report stored last has the cycle of this one
pub record AreOthers (links : Links) (o : Observes ServerState StreamNames) (w : WriterSide) (p : OutSide) (last : Report) (streams commands : List ClientState) : Type 0 where
  pub queue_is : o.past.queue ≡ links.queue.now
  pub names : NamesBlocks o.past.key links.streams.now
  pub polls : InOrder stream_fits o
  pub report_is : w.cell ≡ links.report.now
  pub cycle_is : last_cycle w.events ≡ last.cycle
  pub pipe_is : out_made p ≡ links.pipe.now
  pub streams_are : AreClients links.streams.now streams
  pub commands_are : AreClients links.commands.now commands

-- the ends of both mixers are of these links, and nothing was done on them. The pipe holds four buffers
pub record AreJoined (links : Links) (frames normal : ℕ) (mutator : Mutates ServerState StreamNames) (reader : ReaderSide) (from : InSide) (o : Observes ServerState StreamNames) (w : WriterSide) (p : OutSide) : Type 0 where
  pub names : StreamNames
  pub mutator_is : IsNewMutator names (initial frames) mutator
  pub linked : AreLinked links mutator.past.key mutator.past.queue reader.cell (in_made from)
  pub pipe_is : from.pass.part.shape.frames ≡ 4 * (normal * frames)
  pub queue_is : o.past.queue ≡ links.queue.now
  pub key : NamesBlocks o.past.key links.streams.now
  pub polls : InOrder stream_fits o
  pub report_is : w.cell ≡ links.report.now
  pub cycle_is : last_cycle w.events ≡ last_cycle []
  pub out_is : out_made p ≡ links.pipe.now

-- the mixer is in order, and the ends of the other mixer and the clients are of these links
pub record IsWorld (links : Links) (m : NormalState) (o : Observes ServerState StreamNames) (w : WriterSide) (p : OutSide) (last : Report) (streams commands : List ClientState) : Type 0 where
  pub order : IsInOrder links m
  pub others : AreOthers links o w p last streams commands

-- a block with its client and its server, of which the hand wasn't split off
pub record IsLine (block : Made) (client : ClientState) (server : ServerState) : Type 0 where
  pub client_is : IsClientOf block client
  pub server_is : IsServerOf block server
  pub whole : server.pass.has_hand ≡ true

-- the blocks of so many tracks with their clients, and the tracks with the servers
pub record AreLines (count : ℕ) (streams commands : List Made) (clients senders : List ClientState) (tracks : TrackList) : Type 0 where
  pub long : (length streams ≡ count) × (length commands ≡ count) × (length tracks.settings ≡ count) × (length tracks.streams ≡ count) × (length tracks.commands ≡ count)
  pub clients_are : AreClients streams clients
  pub senders_are : AreClients commands senders
  pub scales : All (λ setting. setting.scale ≤ 4096) tracks.settings
  pub streams_of : (i : ℕ) (s : ServerState) → stream_at tracks.streams i ≡ Some s → IsStreamOf streams i s
  pub hands_of : (i : ℕ) (s : ServerState) → stream_at tracks.streams i ≡ Some s → s.pass.has_hand ≡ true
  pub commands_of : (i : ℕ) (s : ServerState) → slice_get tracks.commands i ≡ Some s → IsStreamOf commands i s
