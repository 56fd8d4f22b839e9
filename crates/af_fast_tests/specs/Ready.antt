-- When the ends that a test moves are ready for its next call.
use Rattle.std.specs.Prelude.{◌≡◌, ℕ, ◌≤◌, false, List, length, Option, Some}
use Rattle.std.specs.List.{AllZip}
use Rattle.af_cblk.specs.Sides.{Made}
use Rattle.af_client.specs.Order.{ClientState, IsClientOf}
use Rattle.af_server.specs.Order.{ServerState, IsServerOf}
use Rattle.af_stateq.specs.Mutates.{Mutates, at}
use Rattle.af_link.specs.Names.{IsStreamOf}
use Rattle.af_link.specs.PipeEnds.{InSide, in_made}
use Rattle.af_link.specs.Reports.{ReaderSide}
use Rattle.af_link.specs.declared.links.Links.{Links}
use Rattle.af_link.specs.declared.names.StreamNames.{StreamNames}
use Rattle.af_fast.specs.Fits.{NamesBlocks}
use Rattle.af_fast.specs.Mixer.{MixerState, IsSound, IsLinked}

-- The ends are those of these links. The mixer is in order between two cycles of so many frames, and the mutator makes no edit
pub record IsReady (links : Links) (frames : ℕ) (m : Mutates ServerState StreamNames) (f : MixerState) (r : ReaderSide) : Type 0 where
  pub linked : IsLinked links f
  pub order : IsSound f
  pub turn : (f.adopted ≡ false) × (f.frames ≡ frames)
  pub names : NamesBlocks m.past.key links.streams.now
  pub queue : m.past.queue ≡ links.queue.now
  pub idle : m.editing ≡ false
  pub report : r.cell ≡ links.report.now

-- each client is of the block of its place
abbrev pub AreClientsOf : List Made → List ClientState → Type 0
AreClientsOf = AllZip IsClientOf

-- a block with its client and its server
abbrev pub IsLine : Made × ClientState × ServerState → Type 0
IsLine l = IsClientOf l.0 l.1 × IsServerOf l.0 l.2

-- the proxies that no slot has, each of the track of its place
pub record AreWaiting (blocks : List Made) (servers : List (Option ServerState)) : Type 0 where
  pub each : (i : ℕ) (s : ServerState) → at servers i ≡ Some s → IsStreamOf blocks i s

-- the blocks of the tracks, each with its client and its proxy, which waits
pub record AreLines (blocks : List Made) (clients : List ClientState) (servers : List (Option ServerState)) : Type 0 where
  pub clients_are : AreClientsOf blocks clients
  pub waiting : AreWaiting blocks servers
  pub long : length blocks ≡ length servers

-- the ends, the clients and the waiting proxies are of these links, and there were no more pushes than were counted
pub record IsTable (links : Links) (m : Mutates ServerState StreamNames) (f : MixerState) (r : ReaderSide) (p : InSide) (clients : List ClientState) (servers : List (Option ServerState)) (pushes : ℕ) : Type 0 where
  pub ready : IsReady links 4 m f r
  pub pipe_is : in_made p ≡ links.pipe.now
  pub clients_are : AreClientsOf links.streams.now clients
  pub waiting : AreWaiting links.streams.now servers
  pub few : m.past.number ≤ pushes
