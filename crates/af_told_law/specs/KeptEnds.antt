-- When the lists that the ends of a session keep are those of the run that its journal tells.
use Rattle.std.specs.Prelude.{◌≡◌, ℕ, true, slice_get, Some}
use Rattle.af_normal.specs.LegalTurned.{hand_events}
use Rattle.af_normal.specs.Mixing.{stream_at}
use Rattle.af_normal.specs.State.{NormalState}
use Rattle.af_party.specs.Parties.{PartyState}
use Rattle.af_runs.specs.Blocks.{BlockTold, hand_list, is_tame, server_list}
use Rattle.af_runs.specs.KeptLists.{KeepsClient, KeepsMutator, KeepsPipe, KeepsReader}
use Rattle.af_runs.specs.Runs.{Run, TrackTold, told_at}
use Rattle.af_server.specs.Order.{ServerState}
use Rattle.af_session.specs.Ends.{EndsState}
use Rattle.af_told_law.specs.Alike.{TellAlike}

-- A server's proxy: its list is the one told if no poke was told, and else one that tells the same; the words that it took are those told on any block
pub record KeepsProxy (b : BlockTold) (t : ServerState) : Type 0 where
  pub told : is_tame b ≡ true → t.pass.part.events ≡ server_list b
  pub alike : TellAlike b.shape t.pass.part.events (server_list b)
  pub words : t.pass.part.frames ≡ b.taken

-- A track: its client p has the lists told, and the normal mixer those of its servers that it holds, the stream's while that is home, and of the hand
pub record KeepsTrack (t : TrackTold) (m : NormalState) (i : ℕ) (p : PartyState) : Type 0 where
  pub stream : KeepsClient t.stream p.stream.pass.part.events p.stream.pass.part.frames
  pub command : KeepsClient t.commands p.command.pass.part.events p.command.pass.part.frames
  pub home : (x : ServerState) → stream_at m.streams i ≡ Some x → KeepsProxy t.stream x
  pub commands : (x : ServerState) → slice_get m.commands i ≡ Some x → KeepsProxy t.commands x
  pub hand : hand_events m.hands i ≡ hand_list t.stream

-- The lists of all proxies that the ends hold, of the queue's mutator, of the report's reader, and of the end of the pipe that puts, are those of the run
pub record KeepsLists (run : Run) (ends : EndsState) : Type 0 where
  pub tracks : (i : ℕ) (p : PartyState) → slice_get ends.clients i ≡ Some p → KeepsTrack (told_at run i) ends.normal i p
  pub mutator : KeepsMutator run ends.normal.mutator.past.events
  pub reader : KeepsReader run ends.normal.reader.events
  pub pipe : KeepsPipe run ends.normal.pipe.pass.part.events ends.normal.pipe.pass.part.frames
