-- What the servers of a session's blocks did, wherever their proxies are, and what a run tells of it.
use Rattle.std.specs.Prelude.{◌≡◌, ℕ, ◌<◌, true, List, ◌++◌, length}
use Rattle.af_base.specs.declared.event.ServerEvent.{ServerEvent}
use Rattle.af_cblk.specs.Rule.{StartsWith}
use Rattle.af_life.specs.Heard.{learnt}
use Rattle.af_life.specs.Kept.{NormalKept, Outside, Setup}
use Rattle.af_life.specs.TurnEvents.{command_list, stream_list, tracks_at}
use Rattle.af_base.specs.Turn.{Turn}
use Rattle.af_model.specs.declared.shape.Shape.{Shape}
use Rattle.af_model.specs.ServerCalls.{server_begins}
use Rattle.af_model.specs.Spelled.{AllSeeOwn}
use Rattle.af_runs.specs.Blocks.{BlockTold, Marks, server_list}
use Rattle.af_runs.specs.Runs.{Run, TrackTold, told_at}
use Rattle.af_told_law.specs.Alike.{TellAlike}

-- ## One server

-- what a server did: the sizes of its block, its list, and the words that it took
pub record ServerDone : Type 0 where
  pub shape : Shape
  pub events : List ServerEvent
  pub taken : List ℕ

-- what the server of a block did, if this is its list
abbrev pub done_on : BlockTold → List ServerEvent → ServerDone
done_on b deed = record { shape = b.shape; events = deed; taken = b.taken }

-- each front that a server's list saw is the server's own
abbrev pub SawOwnOf : Shape → List ServerEvent → Type 0
SawOwnOf k es = AllSeeOwn k (server_begins k) es

-- What a server did is told alike; and if each front that it saw is its own, what is told is what it did
pub record DeedTold (b : BlockTold) (deed : List ServerEvent) : Type 0 where
  pub alike : TellAlike b.shape deed (server_list b)
  pub own : SawOwnOf b.shape deed → deed ≡ server_list b

-- ## All servers

-- the lists of the stream servers and of the command servers, by their tracks
pub record Deeds : Type 0 where
  pub streams : ℕ → List ServerEvent
  pub commands : ℕ → List ServerEvent

-- what both servers of a track did is told
pub record TrackDid (d : Deeds) (i : ℕ) (t : TrackTold) : Type 0 where
  pub stream : DeedTold t.stream (d.streams i)
  pub commands : DeedTold t.commands (d.commands i)

-- the servers went on, so their lists begin with the earlier ones
pub record GoOn (d e : Deeds) : Type 0 where
  pub streams : (i : ℕ) → StartsWith (e.streams i) (d.streams i)
  pub commands : (i : ℕ) → StartsWith (e.commands i) (d.commands i)

-- on each block that these marks call lawful each front seen so far is the server's own
pub record SawOwnBy (marks : Marks) (run : Run) (d : Deeds) : Type 0 where
  pub streams : (i : ℕ) → i < length run.tracks → marks.streams i ≡ true → SawOwnOf (told_at run i).stream.shape (d.streams i)
  pub commands : (i : ℕ) → i < length run.tracks → marks.commands i ≡ true → SawOwnOf (told_at run i).commands.shape (d.commands i)

-- ## Meetings

-- ## A turn of the normal mixer

-- what the servers of a track do in a turn that saw this
abbrev pub stream_by : Setup → NormalKept → Outside → Turn → ℕ → List ServerEvent
stream_by c m o e i = stream_list c o e (tracks_at c (learnt o) m e i) i

abbrev pub commands_by : Setup → NormalKept → Outside → Turn → ℕ → List ServerEvent
commands_by c m o e i = command_list c o e (tracks_at c (learnt o) m e i) i

abbrev pub deeds_turned : Setup → NormalKept → Outside → Turn → Deeds → Deeds
deeds_turned c m o e d = record { streams = λ i. d.streams i ++ stream_by c m o e i; commands = λ i. d.commands i ++ commands_by c m o e i }
