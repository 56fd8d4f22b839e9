-- What contracts see of a recording whose two ends are in one hand, and what holds between its calls.
use Rattle.std.specs.Prelude.{◌≡◌, ℕ, ◌≤◌, None, List, [], ◌∷◌, ◌++◌, length, drop}
use Rattle.af_base.specs.declared.event.ClientEvent.{ClientEvent}
use Rattle.af_base.specs.declared.event.ClientEvent.TheVariants as client
use Rattle.af_base.specs.declared.event.ServerEvent.{ServerEvent}
use Rattle.af_base.specs.declared.event.ServerEvent.TheVariants as server
use Rattle.af_cblk.specs.Sides.{Made}
use Rattle.af_server.specs.Order.{server_kept_of}
use Rattle.af_record.specs.History.{HasTapeHistory}
use Rattle.af_record.specs.Ends.{CaptureState, ListenerState, capture_made, listener_made}

-- a recording in one hand: for how many frames there is room in all, the words of those that are queued and of those that were read, and how many were supplied
pub record HandState : Type 0 where
  pub size : ℕ
  pub queued : List ℕ
  pub read : List ℕ
  pub supplied : ℕ

-- the words of the frames that were put and not read
abbrev pub queued_in : CaptureState → ListenerState → List ℕ
queued_in c l = drop (length l.pass.part.frames) c.pass.part.frames

-- the two ends have a history, and each has learnt all that the other did
pub record IsInStep (block : Made) (c : CaptureState) (l : ListenerState) : Type 0 where
  pub from : capture_made c ≡ block
  pub to : listener_made l ≡ block
  pub small : block.shape.frames ≤ 8192
  pub total_is : l.total ≡ length l.pass.part.frames
  pub unshut : (server_kept_of l.pass.part).shut ≡ None
  pub clients : List ClientEvent
  pub servers : List ServerEvent
  pub clients_are : c.pass.part.events ≡ clients ++ client.Learn (length servers) ∷ []
  pub servers_are : l.pass.part.events ≡ servers ++ server.Learn (length clients) ∷ []
  pub history : HasTapeHistory block.shape.frames c.pass.part.events c.pass.part.frames l.pass.part.events l.pass.part.frames
