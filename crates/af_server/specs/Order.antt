-- What contracts see of a server's proxy, and when it is in order.
use Rattle.std.specs.Prelude.{◌≡◌, ◌≢◌, ℕ, ◌≤◌, min, true, false, [], MatchOption, Option, None}
use Rattle.af_base.specs.declared.event.ServerEvent.{ServerEvent}
use Rattle.af_model.specs.Room.{ahead}
use Rattle.af_model.specs.ServerCalls.{ServerKept, server_kept, IsServerList, flushes_by}
use Rattle.af_cblk.specs.declared.view.ServerPart.{ServerPart}
use Rattle.af_cblk.specs.Parts.{server_did}
use Rattle.af_cblk.specs.Sides.{Made, ServerSide, server_made}

-- a server's proxy: the pass, the flush word last seen, the number of flushes by the last flush that was noticed, the front last seen, how many frames the last call showed if it showed some, how many were consumed, and the front and rear that shut it
pub record ServerState : Type 0 where
  pub pass : ServerSide
  pub flush : ℕ
  pub flushes : ℕ
  pub front : ℕ
  pub shown : Option ℕ
  pub consumed : ℕ
  pub shut : Option (ℕ × ℕ)

-- what the list of a server's events tells
abbrev pub server_kept_of : ServerPart → ServerKept
server_kept_of s = server_kept s.shape s.events

-- the consumed count ends at 2 ^ 63 - 1
abbrev pub counted : ℕ → ℕ
counted n = min 9223372036854775807 n

-- so many frames from this front on may be taken: no flush waits for its drop, and on a positional block the flush word was seen before
pub record IsReady (s : ServerPart) (front count : ℕ) : Type 0 where
  pub fresh : s.fresh ≡ true
  pub front_is : s.front ≡ front
  pub none_loaded : s.loaded ≡ []
  pub settled : s.noticed ≡ false
  pub in_order : s.shape.wrap ≢ 0 → s.rear_fresh ≡ true
  pub within : count ≤ ahead s.front s.rear

-- The list of events is spelled by calls, and the kept values are those that it gives. No new flush waits for its drop, unless the proxy is shut
pub record Keeps (s : ServerPart) (flush flushes front : ℕ) (shown : Option ℕ) (consumed : ℕ) (shut : Option (ℕ × ℕ)) : Type 0 where
  pub spelled : IsServerList s.shape shown s.events
  pub flush_is : flush ≡ (server_kept_of s).flush
  pub seen_is : s.flush ≡ (server_kept_of s).flush
  pub flushes_is : flushes ≡ flushes_by s.shape.wrap (server_kept_of s).noticed
  pub settled : shut ≡ None → s.noticed ≡ false
  pub consumed_is : consumed ≡ counted (server_kept_of s).consumed
  pub shut_is : shut ≡ (server_kept_of s).shut
  pub ready : MatchOption shown (Unit {0}) (λ count. IsReady s front count)

-- a proxy is in order: its maker establishes this, and each call and each meeting keeps it
abbrev pub IsInOrder : ServerState → Type 0
IsInOrder c = Keeps c.pass.part c.flush c.flushes c.front c.shown c.consumed c.shut

-- the proxy is of this block, and in order
abbrev pub IsServerOf : Made → ServerState → Type 0
IsServerOf block c = (server_made c.pass ≡ block) × IsInOrder c

-- the proxy with one event more, after a call that shows no frames
abbrev pub did : ServerState → ServerEvent → ServerState
did c e = record c { pass = record c.pass { part = server_did c.pass.part e }; shown = None }
