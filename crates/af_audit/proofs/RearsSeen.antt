-- Servers that look as a journal says see each front right after a rear; so those of blocks with a history are never shut.
use Rattle.std.proofs.Common.{◌≡◌, inr, ℕ, ◌-◌, ◌≤◌, ◌==◌, Bool, true, false, if◌then◌else◌, is_some, fold, None, List, [], ◌∷◌, ◌++◌, refl, sym, subst}
use Rattle.af_audit.proofs.Common.{AllFit, AllFollowRear, BlockTold, HasBlockHistory, IsSpelled, Listed, Seen, ServerEvent, Shape, SlotEntry, all_fit, client_begins, client_list, client_of, cycle_events, drops_of, kept, look_events, saw_rear, server_kept, server_list, tally}
use Rattle.af_model.proofs.RoomKept.{sees_in}
use Rattle.af_model.proofs.RoomKept.{rear_join as join}
use Rattle.af_base.specs.declared.event.ServerEvent.TheVariants as server
use Rattle.af_base.specs.declared.seen.Seen.TheVariants as seen
use Rattle.af_model.specs.Cycles.{events_behind_look}

module _ (shape : Shape) where
  -- events that follow a rear wherever they stand
  abbrev pub FollowAnywhere : List ServerEvent → Type 0
  FollowAnywhere es = (b : Bool) → AllFollowRear shape b es

  pub rear_join : (b : Bool) (xs ys : List ServerEvent) → AllFollowRear shape b xs → FollowAnywhere ys → AllFollowRear shape b (xs ++ ys)
  rear_join b xs ys h t = join shape b xs ys h (t (fold (saw_rear shape) b xs))

  tally_follows : (missing : ℕ) → FollowAnywhere (tally missing)
  tally_follows missing b = by_zero (missing == 0)
    where
      by_zero : (none : Bool) → AllFollowRear shape b (if none then [] else server.Tally missing ∷ server.SetFlags 1 ∷ [])
      by_zero true = tt
      by_zero false = (tt, (tt, tt))

  after_follows : (asked : ℕ) (was : Bool) (answer : Seen) → FollowAnywhere (events_behind_look asked was answer)
  after_follows asked was (seen.Frames count) b = (tt, tally_follows (asked - count) false)
  after_follows asked was seen.Empty b = tally_follows asked b
  after_follows asked true (seen.Shut front rear) b = tt
  after_follows asked false (seen.Shut front rear) b = (tt, tt)
  after_follows asked was seen.Absent b = tt
  after_follows asked was (seen.Flushed dropped) b = tt

  drops_follow : (answer : Seen) (front : ℕ) → AllFollowRear shape false (drops_of answer front)
  drops_follow (seen.Flushed dropped) front = (tt, tt)
  drops_follow _ front = tt

  look_follows : (was : Bool) (answer : Seen) (flush rear front : ℕ) → FollowAnywhere (if was then [] else look_events answer flush rear front)
  look_follows true answer flush rear front b = tt
  look_follows false answer flush rear front b = (tt, (tt, (inr refl, drops_follow answer front)))

  -- the events of a cycle or of a take
  pub cycle_follows : (asked : ℕ) (s : Listed) (slot : SlotEntry) (front : ℕ) → FollowAnywhere (cycle_events asked s slot front)
  cycle_follows asked s slot front b =
      let was = is_some (kept s).shut in
      (tt, rear_join false (if was then [] else look_events slot.seen slot.flush slot.rear front) _ (look_follows was slot.seen slot.flush slot.rear front false) (after_follows asked was slot.seen))

-- the server of a block that has a history isn't shut
pub server_unshut : (b : BlockTold) → b.shape.frames ≤ 65536 → HasBlockHistory b → IsSpelled b.shape (client_list b) → AllFollowRear b.shape false (server_list b) → (server_kept b.shape (server_list b)).shut ≡ None
server_unshut b few h spelled follow =
    let fit : AllFit b.shape (client_begins b.shape.base) None (client_of h.order) = subst (AllFit b.shape (client_begins b.shape.base) None) (sym h.client_is) (all_fit b.shape (client_list b) spelled) in
    subst (λ es. (server_kept b.shape es).shut ≡ None) h.server_is (sees_in b.shape few h.order h.legal fit (subst (AllFollowRear b.shape false) (sym h.server_is) follow)).unshut
