-- What a meeting shows of both ends.
use Rattle.std.proofs.Common.{◌≡◌, ℕ, true, Option, None, List, [], sym, ◌∙◌, subst}
use Rattle.af_record.proofs.Common.{ClientPart, HasHistory, IsServerList, ServerPart, Shape, list_all, server_kept_of}
use Rattle.af_base.specs.declared.event.HandEvent.{HandEvent}
use Rattle.af_record.specs.History.{HasTapeHistory, IsReadList, is_calm}
use Rattle.af_record.specs.Ends.{OnlyWrites, IsCalm}
use Rattle.af_record.proofs.TapeOrders.{stays_calm, stays_alive, tape_history}

module _ (k : Shape) (p : ClientPart) (s : ServerPart) (shown : Option ℕ) (hand : List HandEvent) (of_client : p.shape ≡ k) (of_server : s.shape ≡ k)
    (writes : OnlyWrites p) (reads : IsReadList s.events) (spelled : IsServerList s.shape shown s.events) (none : hand ≡ []) (h : HasHistory k p.events p.frames s.events s.frames hand) where
  block : HasHistory p.shape p.events p.frames s.events s.frames []
  block = subst (λ (x : Shape × List HandEvent). HasHistory x.0 p.events p.frames s.events s.frames x.1) (λ i. (sym of_client i, none i)) h

  calm : list_all is_calm s.events ≡ true
  calm = stays_calm p.shape p.shape.frames p.events p.frames s.events s.frames shown writes.flat block writes.list reads (subst (λ (x : Shape). IsServerList x shown s.events) (of_server ∙ sym of_client) spelled)

  -- their lists have a history of the recording
  pub met_history : HasTapeHistory k.frames p.events p.frames s.events s.frames
  met_history =
      subst (λ (x : Shape). HasTapeHistory x.frames p.events p.frames s.events s.frames) of_client
      (tape_history p.shape p.shape.frames writes.shape.few writes.from_zero p.events p.frames s.events s.frames block writes.list calm)

  -- nothing disturbed them
  pub met_calm : (server_kept_of s).shut ≡ None → IsCalm p.events s
  met_calm unshut = record { alive = stays_alive k.frames p.events p.frames s.events s.frames met_history; unflushed = calm; unshut = unshut }
