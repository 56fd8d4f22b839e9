-- What a status that a client saw rests on: it was stored by the server; and the flush count that a server's list shows was seen by one of its looks.
use Rattle.std.proofs.Common.{◌≡◌, ◌⊎◌, inl, inr, ℕ, ◌/◌, ◌≤◌, ◌==◌, Bool, true, false, if◌then◌else◌, fold, List, [], ◌∷◌, ◌++◌, refl, sym, ap, ◌∙◌, subst, arith, append_assoc}
use Rattle.af_audit.proofs.Common.{ClientEvent, HandEvent, HasHistory, IsLegal, Moment, ServerEvent, ServerKept, Shape, TrackPoint, after, after_server, by_client, by_hand, by_server, flushes_by, is_noticed, legal_cut, server_append, server_begins, server_keeps, server_kept, server_of, start, status_client, status_hand, zero-div}
use Rattle.af_base.specs.declared.event.ClientEvent.TheVariants as client
use Rattle.af_base.specs.declared.event.ServerEvent.TheVariants as server
use Rattle.af_audit.proofs.Words.{sees_more, most_seen}
use Rattle.af_audit.proofs.Drops.{client_cut}

-- ## The flush count of a server

none_told : (wrap : ℕ) → flushes_by wrap 0 ≤ 0
none_told wrap = by_wrap (wrap == 0)
  where
    by_wrap : (b : Bool) → (if b then 0 else 0 / wrap) ≤ 0
    by_wrap true = omega arith
    by_wrap false = let e : 0 / wrap ≡ 0 = zero-div wrap in omega (arith, e)

-- the flush words kept say no more flushes than were seen
record Within (k : Shape) (kept : ServerKept) (most : ℕ) : Type 0 where
  flush : flushes_by k.wrap kept.flush ≤ most
  noticed : flushes_by k.wrap kept.noticed ≤ most

module _ (k : Shape) where
  event_within : (kept : ServerKept) (most : ℕ) (e : ServerEvent) → Within k kept most → Within k (server_keeps k kept e) (sees_more k most e)
  event_within kept most (server.SawFlush flush) w = let n = w.noticed in record { flush = omega arith; noticed = omega (arith, n) }
  event_within kept most (server.SawRear rear) w = record { flush = w.flush; noticed = w.noticed }
  event_within kept most (server.SawFront front) w = record { flush = w.flush; noticed = by_notice (is_noticed k kept.is_new kept.rear front) }
    where
      by_notice : (b : Bool) → flushes_by k.wrap (if b then kept.flush else kept.noticed) ≤ most
      by_notice true = w.flush
      by_notice false = w.noticed
  event_within kept most (server.Drop to) w = record { flush = w.flush; noticed = w.noticed }
  event_within kept most (server.Take count) w = record { flush = w.flush; noticed = w.noticed }
  event_within kept most (server.SawGain word) w = w
  event_within kept most (server.Tally missing) w = w
  event_within kept most (server.SetFlags bits) w = w
  event_within kept most (server.SetStatus word) w = w
  event_within kept most (server.Learn count) w = w

  events_within : (es : List ServerEvent) (kept : ServerKept) (most : ℕ) → Within k kept most → Within k (fold (server_keeps k) kept es) (fold (sees_more k) most es)
  events_within [] kept most w = w
  events_within (e ∷ es) kept most w = events_within es (server_keeps k kept e) (sees_more k most e) (event_within kept most e w)

  -- the flush count that a proxy shows by its list was seen by one of its looks
  pub noticed-seen : (es : List ServerEvent) → flushes_by k.wrap (server_kept k es).noticed ≤ most_seen k es
  noticed-seen es = (events_within es (server_begins k) 0 (record { flush = none_told k.wrap; noticed = none_told k.wrap })).noticed

-- ## The status

-- a list with this status stored
pub record Stores (word : ℕ) (es : List ServerEvent) : Type 0 where
  pub before : List ServerEvent
  pub later : List ServerEvent
  pub whole : es ≡ before ++ server.SetStatus word ∷ later

stores_more : (word : ℕ) (es : List ServerEvent) (e : ServerEvent) → (word ≡ 0) ⊎ Stores word es → (word ≡ 0) ⊎ Stores word (es ++ e ∷ [])
stores_more word es e (inl none) = inl none
stores_more word es e (inr s) = inr (record { before = s.before; later = s.later ++ e ∷ []; whole = ap (λ l. l ++ e ∷ []) s.whole ∙ append_assoc s.before (server.SetStatus word ∷ s.later) (e ∷ []) })

status_server : (p : TrackPoint) (es : List ServerEvent) (e : ServerEvent) → (p.status ≡ 0) ⊎ Stores p.status es → ((after_server p e).status ≡ 0) ⊎ Stores (after_server p e).status (es ++ e ∷ [])
status_server p es (server.SetStatus word) s = inr (record { before = es; later = []; whole = refl })
status_server p es (server.SawFlush flush) s = stores_more p.status es (server.SawFlush flush) s
status_server p es (server.SawRear rear) s = stores_more p.status es (server.SawRear rear) s
status_server p es (server.SawFront front) s = stores_more p.status es (server.SawFront front) s
status_server p es (server.Drop to) s = stores_more p.status es (server.Drop to) s
status_server p es (server.Take count) s = stores_more p.status es (server.Take count) s
status_server p es (server.SawGain word) s = stores_more p.status es (server.SawGain word) s
status_server p es (server.Tally missing) s = stores_more p.status es (server.Tally missing) s
status_server p es (server.SetFlags bits) s = stores_more p.status es (server.SetFlags bits) s
status_server p es (server.Learn count) s = stores_more p.status es (server.Learn count) s

-- the status of a block is 0, or one that its server stored
pub status-stored : (k : Shape) (order : List Moment) → ((after (start k) order).status ≡ 0) ⊎ Stores (after (start k) order).status (server_of order)
status-stored k [] = inl refl
status-stored k (by_client e ∷ order) = subst (λ w. (w ≡ 0) ⊎ Stores w (server_of order)) (sym (status_client (after (start k) order) e)) (status-stored k order)
status-stored k (by_server e ∷ order) = status_server (after (start k) order) (server_of order) e (status-stored k order)
status-stored k (by_hand e ∷ order) = subst (λ w. (w ≡ 0) ⊎ Stores w (server_of order)) (sym (status_hand (after (start k) order) e)) (status-stored k order)

-- in a history a status that the client saw is 0, or one that the server stored
pub saw-stored : (k : Shape) (before : List ClientEvent) (word : ℕ) (later : List ClientEvent) (released : List ℕ) (ss : List ServerEvent) (taken : List ℕ) (hs : List HandEvent) → HasHistory k (before ++ client.SawStatus word ∷ later) released ss taken hs
    → (word ≡ 0) ⊎ Stores word ss
saw-stored k before word later released ss taken hs h =
    let cut = client_cut h.order before (client.SawStatus word) later h.client_is in
    let at = legal_cut (start k) cut.late (by_client (client.SawStatus word)) cut.early (subst (IsLegal (start k)) cut.whole h.legal) in
    let list : ss ≡ server_of cut.early ++ server_of cut.late = sym h.server_is ∙ ap server_of cut.whole ∙ server_append cut.late (by_client (client.SawStatus word) ∷ cut.early) in
    by_status cut.early cut.late list (subst (λ w. (w ≡ 0) ⊎ Stores w (server_of cut.early)) (sym at.0) (status-stored k cut.early))
  where
    by_status : (early late : List Moment) → ss ≡ server_of early ++ server_of late → (word ≡ 0) ⊎ Stores word (server_of early) → (word ≡ 0) ⊎ Stores word ss
    by_status early late list (inl none) = inl none
    by_status early late list (inr s) = inr (record { before = s.before; later = s.later ++ server_of late; whole = list ∙ ap (λ l. l ++ server_of late) s.whole ∙ append_assoc s.before (server.SetStatus word ∷ s.later) (server_of late) })
