-- In a history the count that a server's list gives is that of the frames from the base up to what was consumed.
use Rattle.std.proofs.Common.{◌≡◌, ℕ, ◌+◌, ◌-◌, ◌≤◌, Bool, true, false, fold, List, [], ◌∷◌, ◌++◌, refl, sym, ap, ◌∙◌, subst, arith, true≢false, Option, Some, None}
use Rattle.af_model.proofs.Common.{ClientEvent, HandEvent, Seen, ServerEvent, fold-append}
use Rattle.af_base.specs.declared.event.ServerEvent.TheVariants as server
use Rattle.af_base.specs.declared.seen.Seen.TheVariants as seen
use Rattle.af_model.proofs.Basics.{client_taken}
use Rattle.af_model.specs.declared.shape.Shape.{Shape}
use Rattle.af_model.specs.declared.point.TrackPoint.{TrackPoint}
use Rattle.af_model.specs.Point.{wrapped, start, drop_end, ServerMay, after_server}
use Rattle.af_model.specs.History.{Moment, by_client, by_server, by_hand, client_of, server_of, after, IsLegal, HasHistory}
use Rattle.af_model.specs.Fates.{InTurn}
use Rattle.af_model.specs.Room.{ahead}
use Rattle.af_model.specs.ClientCalls.{client_begins, IsClientList}
use Rattle.af_model.specs.ServerCalls.{ServerKept, server_keeps, server_begins, server_kept, look_at, drops_of, IsServerList, begins, looks, takes, reads_gains, tallies, sets_flags, sets_status, rests, meets}
use Rattle.af_model.specs.Spelled.{SeesOwn, AllSeeOwn}
use Rattle.af_model.proofs.Fates.{in_turn, drop_low, drop_released}
use Rattle.af_model.proofs.RoomKept.{AllFit, fit_split, all_fit, room_in}
use Rattle.af_model.proofs.OneFate.{hand_consumed}
use Rattle.af_model.proofs.Logic.{ahead-between}

-- the last event saw front
abbrev saw_front : Bool → ServerEvent → Bool
saw_front b (server.SawFront front) = true
saw_front b _ = false

-- frames are dropped right after a look at front
abbrev FollowsLook : Bool → ServerEvent → Type 0
FollowsLook b (server.Drop to) = b ≡ true
FollowsLook b _ = Unit {0}

abbrev AllFollow : Bool → List ServerEvent → Type 0
AllFollow b [] = Unit {0}
AllFollow b (e ∷ es) = FollowsLook b e × AllFollow (saw_front b e) es

follow_split : (b : Bool) (xs ys : List ServerEvent) → AllFollow b (xs ++ ys) → AllFollow b xs × AllFollow (fold saw_front b xs) ys
follow_split b [] ys h = (tt, h)
follow_split b (x ∷ xs) ys h = let r = follow_split (saw_front b x) xs ys h.1 in ((h.0, r.0), r.1)

follow_join : (b : Bool) (xs ys : List ServerEvent) → AllFollow b xs → AllFollow (fold saw_front b xs) ys → AllFollow b (xs ++ ys)
follow_join b [] ys h t = t
follow_join b (x ∷ xs) ys h t = (h.0, follow_join (saw_front b x) xs ys h.1 t)

drops_follow : (sight : Seen) (front : ℕ) → AllFollow true (drops_of sight front)
drops_follow (seen.Flushed dropped) front = (refl, tt)
drops_follow _ front = tt

all_follow : (shape : Shape) (shown : Option ℕ) (es : List ServerEvent) → IsServerList shape shown es → AllFollow false es
all_follow shape _ _ begins = tt
all_follow shape _ _ (looks es shown asked flush rear front before unshut some) =
    follow_join false es _ (all_follow shape shown es before) (tt, (tt, (tt, drops_follow (look_at shape (server_kept shape es).flush asked flush rear front) front)))
all_follow shape _ _ (takes es count before) = follow_join false es _ (all_follow shape (Some count) es before) (tt, tt)
all_follow shape _ _ (reads_gains es shown word before) = follow_join false es _ (all_follow shape shown es before) (tt, tt)
all_follow shape _ _ (tallies es shown missing before some) = follow_join false es _ (all_follow shape shown es before) (tt, (tt, tt))
all_follow shape _ _ (sets_flags es shown bits before) = follow_join false es _ (all_follow shape shown es before) (tt, tt)
all_follow shape _ _ (sets_status es shown word before) = follow_join false es _ (all_follow shape shown es before) (tt, tt)
all_follow shape _ _ (rests es shown before) = all_follow shape shown es before
all_follow shape _ _ (meets es shown count before) = follow_join false es _ (all_follow shape shown es before) (tt, tt)

module _ (shape : Shape) (few : shape.frames ≤ 65536) where
  record Counts (k : ServerKept) (b : Bool) (p : TrackPoint) : Type 0 where
    count : shape.base + k.consumed ≡ p.consumed
    front_is : b ≡ true → k.front ≡ wrapped p.consumed

  drop_counts : (front to consumed sofar end : ℕ) → front ≡ wrapped consumed → to ≡ wrapped end → consumed ≤ end → end ≤ consumed + shape.frames → shape.base + sofar ≡ consumed
      → shape.base + (sofar + ahead front to) ≡ end
  drop_counts front to consumed sofar end f t low high is =
      let far : ahead front to ≡ end - consumed = ap (λ (x : ℕ × ℕ). ahead x.0 x.1) (λ i. (f i, t i)) ∙ ahead-between consumed end low (omega arith) in
      omega arith

  no : (k : ServerKept) (p : TrackPoint) → false ≡ true → k.front ≡ wrapped p.consumed
  no k p e = absurd (true≢false (sym e))

  server_counts : (k : ServerKept) (b : Bool) (p : TrackPoint) (others : ℕ) (e : ServerEvent) → ServerMay p others e → FollowsLook b e → InTurn shape p → p.released ≤ p.consumed + shape.frames → Counts k b p
      → Counts (server_keeps shape k e) (saw_front b e) (after_server p e)
  server_counts k b p others (server.SawGain word) may fit turn room c = record { count = c.count; front_is = no k p }
  server_counts k b p others (server.SawFlush flush) may fit turn room c = record { count = c.count; front_is = no k p }
  server_counts k b p others (server.SawRear rear) may fit turn room c = record { count = c.count; front_is = no k p }
  server_counts k b p others (server.SawFront front) may fit turn room c = record { count = c.count; front_is = (λ _. may) }
  server_counts k b p others (server.Drop to) may fit turn room c =
      record {
        count = drop_counts k.front to p.consumed k.consumed (drop_end p) (c.front_is fit) may (drop_low shape p turn) (let a = drop_released shape p turn in omega arith) c.count;
        front_is = (λ e. absurd (true≢false (sym e)));
      }
  server_counts k b p others (server.Take count) may fit turn room c = record { count = (let a = c.count in omega arith); front_is = (λ e. absurd (true≢false (sym e))) }
  server_counts k b p others (server.Tally missing) may fit turn room c = record { count = c.count; front_is = no k p }
  server_counts k b p others (server.SetFlags bits) may fit turn room c = record { count = c.count; front_is = no k p }
  server_counts k b p others (server.SetStatus word) may fit turn room c = record { count = c.count; front_is = no k p }
  server_counts k b p others (server.Learn count) may fit turn room c = record { count = c.count; front_is = no k p }

  kept_counts : (k : ServerKept) (b : Bool) (p q : TrackPoint) → q.consumed ≡ p.consumed → Counts k b p → Counts k b q
  kept_counts k b p q same c = record { count = c.count ∙ sym same; front_is = (λ e. c.front_is e ∙ ap wrapped (sym same)) }

  counts_in : (order : List Moment) → IsLegal (start shape) order → AllFit shape (client_begins shape.base) None (client_of order) → AllFollow false (server_of order)
      → Counts (server_kept shape (server_of order)) (fold saw_front false (server_of order)) (after (start shape) order)
  counts_in [] h fit f = record { count = (let e : shape.base + 0 ≡ shape.base = omega arith in e); front_is = (λ e. absurd (true≢false (sym e))) }
  counts_in (by_client e ∷ order) h fit f =
      kept_counts _ _ (after (start shape) order) _ (client_taken (after (start shape) order) e) (counts_in order h.1 (fit_split shape (client_begins shape.base) None (client_of order) (e ∷ []) fit).0 f)
  counts_in (by_server e ∷ order) h fit f =
      let g = follow_split false (server_of order) (e ∷ []) f in
      let now = server_counts _ _ (after (start shape) order) _ e h.0 g.1.0 (in_turn shape order h.1) (room_in shape few order h.1 fit).fits (counts_in order h.1 fit g.0) in
      subst (λ (x : ServerKept × Bool). Counts x.0 x.1 (after (start shape) (by_server e ∷ order)))
      (λ i. (sym (fold-append (server_keeps shape) (server_begins shape) (server_of order) (e ∷ [])) i, sym (fold-append saw_front false (server_of order) (e ∷ [])) i)) now
  counts_in (by_hand e ∷ order) h fit f = kept_counts _ _ (after (start shape) order) _ (hand_consumed (after (start shape) order) e) (counts_in order h.1 fit f)

module _ (shape : Shape) (few : shape.frames ≤ 65536) where
  own_join : (k : ServerKept) (xs ys : List ServerEvent) → AllSeeOwn shape k xs → AllSeeOwn shape (fold (server_keeps shape) k xs) ys → AllSeeOwn shape k (xs ++ ys)
  own_join k [] ys h t = t
  own_join k (x ∷ xs) ys h t = (h.0, own_join (server_keeps shape k x) xs ys h.1 t)

  sees : (k : ServerKept) (p : TrackPoint) (others : ℕ) (e : ServerEvent) → ServerMay p others e → shape.base + k.consumed ≡ p.consumed → SeesOwn shape k e
  sees k p others (server.SawFront front) may is = may ∙ ap wrapped (sym is)
  sees k p others _ may is = tt

  all_own : (order : List Moment) → IsLegal (start shape) order → AllFit shape (client_begins shape.base) None (client_of order) → AllFollow false (server_of order)
      → AllSeeOwn shape (server_begins shape) (server_of order)
  all_own [] h fit f = tt
  all_own (by_client e ∷ order) h fit f = all_own order h.1 (fit_split shape (client_begins shape.base) None (client_of order) (e ∷ []) fit).0 f
  all_own (by_server e ∷ order) h fit f =
      let g = follow_split false (server_of order) (e ∷ []) f in
      own_join (server_begins shape) (server_of order) (e ∷ []) (all_own order h.1 fit g.0) (sees (server_kept shape (server_of order)) (after (start shape) order) _ e h.0 (counts_in shape few order h.1 fit g.0).count, tt)
  all_own (by_hand e ∷ order) h fit f = all_own order h.1 fit f

-- in a history of a block whose client keeps to its calls, each front that the server saw is its own
pub fronts-own : (shape : Shape) → shape.frames ≤ 65536 → {ce : List ClientEvent} {cf : List ℕ} {se : List ServerEvent} {sf : List ℕ} {he : List HandEvent} → HasHistory shape ce cf se sf he
    → (shown : Option ℕ) → IsClientList shape.frames shape.cells shape.base ce → IsServerList shape shown se → AllSeeOwn shape (server_begins shape) se
fronts-own shape few {ce} {cf} {se} {sf} {he} h shown hers his =
    let fit : AllFit shape (client_begins shape.base) None (client_of h.order) = subst (λ (es : List ClientEvent). AllFit shape (client_begins shape.base) None es) (sym h.client_is) (all_fit shape ce hers) in
    let follow : AllFollow false (server_of h.order) = subst (λ (es : List ServerEvent). AllFollow false es) (sym h.server_is) (all_follow shape shown se his) in
    subst (λ (es : List ServerEvent). AllSeeOwn shape (server_begins shape) es) h.server_is (all_own shape few h.order h.legal fit follow)
