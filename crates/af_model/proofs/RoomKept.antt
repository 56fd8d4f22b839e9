-- In a history whose client's list is spelled by its calls, neither proxy ever sees the other outside the room.
use Rattle.std.proofs.Common.{◌⊎◌, inl, inr, true≢false, ◌≡◌, ℕ, ◌+◌, ◌-◌, ◌<◌, ◌≤◌, min, Bool, true, false, if◌then◌else◌, MatchOption, Option, Some, None, is_some, nat_lt, fold, List, [], ◌∷◌, ◌++◌, refl, sym, ap, ◌∙◌, subst, arith}
use Rattle.af_model.proofs.Common.{ClientCall, ClientEvent, HandEvent, Seen, ServerEvent, fold-append, is_not_below}
use Rattle.af_base.specs.declared.event.ClientCall.TheVariants as call
use Rattle.af_base.specs.declared.event.ClientEvent.TheVariants as client
use Rattle.af_base.specs.declared.event.ServerEvent.TheVariants as server
use Rattle.af_base.specs.declared.event.HandEvent.TheVariants as hand
use Rattle.af_model.specs.declared.shape.Shape.{Shape}
use Rattle.af_model.specs.declared.point.TrackPoint.{TrackPoint}
use Rattle.af_model.specs.Point.{wrapped, start, ClientMay, ServerMay, after_client, after_server, after_hand}
use Rattle.af_model.specs.History.{Moment, by_client, by_server, by_hand, client_of, server_of, after, IsLegal, HasHistory, point}
use Rattle.af_model.specs.Fates.{InTurn}
use Rattle.af_model.specs.Room.{ahead, outside}
use Rattle.af_model.specs.ClientCalls.{ClientKept, client_keeps, client_begins, client_kept, filled_by, ClientAnswers, client_events_of, IsClientList, begins, calls, meets}
use Rattle.af_base.specs.declared.seen.Seen.TheVariants as seen
use Rattle.af_model.specs.ServerCalls.{ServerKept, is_noticed, server_keeps, server_begins, server_kept, look_at, drops_of, IsServerList, LooksInOrder}
use Rattle.af_model.specs.ServerCalls as list
use Rattle.af_model.proofs.Fates.{in_turn, drop_low}
use Rattle.af_model.proofs.Logic.{ahead-between}

module _ (shape : Shape) where
  -- the front that the last event saw, if it saw one
  abbrev pub open_after : Option ℕ → ClientEvent → Option ℕ
  open_after o (client.SawFront front) = Some front
  open_after o _ = None

  -- a release follows a look at front by which there is room for it
  abbrev pub FitsRoom : ClientKept → Option ℕ → ClientEvent → Type 0
  FitsRoom k o (client.Release count) = (front : ℕ) × (o ≡ Some front) × (filled_by k front + count ≤ shape.frames)
  FitsRoom k o _ = Unit {0}

  abbrev pub AllFit : ClientKept → Option ℕ → List ClientEvent → Type 0
  AllFit k o [] = Unit {0}
  AllFit k o (e ∷ es) = FitsRoom k o e × AllFit (client_keeps shape.frames k e) (open_after o e) es

  pub fit_split : (k : ClientKept) (o : Option ℕ) (xs ys : List ClientEvent) → AllFit k o (xs ++ ys)
      → AllFit k o xs × AllFit (fold (client_keeps shape.frames) k xs) (fold open_after o xs) ys
  fit_split k o [] ys h = (tt, h)
  fit_split k o (x ∷ xs) ys h = let r = fit_split (client_keeps shape.frames k x) (open_after o x) xs ys h.1 in ((h.0, r.0), r.1)

  fit_join : (k : ClientKept) (o : Option ℕ) (xs ys : List ClientEvent) → AllFit k o xs → AllFit (fold (client_keeps shape.frames) k xs) (fold open_after o xs) ys
      → AllFit k o (xs ++ ys)
  fit_join k o [] ys h t = t
  fit_join k o (x ∷ xs) ys h t = (h.0, fit_join (client_keeps shape.frames k x) (open_after o x) xs ys h.1 t)

  put_fits : (filled asked end count : ℕ) → filled < shape.frames → count ≡ min asked (min (shape.frames - filled) end) → filled + count ≤ shape.frames
  put_fits filled asked end count room is = omega arith

  -- a look that releases nothing
  looks_fit : (k : ClientKept) (o : Option ℕ) (was : Bool) (front : ℕ) → AllFit k o (if was then [] else client.SawFlags 0 ∷ client.SawFront front ∷ [])
  looks_fit k o true front = tt
  looks_fit k o false front = (tt, (tt, tt))

  call_fits : (es : List ClientEvent) (asked : ℕ) (o : Option ℕ) (answer : ClientCall) → ClientAnswers shape.frames shape.cells shape.base es asked answer
      → AllFit (client_kept shape.frames shape.base es) o (client_events_of shape.frames shape.base es answer)
  call_fits es asked o (call.Put front count) a = (tt, (tt, ((front, refl, put_fits _ asked _ count a.0.1 a.2), tt)))
  call_fits es asked o (call.Full front) a = (tt, (tt, tt))
  call_fits es asked o (call.Corrupt front rear) a = looks_fit _ o (is_some (client_kept shape.frames shape.base es).shut) front
  call_fits es asked o (call.Sent front code argument) a = (tt, (tt, ((front, refl, a.1), tt)))
  call_fits es asked o (call.SendFull front) a = (tt, (tt, tt))
  call_fits es asked o (call.SendCorrupt front rear) a = looks_fit _ o (is_some (client_kept shape.frames shape.base es).shut) front
  call_fits es asked o _ a = (tt, tt)

  -- the releases of calls fit the room
  pub all_fit : (es : List ClientEvent) → IsClientList shape.frames shape.cells shape.base es → AllFit (client_begins shape.base) None es
  all_fit _ begins = tt
  all_fit _ (calls es asked answer before a) = fit_join (client_begins shape.base) None es _ (all_fit es before) (call_fits es asked _ answer a)
  all_fit _ (meets es count before) = fit_join (client_begins shape.base) None es _ (all_fit es before) (tt, tt)

  -- ## Servers' lists

  -- the last event saw rear
  abbrev pub saw_rear : Bool → ServerEvent → Bool
  saw_rear b (server.SawRear rear) = true
  saw_rear b _ = false

  -- front is seen right after rear, but for wrap 0 that is not asked
  abbrev pub FollowsRear : Bool → ServerEvent → Type 0
  FollowsRear b (server.SawFront front) = (shape.wrap ≡ 0) ⊎ (b ≡ true)
  FollowsRear b _ = Unit {0}

  abbrev pub AllFollowRear : Bool → List ServerEvent → Type 0
  AllFollowRear b [] = Unit {0}
  AllFollowRear b (e ∷ es) = FollowsRear b e × AllFollowRear (saw_rear b e) es

  pub rear_split : (b : Bool) (xs ys : List ServerEvent) → AllFollowRear b (xs ++ ys) → AllFollowRear b xs × AllFollowRear (fold saw_rear b xs) ys
  rear_split b [] ys h = (tt, h)
  rear_split b (x ∷ xs) ys h = let r = rear_split (saw_rear b x) xs ys h.1 in ((h.0, r.0), r.1)

  pub rear_join : (b : Bool) (xs ys : List ServerEvent) → AllFollowRear b xs → AllFollowRear (fold saw_rear b xs) ys → AllFollowRear b (xs ++ ys)
  rear_join b [] ys h t = t
  rear_join b (x ∷ xs) ys h t = (h.0, rear_join (saw_rear b x) xs ys h.1 t)

  drops_rest : (sight : Seen) (front : ℕ) → AllFollowRear false (drops_of sight front)
  drops_rest (seen.Flushed dropped) front = (tt, tt)
  drops_rest _ front = tt

  spelled_follow : (shown : Option ℕ) (es : List ServerEvent) → IsServerList shape shown es → AllFollowRear false es
  spelled_follow _ _ list.begins = tt
  spelled_follow _ _ (list.looks es shown asked flush rear front before unshut some) =
      rear_join false es _ (spelled_follow shown es before) (tt, (tt, (inr refl, drops_rest (look_at shape (server_kept shape es).flush asked flush rear front) front)))
  spelled_follow _ _ (list.takes es count before) = rear_join false es _ (spelled_follow (Some count) es before) (tt, tt)
  spelled_follow _ _ (list.reads_gains es shown word before) = rear_join false es _ (spelled_follow shown es before) (tt, tt)
  spelled_follow _ _ (list.tallies es shown missing before some) = rear_join false es _ (spelled_follow shown es before) (tt, (tt, tt))
  spelled_follow _ _ (list.sets_flags es shown bits before) = rear_join false es _ (spelled_follow shown es before) (tt, tt)
  spelled_follow _ _ (list.sets_status es shown word before) = rear_join false es _ (spelled_follow shown es before) (tt, tt)
  spelled_follow _ _ (list.rests es shown before) = spelled_follow shown es before
  spelled_follow _ _ (list.meets es shown count before) = rear_join false es _ (spelled_follow shown es before) (tt, tt)

  flat_follows : shape.wrap ≡ 0 → (b : Bool) (e : ServerEvent) → FollowsRear b e
  flat_follows flat b (server.SawFront front) = inl flat
  flat_follows flat b _ = tt

  flat_follow : shape.wrap ≡ 0 → (b : Bool) (es : List ServerEvent) → AllFollowRear b es
  flat_follow flat b [] = tt
  flat_follow flat b (e ∷ es) = (flat_follows flat b e, flat_follow flat (saw_rear b e) es)

  looked_follow : (es : List ServerEvent) → LooksInOrder shape es → AllFollowRear false es
  looked_follow es (inl flat) = flat_follow flat false es
  looked_follow es (inr spelled) = spelled_follow spelled.0 es spelled.1

  -- what the client saw is a front of before, by which the frames have room
  abbrev pub SeenIn : Option ℕ → ℕ → ℕ → Type 0
  SeenIn o consumed released = MatchOption o (Unit {0}) (λ front. (known : ℕ) × (wrapped known ≡ front) × (known ≤ consumed) × (released ≤ known + shape.frames))

  pub record FrontHasRoom (k : ClientKept) (o : Option ℕ) (p : TrackPoint) : Type 0 where
    pub position_is : k.position ≡ p.released
    pub unshut : k.shut ≡ None
    pub fits : p.released ≤ p.consumed + shape.frames
    pub seen : SeenIn o p.consumed p.released

  module _ (few : shape.frames ≤ 65536) where
    outside_none : (consumed released : ℕ) → consumed ≤ released → released ≤ consumed + shape.frames → outside shape.frames (wrapped consumed) (wrapped released) ≡ None
    outside_none consumed released low high =
        let e : ahead (wrapped consumed) (wrapped released) ≡ released - consumed = ahead-between consumed released low (omega arith) in
        let f : nat_lt shape.frames (ahead (wrapped consumed) (wrapped released)) ≡ false = is_not_below _ _ (omega arith) in
        ap (λ (b : Bool). if b then Some (wrapped consumed, wrapped released) else None) f

    released_fits : (o : Option ℕ) (consumed released count front : ℕ) → o ≡ Some front → ahead front (wrapped released) + count ≤ shape.frames → consumed ≤ released
        → SeenIn o consumed released → released + count ≤ consumed + shape.frames
    released_fits o consumed released count front is fit low seen =
        let s = subst (λ (x : Option ℕ). SeenIn x consumed released) is seen in
        let known : ℕ = s.0 in
        let below : known ≤ consumed = s.2 in
        let near : released ≤ known + shape.frames = s.3 in
        let far : ahead (wrapped known) (wrapped released) ≡ released - known = ahead-between known released (omega arith) (omega arith) in
        let filled : ahead front (wrapped released) ≡ released - known = ap (λ (z : ℕ). ahead z (wrapped released)) (sym s.1) ∙ far in
        omega arith

    seen_later : (o : Option ℕ) (consumed consumed' released released' : ℕ) → consumed ≤ consumed' → released' ≡ released → SeenIn o consumed released → SeenIn o consumed' released'
    seen_later None consumed consumed' released released' grows same seen = tt
    seen_later (Some front) consumed consumed' released released' grows same seen =
        (seen.0, seen.1, (let a = seen.2 in omega arith), (let a = seen.3 in omega arith))

    -- the front keeps its room, if the client releases nothing and sees no front
    stays : (k : ClientKept) (o : Option ℕ) (p q : TrackPoint) → q.released ≡ p.released → p.consumed ≤ q.consumed → FrontHasRoom k o p → FrontHasRoom k o q
    stays k o p q same grows r =
        record {
          position_is = r.position_is ∙ sym same;
          unshut = r.unshut;
          fits = (let a = r.fits in omega arith);
          seen = seen_later o p.consumed q.consumed p.released q.released grows same r.seen;
        }

    closed : (k : ClientKept) (o : Option ℕ) (p q : TrackPoint) → q.released ≡ p.released → p.consumed ≤ q.consumed → FrontHasRoom k o p → FrontHasRoom k None q
    closed k o p q same grows r =
        record {
          position_is = r.position_is ∙ sym same;
          unshut = r.unshut;
          fits = (let a = r.fits in omega arith);
          seen = tt;
        }

    client_room : (k : ClientKept) (o : Option ℕ) (p : TrackPoint) (others : ℕ) (e : ClientEvent) → ClientMay p others e → FitsRoom k o e → InTurn shape p → FrontHasRoom k o p
        → FrontHasRoom (client_keeps shape.frames k e) (open_after o e) (after_client p e)
    client_room k o p others (client.Release count) may fit turn r =
        let low : p.consumed ≤ p.released = turn.within in
        let fit' : ahead fit.0 (wrapped p.released) + count ≤ shape.frames = subst (λ (z : ℕ). ahead fit.0 (wrapped z) + count ≤ shape.frames) r.position_is fit.2 in
        record {
          position_is = ap (λ (z : ℕ). z + count) r.position_is;
          unshut = r.unshut;
          fits = released_fits o p.consumed p.released count fit.0 fit.1 fit' low r.seen;
          seen = tt;
        }
    client_room k o p others client.Flush may fit turn r = closed k o p _ refl (omega arith) r
    client_room k o p others (client.SetGain word) may fit turn r = closed k o p _ refl (omega arith) r
    client_room k o p others (client.ClearFlags old) may fit turn r = closed k o p _ refl (omega arith) r
    client_room k o p others (client.SawFlags flags) may fit turn r = closed k o p p refl (omega arith) r
    client_room k o p others (client.SawFront front) may fit turn r =
        let low : p.consumed ≤ p.released = turn.within in
        record {
          position_is = r.position_is;
          unshut = ap (λ (x : ℕ × ℕ). outside shape.frames x.0 (wrapped x.1)) (λ i. (may i, r.position_is i)) ∙ outside_none p.consumed p.released low r.fits;
          fits = r.fits;
          seen = (p.consumed, sym may, omega arith, r.fits);
        }
    client_room k o p others (client.SawStatus word) may fit turn r = closed k o p p refl (omega arith) r
    client_room k o p others (client.Poke word value) may fit turn r = absurd may
    client_room k o p others (client.Learn count) may fit turn r = closed k o p p refl (omega arith) r

    server_grows : (p : TrackPoint) (others : ℕ) (e : ServerEvent) → ServerMay p others e → InTurn shape p
        → ((after_server p e).released ≡ p.released) × (p.consumed ≤ (after_server p e).consumed)
    server_grows p others (server.Drop to) may turn = (refl, drop_low shape p turn)
    server_grows p others _ may turn = (refl, omega arith)

    hand_keeps : (p : TrackPoint) (e : HandEvent) → ((after_hand p e).released ≡ p.released) × (p.consumed ≤ (after_hand p e).consumed)
    hand_keeps p (hand.SetFlags bits) = (refl, omega arith)
    hand_keeps p (hand.Met count) = (refl, omega arith)

    pub room_in : (order : List Moment) → IsLegal (start shape) order → AllFit (client_begins shape.base) None (client_of order)
        → FrontHasRoom (client_kept shape.frames shape.base (client_of order)) (fold open_after None (client_of order)) (after (start shape) order)
    room_in [] h fit = record { position_is = refl; unshut = refl; fits = omega arith; seen = tt }
    room_in (by_client e ∷ order) h fit =
        let f = fit_split (client_begins shape.base) None (client_of order) (e ∷ []) fit in
        let now = client_room _ _ _ _ e h.0 f.1.0 (in_turn shape order h.1) (room_in order h.1 f.0) in
        subst (λ (x : ClientKept × Option ℕ). FrontHasRoom x.0 x.1 (after (start shape) (by_client e ∷ order)))
        (λ i. (sym (fold-append (client_keeps shape.frames) (client_begins shape.base) (client_of order) (e ∷ [])) i, sym (fold-append open_after None (client_of order) (e ∷ [])) i)) now
    room_in (by_server e ∷ order) h fit =
        let g = server_grows (after (start shape) order) _ e h.0 (in_turn shape order h.1) in
        stays _ _ (after (start shape) order) _ g.0 g.1 (room_in order h.1 fit)
    room_in (by_hand e ∷ order) h fit =
        let g = hand_keeps (after (start shape) order) e in
        stays _ _ (after (start shape) order) _ g.0 g.1 (room_in order h.1 fit)

    -- ## The server

    -- the server isn't shut, and knows the rear seen last, behind which nothing was consumed
    pub record SeesRoom (k : ServerKept) (b : Bool) (p : TrackPoint) : Type 0 where
      pub rear_is : k.rear ≡ wrapped p.rear_seen
      pub unshut : k.shut ≡ None
      pub shows : b ≡ true → p.consumed ≤ p.rear_seen

    either_none : (b : Bool) (o : Option (ℕ × ℕ)) → o ≡ None → (if b then None else o) ≡ None
    either_none true o is = refl
    either_none false o is = is

    rear_ahead : (b : Bool) (p : TrackPoint) → (shape.wrap ≡ 0) ⊎ (b ≡ true) → InTurn shape p → (b ≡ true → p.consumed ≤ p.rear_seen) → p.consumed ≤ p.rear_seen
    rear_ahead b p (inl flat) turn shows = turn.to_seen flat
    rear_ahead b p (inr is) turn shows = shows is

    no : {A : Type 0} → false ≡ true → A
    no e = absurd (true≢false (sym e))

    server_sees : (k : ServerKept) (b : Bool) (p : TrackPoint) (others : ℕ) (e : ServerEvent) → ServerMay p others e → FollowsRear b e → InTurn shape p → p.released ≤ p.consumed + shape.frames → SeesRoom k b p
        → SeesRoom (server_keeps shape k e) (saw_rear b e) (after_server p e)
    server_sees k b p others (server.SawGain word) may fit turn fits s = record { rear_is = s.rear_is; unshut = s.unshut; shows = no }
    server_sees k b p others (server.SawFlush flush) may fit turn fits s = record { rear_is = s.rear_is; unshut = s.unshut; shows = no }
    server_sees k b p others (server.SawRear rear) may fit turn fits s = record { rear_is = may; unshut = s.unshut; shows = (λ _. turn.within) }
    server_sees k b p others (server.SawFront front) may fit turn fits s =
        record {
          rear_is = s.rear_is;
          unshut = either_none (is_noticed shape k.is_new k.rear front) _ (
              ap (λ (x : ℕ × ℕ). outside shape.frames x.0 x.1) (λ i. (may i, s.rear_is i))
              ∙ outside_none p.consumed p.rear_seen (rear_ahead b p fit turn s.shows) (let a = turn.to_released in omega arith)
              );
          shows = no;
        }
    server_sees k b p others (server.Drop to) may fit turn fits s = record { rear_is = s.rear_is; unshut = s.unshut; shows = no }
    server_sees k b p others (server.Take count) may fit turn fits s = record { rear_is = s.rear_is; unshut = s.unshut; shows = no }
    server_sees k b p others (server.Tally missing) may fit turn fits s = record { rear_is = s.rear_is; unshut = s.unshut; shows = no }
    server_sees k b p others (server.SetFlags bits) may fit turn fits s = record { rear_is = s.rear_is; unshut = s.unshut; shows = no }
    server_sees k b p others (server.SetStatus word) may fit turn fits s = record { rear_is = s.rear_is; unshut = s.unshut; shows = no }
    server_sees k b p others (server.Learn count) may fit turn fits s = record { rear_is = s.rear_is; unshut = s.unshut; shows = no }

    hand_leaves : (k : ServerKept) (b : Bool) (p : TrackPoint) (e : HandEvent) → SeesRoom k b p → SeesRoom k b (after_hand p e)
    hand_leaves k b p (hand.SetFlags bits) s = record { rear_is = s.rear_is; unshut = s.unshut; shows = s.shows }
    hand_leaves k b p (hand.Met count) s = s

    client_leaves : (k : ServerKept) (b : Bool) (p : TrackPoint) (e : ClientEvent) → SeesRoom k b p → SeesRoom k b (after_client p e)
    client_leaves k b p (client.Release count) s = record { rear_is = s.rear_is; unshut = s.unshut; shows = s.shows }
    client_leaves k b p client.Flush s = record { rear_is = s.rear_is; unshut = s.unshut; shows = s.shows }
    client_leaves k b p (client.SetGain word) s = record { rear_is = s.rear_is; unshut = s.unshut; shows = s.shows }
    client_leaves k b p (client.ClearFlags old) s = record { rear_is = s.rear_is; unshut = s.unshut; shows = s.shows }
    client_leaves k b p _ s = s

    pub sees_in : (order : List Moment) → IsLegal (start shape) order → AllFit (client_begins shape.base) None (client_of order) → AllFollowRear false (server_of order)
        → SeesRoom (server_kept shape (server_of order)) (fold saw_rear false (server_of order)) (after (start shape) order)
    sees_in [] h fit f = record { rear_is = refl; unshut = refl; shows = no }
    sees_in (by_client e ∷ order) h fit f = client_leaves _ _ (after (start shape) order) e (sees_in order h.1 (fit_split (client_begins shape.base) None (client_of order) (e ∷ []) fit).0 f)
    sees_in (by_server e ∷ order) h fit f =
        let g = rear_split false (server_of order) (e ∷ []) f in
        let now = server_sees (server_kept shape (server_of order)) _ (after (start shape) order) _ e h.0 g.1.0 (in_turn shape order h.1) (room_in order h.1 fit).fits (sees_in order h.1 fit g.0) in
        subst (λ (x : ServerKept × Bool). SeesRoom x.0 x.1 (after (start shape) (by_server e ∷ order)))
        (λ i. (sym (fold-append (server_keeps shape) (server_begins shape) (server_of order) (e ∷ [])) i, sym (fold-append saw_rear false (server_of order) (e ∷ [])) i)) now
    sees_in (by_hand e ∷ order) h fit f = hand_leaves _ _ (after (start shape) order) e (sees_in order h.1 fit f)

  -- ## What a history tells

  module _ (few : shape.frames ≤ 65536) {ce : List ClientEvent} {cf : List ℕ} {se : List ServerEvent} {sf : List ℕ} {he : List HandEvent} (h : HasHistory shape ce cf se sf he) (spelled : IsClientList shape.frames shape.cells shape.base ce) where
    fit_all : AllFit (client_begins shape.base) None (client_of h.order)
    fit_all = subst (λ (es : List ClientEvent). AllFit (client_begins shape.base) None es) (sym h.client_is) (all_fit ce spelled)

    -- no more frames lie in the block than it may hold
    pub room_kept : (point h).released ≤ (point h).consumed + shape.frames
    room_kept = (room_in few h.order h.legal fit_all).fits

    -- a client that has a history is never shut
    pub never_corrupt : (client_kept shape.frames shape.base ce).shut ≡ None
    never_corrupt = subst (λ (es : List ClientEvent). (client_kept shape.frames shape.base es).shut ≡ None) h.client_is (room_in few h.order h.legal fit_all).unshut

    -- the server is never shut
    pub never_shut : LooksInOrder shape se → (server_kept shape se).shut ≡ None
    never_shut looked =
        let follow : AllFollowRear false (server_of h.order) = subst (λ (es : List ServerEvent). AllFollowRear false es) (sym h.server_is) (looked_follow se looked) in
        subst (λ (es : List ServerEvent). (server_kept shape es).shut ≡ None) h.server_is (sees_in few h.order h.legal fit_all follow).unshut
