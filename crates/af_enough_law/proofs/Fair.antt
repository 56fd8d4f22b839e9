-- What a client's calls answer on a block whose lists have a history and whose flags stay calm.
use Rattle.std.proofs.Common.{◌≡◌, ◌⊎◌, inl, inr, ℕ, ◌+◌, ◌≤◌, ◌<◌, ◌==◌, Bool, true, false, List, [], ◌∷◌, ◌++◌, length, fold, get_or, refl, sym, ap, ◌∙◌, subst, arith, append_assoc, true≢false, None, is_some, bit_and, bit_or, MatchBool, drop}
use Rattle.af_enough_law.proofs.Common.{AllFit, ClientEvent, ClientMay, HandEvent, HasHistory, IsClientList, IsInvalid, IsLegal, Moment, ServerEvent, Shape, TrackPoint, after, after_client, after_hand, after_server, all_fit, append-nil, both_first, both_right, both_true, by_client, by_hand, by_server, client_begins, client_keeps, client_kept, client_of, drops_none, filled_by, fit_split, fold-append, hand_of, in_turn, keeps_all, legal_cut, not_true, outside, outside-some, room_in, server_append, server_of, start, state_in, wrapped}
use Rattle.af_base.specs.declared.event.ClientEvent.TheVariants as client
use Rattle.af_base.specs.declared.event.HandEvent.TheVariants as hand
use Rattle.af_base.specs.declared.event.ServerEvent.TheVariants as server
use Rattle.af_enough_law.specs.Seen.{Stands, frames_put, taken_by, frames_taken, status_by, last_status}
use Rattle.af_enough_law.proofs.Calm.{is_calm, are_calm, is_hand_calm, are_hands_calm}
use Rattle.af_enough_law.proofs.SeenBlocks.{client_cut, client_learnt, consumed_is, released_is, status_is}

pub hand_append : (late early : List Moment) → hand_of (late ++ early) ≡ hand_of early ++ hand_of late
hand_append [] early = sym (append-nil (hand_of early))
hand_append (by_client e ∷ late) early = hand_append late early
hand_append (by_server e ∷ late) early = hand_append late early
hand_append (by_hand e ∷ late) early = ap (λ z. z ++ e ∷ []) (hand_append late early) ∙ append_assoc (hand_of early) (hand_of late) (e ∷ [])

-- ## Calm flags

pub calm_split : (xs ys : List ServerEvent) → are_calm (xs ++ ys) ≡ true → (are_calm xs ≡ true) × (are_calm ys ≡ true)
calm_split [] ys h = (refl, h)
calm_split (x ∷ xs) ys h = let rest = calm_split xs ys (both_right (is_calm x) (are_calm (xs ++ ys)) h) in (both_true (is_calm x) (are_calm xs) (both_first (is_calm x) (are_calm (xs ++ ys)) h) rest.0, rest.1)

pub hands_split : (xs ys : List HandEvent) → are_hands_calm (xs ++ ys) ≡ true → (are_hands_calm xs ≡ true) × (are_hands_calm ys ≡ true)
hands_split [] ys h = (refl, h)
hands_split (x ∷ xs) ys h = let rest = hands_split xs ys (both_right (is_hand_calm x) (are_hands_calm (xs ++ ys)) h) in (both_true (is_hand_calm x) (are_hands_calm xs) (both_first (is_hand_calm x) (are_hands_calm (xs ++ ys)) h) rest.0, rest.1)

calm_keeps : (e : ServerEvent) → is_calm e ≡ true → keeps_all e ≡ true
calm_keeps (server.Drop to) h = h
calm_keeps _ h = refl

pub calm_drops : (es : List ServerEvent) → are_calm es ≡ true → drops_none es ≡ true
calm_drops [] h = refl
calm_drops (e ∷ es) h = both_true (keeps_all e) (drops_none es) (calm_keeps e (both_first (is_calm e) (are_calm es) h)) (calm_drops es (both_right (is_calm e) (are_calm es) h))

calm_status : (w : ℕ) (e : ServerEvent) → is_calm e ≡ true → (state_in w == 15) ≡ false → (state_in (status_by w e) == 15) ≡ false
calm_status w (server.SetStatus word) h low = not_true (state_in word == 15) h
calm_status w _ h low = low

-- no calm status says that a track was shut
pub status_calm : (w : ℕ) (es : List ServerEvent) → are_calm es ≡ true → (state_in w == 15) ≡ false → (state_in (fold status_by w es) == 15) ≡ false
status_calm w [] h low = low
status_calm w (e ∷ es) h low = status_calm (status_by w e) es (both_right (is_calm e) (are_calm es) h) (calm_status w e (both_first (is_calm e) (are_calm es) h) low)

-- no flag but UNDERRUN is set
abbrev pub IsQuiet : ℕ → Type 0
IsQuiet flags = (flags ≡ 0) ⊎ (flags ≡ 1)

quiet_or : (flags bits : ℕ) → (bits == 1) ≡ true → IsQuiet flags → IsQuiet (bit_or flags bits)
quiet_or flags bits is (inl none) = let one : bits ≡ 1 = search (arith, is) in inr (λ i. bit_or (none i) (one i))
quiet_or flags bits is (inr under) = let one : bits ≡ 1 = search (arith, is) in inr (λ i. bit_or (under i) (one i))

quiet_and : (flags : ℕ) → IsQuiet flags → IsQuiet (bit_and flags 4294967287)
quiet_and flags (inl none) = inl (ap (λ f. bit_and f 4294967287) none)
quiet_and flags (inr under) = inr (ap (λ f. bit_and f 4294967287) under)

quiet_server : (p : TrackPoint) (e : ServerEvent) → is_calm e ≡ true → IsQuiet p.flags → IsQuiet (after_server p e).flags
quiet_server p (server.SetFlags bits) h q = quiet_or p.flags bits h q
quiet_server p _ h q = q

quiet_client : (p : TrackPoint) (e : ClientEvent) → IsQuiet p.flags → IsQuiet (after_client p e).flags
quiet_client p (client.ClearFlags old) q = quiet_and p.flags q
quiet_client p _ q = q

quiet_hand : (p : TrackPoint) (e : HandEvent) → is_hand_calm e ≡ true → IsQuiet p.flags → IsQuiet (after_hand p e).flags
quiet_hand p (hand.SetFlags bits) h q = absurd (true≢false (sym h))
quiet_hand p (hand.Met count) h q = q

pub quiet_in : (k : Shape) (order : List Moment) → are_calm (server_of order) ≡ true → are_hands_calm (hand_of order) ≡ true → IsQuiet (after (start k) order).flags
quiet_in k [] calm hands = inl refl
quiet_in k (by_client e ∷ order) calm hands = quiet_client (after (start k) order) e (quiet_in k order calm hands)
quiet_in k (by_server e ∷ order) calm hands = let c = calm_split (server_of order) (e ∷ []) calm in quiet_server (after (start k) order) e (both_first (is_calm e) true c.1) (quiet_in k order c.0 hands)
quiet_in k (by_hand e ∷ order) calm hands = let c = hands_split (hand_of order) (e ∷ []) hands in quiet_hand (after (start k) order) e (both_first (is_hand_calm e) true c.1) (quiet_in k order calm c.0)

-- a front of a list that is longer took more
pub taken_least : (xs xs' ys ys' : List ServerEvent) → xs ++ xs' ≡ ys ++ ys' → length xs ≤ length ys → frames_taken xs ≤ frames_taken ys
taken_least [] xs' ys ys' is short = omega arith
taken_least (x ∷ xs) xs' [] ys' is short = absurd (omega arith)
taken_least (x ∷ xs) xs' (y ∷ ys) ys' is short =
    let first : taken_by x ≡ taken_by y = ap (λ (l : List ServerEvent). taken_by (get_or l 0 x)) is in
    let rest = taken_least xs xs' ys ys' (ap (drop 1) is) (omega arith) in
    omega arith

invalid_not : (flags found : ℕ) (b : Bool) → (bit_and flags 4 == 0) ≡ b → MatchBool b (bit_and found 4 ≡ 0) (flags ≡ found) → IsInvalid flags → IsQuiet found → ⊥
invalid_not flags found true is may invalid quiet = invalid (search (arith, is))
invalid_not flags found false is may invalid (inl none) = invalid (ap (λ f. bit_and f 4) (may ∙ none))
invalid_not flags found false is may invalid (inr under) = invalid (ap (λ f. bit_and f 4) (may ∙ under))

quiet_clear : (flags : ℕ) → IsQuiet flags → (bit_and flags 8 == 0) ≡ true
quiet_clear flags (inl none) = ap (λ f. bit_and f 8 == 0) none
quiet_clear flags (inr under) = ap (λ f. bit_and f 8 == 0) under

frames_put-flags : (es : List ClientEvent) (flags : ℕ) → frames_put (es ++ client.SawFlags flags ∷ []) ≡ frames_put es
frames_put-flags [] flags = refl
frames_put-flags (e ∷ es) flags = let rest = frames_put-flags es flags in omega arith

-- ## At an event of the client

module _ (k : Shape) (few : k.frames ≤ 65536) (ce : List ClientEvent) (rel : List ℕ) (se : List ServerEvent) (taken : List ℕ) (hs : List HandEvent)
    (h : HasHistory k ce rel se taken hs) (spelled : IsClientList k.frames k.cells k.base ce) (calm : are_calm se ≡ true) (hands : are_hands_calm hs ≡ true) where
  -- the order up to a place in the client's list
  pub record At (xs : List ClientEvent) : Type 0 where
    pub order : List Moment
    pub legal : IsLegal (start k) order
    pub client : client_of order ≡ xs
    pub more : List ServerEvent
    pub server : se ≡ server_of order ++ more
    pub quiet : IsQuiet (after (start k) order).flags

  abbrev at_order : (late early : List Moment) (xs : List ClientEvent) → h.order ≡ late ++ early → IsLegal (start k) early → client_of early ≡ xs → At xs
  at_order late early xs whole legal is =
      let server : se ≡ server_of early ++ server_of late = sym h.server_is ∙ ap server_of whole ∙ server_append late early in
      let hand : hs ≡ hand_of early ++ hand_of late = sym h.hand_is ∙ ap hand_of whole ∙ hand_append late early in
      record {
        order = early;
        legal = legal;
        client = is;
        more = server_of late;
        server = server;
        quiet = quiet_in k early (calm_split (server_of early) (server_of late) (ap are_calm (sym server) ∙ calm)).0 (hands_split (hand_of early) (hand_of late) (ap are_hands_calm (sym hand) ∙ hands)).0;
      }

  -- the point of the next event, which is legal there
  pub next_at : (xs : List ClientEvent) (e : ClientEvent) (ys : List ClientEvent) → ce ≡ xs ++ e ∷ ys → (a : At xs) × ClientMay (after (start k) a.order) (length (server_of a.order)) e
  next_at xs e ys is =
      let cut = client_cut h.order xs e ys (h.client_is ∙ is) in
      let legal = legal_cut (start k) cut.late (by_client e) cut.early (subst (IsLegal (start k)) cut.whole h.legal) in
      let a = at_order (cut.late ++ by_client e ∷ []) cut.early xs (cut.whole ∙ sym (append_assoc cut.late (by_client e ∷ []) cut.early)) legal.1 cut.before in
      (a, legal.0)

  pub some_at : (xs ys : List ClientEvent) → ce ≡ xs ++ ys → At xs
  some_at xs [] is = at_order [] h.order xs refl h.legal (h.client_is ∙ is ∙ append-nil xs)
  some_at xs (y ∷ ys) is = (next_at xs y ys is).0

  -- the room at such a place
  fit_at : (xs ys : List ClientEvent) → ce ≡ xs ++ ys → AllFit k (client_begins k.base) None xs
  fit_at xs ys is = (fit_split k (client_begins k.base) None xs ys (subst (λ (es : List ClientEvent). AllFit k (client_begins k.base) None es) is (all_fit k ce spelled))).0

  pub unshut : (xs ys : List ClientEvent) → ce ≡ xs ++ ys → (client_kept k.frames k.base xs).shut ≡ None
  unshut xs ys is =
      let a = some_at xs ys is in
      subst (λ (es : List ClientEvent). (client_kept k.frames k.base es).shut ≡ None) a.client
      (room_in k few a.order a.legal (subst (λ (es : List ClientEvent). AllFit k (client_begins k.base) None es) (sym a.client) (fit_at xs ys is))).unshut

  -- the position is that of the frames released
  pub position_is : (xs ys : List ClientEvent) → ce ≡ xs ++ ys → (client_kept k.frames k.base xs).position ≡ k.base + frames_put xs
  position_is xs ys is =
      let a = some_at xs ys is in
      subst (λ (es : List ClientEvent). (client_kept k.frames k.base es).position ≡ k.base + frames_put es) a.client
      ((room_in k few a.order a.legal (subst (λ (es : List ClientEvent). AllFit k (client_begins k.base) None es) (sym a.client) (fit_at xs ys is))).position_is ∙ released_is k a.order)

  -- ## Answers

  -- the flags never have INVALID
  pub no_dead : (events ys : List ClientEvent) (flags : ℕ) → ce ≡ events ++ client.SawFlags flags ∷ ys → IsInvalid flags → ⊥
  no_dead events ys flags is invalid = let n = next_at events (client.SawFlags flags) ys is in invalid_not flags (after (start k) n.0.order).flags (bit_and flags 4 == 0) refl n.1 invalid n.0.quiet

  -- the flags never have DISABLED
  pub cleared_calm : (events ys : List ClientEvent) (flags : ℕ) → ce ≡ events ++ client.ClearFlags flags ∷ ys → (bit_and flags 8 == 0) ≡ true
  cleared_calm events ys flags is = let n = next_at events (client.ClearFlags flags) ys is in ap (λ f. bit_and f 8 == 0) n.1 ∙ quiet_clear (after (start k) n.0.order).flags n.0.quiet

  -- no front is outside the room
  pub no_corrupt : (events ys : List ClientEvent) (front : ℕ) → ce ≡ events ++ client.SawFlags 0 ∷ client.SawFront front ∷ ys → k.frames < filled_by (client_kept k.frames k.base events) front → ⊥
  no_corrupt events ys front is out =
      let kept = client_kept k.frames k.base events in
      let all : ce ≡ (events ++ client.SawFlags 0 ∷ client.SawFront front ∷ []) ++ ys = is ∙ sym (append_assoc events (client.SawFlags 0 ∷ client.SawFront front ∷ []) ys) in
      let none : outside k.frames front (wrapped kept.position) ≡ None =
      sym (ap (λ x. x.shut) (fold-append (client_keeps k.frames) (client_begins k.base) events (client.SawFlags 0 ∷ client.SawFront front ∷ []))) ∙ unshut (events ++ client.SawFlags 0 ∷ client.SawFront front ∷ []) ys all in
      let some = outside-some k.frames front (wrapped kept.position) out in
      absurd (true≢false (ap is_some (sym some ∙ none)))

  -- The front that a call sees is the word of a position not past its own, and not before what was known: these events of the server, of which it had learnt
  pub front_at : (events ys : List ClientEvent) (front : ℕ) (known later : List ServerEvent) → ce ≡ events ++ client.SawFlags 0 ∷ client.SawFront front ∷ ys → se ≡ known ++ later
      → (length known ≡ 0) ⊎ Stands (client.Learn (length known)) events
      → (at : ℕ) × (front ≡ wrapped at) × (k.base + frames_taken known ≤ at) × (at ≤ (client_kept k.frames k.base events).position)
  front_at events ys front known later is server learnt =
      let place = events ++ client.SawFlags 0 ∷ [] in
      let n = next_at place (client.SawFront front) ys (is ∙ sym (append_assoc events (client.SawFlags 0 ∷ []) (client.SawFront front ∷ ys))) in
      let order = n.0.order in
      let none : drops_none (server_of order) ≡ true = calm_drops (server_of order) (calm_split (server_of order) n.0.more (ap are_calm (sym n.0.server) ∙ calm)).0 in
      let consumed = consumed_is k order none in
      let released : (after (start k) order).released ≡ k.base + frames_put place = released_is k order ∙ ap (λ (es : List ClientEvent). k.base + frames_put es) n.0.client in
      let own = position_is events (client.SawFlags 0 ∷ client.SawFront front ∷ ys) is in
      let same = frames_put-flags events 0 in
      let turn = (in_turn k order n.0.legal).within in
      let long : length known ≤ length (server_of order) = elim learnt as (λ _. length known ≤ length (server_of order)) [
        | inl nothing ↦ omega arith
        | inr s ↦ client_learnt (start k) order (length known) n.0.legal (record {
          before = s.before;
          behind = s.behind ++ client.SawFlags 0 ∷ [];
          whole = n.0.client ∙ ap (λ (es : List ClientEvent). es ++ client.SawFlags 0 ∷ []) s.whole ∙ append_assoc s.before (client.Learn (length known) ∷ s.behind) (client.SawFlags 0 ∷ []);
        })
      ] in
      let least = taken_least known later (server_of order) n.0.more (sym server ∙ n.0.server) long in
      (k.base + frames_taken (server_of order), n.1 ∙ ap wrapped consumed, omega arith, omega arith)

  -- the status that a call sees is the last one of a front of the server's list that has what was known
  pub status_at : (events ys : List ClientEvent) (word : ℕ) (known later : List ServerEvent) → ce ≡ events ++ client.SawStatus word ∷ ys → se ≡ known ++ later
      → (length known ≡ 0) ⊎ Stands (client.Learn (length known)) events → (front : List ServerEvent) × (rest : List ServerEvent) × (se ≡ front ++ rest) × (length known ≤ length front) × (word ≡ last_status front)
  status_at events ys word known later is server learnt =
      let n = next_at events (client.SawStatus word) ys is in
      let order = n.0.order in
      let long : length known ≤ length (server_of order) = elim learnt as (λ _. length known ≤ length (server_of order)) [
        | inl nothing ↦ omega arith
        | inr s ↦ client_learnt (start k) order (length known) n.0.legal (subst (Stands (client.Learn (length known))) (sym n.0.client) s)
      ] in
      (server_of order, n.0.more, n.0.server, long, n.1 ∙ status_is k order)
