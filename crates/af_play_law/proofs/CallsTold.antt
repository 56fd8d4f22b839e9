-- After the turns of all clients the run with their calls tells the session: one client's turn after the other.
use Rattle.std.proofs.Common.{◌≡◌, ℕ, suc, ◌+◌, ◌<◌, ◌==◌, Bool, if◌then◌else◌, List, [], ◌∷◌, ◌++◌, length, length-append, append_assoc, Some, slice_get, slice_set, refl, sym, ap, subst, ◌∙◌, arith}
use Rattle.af_play_law.proofs.Common.{AllZip, ClientCall, ClientPlayed, ClientTurned, Deeds, LegalClientTurn, PartyState, RoundSeen, Run, Session, SessionState, Tells, TrackTold, after_calls, at_seam, called_in_turn, calls_alone, calls_in, changed_from, eq-eqb, file_at, given_of, ne_eqb, ops_at, track_of, with_calls}
use Rattle.af_told_law.proofs.ClientTold.{client_told}

-- ## Lists

-- another element in the place behind a beginning
set_seam : {X : Type 0} (front : List X) (x y : X) (rest : List X) → slice_set (front ++ x ∷ rest) (length front) y ≡ front ++ y ∷ rest
set_seam [] x y rest = refl
set_seam (z ∷ front) x y rest = ap (λ l. z ∷ l) (set_seam front x y rest)

-- ## What is told of the tracks

module _ (round : RoundSeen) where
  -- the calls of the track of this number alone
  abbrev one_called : ℕ → ℕ → TrackTold → TrackTold
  one_called k n t = if n == k then called_in_turn (calls_in round k) t else t

  -- the calls of each track
  abbrev each_called : ℕ → TrackTold → TrackTold
  each_called n t = called_in_turn (calls_in round n) t

  -- the tracks behind that of this number stay
  others_stay : (k m : ℕ) (ts : List TrackTold) → k < m → changed_from (one_called k) m ts ≡ ts
  others_stay k m [] above = refl
  others_stay k m (t ∷ ts) above =
      let here : one_called k m t ≡ t = ap (λ (b : Bool). if b then called_in_turn (calls_in round k) t else t) (ne_eqb m k (λ e. omega (arith, above, e))) in
      λ i. here i ∷ others_stay k (m + 1) ts (omega (arith, above)) i

  -- the calls of a track are made in its place
  called_in_place : (k m : ℕ) (front : List TrackTold) (t : TrackTold) (ts : List TrackTold) → m + length front ≡ k → changed_from (one_called k) m (front ++ t ∷ ts) ≡ front ++ each_called k t ∷ ts
  called_in_place k m [] t ts at =
      let here : one_called k m t ≡ each_called k t = ap (λ (b : Bool). if b then called_in_turn (calls_in round k) t else t) (eq-eqb m k (omega (arith, at))) in
      λ i. here i ∷ others_stay k (m + 1) ts (omega (arith, at)) i
  called_in_place k m (a ∷ front) t ts at =
      let here : one_called k m a ≡ a = ap (λ (b : Bool). if b then called_in_turn (calls_in round k) a else a) (ne_eqb m k (λ e. omega (arith, at, e))) in
      λ i. here i ∷ called_in_place k (m + 1) front t ts (omega (arith, at)) i

  -- the calls of so many clients from this number on, one client after the other
  abbrev calls_from : ℕ → List PartyState → Run → Run
  calls_from k [] run = run
  calls_from k (q ∷ qs) run = calls_from (k + 1) qs (calls_alone k round run)

  -- the calls from a number on are those of each track from there on
  calls_are : (run : Run) (k : ℕ) (front ts : List TrackTold) (qs : List PartyState) → length front ≡ k → length qs ≡ length ts → calls_from k qs (record run { tracks = front ++ ts }) ≡ record run { tracks = front ++ changed_from each_called k ts }
  calls_are run k front [] [] at long = refl
  calls_are run k front [] (q ∷ qs) at long = absurd (omega (arith, long))
  calls_are run k front (t ∷ ts) [] at long = absurd (omega (arith, long))
  calls_are run k front (t ∷ ts) (q ∷ qs) at long =
      let placed : changed_from (one_called k) 0 (front ++ t ∷ ts) ≡ (front ++ each_called k t ∷ []) ++ ts = called_in_place k 0 front t ts (omega (arith, at)) ∙ sym (append_assoc front (each_called k t ∷ []) ts) in
      let next : length (front ++ each_called k t ∷ []) ≡ k + 1 = (let n = length-append front (each_called k t ∷ []) in omega (arith, n, at)) in
      ap (λ (l : List TrackTold). calls_from (k + 1) qs (record run { tracks = l })) placed
      ∙ calls_are run (k + 1) (front ++ each_called k t ∷ []) ts qs next (omega (arith, long))
      ∙ ap (λ (l : List TrackTold). record run { tracks = l }) (append_assoc front (each_called k t ∷ []) (changed_from each_called (k + 1) ts))

  -- the calls of all clients
  all_calls : (run : Run) (qs : List PartyState) → length qs ≡ length run.tracks → calls_from 0 qs run ≡ with_calls round run
  unfolding with_calls
  all_calls run qs long = calls_are run 0 [] run.tracks qs refl long

-- ## The turns

module _ (s : Session) (round : RoundSeen) (x : SessionState) where
  -- the session with these clients
  abbrev with_clients : List PartyState → SessionState
  with_clients l = record x { clients = l }

  -- the clients from this number on have the numbers of their tracks, and the round has their calls
  pub record AreNumbered (k : ℕ) (ps qs : List PartyState) : Type 0 where
    pub tracks : (j : ℕ) (p : PartyState) → slice_get ps j ≡ Some p → p.track ≡ k + j
    pub calls : (j : ℕ) (q : PartyState) → slice_get qs j ≡ Some q → calls_in round (k + j) ≡ q.calls.items

  -- one client's turn
  turned_next : (front : List PartyState) (p q : PartyState) (ps : List PartyState) → p.track ≡ length front → calls_in round (length front) ≡ q.calls.items → ClientPlayed (given_of s) p q
      → ClientTurned (given_of s) (length front) (with_clients (front ++ p ∷ ps)) (with_clients (front ++ q ∷ ps)) (calls_in round (length front))
  turned_next front p q ps track calls played = record {
    before = p;
    was = at_seam front p ps;
    after = q;
    made = calls;
    legal = subst (λ (z : ℕ × List ClientCall). LegalClientTurn (track_of (ops_at (given_of s) z.0) (file_at (given_of s) z.0) p) z.1) (λ j. (track j, sym calls j)) played.legal;
    turned = subst (λ (z : ℕ × List ClientCall). track_of (ops_at (given_of s) z.0) (file_at (given_of s) z.0) q ≡ after_calls (track_of (ops_at (given_of s) z.0) (file_at (given_of s) z.0) p) z.1) (λ j. (track j, sym calls j)) played.turned;
    leaves = ap with_clients (sym (set_seam front p q ps));
  }

  -- the turns of all clients from a number on are told
  turns_told : {d : Deeds} (run : Run) (k : ℕ) (front ps qs : List PartyState) → length front ≡ k → AllZip (ClientPlayed (given_of s)) ps qs → AreNumbered k ps qs → Tells s run d (with_clients (front ++ ps)) → Tells s (calls_from round k qs run) d (with_clients (front ++ qs))
  turns_told {d} run k front [] [] at plays numbered told = told
  turns_told {d} run k front [] (q ∷ qs) at plays numbered told = absurd plays
  turns_told {d} run k front (p ∷ ps) [] at plays numbered told = absurd plays
  turns_told {d} run k front (p ∷ ps) (q ∷ qs) at plays numbered told =
      let track : p.track ≡ length front = (let h = numbered.tracks 0 p refl in omega (arith, h, at)) in
      let number : length front ≡ k + 0 = omega (arith, at) in
      let calls : calls_in round (length front) ≡ q.calls.items = ap (calls_in round) number ∙ numbered.calls 0 q refl in
      let here : Tells s (calls_alone (length front) round run) d (with_clients (front ++ q ∷ ps)) =
      client_told s run (length front) round (with_clients (front ++ p ∷ ps)) (with_clients (front ++ q ∷ ps)) told (turned_next front p q ps track calls plays.0) in
      let on : Tells s (calls_alone k round run) d (with_clients ((front ++ q ∷ []) ++ ps)) =
      subst (λ (z : ℕ × List PartyState). Tells s (calls_alone z.0 round run) d (with_clients z.1)) (λ j. (at j, sym (append_assoc front (q ∷ []) ps) j)) here in
      let next : length (front ++ q ∷ []) ≡ k + 1 = (let n = length-append front (q ∷ []) in omega (arith, n, at)) in
      let rest : AreNumbered (k + 1) ps qs = record {
        tracks = (λ j p' is. numbered.tracks (suc j) p' is ∙ (let same : k + suc j ≡ (k + 1) + j = omega arith in same));
        calls = (λ j q' is. ap (calls_in round) (let same : (k + 1) + j ≡ k + suc j = omega arith in same) ∙ numbered.calls (suc j) q' is);
      } in
      subst (λ (l : List PartyState). Tells s (calls_from round k (q ∷ qs) run) d (with_clients l)) (append_assoc front (q ∷ []) qs)
      (turns_told (calls_alone k round run) (k + 1) (front ++ q ∷ []) ps qs next plays.1 rest on)

  -- the turns of all clients are told
  pub calls_told : {d : Deeds} (run : Run) (qs : List PartyState) → length qs ≡ length run.tracks → AllZip (ClientPlayed (given_of s)) x.clients qs → AreNumbered 0 x.clients qs → Tells s run d x → Tells s (with_calls round run) d (with_clients qs)
  calls_told {d} run qs long plays numbered told =
      subst (λ (r : Run). Tells s r d (with_clients qs)) (all_calls round run qs long) (turns_told run 0 [] x.clients qs refl plays numbered told)
