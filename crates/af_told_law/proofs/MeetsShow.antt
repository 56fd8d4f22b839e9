-- What meetings show of the servers that took part: each front that they saw is their own.
use Rattle.std.proofs.Common.{◌≡◌, ℕ, ◌+◌, ◌<◌, ◌≤◌, true, false, true≢false, is_some, List, [], ◌∷◌, ◌++◌, length, slice_get, Option, Some, None, refl, sym, ap, ◌∙◌, subst, arith}
use Rattle.af_told_law.proofs.Common.{AllSeeOwn, AreClientsOf, AreTogether, ClientEvent, ClientState, FastState, HandEvent, HandSide, IsClientList, IsServerList, Links, Made, Meets, MeetsAll, MeetsAway, MeetsStream, Met, MixerState, PartyState, SeesTaken, ServerEvent, ServerState, SessionState, Shape, SpotMet, TrackKept, TrackMet, at, client_made, is_home, is_lawful, item_at, none-some, proxies_of, same_Some, server_begins, server_made, slice_get_within, slot_for, some_at, spot_of, stream_at, track_at}
use Rattle.af_told_law.specs.Leads.{LeadAway}
use Rattle.af_base.specs.declared.event.ServerEvent.TheVariants as server
use Rattle.af_client.specs.Order.{IsInOrder as IsClientInOrder}
use Rattle.af_link.specs.Names.{IsStreamOf}
use Rattle.af_model.specs.History.{HasHistory}
use Rattle.af_model.specs.ServerCalls.{meets}
use Rattle.af_model.proofs.ConsumedCount.{fronts-own}
use Rattle.af_told_law.proofs.SlotHeld.{found_carries, found_track}
use Rattle.af_told_law.proofs.TrackMeets.{tracks_are}
use Rattle.af_told_law.proofs.MixLooks.{own_split}

-- the blocks of the clients have no more frames than a block may have
pub record AreSmall (y : SessionState) : Type 0 where
  pub streams : (i : ℕ) (p : PartyState) → slice_get y.clients i ≡ Some p → p.stream.pass.part.shape.frames ≤ 65536
  pub commands : (i : ℕ) (p : PartyState) → slice_get y.clients i ≡ Some p → p.command.pass.part.shape.frames ≤ 65536

-- each front that the proxy saw is its own
abbrev pub SawOwn : ServerState → Type 0
SawOwn s = AllSeeOwn s.pass.part.shape (server_begins s.pass.part.shape) s.pass.part.events

-- On each block whose client hasn't poked, the stream proxy that is home, the one that the observer holds, and the command proxy saw fronts of their own; and each look at the pipe saw the number of frames taken before
pub record SeesOwn (y : SessionState) : Type 0 where
  pub homes : (i : ℕ) (p : PartyState) (s : ServerState) → slice_get y.clients i ≡ Some p → is_lawful p.stream.pass.part.events ≡ true → stream_at y.normal.streams i ≡ Some s → SawOwn s
  pub held : (i : ℕ) (p : PartyState) (s : ServerState) → slice_get y.clients i ≡ Some p → is_lawful p.stream.pass.part.events ≡ true → item_at y.fast.observer.items (slot_for y.fast.observer.past.state i) ≡ Some s → SawOwn s
  pub commands : (i : ℕ) (p : PartyState) (s : ServerState) → slice_get y.clients i ≡ Some p → is_lawful p.command.pass.part.events ≡ true → slice_get y.normal.commands i ≡ Some s → SawOwn s
  pub pipe : SeesTaken 0 y.fast.pipe.pass.part.events

-- ## Fronts of a list

-- a history of a list with a meeting more shows that each front is the server's own
own_by_history : (k : Shape) (shown : Option ℕ) (es : List ServerEvent) (count : ℕ) → k.frames ≤ 65536 → IsServerList k shown es → (ce : List ClientEvent) (cf sf : List ℕ) (he : List HandEvent)
    → IsClientList k.frames k.cells k.base ce → HasHistory k ce cf (es ++ server.Learn count ∷ []) sf he → AllSeeOwn k (server_begins k) es
own_by_history k shown es count few spelled ce cf sf he hers h =
    (own_split k (server_begins k) es (server.Learn count ∷ []) (fronts-own k few h shown hers (meets es shown count spelled))).0

-- ## One server

module _ (blocks : List Made) (i : ℕ) (c d : ClientState) (few : c.pass.part.shape.frames ≤ 65536) (mine : slice_get blocks i ≡ Some (client_made c.pass)) (now : slice_get blocks i ≡ Some (client_made d.pass)) (hers : IsClientInOrder d)
    (s : ServerState) (is : IsStreamOf blocks i s) where
  same_block : client_made c.pass ≡ server_made s.pass
  same_block = same_Some (client_made c.pass) (server_made s.pass) (sym mine ∙ is.made)

  same_client : client_made d.pass ≡ server_made s.pass
  same_client = same_Some (client_made d.pass) (server_made s.pass) (sym now ∙ is.made)

  -- the server that met saw its own fronts, by a history of its list with that of the client that it met
  shown_by : (es : List ServerEvent) (count : ℕ) (sf : List ℕ) (he : List HandEvent) → es ≡ s.pass.part.events ++ server.Learn count ∷ [] → HasHistory (client_made c.pass).shape d.pass.part.events d.pass.part.frames es sf he → SawOwn s
  shown_by es count sf he es_is h =
      own_by_history s.pass.part.shape s.shown s.pass.part.events count (subst (λ (b : Made). b.shape.frames ≤ 65536) same_block few) is.in_order.spelled d.pass.part.events d.pass.part.frames sf he
      (subst (λ (b : Made). IsClientList b.shape.frames b.shape.cells b.shape.base d.pass.part.events) same_client hers.spelled)
      (subst (λ (y : Made × List ServerEvent). HasHistory y.0.shape d.pass.part.events d.pass.part.frames y.1 sf he) (λ j. (same_block j, es_is j)) h)

  module _ (tame : is_lawful c.pass.part.events ≡ true) where
    by_meets : (t : ServerState) → Meets (client_made c.pass) s t c d → SawOwn s
    by_meets t m =
        let h = m.history tame in
        shown_by t.pass.part.events (length c.pass.part.events) t.pass.part.frames h.0 (ap (λ (y : ServerState). y.pass.part.events) m.server) h.2

    by_all : (t : ServerState) (h g : HandSide) → MeetsAll (client_made c.pass) s t c d h g → SawOwn s
    by_all t h g m = shown_by t.pass.part.events (length c.pass.part.events) t.pass.part.frames g.part.events (ap (λ (y : ServerState). y.pass.part.events) m.server) (m.history tame)

    by_stream : (o : Option ServerState) (hand hand' : Option HandSide) (o' : Option ServerState) → o ≡ Some s → MeetsStream (client_made c.pass) o hand c o' hand' d → SawOwn s
    by_stream None hand hand' o' some m = absurd (none-some s some)
    by_stream (Some p) None hand' o' some m = by_meets m.0 (subst (λ (q : ServerState). Meets (client_made c.pass) q m.0 c d) (same_Some p s some) m.3)
    by_stream (Some p) (Some g) hand' o' some m = by_all m.0 g m.1 (subst (λ (q : ServerState). MeetsAll (client_made c.pass) q m.0 c d g m.1) (same_Some p s some) m.4)

    by_away : (o o' : Option ServerState) (h h' : HandSide) → o ≡ Some s → MeetsAway (client_made c.pass) o h c o' h' d → SawOwn s
    by_away None o' h h' some m = absurd (none-some s some)
    by_away (Some p) o' h h' some m = by_all m.0 h h' (subst (λ (q : ServerState). MeetsAll (client_made c.pass) q m.0 c d h h') (same_Some p s some) m.2)

-- ## The session

module _ (links : Links) (y z : SessionState) (small : AreSmall y) (together : AreTogether links y) (still : AreTogether links z) (lead : LeadAway y.fast.observer.past.state y.normal.tracks) (m : Met y z) where
  as_many : length z.clients ≡ length y.clients
  as_many = still.count ∙ ap (λ (ts : List TrackKept). length ts) (tracks_are y z m) ∙ sym together.count

  abbrev adopted : FastState
  adopted = y.fast.observer.past.state

  module _ (i : ℕ) (low : i < length y.clients) where
    before : (p : PartyState) × (slice_get y.clients i ≡ Some p)
    before = some_at y.clients i low

    after : (q : PartyState) × (slice_get z.clients i ≡ Some q)
    after = some_at z.clients i (let n = as_many in omega (arith, low, n))

    track : TrackMet (spot_of adopted (proxies_of y.normal y.fast) i) (spot_of adopted (proxies_of z.normal z.fast) i) before.0 after.0
    track = m.tracks.met i before.0 after.0 low before.1 after.1

    mine : AreClientsOf links i before.0.stream before.0.command
    mine = together.clients i before.0 before.1

    hers : AreClientsOf links i after.0.stream after.0.command
    hers = still.clients i after.0 after.1

    home : (s : ServerState) → is_lawful before.0.stream.pass.part.events ≡ true → stream_at y.normal.streams i ≡ Some s → SawOwn s
    home s tame is = by_spot (stream_at y.normal.streams i) refl track.streamed
      where
        by_spot : (o : Option ServerState) → stream_at y.normal.streams i ≡ o → SpotMet (client_made before.0.stream.pass) o (spot_of adopted (proxies_of y.normal y.fast) i) before.0.stream (spot_of adopted (proxies_of z.normal z.fast) i) after.0.stream → SawOwn s
        by_spot None none met = absurd (none-some s (sym none ∙ is))
        by_spot (Some p) some met =
            by_stream links.streams.now i before.0.stream after.0.stream (small.streams i before.0 before.1) mine.stream_is hers.stream_is hers.in_order.0 s (together.normal.tied.proxies.streams_of i s is) tame
            (Some p) (slice_get y.normal.hands i) (slice_get z.normal.hands i) (stream_at z.normal.streams i) (sym some ∙ is) met.0

    -- a proxy that is held isn't home
    not_home : (k : ℕ) (p : ServerState) → slot_for adopted i ≡ Some k → stream_at y.normal.streams i ≡ Some p → ⊥
    not_home k p found is =
        let c = found_carries adopted i k found in
        let away : is_home (track_at y.normal.tracks i).holder ≡ false = ap (λ (j : ℕ). is_home (track_at y.normal.tracks j).holder) (sym (found_track adopted i k found)) ∙ (lead k c.0 c.1).0 in
        true≢false (ap is_some (sym is) ∙ together.normal.tied.proxies.there i (let n = together.count in omega (arith, low, n)) ∙ away)

    -- a proxy that is held is of the track's block
    of_track : (k : ℕ) (s : ServerState) → slot_for adopted i ≡ Some k → at y.fast.observer.items k ≡ Some s → IsStreamOf links.streams.now i s
    of_track k s found is =
        let c = found_carries adopted i k found in
        let names = together.fast.1.names in
        subst (λ (w : List Made × ℕ). IsStreamOf w.0 w.1 s) (λ j. (names.2 j, found_track adopted i k found j)) (together.fast.0.observer.fit names.0 names.1 k s c.0 is)

    held : (s : ServerState) → is_lawful before.0.stream.pass.part.events ≡ true → item_at y.fast.observer.items (slot_for adopted i) ≡ Some s → SawOwn s
    held s tame is = by_slot (slot_for adopted i) refl is
      where
        by_spot : (k : ℕ) → slot_for adopted i ≡ Some k → at y.fast.observer.items k ≡ Some s → (o : Option ServerState) → stream_at y.normal.streams i ≡ o
            → SpotMet (client_made before.0.stream.pass) o (spot_of adopted (proxies_of y.normal y.fast) i) before.0.stream (spot_of adopted (proxies_of z.normal z.fast) i) after.0.stream → SawOwn s
        by_spot k found item (Some p) some met = absurd (not_home k p found some)
        by_spot k found item None none met =
            by_away links.streams.now i before.0.stream after.0.stream (small.streams i before.0 before.1) mine.stream_is hers.stream_is hers.in_order.0 s (of_track k s found item) tame
            (item_at y.fast.observer.items (slot_for adopted i)) (item_at z.fast.observer.items (slot_for adopted i)) met.hand met.hand' is met.met

        by_slot : (o : Option ℕ) → slot_for adopted i ≡ o → item_at y.fast.observer.items o ≡ Some s → SawOwn s
        by_slot None none item = absurd (none-some s item)
        by_slot (Some k) found item = by_spot k found item (stream_at y.normal.streams i) refl track.streamed

    command : (s : ServerState) → is_lawful before.0.command.pass.part.events ≡ true → slice_get y.normal.commands i ≡ Some s → SawOwn s
    command s tame is =
        let one : track.command ≡ s = same_Some track.command s (sym track.has_command ∙ is) in
        by_meets links.commands.now i before.0.command after.0.command (small.commands i before.0 before.1) mine.command_is hers.command_is hers.in_order.1 s (together.normal.tied.proxies.commands_of i s is) tame
        track.command' (subst (λ (q : ServerState). Meets (client_made before.0.command.pass) q track.command' before.0.command after.0.command) one track.commanded)

  -- what the pipe's end saw with the meeting more it saw before
  pipe_before : (taken : ℕ) (es : List ServerEvent) (count : ℕ) → SeesTaken taken (es ++ server.Learn count ∷ []) → SeesTaken taken es
  pipe_before taken [] count h = tt
  pipe_before taken (server.SawFront front ∷ es) count h = (h.0, pipe_before taken es count h.1)
  pipe_before taken (server.Take n ∷ es) count h = pipe_before (taken + n) es count h
  pipe_before taken (_ ∷ es) count h = pipe_before taken es count h

  same_party : (i : ℕ) (p : PartyState) (is : slice_get y.clients i ≡ Some p) → (before i (slice_get_within y.clients i p is)).0 ≡ p
  same_party i p is = let b = before i (slice_get_within y.clients i p is) in same_Some b.0 p (sym b.1 ∙ is)

  pub meetings_show : SeesOwn y
  meetings_show = record {
    homes = (λ i p s is tame. home i (slice_get_within y.clients i p is) s (ap (λ (q : PartyState). is_lawful q.stream.pass.part.events) (same_party i p is) ∙ tame));
    held = (λ i p s is tame. held i (slice_get_within y.clients i p is) s (ap (λ (q : PartyState). is_lawful q.stream.pass.part.events) (same_party i p is) ∙ tame));
    commands = (λ i p s is tame. command i (slice_get_within y.clients i p is) s (ap (λ (q : PartyState). is_lawful q.command.pass.part.events) (same_party i p is) ∙ tame));
    pipe = pipe_before 0 y.fast.pipe.pass.part.events (length y.normal.pipe.pass.part.events) (subst (SeesTaken 0) (ap (λ (f : MixerState). f.pipe.pass.part.events) m.ends.fast) m.ends.histories.fronts);
  }
