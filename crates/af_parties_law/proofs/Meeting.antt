-- The clients and the proxies through the meetings and ends of a round: what isn't shut behind them wasn't before.
use Rattle.std.proofs.Common.{◌≡◌, ℕ, zero, suc, ◌+◌, ◌<◌, Bool, true, false, true≢false, is_some, List, [], length, slice_get, Option, Some, None, refl, sym, ap, subst, ◌∙◌, arith}
use Rattle.af_parties_law.proofs.Common.{AreTogether, ClientState, Cycle, Frame, IsCycle, IsFastTurn, Links, Met, NormalState, PartyState, ServerState, SessionState, Spot, SpotMet, TrackMet, client_kept_of, client_made, is_home, is_lawful, is_mixed, proxies_of, same_Some, server_kept_of, slice_get_within, spot_of, stream_at, track_at, with_ends}
use Rattle.af_client.specs.Order.{IsInOrder as IsClientInOrder}
use Rattle.af_server.specs.Order.{IsInOrder as IsServerInOrder}
use Rattle.af_told_law.proofs.MetOpen.{IsPartyAsBefore, clients_ended, clients_met, open_met, open_spot, party_met}
use Rattle.af_parties_law.proofs.OpenCalls.{IsTame}

-- ## The clients through the meetings

tame_after : (p q : PartyState) → IsPartyAsBefore p q → IsTame p → IsTame q
tame_after p q known tame = (known.stream.lawful tame.0, known.command.lawful tame.1)

abbrev pub Follows : SessionState → SessionState → Type 0
Follows s t = (i : ℕ) (q : PartyState) → slice_get t.clients i ≡ Some q → (p : PartyState) × (slice_get s.clients i ≡ Some p) × (IsTame p → IsTame q)

follows_met : (a b : SessionState) → Met a b → Follows a b
follows_met a b met i q is = let was = clients_met a b met i q is in (was.0, was.1, tame_after was.0 q (party_met _ _ was.0 q was.2))

pub follows_then : (a b c : SessionState) → Follows a b → Follows b c → Follows a c
follows_then a b c f g i q is = let mid = g i q is in let was = f i mid.0 mid.1 in (was.0, was.1, λ tame. mid.2 (was.2 tame))

follows_same : (a b : SessionState) → b.clients ≡ a.clients → Follows a b
follows_same a b same i q is = (q, ap (λ (cs : List PartyState). slice_get cs i) (sym same) ∙ is, λ tame. tame)

follows_ended : (m : SessionState) → Follows m (with_ends m)
follows_ended m i q is = let was = clients_ended m i q is in
    (was.0, was.1, λ tame. (ap (λ (c : ClientState). is_lawful c.pass.part.events) was.2 ∙ tame.0, ap (λ (c : ClientState). is_lawful c.pass.part.events) was.3 ∙ tame.1))

-- the clients after a cycle of the fast mixer follow those before it
follows_cycle : (s next : SessionState) (out out' : List Frame) (answer : Cycle) → IsCycle s out answer next out' → Follows s next
follows_cycle s next out out' answer cycle =
    let polled : SessionState = record s { fast = cycle.polled } in
    follows_then s cycle.met next (follows_then s polled cycle.met (follows_same s polled refl) (follows_met polled cycle.met cycle.meets)) (follows_same cycle.met next (ap (λ (x : SessionState). x.clients) cycle.others))

follows_rest : (b : Bool) (next t : SessionState) (goes : Type 0) (back : List ℕ) → (b ≡ true → goes) → (b ≡ false → (back ≡ []) × (t ≡ next)) → (goes → Follows next t) → Follows next t
follows_rest true next t goes back on off more = more (on refl)
follows_rest false next t goes back on off more = follows_same next t (ap (λ (x : SessionState). x.clients) (off refl).1)

-- the clients after a turn of the fast mixer follow those before it
pub follows_fast : (count : ℕ) (s : SessionState) (bytes : List ℕ) (t : SessionState) → IsFastTurn count s bytes t → Follows s t
follows_fast zero s bytes t turn = follows_same s t (ap (λ (x : SessionState). x.clients) turn.1)
follows_fast (suc left) s bytes t turn =
    let next : SessionState = turn.1 in
    let wrote = turn.4 in
    follows_then s next t (follows_cycle s next wrote.before wrote.after turn.0 wrote.cycle)
    (follows_rest (is_mixed turn.0) next t (IsFastTurn left next turn.3 t) turn.3 turn.6 turn.7 (follows_fast left next turn.3 t))

-- ## A round's meetings and ends

module _ (links : Links) (turned met t : SessionState) (meets : Met turned met) (ends : t ≡ with_ends met) (together : AreTogether links met) where
  pub follows_close : Follows turned t
  follows_close = follows_then turned met t (follows_met turned met meets) (subst (Follows met) (sym ends) (follows_ended met))

  -- the parties of a track through the meetings and ends
  record Closed (i : ℕ) (q : PartyState) : Type 0 where
    party : PartyState
    was : slice_get turned.clients i ≡ Some party
    party' : PartyState
    there : slice_get met.clients i ≡ Some party'
    track : TrackMet (spot_of turned.fast.observer.past.state (proxies_of turned.normal turned.fast) i) (spot_of turned.fast.observer.past.state (proxies_of met.normal met.fast) i) party party'
    stream : q.stream ≡ party'.stream
    command : q.command ≡ party'.command

  closed : (i : ℕ) (q : PartyState) → slice_get t.clients i ≡ Some q → Closed i q
  closed i q is =
      let ended = clients_ended met i q (ap (λ (x : SessionState). slice_get x.clients i) (sym ends) ∙ is) in
      let was = clients_met turned met meets i ended.0 ended.1 in
      record { party = was.0; was = was.1; party' = ended.0; there = ended.1; track = was.2; stream = ended.2; command = ended.3 }

  -- ## The client of a track made its turn
  module _ (i : ℕ) (q : PartyState) (is : slice_get t.clients i ≡ Some q) (tame : IsTame q) where
    in_order : IsClientInOrder (closed i q is).party'.stream × IsClientInOrder (closed i q is).party'.command
    in_order = let z = closed i q is in (together.clients i z.party' z.there).in_order

    tame_met : IsTame (closed i q is).party'
    tame_met = let z = closed i q is in subst (λ (x : ClientState × ClientState). (is_lawful x.0.pass.part.events ≡ true) × (is_lawful x.1.pass.part.events ≡ true)) (λ j. (z.stream j, z.command j)) tame

    -- neither of its proxies is shut
    pub open_after : (p : PartyState) → slice_get turned.clients i ≡ Some p → ((client_kept_of p.stream.pass.part).shut ≡ None) × ((client_kept_of p.command.pass.part).shut ≡ None)
    open_after p was =
        let z = closed i q is in
        let same : z.party ≡ p = same_Some z.party p (sym z.was ∙ was) in
        let known = party_met _ _ z.party z.party' z.track in (
          ap (λ (x : PartyState). (client_kept_of x.stream.pass.part).shut) (sym same) ∙ sym known.stream.kept ∙ sym in_order.0.shut_is ∙ in_order.0.lawful_open tame_met.0,
          ap (λ (x : PartyState). (client_kept_of x.command.pass.part).shut) (sym same) ∙ sym known.command.kept ∙ sym in_order.1.shut_is ∙ in_order.1.lawful_open tame_met.1,
        )

    -- nothing was poked before the meetings either
    pub tame_before : (p : PartyState) → slice_get turned.clients i ≡ Some p → IsTame p
    tame_before p was =
        let z = closed i q is in
        let known = party_met _ _ z.party z.party' z.track in
        subst IsTame (same_Some z.party p (sym z.was ∙ was)) (known.stream.before tame_met.0, known.command.before tame_met.1)

  -- a client behind them was there before, and has poked nothing if it hasn't now
  pub client_before : (i : ℕ) (q : PartyState) → slice_get t.clients i ≡ Some q → (p : PartyState) × (slice_get turned.clients i ≡ Some p) × (IsTame q → IsTame p)
  client_before i q is = let z = closed i q is in (z.party, z.was, λ tame. tame_before i q is tame z.party z.was)

  -- ## The normal mixer made its turn
  module _ (i : ℕ) (q : PartyState) (is : slice_get t.clients i ≡ Some q) (p : PartyState) (was : slice_get turned.clients i ≡ Some p) (tame : IsTame p) where
    z : Closed i q
    z = closed i q is

    same_party : z.party ≡ p
    same_party = same_Some z.party p (sym z.was ∙ was)

    tame_party : IsTame z.party
    tame_party = subst IsTame (sym same_party) tame

    command_order : (s : ServerState) → slice_get met.normal.commands i ≡ Some s → IsServerInOrder s
    command_order s here = (together.normal.tied.proxies.commands_of i s here).in_order

    stream_order : (s : ServerState) → stream_at met.normal.streams i ≡ Some s → IsServerInOrder s
    stream_order s here = (together.normal.tied.proxies.streams_of i s here).in_order

    -- its command proxy isn't shut
    pub command_open : (s : ServerState) × (slice_get turned.normal.commands i ≡ Some s) × ((server_kept_of s.pass.part).shut ≡ None)
    command_open =
        let k = z.track in
        (k.command, k.has_command, open_met (client_made z.party.command.pass) k.command k.command' z.party.command z.party'.command k.commanded (command_order k.command' k.has_command') tame_party.1)

    there_after : is_home (track_at turned.normal.tracks i).holder ≡ true → is_some (stream_at met.normal.streams i) ≡ true
    there_after home =
        let lt : i < length met.normal.tracks = omega (arith, slice_get_within met.clients i z.party' z.there, together.count) in
        together.normal.tied.proxies.there i lt ∙ ap (λ (m : NormalState). is_home (track_at m.tracks i).holder) meets.ends.normal ∙ home

    by_stream : (o : Option ServerState) → stream_at turned.normal.streams i ≡ o → is_some (stream_at met.normal.streams i) ≡ true → (u : ServerState) × (stream_at turned.normal.streams i ≡ Some u) × ((server_kept_of u.pass.part).shut ≡ None)
    by_stream (Some u) here there =
        let k = z.track in
        (u, here, open_spot (client_made z.party.stream.pass) u (spot_of turned.fast.observer.past.state (proxies_of turned.normal turned.fast) i) (spot_of turned.fast.observer.past.state (proxies_of met.normal met.fast) i) z.party.stream z.party'.stream here stream_order tame_party.0 k.streamed)
    by_stream None here there =
        let a : Spot = spot_of turned.fast.observer.past.state (proxies_of turned.normal turned.fast) i in
        let b : Spot = spot_of turned.fast.observer.past.state (proxies_of met.normal met.fast) i in
        let away = subst (λ (o : Option ServerState). SpotMet (client_made z.party.stream.pass) o a z.party.stream b z.party'.stream) here z.track.streamed in
        absurd (true≢false (sym there ∙ ap is_some away.still_away))

    -- its stream proxy isn't shut, if that is home
    pub stream_open : is_home (track_at turned.normal.tracks i).holder ≡ true → (u : ServerState) × (stream_at turned.normal.streams i ≡ Some u) × ((server_kept_of u.pass.part).shut ≡ None)
    stream_open home = by_stream (stream_at turned.normal.streams i) refl (there_after home)
