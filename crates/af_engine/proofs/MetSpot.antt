-- What the meetings of one track come to.
use Rattle.std.proofs.Common.{◌≡◌, ◌≢◌, ℕ, ◌<◌, true, false, true≢false, is_some, List, length, slice_get, slice_set, Option, Some, None, refl, sym, ap, subst, ◌∙◌, get_or-set_other}
use Rattle.af_engine.proofs.Common.{ClientMet, ClientState, FastState, HandSide, Links, Made, MeetsAway, MeetsStream, MeetsTrack, Proxies, ServerState, Spot, SpotMet, at, client_made, get_set_other, get_set_same, item_at, slice_get_within, slot_for, spot_of, stream_at}
use Rattle.af_engine.proofs.MetSlots.{held_other}

-- the client of a stream whose proxy is home met what is there
at_home : (block : Made) (o : Option ServerState) (a b : Spot) (c d : ClientState) → is_some o ≡ true → b.held ≡ a.held → MeetsStream block o a.hand c b.stream b.hand d → SpotMet block o a c b d
at_home block None a b c d there held m = absurd (true≢false (sym there))
at_home block (Some s) a b c d there held m = (m, held)

-- if no proxy was home, the meetings at home left all as it was
stayed : (block : Made) (o : Option ServerState) (h : Option HandSide) (c d : ClientState) (o' : Option ServerState) (h' : Option HandSide) → is_some o ≡ false → MeetsStream block o h c o' h' d → (o' ≡ None) × (h' ≡ h) × (d ≡ c)
stayed block None h c d o' h' gone m = m
stayed block (Some s) h c d o' h' gone m = absurd (true≢false gone)

at_away : (block : Made) (o : Option ServerState) (a b : Spot) (c d : ClientState) (h g : HandSide) → is_some o ≡ false → b.stream ≡ None → a.hand ≡ Some h → b.hand ≡ Some g → MeetsAway block a.held h c b.held g d → SpotMet block o a c b d
at_away block None a b c d h g gone stream was now m = record { still_away = stream; hand = h; has_hand = was; hand' = g; has_hand' = now; met = m }
at_away block (Some s) a b c d h g gone stream was now m = absurd (true≢false gone)

module _ (x : FastState) (i : ℕ) (links : Links) (streams streams' : List (Option ServerState)) (commands commands' : List ServerState) (hands hands' : List HandSide) (items : List (Option ServerState)) (c d e f : ClientState)
    (t : MeetsTrack links i streams streams' commands commands' hands hands' c d e f) (inside : i < length commands) where
  abbrev before : Proxies
  before = record { streams = streams; commands = commands; hands = hands; items = items }

  abbrev at_hands : List HandSide → List (Option ServerState) → Proxies
  at_hands hs is = record { streams = streams'; commands = commands'; hands = hs; items = is }

  has_command : slice_get commands' i ≡ Some t.command'
  has_command = ap (λ (cs : List ServerState). slice_get cs i) t.commands_are ∙ get_set_same commands i t.command' inside

  other_stream : (j : ℕ) → j ≢ i → stream_at streams' j ≡ stream_at streams j
  other_stream j ne = ap (λ (ss : List (Option ServerState)). stream_at ss j) t.streams_are ∙ get_or-set_other streams i j (stream_at streams' i) None ne

  other_command : (j : ℕ) → j ≢ i → slice_get commands' j ≡ slice_get commands j
  other_command j ne = ap (λ (cs : List ServerState). slice_get cs j) t.commands_are ∙ get_set_other commands i j t.command' ne

  -- if the stream proxy is home, the client of the track met its proxies, and all else of other tracks stays
  pub met_home : is_some (stream_at streams i) ≡ true
      → ClientMet (Unit {0}) (spot_of x before i) (spot_of x (at_hands hands' items) i) c e d f
      × ((j : ℕ) → j ≢ i → spot_of x (at_hands hands' items) j ≡ spot_of x before j)
  met_home there = (
    record {
      same = tt;
      command = t.command;
      has_command = t.has_command;
      command' = t.command';
      has_command' = has_command;
      commanded = t.commanded;
      streamed = at_home (client_made c.pass) (stream_at streams i) (spot_of x before i) (spot_of x (at_hands hands' items) i) c d there refl t.streamed;
    },
    λ j ne. (λ k. record { stream = other_stream j ne k; held = item_at items (slot_for x j); hand = t.hands_are.1 j ne k; command = other_command j ne k }),
  )

  -- if the stream proxy isn't home, the hand at the track, and what is held for it, met the client after that
  module _ (h g : HandSide) (items' : List (Option ServerState)) (c' : ClientState) (away_is : is_some (stream_at streams i) ≡ false) (is : slice_get hands' i ≡ Some h) where
    abbrev after : Proxies
    after = at_hands (slice_set hands' i g) items'

    pub met_away : MeetsAway (client_made d.pass) (item_at items (slot_for x i)) h d (item_at items' (slot_for x i)) g c'
        → ((k : ℕ) → slot_for x i ≢ Some k → at items' k ≡ at items k)
        → ClientMet (Unit {0}) (spot_of x before i) (spot_of x after i) c e c' f × ((j : ℕ) → j ≢ i → spot_of x after j ≡ spot_of x before j)
    met_away away others =
        let stay = stayed (client_made c.pass) (stream_at streams i) (slice_get hands i) c d (stream_at streams' i) (slice_get hands' i) away_is t.streamed in (
          record {
            same = tt;
            command = t.command;
            has_command = t.has_command;
            command' = t.command';
            has_command' = has_command;
            commanded = t.commanded;
            streamed = at_away (client_made c.pass) (stream_at streams i) (spot_of x before i) (spot_of x after i) c c' h g away_is stay.0 (sym stay.1 ∙ is) (get_set_same hands' i g (slice_get_within hands' i h is))
                (subst (λ (y : ClientState). MeetsAway (client_made y.pass) (item_at items (slot_for x i)) h y (item_at items' (slot_for x i)) g c') stay.2 away);
          },
          λ j ne.
              let held = held_other x i items items' others j ne in
              let hand = get_set_other hands' i j g ne ∙ t.hands_are.1 j ne in
              (λ k. record { stream = other_stream j ne k; held = held k; hand = hand k; command = other_command j ne k }),
        )
