-- The proxies of one track meet their clients by the number of the track.
use Rattle.std.proofs.Common.{◌≡◌, ◌≢◌, ℕ, ◌<◌, List, length, slice_get, slice_set, slice_index_or, Option, Some, None, refl, sym, ap, subst, ◌∙◌, get_or-set_same, arith}
use Rattle.af_normal.proofs.Common.{ClientState, HandSide, IsClientOf, IsServerOf, IsStreamOf, Links, Made, ServerState, client_made, get_or_default, get_or_from_slice_get, get_set_same, hand_made, server_made, slice_get-get_or, slice_get_past, slice_get_within, some_same}
use Rattle.af_normal.specs.Meeting.{AreClientsOf, AreOf, Meets, MeetsStream, MeetsTrack}

module _ (links : Links) (i : ℕ) (streams : List (Option ServerState)) (commands : List ServerState) (hands : List HandSide) (stream command : ClientState)
    (own : AreOf links i streams commands hands) (clients : AreClientsOf links i stream command) (wide : i < length streams) (long : i < length commands) where
  -- the two blocks
  pub stream_block : (b : Made) → slice_index_or links.streams.now i b ≡ client_made stream.pass
  stream_block b = get_or_from_slice_get links.streams.now i (client_made stream.pass) b clients.stream_is

  pub command_block : (b : Made) → slice_index_or links.commands.now i b ≡ client_made command.pass
  command_block b = get_or_from_slice_get links.commands.now i (client_made command.pass) b clients.command_is

  pub stream_within : i < length links.streams.now
  stream_within = slice_get_within links.streams.now i (client_made stream.pass) clients.stream_is

  pub command_within : i < length links.commands.now
  command_within = slice_get_within links.commands.now i (client_made command.pass) clients.command_is

  -- what the meetings ask
  pub command_ready : (b : Made) (d : ServerState) → IsClientOf (slice_index_or links.commands.now i b) command × IsServerOf (slice_index_or links.commands.now i b) (slice_index_or commands i d)
  command_ready b d = let of : IsStreamOf links.commands.now i (slice_index_or commands i d) = own.command_is (slice_index_or commands i d) (slice_get-get_or commands i d long) in (
    (sym (command_block b), clients.in_order.1),
    (some_same (server_made (slice_index_or commands i d).pass) (client_made command.pass) (sym of.made ∙ clients.command_is) ∙ sym (command_block b), of.in_order),
  )

  pub stream_ready : (b : Made) (d : Option ServerState) (s : ServerState) → slice_index_or streams i d ≡ Some s → IsServerOf (slice_index_or links.streams.now i b) s
  stream_ready b d s e = let of : IsStreamOf links.streams.now i s = own.stream_is s (get_or_default streams i None d wide ∙ e) in
      (some_same (server_made s.pass) (client_made stream.pass) (sym of.made ∙ clients.stream_is) ∙ sym (stream_block b), of.in_order)

  pub client_ready : (b : Made) → IsClientOf (slice_index_or links.streams.now i b) stream
  client_ready b = (sym (stream_block b), clients.in_order.0)

  pub hand_ready : (b : Made) (h : HandSide) → slice_get hands i ≡ Some h → hand_made h ≡ slice_index_or links.streams.now i b
  hand_ready b h e = some_same (hand_made h) (client_made stream.pass) (sym (own.flag_is h e) ∙ clients.stream_is) ∙ sym (stream_block b)

  -- ## Afterwards

  module _ (cb sb : Made) (command' : ServerState) (stream' : Option ServerState) (c d : ClientState)
      (commands_are : IsClientOf (slice_index_or links.commands.now i cb) d × IsServerOf (slice_index_or links.commands.now i cb) command')
      (stream_is : (s : ServerState) → stream' ≡ Some s → IsServerOf (slice_index_or links.streams.now i sb) s) (client_is : IsClientOf (slice_index_or links.streams.now i sb) c) where
    pub own_after : (hands' : List HandSide) → ((h : HandSide) → slice_get hands' i ≡ Some h → hand_made h ≡ slice_index_or links.streams.now i sb) → AreOf links i (slice_set streams i stream') (slice_set commands i command') hands'
    own_after hands' flags = record {
      command_is = (λ s e. let is : command' ≡ s = some_same command' s (sym (get_set_same commands i command' long) ∙ e) in
          subst (IsStreamOf links.commands.now i) is (record { made = slice_get-get_or links.commands.now i cb command_within ∙ ap (λ (m : Made). Some m) (sym commands_are.1.0); in_order = commands_are.1.1 }));
      stream_is = (λ s e. let of : IsServerOf (slice_index_or links.streams.now i sb) s = stream_is s (sym (get_or-set_same streams i stream' None wide) ∙ e) in
          record { made = slice_get-get_or links.streams.now i sb stream_within ∙ ap (λ (m : Made). Some m) (sym of.0); in_order = of.1 });
      flag_is = (λ h e. slice_get-get_or links.streams.now i sb stream_within ∙ ap (λ (m : Made). Some m) (sym (flags h e)));
    }

    pub clients_after : AreClientsOf links i c d
    clients_after = record {
      stream_is = slice_get-get_or links.streams.now i sb stream_within ∙ ap (λ (m : Made). Some m) (sym client_is.0);
      command_is = slice_get-get_or links.commands.now i cb command_within ∙ ap (λ (m : Made). Some m) (sym commands_are.0.0);
      in_order = (client_is.1, commands_are.0.1);
    }

    pub met_after : (d0 : ServerState) (p0 : Option ServerState) (hands' : List HandSide) (h h' : Option HandSide) → slice_get hands i ≡ h → slice_get hands' i ≡ h' → length hands' ≡ length hands
        → ((j : ℕ) → j ≢ i → slice_get hands' j ≡ slice_get hands j)
        → Meets (slice_index_or links.commands.now i cb) (slice_index_or commands i d0) command' command d
        → MeetsStream (slice_index_or links.streams.now i sb) (slice_index_or streams i p0) h stream stream' h' c
        → MeetsTrack links i streams (slice_set streams i stream') commands (slice_set commands i command') hands hands' stream c command d
    met_after d0 p0 hands' h h' is is' same others commanded streamed = record {
      command = slice_index_or commands i d0;
      has_command = slice_get-get_or commands i d0 long;
      command' = command';
      commands_are = refl;
      commanded = subst (λ (b : Made). Meets b (slice_index_or commands i d0) command' command d) (command_block cb) commanded;
      streams_are = ap (slice_set streams i) (sym (get_or-set_same streams i stream' None wide));
      streamed = subst (λ (q : Made × Option ServerState × Option HandSide × Option ServerState × Option HandSide). MeetsStream q.0 q.1 q.2 stream q.3 q.4 c)
          (λ k. (stream_block sb k, sym (get_or_default streams i None p0 wide) k, sym is k, sym (get_or-set_same streams i stream' None wide) k, sym is' k)) streamed;
      hands_are = (same, others);
    }

  pub no_hand : length hands ≡ 0 → slice_get hands i ≡ None
  no_hand e = slice_get_past hands i (omega arith)
