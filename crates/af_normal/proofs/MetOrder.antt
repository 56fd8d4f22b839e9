-- A mixer whose ends or proxies met others is in order.
use Rattle.std.proofs.Common.{◌≡◌, ◌≢◌, ℕ, zero, suc, ◌<◌, ◌⊎◌, true, true≢false, is_some, sym, refl, ap, subst, ◌∙◌, List, length, length-set, slice_get, Option, Some, None, ⊎_elim, get_or-set_other, arith}
use Rattle.af_normal.proofs.Common.{ClientState, HandSide, IsStreamOf, Links, Made, ServerState, cases_eq, client_made, get_set_other, hand_made, is_home, nil_from_length, some_same, track_at}
use Rattle.af_normal.specs.Meeting.{AreOf, MeetsStream, MeetsTrack}
use Rattle.af_normal.specs.Mixing.{stream_at}
use Rattle.af_normal.specs.Order.{IsInOrder}
use Rattle.af_normal.specs.State.{NormalState}

-- ## The proxies of a track

module _ (links : Links) (x : NormalState) (o : IsInOrder links x) (i : ℕ) (inside : i < length x.tracks) where
  -- what is at the track is of its blocks
  pub own_of_order : AreOf links i x.streams x.commands x.hands
  own_of_order = record { command_is = o.tied.proxies.commands_of i; stream_is = o.tied.proxies.streams_of i; flag_is = by_turns x.turns refl }
    where
      by_turns : (n : ℕ) → x.turns ≡ n → (h : HandSide) → slice_get x.hands i ≡ Some h → slice_get links.streams.now i ≡ Some (hand_made h)
      by_turns zero e h is = absurd (true≢false (sym (ap is_some (sym (ap (λ (hs : List HandSide). slice_get hs i) (o.none_yet e).none) ∙ is))))
      by_turns (suc n) e h is = (o.hands (omega arith)).flags_of i h is

  module _ (streams : List (Option ServerState)) (commands : List ServerState) (hands : List HandSide) (c d e f : ClientState) (own : AreOf links i streams commands hands)
      (met : MeetsTrack links i x.streams streams x.commands commands x.hands hands c d e f) where
    streams_long : length streams ≡ length x.streams
    streams_long = ap (λ (ss : List (Option ServerState)). length ss) met.streams_are ∙ length-set x.streams i (stream_at streams i)

    commands_long : length commands ≡ length x.commands
    commands_long = ap (λ (ss : List ServerState). length ss) met.commands_are ∙ length-set x.commands i met.command'

    other_stream : (j : ℕ) → j ≢ i → stream_at streams j ≡ stream_at x.streams j
    other_stream j ne = ap (λ (ss : List (Option ServerState)). stream_at ss j) met.streams_are ∙ get_or-set_other x.streams i j (stream_at streams i) None ne

    other_command : (j : ℕ) → j ≢ i → slice_get commands j ≡ slice_get x.commands j
    other_command j ne = ap (λ (ss : List ServerState). slice_get ss j) met.commands_are ∙ get_set_other x.commands i j met.command' ne

    still_there : (b : Made) (s : Option ServerState) (h : Option HandSide) (t : Option ServerState) (g : Option HandSide) → MeetsStream b s h c t g d → is_some t ≡ is_some s
    still_there b None h t g m = ap is_some m.0
    still_there b (Some s) None t g m = ap is_some m.1
    still_there b (Some s) (Some h) t g m = ap is_some m.2

    -- a proxy that met its client alone has its hand still
    still_whole : (b : Made) (s : Option ServerState) (t : Option ServerState) (g : Option HandSide) → ((r : ServerState) → s ≡ Some r → r.pass.has_hand ≡ true) → MeetsStream b s None c t g d → (r : ServerState) → t ≡ Some r → r.pass.has_hand ≡ true
    still_whole b None t g whole m r is = absurd (true≢false (sym (ap is_some (sym m.0 ∙ is))))
    still_whole b (Some s) t g whole m r is = ap (λ (w : ServerState). w.pass.has_hand) (sym (some_same m.0 r (sym m.1 ∙ is)) ∙ m.3.server) ∙ whole s refl

    pub met_order : IsInOrder links (record x { streams = streams; commands = commands; hands = hands })
    met_order = record {
      tied = record {
        sound = o.tied.sound;
        sizes = record {
          frames = o.tied.sizes.frames;
          normal = o.tied.sizes.normal;
          few = o.tied.sizes.few;
          settings = o.tied.sizes.settings;
          streams_are = streams_long ∙ o.tied.sizes.streams_are;
          commands_are = commands_long ∙ o.tied.sizes.commands_are;
          blocks = o.tied.sizes.blocks;
          scales = o.tied.sizes.scales;
          pipe_is = o.tied.sizes.pipe_is;
        };
        proxies = record {
          there = (λ j lt. ⊎_elim
              (λ (is : j ≡ i). subst (λ (n : ℕ). is_some (stream_at streams n) ≡ is_home (track_at x.tracks n).holder) (sym is) (still_there (client_made c.pass) (stream_at x.streams i) (slice_get x.hands i) (stream_at streams i) (slice_get hands i) met.streamed ∙ o.tied.proxies.there i inside))
              (λ (ne : j ≢ i). ap is_some (other_stream j ne) ∙ o.tied.proxies.there j lt)
              (cases_eq j i));
          streams_of = (λ j s is. ⊎_elim
              (λ (at_i : j ≡ i). subst (λ (n : ℕ). IsStreamOf links.streams.now n s) (sym at_i) (own.stream_is s (ap (stream_at streams) (sym at_i) ∙ is)))
              (λ (ne : j ≢ i). o.tied.proxies.streams_of j s (sym (other_stream j ne) ∙ is))
              (cases_eq j i));
          commands_of = (λ j s is. ⊎_elim
              (λ (at_i : j ≡ i). subst (λ (n : ℕ). IsStreamOf links.commands.now n s) (sym at_i) (own.command_is s (ap (slice_get commands) (sym at_i) ∙ is)))
              (λ (ne : j ≢ i). o.tied.proxies.commands_of j s (sym (other_command j ne) ∙ is))
              (cases_eq j i));
        };
        out = o.tied.out;
        linked = o.tied.linked;
      };
      small = o.small;
      looks = o.looks;
      none_yet = (λ z. let h = o.none_yet z in record {
        none = nil_from_length hands (met.hands_are.0 ∙ ap (λ (hs : List HandSide). length hs) h.none);
        home = h.home;
        whole = (λ j s is. ⊎_elim
            (λ (at_i : j ≡ i). still_whole (client_made c.pass) (stream_at x.streams i) (stream_at streams i) (slice_get hands i) (h.whole i)
            (subst (λ (g : Option HandSide). MeetsStream (client_made c.pass) (stream_at x.streams i) g c (stream_at streams i) (slice_get hands i) d) (ap (λ (hs : List HandSide). slice_get hs i) h.none) met.streamed)
            s (ap (stream_at streams) (sym at_i) ∙ is))
            (λ (ne : j ≢ i). h.whole j s (sym (other_stream j ne) ∙ is))
            (cases_eq j i));
      });
      hands = (λ z. let h = o.hands z in record {
        whole = met.hands_are.0 ∙ h.whole;
        flags_of = (λ j g is. ⊎_elim
            (λ (at_i : j ≡ i). subst (λ (n : ℕ). slice_get links.streams.now n ≡ Some (hand_made g)) (sym at_i) (own.flag_is g (ap (slice_get hands) (sym at_i) ∙ is)))
            (λ (ne : j ≢ i). h.flags_of j g (sym (met.hands_are.1 j ne) ∙ is))
            (cases_eq j i));
      });
      turns = o.turns;
      takes = o.takes;
      idle = o.idle;
    }
