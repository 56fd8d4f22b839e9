-- The proxies and the hand of one track, found by its number and put back.
use Rattle.std.proofs.Common.{◌≡◌, ℕ, ◌<◌, List, length, slice_get, slice_set, slice_index_or, Option, Some, None, sym, ap, subst, ◌∙◌, length-set, get_or-set_same, arith}
use Rattle.af_normal.proofs.Common.{HandSide, IsServerOf, IsStreamOf, Links, Made, ServerState, get_or_default, get_set_same, hand_made, server_made, slice_get-get_or, some_same}
use Rattle.af_normal.specs.Ready.{AreOwn}

-- the block of a number, whatever stands for one that isn't there
block_is : (blocks : List Made) (i : ℕ) (m d : Made) → i < length blocks → slice_get blocks i ≡ Some m → m ≡ slice_index_or blocks i d
block_is blocks i m d lt e = some_same m (slice_index_or blocks i d) (sym e ∙ slice_get-get_or blocks i d lt)

module _ (links : Links) (streams : List (Option ServerState)) (commands : List ServerState) (hands : List HandSide) (i : ℕ) (own : AreOwn links streams commands hands i) (long : i < length streams) where
  pub command_of : (d : ServerState) (b : Made) → IsServerOf (slice_index_or links.commands.now i b) (slice_index_or commands i d)
  command_of d b = let of : IsStreamOf links.commands.now i (slice_index_or commands i d) = own.command_is (slice_index_or commands i d) (slice_get-get_or commands i d own.there.0) in
      (block_is links.commands.now i (server_made (slice_index_or commands i d).pass) b own.blocks.0 of.made, of.in_order)

  pub stream_of : (d : Option ServerState) (b : Made) (s : ServerState) → slice_index_or streams i d ≡ Some s → IsServerOf (slice_index_or links.streams.now i b) s
  stream_of d b s e = let of : IsStreamOf links.streams.now i s = own.stream_is s (get_or_default streams i None d long ∙ e) in
      (block_is links.streams.now i (server_made s.pass) b own.blocks.1 of.made, of.in_order)

  pub hand_of_track : (d : HandSide) (b : Made) → hand_made (slice_index_or hands i d) ≡ slice_index_or links.streams.now i b
  hand_of_track d b = block_is links.streams.now i (hand_made (slice_index_or hands i d)) b own.blocks.1 (own.flag_is (slice_index_or hands i d) (slice_get-get_or hands i d own.there.1))

  module _ (cb sb : Made) (command : ServerState) (stream : Option ServerState) (hand : HandSide)
      (command_is : IsServerOf (slice_index_or links.commands.now i cb) command) (stream_is : (s : ServerState) → stream ≡ Some s → IsServerOf (slice_index_or links.streams.now i sb) s) (hand_is : hand_made hand ≡ slice_index_or links.streams.now i sb) where
    pub own_after : AreOwn links (slice_set streams i stream) (slice_set commands i command) (slice_set hands i hand) i
    own_after = record {
      blocks = own.blocks;
      there = (omega (arith, own.there.0, length-set commands i command), omega (arith, own.there.1, length-set hands i hand));
      command_is = λ s e. let is : command ≡ s = some_same command s (sym (get_set_same commands i command own.there.0) ∙ e) in
          subst (IsStreamOf links.commands.now i) is (record { made = slice_get-get_or links.commands.now i cb own.blocks.0 ∙ ap (λ (m : Made). Some m) (sym command_is.0); in_order = command_is.1 });
      flag_is = λ h e. let is : hand ≡ h = some_same hand h (sym (get_set_same hands i hand own.there.1) ∙ e) in
          slice_get-get_or links.streams.now i sb own.blocks.1 ∙ ap (λ (m : Made). Some m) (sym hand_is) ∙ ap (λ (g : HandSide). Some (hand_made g)) is;
      stream_is = λ s e. let of : IsServerOf (slice_index_or links.streams.now i sb) s = stream_is s (sym (get_or-set_same streams i stream None long) ∙ e) in
          record { made = slice_get-get_or links.streams.now i sb own.blocks.1 ∙ ap (λ (m : Made). Some m) (sym of.0); in_order = of.1 };
    }
