-- One track more, each with its parts at its place.
use Rattle.std.proofs.Common.{◌≡◌, ℕ, ◌+◌, ◌<◌, ◌⊎◌, inl, inr, List, [], ◌∷◌, ◌++◌, length, Some, None, sym, ◌∙◌, subst, arith}
use Rattle.af_engine.proofs.Common.{AreNewTracks, IsTrackAt, Made, TrackList, at_before, at_last, cases_eq, get_or_append_left, get_or_at, length-append, setting_of, slice_get, with_track}
use Rattle.af_normal.specs.declared.make.TrackSetup.{TrackSetup}

module _ {S P : Type 0} (New : ℕ → S → Made → Made → P → TrackSetup → Type 0) (n : ℕ) (specs : List S) (streams commands : List Made) (clients : List P) (tracks : TrackList) (before : AreNewTracks New n specs streams commands clients tracks)
    (spec : S) (stream command : Made) (p : P) (t : TrackSetup) (here : slice_get specs n ≡ Some spec) (new : New n spec stream command p t) where
  abbrev Grown : ℕ → Type 0
  Grown i = IsTrackAt New i specs (streams ++ stream ∷ []) (commands ++ command ∷ []) (clients ++ p ∷ []) (with_track t tracks)

  last : Grown n
  last = record {
    spec = spec;
    stream = stream;
    command = command;
    party = p;
    setup = t;
    spec_at = here;
    stream_at_place = at_last streams stream n before.blocks.0;
    command_at = at_last commands command n before.blocks.1;
    party_at = at_last clients p n before.parties;
    setting_at = at_last tracks.settings (setting_of t) n before.lists.0;
    proxy_at = get_or_at tracks.streams (Some t.stream) [] None n before.lists.1;
    control_at = at_last tracks.commands t.command n before.lists.2;
    new = new;
  }

  earlier : (i : ℕ) → i < n → Grown i
  earlier i lt =
      let old = before.each i lt in
      record {
        spec = old.spec;
        stream = old.stream;
        command = old.command;
        party = old.party;
        setup = old.setup;
        spec_at = old.spec_at;
        stream_at_place = at_before streams (stream ∷ []) i old.stream old.stream_at_place;
        command_at = at_before commands (command ∷ []) i old.command old.command_at;
        party_at = at_before clients (p ∷ []) i old.party old.party_at;
        setting_at = at_before tracks.settings (setting_of t ∷ []) i (setting_of old.setup) old.setting_at;
        proxy_at = get_or_append_left tracks.streams (Some t.stream ∷ []) None i (omega (arith, lt, before.lists.1)) ∙ old.proxy_at;
        control_at = at_before tracks.commands (t.command ∷ []) i old.setup.command old.control_at;
        new = old.new;
      }

  grown : (i : ℕ) → i < n + 1 → (i ≡ n) ⊎ (i ≡ n → ⊥) → Grown i
  grown i lt (inl eq) = subst Grown (sym eq) last
  grown i lt (inr ne) = earlier i (omega (arith, lt, ne))

  pub one_track_more : AreNewTracks New (n + 1) specs (streams ++ stream ∷ []) (commands ++ command ∷ []) (clients ++ p ∷ []) (with_track t tracks)
  one_track_more = record {
    blocks = (omega (arith, before.blocks.0, length-append streams (stream ∷ [])), omega (arith, before.blocks.1, length-append commands (command ∷ [])));
    parties = omega (arith, before.parties, length-append clients (p ∷ []));
    lists = (
      omega (arith, before.lists.0, length-append tracks.settings (setting_of t ∷ [])),
      omega (arith, before.lists.1, length-append tracks.streams (Some t.stream ∷ [])),
      omega (arith, before.lists.2, length-append tracks.commands (t.command ∷ [])),
    );
    each = λ i lt. grown i lt (cases_eq i n);
  }

-- ## The same tracks in other words

-- each spec and each client stands for another one, of which the same can be said in other words
module _ {S S' P P' : Type 0} (New : ℕ → S → Made → Made → P → TrackSetup → Type 0) (New' : ℕ → S' → Made → Made → P' → TrackSetup → Type 0) (count : ℕ) (specs : List S) (specs' : List S') (streams commands : List Made) (clients : List P) (clients' : List P') (tracks : TrackList)
    (known : AreNewTracks New count specs streams commands clients tracks) (long : length clients' ≡ length clients)
    (retold : (i : ℕ) (spec : S) (stream command : Made) (p : P) (t : TrackSetup) → slice_get specs i ≡ Some spec → slice_get clients i ≡ Some p → New i spec stream command p t
    → (spec' : S') × (p' : P') × (slice_get specs' i ≡ Some spec') × (slice_get clients' i ≡ Some p') × New' i spec' stream command p' t) where
  there : (i : ℕ) → i < count → IsTrackAt New' i specs' streams commands clients' tracks
  there i lt =
      let one = known.each i lt in
      let new = retold i one.spec one.stream one.command one.party one.setup one.spec_at one.party_at one.new in
      record {
        spec = new.0;
        stream = one.stream;
        command = one.command;
        party = new.1;
        setup = one.setup;
        spec_at = new.2;
        stream_at_place = one.stream_at_place;
        command_at = one.command_at;
        party_at = new.3;
        setting_at = one.setting_at;
        proxy_at = one.proxy_at;
        control_at = one.control_at;
        new = new.4;
      }

  pub in_other_words : AreNewTracks New' count specs' streams commands clients' tracks
  in_other_words = record { blocks = known.blocks; parties = long ∙ known.parties; lists = known.lists; each = there }
