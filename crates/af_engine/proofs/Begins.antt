-- The ends of a new mixer: they are new, in order, and belong together.
use Rattle.std.proofs.Common.{◌≡◌, ℕ, ◌≤◌, true, false, List, length, map, option_map, replicate, Some, sym, ap, ◌∙◌, subst, arith}
use Rattle.af_engine.proofs.Common.{All, AreClientsOf, AreLinksOf, AreNew, AreNewEnds, AreNewTracks, AreTogether, EndStates, EngineTrack, IsEngineTrack, IsInOrder as IsFastInOrder, IsLinked, IsMade, IsNewTrack, IsStreamOf, Links, Made, MixerSpec, MixerState, NormalState, ServerState, SharedState, TrackEnds, TrackList, get_or_from_slice_get, kept_of, length-map, length-replicate, made_of, out_made, same_lists, setting_of as setting_in, setup_of as setup_in, slice_get, slice_get-map, slice_get_within, some_same, stream_at}
use Rattle.std.proofs.lemmas.List.Elements.{All-map}
use Rattle.af_cblk.specs.declared.view.ClientPart.{ClientPart}
use Rattle.af_normal.proofs.Basics.{within}
use Rattle.af_link.specs.Linked.{AreLinked}
use Rattle.af_life.specs.declared.kept.Setting.{Setting}
use Rattle.af_life.specs.Kept.{new_track}
use Rattle.af_normal.specs.Order.{IsInOrder as IsNormalInOrder}
use Rattle.af_engine.specs.MixerSpecs.{setting_of}
use Rattle.af_engine.specs.NewEnds.{ends_of}
use Rattle.af_engine.specs.NewEngine.{IsNewEngine, tracks_of}

-- ## The settings

-- the settings are those of the specs, place by place
pub settings_are : (specs : List EngineTrack) (streams commands : List Made) (clients : List TrackEnds) (tracks : TrackList) → AreNewTracks IsNewTrack (length specs) specs streams commands clients tracks → tracks.settings ≡ map setting_of specs
settings_are specs streams commands clients tracks ts = same_lists tracks.settings (map setting_of specs) (ts.lists.0 ∙ sym (length-map specs setting_of))
    (λ k d lt.
    let one = ts.each k (omega (arith, lt, ts.lists.0)) in
    get_or_from_slice_get tracks.settings k (setting_in one.setup) d one.setting_at ∙ one.new.setting_is
    ∙ sym (get_or_from_slice_get (map setting_of specs) k (setting_of one.spec) d (slice_get-map setting_of specs k ∙ ap (option_map setting_of) one.spec_at)))

-- no scale is above 1
pub scales_fit : (specs : List EngineTrack) (settings : List Setting) → settings ≡ map setting_of specs → All IsEngineTrack specs → All (λ (s : Setting). s.scale ≤ 4096) settings
scales_fit specs settings same each = subst (All (λ (s : Setting). s.scale ≤ 4096)) (sym same) (All-map (λ (s : Setting). s.scale ≤ 4096) setting_of specs (λ k d lt. (each k d lt).scale))

-- ## The proxies

module _ (specs : List EngineTrack) (shared : SharedState) (clients : List TrackEnds) (tracks : TrackList) (ts : AreNewTracks IsNewTrack (length specs) specs shared.streams shared.commands clients tracks) (links : Links) (l : AreLinksOf shared links) where
  -- the stream proxies are of the links' blocks, and have their hands
  streams_of : (i : ℕ) (s : ServerState) → stream_at tracks.streams i ≡ Some s → IsStreamOf links.streams.now i s × (s.pass.has_hand ≡ true)
  streams_of i s here =
      let one = ts.each i (omega (arith, within tracks.streams i s here, ts.lists.1)) in
      let line = one.new.stream_line in
      let is : one.setup.stream ≡ s = some_same one.setup.stream s (sym one.proxy_at ∙ here) in
      let P : ServerState → Type 0 = λ x. IsStreamOf links.streams.now i x × (x.pass.has_hand ≡ true) in
      subst P is (record { made = ap (λ (b : List Made). slice_get b i) l.streams_are ∙ one.stream_at_place ∙ ap (λ (b : Made). Some b) (sym line.server_is.0); in_order = line.server_is.1 }, line.server_new.whole)

  commands_of : (i : ℕ) (s : ServerState) → slice_get tracks.commands i ≡ Some s → IsStreamOf links.commands.now i s
  commands_of i s here =
      let one = ts.each i (omega (arith, slice_get_within tracks.commands i s here, ts.lists.2)) in
      let line = one.new.command_line in
      let is : one.setup.command ≡ s = some_same one.setup.command s (sym one.control_at ∙ here) in
      subst (IsStreamOf links.commands.now i) is (record { made = ap (λ (b : List Made). slice_get b i) l.commands_are ∙ one.command_at ∙ ap (λ (b : Made). Some b) (sym line.server_is.0); in_order = line.server_is.1 })

  -- the client of each track has its place, and the proxies of its two blocks
  clients_of : (i : ℕ) (p : TrackEnds) → slice_get clients i ≡ Some p → (p.track ≡ i) × AreClientsOf links i p.stream p.command
  clients_of i p here =
      let one = ts.each i (omega (arith, slice_get_within clients i p here, ts.parties)) in
      let stream = one.new.stream_line in
      let command = one.new.command_line in
      let is : one.party ≡ p = some_same one.party p (sym one.party_at ∙ here) in
      let P : TrackEnds → Type 0 = λ x. (x.track ≡ i) × AreClientsOf links i x.stream x.command in
      subst P is (
        one.new.place_is,
        record {
          stream_is = ap (λ (b : List Made). slice_get b i) l.streams_are ∙ one.stream_at_place ∙ ap (λ (b : Made). Some b) (sym stream.client_is.0);
          command_is = ap (λ (b : List Made). slice_get b i) l.commands_are ∙ one.command_at ∙ ap (λ (b : Made). Some b) (sym command.client_is.0);
          in_order = (stream.client_is.1, command.client_is.1);
        },
      )

  -- ## The mixers

  module _ (frames normal : ℕ) (e : EndStates) (ends : AreNewEnds frames normal shared e) where
    pub are_new : AreNew links frames normal tracks e.mutator e.reader e.from
    are_new = record {
      names = ends.names;
      mutator_is = ends.mutator;
      linked = record {
        names = (ends.names, ends.mutator.has_key, ends.names_are ∙ sym l.streams_are);
        queue_is = ends.ends.queue_is.0 ∙ sym l.queue_is;
        report_is = ends.ends.report_is.0 ∙ sym l.report_is;
        pipe_is = ends.ends.pipe_is.0 ∙ sym l.pipe_is;
      };
      streams_of = λ i s here. (streams_of i s here).0;
      hands_of = λ i s here. (streams_of i s here).1;
      commands_of = commands_of;
      pipe_is = ap (λ (k : ClientPart). k.shape.frames) ends.from.0 ∙ ends.pipe.0;
    }

    fast_linked : AreLinked links e.observer.past.key e.observer.past.queue e.writer.cell (out_made e.to)
    fast_linked = record {
      names = (ends.names, ends.observer.0.has_key, ends.names_are ∙ sym l.streams_are);
      queue_is = ends.ends.queue_is.1 ∙ sym l.queue_is;
      report_is = ends.ends.report_is.1 ∙ sym l.report_is;
      pipe_is = ends.ends.pipe_is.1 ∙ sym l.pipe_is;
    }

    -- ## All parties

    pub together : (cycles : ℕ) (m : NormalState) (f : MixerState) → IsMade frames normal tracks e.mutator e.reader e.from m → IsNormalInOrder links m → f ≡ made_of e.observer e.writer e.to cycles frames → IsFastInOrder f
        → AreTogether links (record { tracks = clients; normal = m; fast = f })
    together cycles m f made in_order fast fast_order = record {
      normal = in_order;
      fast = (fast_order, subst (IsLinked links) (sym fast) fast_linked);
      count = ts.parties ∙ sym (ap (λ (x : NormalState). length x.tracks) made.is ∙ length-replicate (length tracks.settings) new_track ∙ ts.lists.0);
      tracks = λ i p here. (clients_of i p here).0;
      clients = λ i p here. (clients_of i p here).1;
    }

module _ (spec : MixerSpec) (shared : SharedState) (clients : List TrackEnds) (tracks : TrackList) (e : EndStates) (m : NormalState) (f : MixerState)
    (ts : AreNewTracks IsNewTrack (length spec.tracks.now) spec.tracks.now shared.streams shared.commands clients tracks) (ends : AreNewEnds spec.frames spec.normal shared e)
    (made : IsMade spec.frames spec.normal tracks e.mutator e.reader e.from m) (fast : f ≡ made_of e.observer e.writer e.to spec.cycles spec.frames) where
  settings_same : tracks.settings ≡ map setting_of spec.tracks.now
  settings_same = settings_are spec.tracks.now shared.streams shared.commands clients tracks ts

  tracks_same : tracks ≡ tracks_of spec m
  tracks_same = λ i. record { settings = settings_same i; streams = (sym made.is i).streams; commands = (sym made.is i).commands }

  ends_same : e ≡ ends_of m f
  ends_same = λ i. ends_of (sym made.is i) (sym fast i)

  pub new_engine : IsNewEngine spec shared (record { tracks = clients; normal = m; fast = f })
  new_engine = let new = ends.mutator in record {
    tracks = subst (AreNewTracks IsNewTrack (length spec.tracks.now) spec.tracks.now shared.streams shared.commands clients) tracks_same ts;
    ends = subst (AreNewEnds spec.frames spec.normal shared) ends_same ends;
    normal = subst (λ (x : TrackList × EndStates). IsMade spec.frames spec.normal x.0 x.1.mutator x.1.reader x.1.from m) (λ i. (tracks_same i, ends_same i)) made;
    setup = ap setup_in made.is ∙ (λ i. record { frames = spec.frames; normal = spec.normal; settings = settings_same i });
    kept = ap kept_of made.is ∙ (λ i. record {
      tracks = replicate (length (settings_same i)) new_track;
      draft = new.begins.2 i;
      dirty = new.idle.0 i;
      pushed = new.silent.0 i;
      last = new.begins.1 i;
      ended = false;
    });
    fast = subst (λ (x : EndStates). f ≡ made_of x.observer x.writer x.to spec.cycles spec.frames) ends_same fast;
  }
