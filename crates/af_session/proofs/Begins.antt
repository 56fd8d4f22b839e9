-- A new session: its parties are new, in order, and belong together.
use Rattle.std.proofs.Common.{◌≡◌, ℕ, ◌*◌, ◌^◌, ◌≤◌, List, [], ◌∷◌, length, map, option_map, slice_get, Option, Some, None, refl, sym, ap, ◌∙◌, subst, arith}
use Rattle.af_session.proofs.Common.{All, All-map, AreClientsOf, AreNewClients, AreNewTracks, AreTogether as AreEndsTogether, ClientState, EngineState, IsClientOf, IsEngineTrack, IsMixerSpec, IsNewEngine, IsNewLine, IsNewTrack as IsNewOne, IsScript, IsTrack, Links, Made, MixerSpec, PartyState, ServerState, SessionState, Shape, TrackEnds, TrackSpec, command_shape, engine_track, get_or_from_slice_get, length-map, made_of, new_normal, none-some, same_Some, script_setup, setting_of, setup_of, slice_get-map, slice_get_within, some_at, spec_setting, stream_shape, tracks_of as tracks_in}
use Rattle.af_engine.specs.declared.spec.EngineTrack.{EngineTrack}
use Rattle.af_engine.specs.NewEnds.{AreNewEnds, ends_of}
use Rattle.af_engine.specs.Shares.{SharedState}
use Rattle.af_engine.proofs.MoreTracks.{in_other_words}
use Rattle.af_life.specs.declared.kept.Setting.{Setting}
use Rattle.af_normal.specs.Making.{IsMade, TrackList}
use Rattle.af_normal.specs.declared.make.TrackSetup.{TrackSetup}
use Rattle.af_script.specs.Data.{ScriptData}
use Rattle.af_session.specs.NewSession.{IsNewSession, IsSpecOf, tracks_of}
use Rattle.af_session.specs.NewTracks.{IsNewTrack}
use Rattle.af_session.specs.Together.{AreTogether}
use Rattle.af_session.proofs.NewWork.{new_party}
use Rattle.af_session.proofs.Sizes.{command_shape_is, stream_shape_is}

-- ## The spec

-- the tracks of a script fit a mixer
tracks_fit : (version : ℕ) (specs : List TrackSpec) → All IsTrack specs → All IsEngineTrack (map (engine_track version) specs)
tracks_fit version specs each = All-map IsEngineTrack (engine_track version) specs (λ k d lt. let one = each k d lt in record { frames = one.buffer; scale = one.scale })

-- what a script asks of a mixer fits
pub spec_fits : (script : ScriptData) (spec : MixerSpec) → IsScript script → IsSpecOf script spec → IsMixerSpec spec
spec_fits script spec ok is =
    let count : length spec.tracks.now ≡ length script.tracks = ap (λ (xs : List EngineTrack). length xs) is.tracks ∙ length-map script.tracks (engine_track script.version) in
    record {
      frames = subst (λ (n : ℕ). (1 ≤ n) × (n ≤ 1024)) (sym is.frames) ok.frames;
      normal = subst (λ (n : ℕ). (1 ≤ n) × (n ≤ 16)) (sym is.normal) ok.normal;
      cycles = subst (λ (n : ℕ). (1 ≤ n) × (n ≤ 100000)) (sym is.cycles) ok.cycles;
      log = subst (λ (y : ℕ × ℕ). y.0 * y.1 ≤ 2 ^ 21) (λ i. (sym is.cycles i, sym is.frames i)) ok.product;
      count = subst (λ (n : ℕ). (1 ≤ n) × (n ≤ 32)) (sym count) ok.track_count;
      tracks = subst (All IsEngineTrack) (sym is.tracks) (tracks_fit script.version script.tracks ok.tracks);
    }

-- the settings of the tracks are those that the script gives
settings_map : (version : ℕ) (specs : List TrackSpec) → map setting_of (map (engine_track version) specs) ≡ map spec_setting specs
settings_map version [] = refl
settings_map version (s ∷ specs) = ap (λ (xs : List Setting). spec_setting s ∷ xs) (settings_map version specs)

-- ## One track

of_map : (version : ℕ) (o : Option TrackSpec) (t : EngineTrack) → option_map (engine_track version) o ≡ Some t → (s : TrackSpec) × (o ≡ Some s) × (t ≡ engine_track version s)
of_map version None t is = absurd (none-some t is)
of_map version (Some s) t is = (s, refl, sym (same_Some (engine_track version s) t is))

new_line_of : (shape : Shape) (block : Made) (c d : ClientState) (s : ServerState) → block.shape ≡ shape → d ≡ c → IsNewLine block.shape block c s → IsNewLine shape block d s
new_line_of shape block c d s shape_is same line = subst (λ (y : Shape × ClientState). IsNewLine y.0 block y.1 s) (λ i. (shape_is i, sym same i)) line

pub new_one : (version place : ℕ) (spec : TrackSpec) (stream command : Made) (e : TrackEnds) (t : TrackSetup) (p : PartyState) → IsTrack spec → IsNewOne place (engine_track version spec) stream command e t → IsClientOf e p
    → IsNewTrack version place spec stream command p t
new_one version place spec stream command e t p track new client =
    let stream_line = new_line_of (stream_shape version spec) stream e.stream p.stream t.stream (stream_shape_is version spec stream.shape new.stream_shape track.buffer.1) client.stream new.stream_line in
    let command_line = new_line_of command_shape command e.command p.command t.command (command_shape_is command.shape new.command_shape) client.command new.command_line in
    record {
      stream_line = stream_line;
      command_line = command_line;
      setting_is = new.setting_is;
      party = new_party version spec p track stream_line.sound client.wants stream_line.client_new command_line.client_new client.calls place (client.place ∙ new.place_is);
    }

-- ## The session

module _ (script : ScriptData) (ok : IsScript script) (spec : MixerSpec) (is : IsSpecOf script spec) (shared : SharedState) (e : EngineState) (new : IsNewEngine spec shared e) (clients : List PartyState) (of : AreNewClients e.tracks clients) where
  abbrev session : SessionState
  session = record { clients = clients; normal = e.normal; fast = e.fast }

  count : length spec.tracks.now ≡ length script.tracks
  count = ap (λ (xs : List EngineTrack). length xs) is.tracks ∙ length-map script.tracks (engine_track script.version)

  settings : map setting_of spec.tracks.now ≡ map spec_setting script.tracks
  settings = ap (map setting_of) is.tracks ∙ settings_map script.version script.tracks

  lists : tracks_in spec e.normal ≡ tracks_of script e.normal
  lists = λ i. record { settings = settings i; streams = e.normal.streams; commands = e.normal.commands }

  setup_is : setup_of spec ≡ script_setup script
  setup_is = λ i. record { frames = is.frames i; normal = is.normal i; settings = settings i }

  retold : (i : ℕ) (t : EngineTrack) (stream command : Made) (d : TrackEnds) (s : TrackSetup) → slice_get spec.tracks.now i ≡ Some t → slice_get e.tracks i ≡ Some d → IsNewOne i t stream command d s
      → (x : TrackSpec) × (p : PartyState) × (slice_get script.tracks i ≡ Some x) × (slice_get clients i ≡ Some p) × IsNewTrack script.version i x stream command p s
  retold i t stream command d s at_t at_d one =
      let x = of_map script.version (slice_get script.tracks i) t (sym (slice_get-map (engine_track script.version) script.tracks i) ∙ ap (λ (xs : List EngineTrack). slice_get xs i) (sym is.tracks) ∙ at_t) in
      let fits : IsTrack x.0 = subst IsTrack (get_or_from_slice_get script.tracks i x.0 x.0 x.1) (ok.tracks i x.0 (slice_get_within script.tracks i x.0 x.1)) in
      let inside = slice_get_within e.tracks i d at_d in
      let many = of.count in
      let p = some_at clients i (omega (arith, inside, many)) in
      (x.0, p.0, x.1, p.1, new_one script.version i x.0 stream command d s p.0 fits (subst (λ (y : EngineTrack). IsNewOne i y stream command d s) x.2 one) (of.each i d p.0 at_d p.1))

  tracks : AreNewTracks script.version (length script.tracks) script.tracks shared.streams shared.commands clients (tracks_of script e.normal)
  tracks = subst (λ (y : ℕ × TrackList). AreNewTracks script.version y.0 script.tracks shared.streams shared.commands clients y.1) (λ i. (count i, lists i))
      (in_other_words IsNewOne (IsNewTrack script.version) (length spec.tracks.now) spec.tracks.now script.tracks shared.streams shared.commands e.tracks clients (tracks_in spec e.normal) new.tracks of.count retold)

  pub new_session : IsNewSession script shared session
  new_session = record {
    tracks = tracks;
    ends = subst (λ (y : ℕ × ℕ). AreNewEnds y.0 y.1 shared (ends_of e.normal e.fast)) (λ i. (is.frames i, is.normal i)) new.ends;
    normal = subst (λ (y : ℕ × ℕ × TrackList). IsMade y.0 y.1 y.2 e.normal.mutator e.normal.reader e.normal.pipe e.normal) (λ i. (is.frames i, is.normal i, lists i)) new.normal;
    setup = new.setup ∙ setup_is;
    kept = new.kept ∙ ap new_normal setup_is;
    fast = new.fast ∙ (λ i. made_of e.fast.observer e.fast.writer e.fast.pipe (is.cycles i) (is.frames i));
  }

  -- each client has the ends of its track, so the parties belong together as the ends do
  own : (i : ℕ) (p : PartyState) → slice_get clients i ≡ Some p → (d : TrackEnds) × (slice_get e.tracks i ≡ Some d) × IsClientOf d p
  own i p at_p =
      let inside = slice_get_within clients i p at_p in
      let many = of.count in
      let d = some_at e.tracks i (omega (arith, inside, many)) in
      (d.0, d.1, of.each i d.0 p d.1 at_p)

  pub all_together : (links : Links) → AreEndsTogether links e → AreTogether links session
  all_together links t = record {
    normal = t.normal;
    fast = t.fast;
    count = of.count ∙ t.count;
    tracks = λ i p at_p. let d = own i p at_p in d.2.place ∙ t.tracks i d.0 d.1;
    clients = λ i p at_p. let d = own i p at_p in subst (λ (y : ClientState × ClientState). AreClientsOf links i y.0 y.1) (λ j. (sym d.2.stream j, sym d.2.command j)) (t.clients i d.0 d.1);
  }
