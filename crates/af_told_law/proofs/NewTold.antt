-- A new session is told by the run before the first round.
use Rattle.std.proofs.Common.{◌≡◌, ℕ, ◌<◌, true, true≢false, is_some, length, map, List, [], slice_get, Some, refl, sym, ap, ◌∙◌, subst, arith}
use Rattle.af_told_law.proofs.Common.{ClientPart, Frame, HandSide, IsNewSession, MixerState, NormalKept, NormalState, PartyState, ScriptData, ServerPart, ServerState, Session, SessionState, Shape, SharedState, TrackKept, TrackSpec, TrackTold, at_new, command_shape, file_at, get_or-replicate, get_or_from_slice_get, hand_events, is_home, length-map-range_with_len, marked_event, new_at, new_block, new_client, new_run, no_slot, no_spec, ops_at, ops_of, pushed_states, same_Some, session_of, sides_of, slice_get_within, slots, spec_of, spec_setting, stream_shape, told_at, track_at, track_count, track_of}
use Rattle.af_runs.specs.Runs.{new_told_track}
use Rattle.af_script.specs.declared.op.Op.{Op}
use Rattle.af_engine.specs.NewTracks.{IsNewServer}
use Rattle.af_session.proofs.Words.{IsTrackAt}
use Rattle.af_told_law.specs.Tells.{Tells, TellsCommands, TellsFast, TellsNormal, TellsServer, TellsShared, TellsStream, TellsTrack, given_of, marked_poll, reports_stored}
use Rattle.af_told_law.proofs.KeptAlike.{same_alike}
use Rattle.af_told_law.specs.Deeds.{DeedTold, Deeds, done_on}

-- a server that has done nothing
server_new : (shape : Shape) (s : ServerState) → IsNewServer shape s → TellsServer (done_on (new_block shape) []) s
server_new shape s new = record { shape = ap (λ (p : ServerPart). p.shape) new.part; events = ap (λ (p : ServerPart). p.events) new.part; taken = ap (λ (p : ServerPart). p.frames) new.part }

-- what a server that has done nothing did is told
did_new : (shape : Shape) → DeedTold (new_block shape) []
did_new shape = record { alike = same_alike shape [] [] refl; own = (λ saw. refl) }

-- the servers before the first round
abbrev pub no_deeds : Deeds
no_deeds = record { streams = λ i. []; commands = λ i. [] }

module _ (script : ScriptData) (files : List (List Frame)) (shared : SharedState) (x : SessionState) (new : IsNewSession script shared x) where
  abbrev here : Session
  here = session_of script files

  all_home : (i : ℕ) → is_home (track_at x.normal.tracks i).holder ≡ true
  all_home i = ap (λ (t : TrackKept). is_home t.holder) (ap (λ (k : NormalKept). track_at k.tracks i) new.kept ∙ at_new (length (map spec_setting script.tracks)) i)

  no_hands : x.normal.hands ≡ []
  no_hands = ap (λ (m : NormalState). m.hands) new.normal.is

  module _ (i : ℕ) (p : PartyState) (is : slice_get x.clients i ≡ Some p) where
    below : i < length script.tracks
    below = let w = slice_get_within x.clients i p is in let n = new.tracks.parties in omega (arith, w, n)

    abbrev at_place : IsTrackAt script.version i script.tracks shared.streams shared.commands x.clients (record { settings = map spec_setting script.tracks; streams = x.normal.streams; commands = x.normal.commands })
    at_place = new.tracks.each i below

    spec_is : at_place.spec ≡ spec_of here i
    spec_is = sym (get_or_from_slice_get script.tracks i at_place.spec no_spec at_place.spec_at)

    ops_are : at_place.spec.ops ≡ ops_at (given_of here) i
    ops_are = sym (ap ops_of at_place.spec_at)

    client_told : sides_of (new_told_track here i) ≡ track_of (ops_at (given_of here) i) (file_at (given_of here) i) p
    client_told =
        let one : at_place.party ≡ p = same_Some at_place.party p (sym at_place.party_at ∙ is) in
        ap (λ (spec : TrackSpec). sides_of (record (new_told_track here i) { client = new_client spec.ops; stream = new_block (stream_shape script.version spec) })) (sym spec_is)
        ∙ sym (at_place.new.party.track (file_at (given_of here) i))
        ∙ ap (λ (y : List Op × PartyState). track_of y.0 (file_at (given_of here) i) y.1) (λ j. (ops_are j, one j))

    stream_told : TellsStream x.normal x.fast i (new_told_track here i).stream []
    stream_told = record {
      home = (λ s found. subst (λ (y : TrackSpec × ServerState). TellsServer (done_on (new_block (stream_shape script.version y.0)) []) y.1) (λ j. (spec_is j, same_Some at_place.setup.stream s (sym at_place.proxy_at ∙ found) j))
          (server_new (stream_shape script.version at_place.spec) at_place.setup.stream at_place.new.stream_line.server_new));
      away = (λ not_home. absurd (true≢false (sym (all_home i) ∙ not_home)));
      hand = ap (λ (hands : List HandSide). hand_events hands i) no_hands;
    }

    commands_told : (c : ServerState) → slice_get x.normal.commands i ≡ Some c → TellsCommands (new_told_track here i).commands [] c
    commands_told c found = subst (TellsCommands (new_block command_shape) []) (same_Some at_place.setup.command c (sym at_place.control_at ∙ found))
        (record { server = server_new command_shape at_place.setup.command at_place.new.command_line.server_new; whole = at_place.new.command_line.server_new.whole; none = refl })

    track_told : TellsTrack here x.normal x.fast no_deeds i (told_at (new_run here) i) p
    track_told = subst (λ (t : TrackTold). TellsTrack here x.normal x.fast no_deeds i t p) (sym (new_at here i below))
        (record { client = client_told; stream = stream_told; commands = commands_told; did = record { stream = did_new (new_told_track here i).stream.shape; commands = did_new command_shape } })

  shared_told : TellsShared here (new_run here) x.normal x.fast
  shared_told = record {
    first = new.ends.mutator.begins.0;
    mutator = ap (map marked_event) new.ends.mutator.silent.2;
    observer = ap (map marked_poll) new.ends.observer.0.silent.1;
    reader = new.ends.reports.0;
    writer = new.ends.reports.1;
    puts = record { told = ap (λ (c : ClientPart). c.events) new.ends.from.0; words = ap (λ (c : ClientPart). c.frames) new.ends.from.0 };
    takes = ap (λ (c : ServerPart). c.events) new.ends.to.0;
    taken = ap (λ (c : ServerPart). c.frames) new.ends.to.0;
    size = ap (λ (c : ServerPart). c.shape.frames) new.ends.to.0 ∙ new.ends.pipe.0;
  }

  normal_told : TellsNormal here (new_run here) x.normal
  normal_told = record {
    setup = new.setup;
    kept = new.kept;
    hands = (λ i lt. ap (λ (hands : List HandSide). is_some (slice_get hands i)) no_hands);
    states = ap pushed_states new.ends.mutator.silent.2;
    number = new.ends.mutator.silent.0;
    last = new.ends.mutator.begins.1;
  }

  fast_told : TellsFast here (new_run here) x.fast
  fast_told = record {
    frames = ap (λ (m : MixerState). m.frames) new.fast;
    cycles = ap (λ (m : MixerState). m.cycles) new.fast;
    current = new.ends.observer.0.silent.0;
    state = new.ends.observer.0.begins;
    entries = ap (λ (m : MixerState). m.log.entries) new.fast;
    logged = ap (λ (m : MixerState). length m.log.frames) new.fast;
    exited = ap (λ (m : MixerState). m.exited) new.fast;
    reports = ap reports_stored new.ends.reports.1;
    fresh = (λ none i low. get_or-replicate slots i no_slot no_slot low);
  }

  pub new_told : Tells here (new_run here) no_deeds x
  new_told = record {
    count = (length-map-range_with_len (new_told_track here) 0 (track_count here), new.tracks.parties);
    tracks = track_told;
    shared = shared_told;
    normal = normal_told;
    fast = fast_told;
  }
