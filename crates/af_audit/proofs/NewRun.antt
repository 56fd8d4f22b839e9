-- What is kept before the first round is kept of the run before it.
use Rattle.std.proofs.Common.{◌≡◌, ℕ, ◌<◌, Bool, List, [], length, arith, refl, sym, ap, subst, ◌∙◌}
use Rattle.af_audit.proofs.Common.{BesideQueue, BlockJudged, FastKept, FastOf, IsBlockOf, IsJudged, IsScript, IsServedBlock, IsServedTrack, IsTrackOf, KeepsTracks, QueueGoes, ReportKept, RoundSeen, Session, Shape, TrackJudge, TrackTold, beside_first, block_begins, command_shape, fast_new, kept_new, length-map-range_with_len, marks_of, new_at, new_block, new_judged, new_run, new_told_track, pipe_cells, pipe_size, queue_first, setup_of, sides_of, spec_of, stream_shape, track_count}
use Rattle.af_model.specs.ClientCalls as list
use Rattle.af_audit.specs.declared.run_judge.RunJudge.{RunJudge}
use Rattle.af_audit.specs.RunKept.{AreFit, AreNewTracks, IsFit, IsNewJudge, IsNewTrack, KeepsRun}
use Rattle.af_audit.proofs.PipeCells.{few_frames}
use Rattle.af_audit.proofs.TrackThere.{track_there}

-- a block on which nothing was done
served_new : (shape : Shape) (lawful : Bool) → IsServedBlock (new_judged shape lawful) (new_block shape)
served_new shape lawful = record { shape = refl; server = refl; hand = refl; taken = refl; whole = refl; follow = tt }

-- a new track is kept of the run's
new_served : (s : Session) (rounds : List RoundSeen) (i : ℕ) (t : TrackJudge) → IsNewTrack s.script rounds i t → IsServedTrack (marks_of rounds) i t (new_told_track s i)
new_served s rounds i t new = record {
  stream = subst (λ (j : BlockJudged). IsServedBlock j (new_told_track s i).stream) (sym new.stream) (served_new (stream_shape s.script.version (spec_of s i)) ((marks_of rounds).streams i));
  commands = subst (λ (j : BlockJudged). IsServedBlock j (new_told_track s i).commands) (sym new.commands) (served_new command_shape ((marks_of rounds).commands i));
  lawful_stream = sym (ap (λ (j : BlockJudged). j.lawful) new.stream);
  lawful_commands = sym (ap (λ (j : BlockJudged). j.lawful) new.commands);
  wrap_stream = new.wrap;
  wrap_commands = omega arith;
}

new_whole : (s : Session) (rounds : List RoundSeen) (i : ℕ) (t : TrackJudge) → IsNewTrack s.script rounds i t → IsTrackOf (spec_of s i).ops t (new_told_track s i)
new_whole s rounds i t new = record {
  client = (new.client (new_told_track s i).file).client;
  stream = subst (λ (j : BlockJudged). IsBlockOf j (new_told_track s i).stream) (sym new.stream) (block_begins (stream_shape s.script.version (spec_of s i)) ((marks_of rounds).streams i));
  commands = subst (λ (j : BlockJudged). IsBlockOf j (new_told_track s i).commands) (sym new.commands) (block_begins command_shape ((marks_of rounds).commands i));
}

pub new_keeps : (s : Session) (rounds : List RoundSeen) (tracks : List TrackJudge) → length tracks ≡ track_count s → AreNewTracks s.script rounds (track_count s) tracks → KeepsTracks s (marks_of rounds) (λ i. Unit {0}) tracks (new_run s)
new_keeps s rounds tracks many new = record {
  many = many ∙ sym (length-map-range_with_len (new_told_track s) 0 (track_count s));
  all = many;
  served = λ i t at. let lt : i < track_count s = (let a = at.0 in omega (arith, a, many)) in subst (IsServedTrack (marks_of rounds) i t) (sym (new_at s i lt)) (new_served s rounds i t (new i t lt at));
  whole = λ i t at yes. let lt : i < track_count s = (let a = at.0 in omega (arith, a, many)) in subst (IsTrackOf (spec_of s i).ops t) (sym (new_at s i lt)) (new_whole s rounds i t (new i t lt at));
}

-- each new track is fit
pub new_fit : (s : Session) (rounds : List RoundSeen) (tracks : List TrackJudge) → length tracks ≡ track_count s → AreNewTracks s.script rounds (track_count s) tracks → AreFit s (new_run s)
new_fit s rounds tracks many new = λ i lt.
    let a = track_there tracks i (let x : i < length tracks = omega (arith, lt, many) in x) in
    subst (λ (t : TrackTold). IsFit s i (sides_of t)) (sym (new_at s i lt)) (let h = new i a.0 lt a.1 in record { file = refl; spelled = record { stream = list.begins; commands = list.begins }; stream = h.few; commands = omega arith })

-- what is kept before the first round is kept of the run before it
pub new_kept : (s : Session) (rounds : List RoundSeen) (j : RunJudge) (tracks : List TrackJudge) → IsScript s.script → IsJudged j.normal → IsNewJudge s.script j → length tracks ≡ track_count s → AreNewTracks s.script rounds (track_count s) tracks → KeepsRun s (marks_of rounds) j tracks (new_run s)
new_kept s rounds j tracks script judged new many are = record {
  of_tracks = new_keeps s rounds tracks many are;
  fit = new_fit s rounds tracks many are;
  normal = record { judged = judged; setup = new.setup; kept = new.kept; states = new.states; handed = new.handed };
  states = kept_new s;
  earlier = [];
  fast = subst (FastOf s [] (new_run s)) (sym new.fast) (fast_new s (pipe_size (setup_of s)) (pipe_cells (setup_of s)));
  draft = ap (λ (f : FastKept). f.told.draft) new.fast;
  used = tt;
  queue = subst (λ (f : FastKept). QueueGoes s (new_run s) f.queue) (sym new.fast) (queue_first s);
  beside = subst (λ (x : FastKept × ReportKept). BesideQueue s (new_run s) x.1 x.0.pipe) (λ i. (sym new.fast i, sym new.report i)) (beside_first s (few_frames s.script s.script.normal s.script.frames refl refl script));
  unloaded = ap (λ (r : ReportKept). r.loaded) new.report;
  cycles = new.cycles;
}
