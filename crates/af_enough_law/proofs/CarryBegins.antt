-- What is carried of the session and of each track holds before the first round, but for what the mixers learn at a meeting.
use Rattle.std.proofs.Common.{◌≡◌, ℕ, ◌+◌, ◌<◌, true, true≢false, List, [], ◌∷◌, length, refl, sym, ap, ◌∙◌, subst, arith}
use Rattle.af_enough_law.proofs.Common.{Frame, IsScript, ScriptData, Session, TrackKept, all_play_through, at_new, begun, cycle_frames, initial_none, length-map, length-replicate, new_at, new_long, new_run, new_track, server_list, session_of, setup_of, sides_of, sound_new, spec_of, spec_setting, status_word, told_at, track_at, track_count}
use Rattle.af_enough_law.proofs.Basics.{none_exit}
use Rattle.af_script.specs.declared.op.Op.TheVariants as op
use Rattle.af_runs.specs.declared.want.ClientCommand.TheVariants as command
use Rattle.af_runs.specs.declared.want.Mode.TheVariants as mode
use Rattle.af_runs.specs.declared.want.Want.TheVariants as want
use Rattle.af_runs.specs.Runs as runs
use Rattle.af_enough_law.proofs.Carried.{SessionStands}
use Rattle.af_enough_law.proofs.Courses.{absent, Follows}
use Rattle.af_enough_law.specs.Seen.{last_status, frames_taken}
use Rattle.af_enough_law.proofs.Argued.{AreArgued}
use Rattle.af_enough_law.proofs.CalmRuns.{begins_calm}
use Rattle.af_enough_law.proofs.CourseGoes.{OnCourse}
use Rattle.af_enough_law.proofs.Doing.{ops_count, frames_count}
use Rattle.af_enough_law.proofs.FastLearns.{new_counts}
use Rattle.af_enough_law.proofs.FastLoads.{new_reports}
use Rattle.af_enough_law.proofs.Items.{items_new}
use Rattle.af_enough_law.proofs.LastStates.{new_last}
use Rattle.af_enough_law.proofs.QueueRounds.{new_stands}
use Rattle.af_enough_law.proofs.RunBegins.{Plays, track_plays, first_doing}
use Rattle.af_enough_law.proofs.Playing.{position, way_ops, way_frames}
use Rattle.af_enough_law.proofs.TrackCarried.{TrackCarried}
use Rattle.af_enough_law.proofs.Turning.{on}

-- a session has as many settings as tracks
pub settings_long : (s : Session) → length (setup_of s).settings ≡ track_count s
settings_long s = length-map s.script.tracks spec_setting

-- the session before the first round
pub begins_session : (s : Session) → SessionStands s (new_run s)
begins_session s = record {
  runs = refl;
  going = refl;
  tracks = new_long s;
  kept = length-replicate (length (setup_of s).settings) new_track ∙ settings_long s;
  order = record { sound = sound_new (setup_of s); owned = λ slot low carried. absurd (true≢false (sym carried ∙ initial_none (cycle_frames s) slot)); latest = λ e. refl };
  items = items_new (setup_of s);
  queue = new_stands s;
  last = new_last s;
  counts = new_counts s;
  stored = new_reports s;
  logged = refl;
  adopted = omega arith;
  draft_goes = refl;
  last_goes = refl;
  exits = λ k x is. absurd (none_exit k x is);
}

-- the course of a track before the first round
begins_course : (s : Session) (i : ℕ) → i < track_count s → OnCourse (new_run s) i
unfolding status_word
begins_course s i lt =
    let here : told_at (new_run s) i ≡ runs.new_told_track s i = new_at s i lt in
    let kept : track_at (new_run s).normal.tracks i ≡ new_track = at_new (length (setup_of s).settings) i in
    record {
      count = 0;
      told = 0;
      sent = 0;
      within = omega arith;
      few = omega arith;
      released = ap (λ (t : runs.TrackTold). t.commands.released) here;
      taken = ap (λ (t : runs.TrackTold). t.commands.taken) here;
      follows = subst (Follows 0 0) (sym kept) (record { course = absent; settled = refl; awaits = refl; status = refl });
      status = ap (λ (t : runs.TrackTold). last_status (server_list t.commands)) here ∙ sym (ap (λ (x : TrackKept). x.status) kept);
      argued = subst (λ (t : runs.TrackTold). AreArgued (sides_of t)) (sym here) (record { sent = []; words = refl; argued = refl });
    }

-- what its client has to do, in ops and in frames, with the position from which it writes
pub record Begun (s : Session) (i : ℕ) : Type 0 where
  pub most : ℕ
  pub total : ℕ
  pub carried : TrackCarried (new_run s) i most total
  -- the ops after its OPEN and START, and their frames past its base
  pub plays : Plays (spec_of s i).ops
  pub most_is : most ≡ way_ops plays.rest
  pub total_is : total ≡ (spec_of s i).base + way_frames plays.rest

-- Each track of an accepted script whose tracks play through
pub begins_track : (script : ScriptData) (files : List (List Frame)) (i : ℕ) → IsScript script → all_play_through script ≡ true → i < length script.tracks → Begun (session_of script files) i
unfolding first_doing
begins_track script files i is through lt =
    let s = session_of script files in
    let here : told_at (new_run s) i ≡ runs.new_told_track s i = new_at s i lt in
    let p = track_plays script files i is through lt in
    let first = first_doing (spec_of s i).ops p in
    let due = want.Send command.Open ∷ [] in
    let ops = op.Start ∷ first.0 in
    let most : ℕ = ops_count due ops in
    let total : ℕ = frames_count due ops + position (sides_of (told_at (new_run s) i)).stream in
    record {
      most = most;
      total = total;
      plays = p;
      most_is = omega arith;
      total_is = (let at : position (sides_of (told_at (new_run s) i)).stream ≡ (spec_of s i).base = ap (λ (t : runs.TrackTold). position (sides_of t).stream) here in omega (arith, at));
      carried = record {
        known_stream = [];
        known_commands = [];
        all_known = ap (λ (t : runs.TrackTold). frames_taken (server_list t.stream)) (sym here);
        calm = begins_calm script files i is through lt;
        stands = on due ops mode.Idle (ap (λ (t : runs.TrackTold). begun t.client) here ∙ first.1)
            (record { doing = first.2; few = omega arith; sum = refl; sent = []; words = ap (λ (t : runs.TrackTold). t.commands.released) here; codes = refl });
        on = begins_course s i lt;
      };
    }
