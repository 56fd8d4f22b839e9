-- By the end of a legal run each frame that the client of a track without a poke released has one fate.
use Rattle.std.proofs.Common.{◌≡◌, ℕ, ◌+◌, ◌<◌, ◌==◌, nat_lt, Bool, true, false, if◌then◌else◌, List, [], ◌∷◌, ◌++◌, length, refl, sym, ap, ◌∙◌, subst, arith}
use Rattle.af_audit.proofs.Common.{BlockTold, Frame, HasBlockHistory, IsLegalRun, JournalData, RoundSeen, Run, ScriptData, Session, Shape, TrackTold, all_ended, both_first, calls_in, fast_ended, file_words, get_or-map-range_with_len, is_home, is_lawful_block, is_poke_on, length-map-range_with_len, list_any, marks_of, nat_tests, new_block, new_run, new_told_track, no_track, normal_party, not_true, point, run_of, session_of, setup_of, spec_of, stream_shape, told_at, track_at, track_count}
use Rattle.af_model.specs.Spans.{Span, mixed_by, spans_of, queued}
use Rattle.af_model.proofs.Discards.{discards-before}
use Rattle.af_model.proofs.OneFate.{one_fate, taken-mixed, mixed_in}
use Rattle.af_audit.specs.Fates.{EachFrameHasOneFate, HasFates, recorded}
use Rattle.af_audit.proofs.FileReleased.{Begins, begins_by_length, begins_none}
use Rattle.af_audit.proofs.MixerEnds.{all_home, new_ends}
use Rattle.af_audit.proofs.RunStands.{RunStands, rounds_stand}
use Rattle.af_audit.proofs.TakenRecorded.{taken_recorded}
use Rattle.af_audit.proofs.TrackStands.{TrackStands}
use Rattle.af_audit.proofs.OneVerdict.{each_ended}

-- ## Before the first round

-- a block on which nothing was done has a history
pub new_history : (k : Shape) → HasBlockHistory (new_block k)
new_history k = record { order = []; legal = tt; client_is = refl; server_is = refl; hand_is = refl; released_is = omega arith; taken_is = refl }

module _ (s : Session) (track : ℕ) (low : track < track_count s) where
  pub new_there : track < length (new_run s).tracks
  new_there = let m = length-map-range_with_len (new_told_track s) 0 (track_count s) in omega (arith, m, low)

  pub told_new : told_at (new_run s) track ≡ new_told_track s track
  told_new = get_or-map-range_with_len (new_told_track s) 0 (track_count s) track track no_track low (omega arith)

  pub new_stands : RunStands s track (new_run s)
  new_stands = record {
    stands = record {
      there = new_there;
      track = subst (TrackStands (file_words s track)) (sym told_new) (record { file_is = refl; client = record { begins = begins_none (file_words s track); tame = refl }; drops = tt });
    };
    mixer = new_ends (setup_of s);
    history = λ home tame. subst (λ (t : TrackTold). HasBlockHistory t.stream) (sym told_new) (new_history (stream_shape s.script.version (spec_of s track)));
  }

-- ## At the end

-- if all parties have ended, the normal mixer has
pub normal_ended : (s : Session) (run : Run) → all_ended s run ≡ true → run.normal.ended ≡ true
normal_ended s run all =
    let at = each_ended s run (normal_party s) all (omega arith) in
    let below : nat_lt (normal_party s) (normal_party s) ≡ false = grind (arith, nat_tests) in
    let same : (normal_party s == normal_party s) ≡ true = grind (arith, nat_tests) in
    sym (ap (λ (b : Bool × Bool). if b.0 then (told_at run (normal_party s)).client.ended else if b.1 then run.normal.ended else fast_ended run) (λ i. (below i, same i))) ∙ at

-- ## The fates of a block

-- what waits adds nothing to the frames mixed
mixed_waiting : (released : List ℕ) (base : ℕ) (spans : List Span) (b : BlockTold) (h : HasBlockHistory b) → mixed_by released base (spans ++ (record { fate = queued; from = (point h).consumed; to = (point h).released }) ∷ []) ≡ mixed_by released base spans
mixed_waiting released base [] b h = refl
mixed_waiting released base (x ∷ spans) b h = ap (λ l. mixed_in released base x ++ l) (mixed_waiting released base spans b h)

pub fates_told : (file words : List ℕ) (t : TrackTold) → TrackStands file t → HasBlockHistory t.stream → t.stream.taken ≡ words → HasFates file words t.stream
fates_told file words t stands h is = record {
  history = h;
  from_file = begins_by_length file t.stream.released (subst (λ (f : List ℕ). Begins f t.stream.released) stands.file_is stands.client.begins);
  one_fate = λ frame low. one_fate h (t.stream.shape.base + frame) (omega arith) (let r = h.released_is in omega (arith, r, low));
  mixed = taken-mixed h ∙ sym (mixed_waiting t.stream.released t.stream.shape.base (spans_of t.stream.shape h.order) t.stream h);
  in_place = is;
  noticed = stands.drops;
  no_more = λ placed. discards-before t.stream.shape placed h.order h.legal;
}

-- the frames of a track whose stream block has no poke in the journal
pub track_has_fates : (script : ScriptData) (files : List (List Frame)) (j : JournalData) → IsLegalRun script files j → (let s = session_of script files in
    (track : ℕ) → track < track_count s → is_lawful_block false j.rounds track ≡ true → HasFates (file_words s track) (recorded s (new_run s) j.rounds track) (told_at (run_of script files j) track).stream)
track_has_fates script files j legal track low lawful =
    let s = session_of script files in
    let run = run_of script files j in
    let calm = not_true (list_any (λ (round : RoundSeen). list_any (is_poke_on false) (calls_in round track)) j.rounds) lawful in
    let stands = rounds_stand false s (marks_of j.rounds) j.tracks track j.rounds (new_run s) low legal.rounds.form.rounds legal.rounds.rounds calm (new_stands s track low) in
    let home : is_home (track_at run.normal.tracks track).holder ≡ true = all_home run.normal stands.mixer (normal_ended s run legal.ends) track in
    let history = stands.history home stands.stands.track.client.tame in
    let taken = taken_recorded s (new_run s) j.rounds track (new_there s track low) ∙ ap (λ (t : TrackTold). t.stream.taken ++ recorded s (new_run s) j.rounds track) (told_new s track low) in
    fates_told (file_words s track) (recorded s (new_run s) j.rounds track) (told_at run track) stands.stands.track history taken

-- each frame has one fate by the end of a legal run
pub frames-have-fates : (script : ScriptData) (files : List (List Frame)) (j : JournalData) → IsLegalRun script files j → EachFrameHasOneFate script files j
frames-have-fates script files j legal track low lawful = track_has_fates script files j legal track low (both_first (is_lawful_block false j.rounds track) (is_lawful_block true j.rounds track) lawful)
