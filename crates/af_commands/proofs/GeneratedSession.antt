-- The session of the generated script, with the files that were written for it.
use Rattle.std.proofs.Common.{◌≡◌, ◌≢◌, ◌⊎◌, ℕ, zero, suc, ◌+◌, ◌*◌, ◌/◌, ◌%◌, ◌<◌, ◌≤◌, ◌==◌, nat_le, Bool, true, false, List, [], ◌∷◌, ◌++◌, Some, Result, Ok, Err, length, map, refl, sym, ap, subst, ◌∙◌, inl, inr, arith, String}
use Rattle.af_commands.proofs.Common.{Files, Frame, Global, Job, Judged, Limit, Meets, Memory, Over, Refusal, Refused, SameFiles, Session as Loaded, SetsFiles, Stop, Store, TrackSpec, files_are, generated_job, generated_name, generated_ops, generated_script, generated_track, generated_tracks, is_drawn, loaded_view, most_file, repeated, session_job, session_in, track_file_in, tracks_in, with_files}
use Rattle.std.specs.List.{range_with_len}
use Rattle.std.proofs.lemmas.Bool.{le-leb, eqb-true, eq-eqb}
use Rattle.std.proofs.lemmas.Bool.Decides.{eqb_tells}
use Rattle.af_io.specs.Pcm.{frames_from, frame_width}
use Rattle.af_io.proofs.Fronts.{frames_count}
use Rattle.af_script.specs.declared.op.Op.{Op}
use Rattle.af_script.specs.declared.op.Op.TheVariants as op
use Rattle.af_party.specs.Works.{frames_to_come}
use Rattle.af_offline.specs.Asked.{◌>>=◌}
use Rattle.af_commands.specs.Counted.{CountsOn}
use Rattle.af_commands.specs.Ends.{Makes}
use Rattle.af_offline.specs.Generated.{generated_file, generated_files, generated_frames}
use Rattle.af_offline.proofs.Draws.{file_length}
use Rattle.af_offline.proofs.Generated.{file_there}
use Rattle.af_offline.proofs.Chains.{then_cons}
use Rattle.std.specs.Prelude.{◌^◌}

-- ## What the clients write

writes_then : (count : ℕ) (rest : List Op) → frames_to_come (repeated count (op.Write 500 ∷ []) ++ rest) ≡ 500 * count + frames_to_come rest
unfolding repeated
writes_then zero rest = omega arith
writes_then (suc count) rest = let more = writes_then count rest in omega (arith, more)

asked_frames : frames_to_come generated_ops ≡ 100000
unfolding generated_ops
asked_frames = let all = writes_then 200 (op.Stop ∷ op.Drain ∷ op.Remove ∷ []) in omega (arith, all)

-- ## Each track's file

abbrev frames_of_track : ℕ → ℕ → List Frame
frames_of_track number track = frames_from (track % 2 == 0) (generated_file number track)

-- what a file must be for its track
record IsFit (total : ℕ) (track : TrackSpec) (bytes : List ℕ) : Type 0 where
  short : nat_le (length bytes) most_file ≡ true
  few : nat_le (total + length bytes) (2 ^ 24) ≡ true
  even : (length bytes % frame_width track.mono == 0) ≡ true
  enough : nat_le (frames_to_come track.ops) (length (frames_from track.mono bytes)) ≡ true

track_found : (files : Files) (number total : ℕ) (track : TrackSpec) (bytes : List ℕ) → files track.file ≡ Some bytes → IsFit total track bytes → track_file_in files number total track ≡ Ok (frames_from track.mono bytes, total + length bytes)
track_found files number total track bytes there fit = rw (there, fit.short, fit.few, fit.even, fit.enough) refl

-- the width of a frame divides the length of a track's file, and the file has 100000 frames
whole_frames : (bytes track : ℕ) → bytes ≡ 2 * (100000 * (1 + track % 2)) → ((bytes % frame_width (track % 2 == 0) == 0) ≡ true) × (bytes / frame_width (track % 2 == 0) ≡ 100000)
whole_frames bytes track is = go (track % 2 == 0) refl
  where
    go : (mono : Bool) → (track % 2 == 0) ≡ mono → ((bytes % frame_width mono == 0) ≡ true) × (bytes / frame_width mono ≡ 100000)
    go true test =
        let even : track % 2 ≡ 0 = eqb-true (track % 2) 0 test in
        let long : bytes ≡ 200000 = omega (arith, is, even) in
        (eq-eqb (bytes % 2) 0 (omega (arith, long)), omega (arith, long))
    go false test =
        let odd : track % 2 ≡ 1 = is_odd (eqb_tells (track % 2) 0) test in
        let long : bytes ≡ 400000 = omega (arith, is, odd) in
        (eq-eqb (bytes % 4) 0 (omega (arith, long)), omega (arith, long))
      where
        is_odd : ((track % 2 == 0) ≡ true) × (track % 2 ≡ 0) ⊎ ((track % 2 == 0) ≡ false) × (track % 2 ≢ 0) → (track % 2 == 0) ≡ false → track % 2 ≡ 1
        is_odd (inl even) other = let clash : true ≡ false = sym even.0 ∙ other in cc
        is_odd (inr odd) other = let no = odd.1 in omega (arith, no)

file_fits : (number track : ℕ) → track < 8 → IsFit (2 * (100000 * (track + track / 2))) (generated_track track) (generated_file number track)
unfolding generated_track
file_fits number track few =
    let bytes : List ℕ = generated_file number track in
    let long : length bytes ≡ 2 * (100000 * (1 + track % 2)) = file_length number track in
    let whole = whole_frames (length bytes) track long in
    let frames : length (frames_from (track % 2 == 0) bytes) ≡ 100000 = frames_count (track % 2 == 0) bytes ∙ whole.1 in
    record {
      short = le-leb (length bytes) most_file (omega (arith, long, few));
      few = le-leb (2 * (100000 * (track + track / 2)) + length bytes) (2 ^ 24) (omega (arith, long, few));
      even = whole.0;
      enough = le-leb (frames_to_come generated_ops) (length (frames_from (track % 2 == 0) bytes)) (let asked = asked_frames in omega (arith, asked, frames));
    }

-- a track's file is found
track_there : (files : Files) (number track : ℕ) → files (generated_name track) ≡ Some (generated_file number track) → track < 8
    → track_file_in files track (2 * (100000 * (track + track / 2))) (generated_track track) ≡ Ok (frames_of_track number track, 2 * (100000 * (track + track / 2)) + length (generated_file number track))
unfolding generated_track
track_there files number track there few = track_found files track (2 * (100000 * (track + track / 2))) (generated_track track) (generated_file number track) there (file_fits number track few)

-- the files of some tracks are found, one after another
tracks_found : (files : Files) (number : ℕ) → ((track : ℕ) → track < 8 → files (generated_name track) ≡ Some (generated_file number track)) → (from count : ℕ) → from + count ≤ 8
    → tracks_in files from (2 * (100000 * (from + from / 2))) (map generated_track (range_with_len from count)) ≡ Ok (map (frames_of_track number) (range_with_len from count))
tracks_found files number there from zero le = refl
tracks_found files number there from (suc count) le =
    let rest : List TrackSpec = map generated_track (range_with_len (from + 1) count) in
    let after : ℕ = 2 * (100000 * (from + from / 2)) + length (generated_file number from) in
    let long : length (generated_file number from) ≡ 2 * (100000 * (1 + from % 2)) = file_length number from in
    let next : after ≡ 2 * (100000 * ((from + 1) + (from + 1) / 2)) = omega (arith, long) in
    let here : track_file_in files from (2 * (100000 * (from + from / 2))) (generated_track from) ≡ Ok (frames_of_track number from, after) = track_there files number from (there from (omega (arith, le))) (omega (arith, le)) in
    ap (λ (r : Result (List Frame × ℕ) Refusal). r >>= (λ one. then_cons one.0 (tracks_in files (from + 1) one.1 rest))) here
    ∙ ap (λ (total : ℕ). then_cons (frames_of_track number from) (tracks_in files (from + 1) total rest)) next
    ∙ ap (λ (r : Result (List (List Frame)) Refusal). then_cons (frames_of_track number from) r) (tracks_found files number there (from + 1) count (omega (arith, le)))

-- the session is loaded from the files that were written for it
pub session_there : (old : Files) (number : ℕ) (script : List ℕ) → is_drawn script ≡ false
    → session_in (with_files old (generated_files number script)) generated_script ≡ Ok (record { script = generated_script; files = generated_frames number })
unfolding generated_tracks generated_frames
session_there old number script free =
    let files : Files = with_files old (generated_files number script) in
    ap (λ (r : Result (List (List Frame)) Refusal). r >>= (λ frames. Ok (record { script = generated_script; files = frames })))
    (tracks_found files number (λ track few. file_there old number script track free few) 0 8 (omega arith))

-- ## How the command ends

module _ (old : Files) (number : ℕ) (script target : List ℕ) (free : is_drawn script ≡ false) (mid : Files) (written : SetsFiles old (generated_files number script) mid) where
  abbrev whole : Files
  whole = with_files old (generated_files number script)

  abbrev loaded : Loaded
  loaded = record { script = generated_script; files = generated_frames number }

  told_here : session_in mid generated_script ≡ Ok loaded
  told_here = ap (λ (files : Files). session_in files generated_script) (files_are whole mid written) ∙ session_there old number script free

  -- the files were made, and the work stopped when they were loaded
  pub Makes-unloaded : (e : Stop) (new : Files) → Meets loaded_view (Err e) (session_in mid generated_script) → SameFiles mid new → Makes (Err e) (Ok (generated_job number script target)) old new
  Makes-unloaded (Refused refusal) new told same = let clash : ◌≡◌ {A = Result Loaded Refusal} (Ok loaded) (Err refusal) = sym told_here ∙ told in cc
  Makes-unloaded (Over over) new told same = absurd told
  Makes-unloaded Store new told same = inl (inr (inl (λ name. same name ∙ written name)))
  Makes-unloaded Memory new told same = inl (inr (inl (λ name. same name ∙ written name)))

  -- the session was played after the files were made
  behind : (r : Result (String Global) Stop) (new : Files) → Makes r (Ok (session_job target loaded)) whole new → Makes r (Ok (generated_job number script target)) old new
  behind (Ok line) new made = made
  behind (Err (Refused refusal)) new made = let clash : ◌≡◌ {A = Result Job Refusal} (Ok (session_job target loaded)) (Err refusal) = made.0 in cc
  behind (Err (Over (Limit cycles))) new made = absurd made
  behind (Err (Over (Judged refusal))) new made = absurd made
  behind (Err Store) new (inl (inl same)) = inl (inr (inl same))
  behind (Err Store) new (inl (inr left)) = inl (inr left)
  behind (Err Store) new (inr made) = inr made
  behind (Err Memory) new (inl (inl same)) = inl (inr (inl same))
  behind (Err Memory) new (inl (inr left)) = inl (inr left)
  behind (Err Memory) new (inr made) = inr made

  abbrev got : Result Loaded Refusal → Loaded
  got (Ok l) = l
  got (Err refusal) = loaded

  pub Makes-session : (r : Result (String Global) Stop) (l : Loaded) (read new : Files) → session_in mid generated_script ≡ Ok l → SameFiles mid read → Makes r (Ok (session_job target l)) read new → Makes r (Ok (generated_job number script target)) old new
  Makes-session r l read new told same made =
      let is : l ≡ loaded = ap got (sym told ∙ told_here) in
      let there : read ≡ whole = files_are whole read (λ name. same name ∙ written name) in
      behind r new
      (subst (λ (files : Files). Makes r (Ok (session_job target loaded)) files new) there
      (subst (λ (one : Loaded). Makes r (Ok (session_job target one)) read new) is made))

  -- the steps of what was played are those of what was asked for
  steps_behind : (r : Result (String Global) Stop) (new : Files) (steps : List (ℕ × ℕ)) → CountsOn r (Ok (session_job target loaded)) new steps → CountsOn r (Ok (generated_job number script target)) new steps
  steps_behind (Ok line) new steps counts = counts
  steps_behind (Err (Refused refusal)) new steps counts = tt
  steps_behind (Err (Over (Limit cycles))) new steps counts = counts
  steps_behind (Err (Over (Judged refusal))) new steps counts = tt
  steps_behind (Err Store) new steps counts = tt
  steps_behind (Err Memory) new steps counts = tt

  pub Counts-session : (r : Result (String Global) Stop) (l : Loaded) (new : Files) (steps : List (ℕ × ℕ)) → session_in mid generated_script ≡ Ok l → CountsOn r (Ok (session_job target l)) new steps → CountsOn r (Ok (generated_job number script target)) new steps
  Counts-session r l new steps told counts = steps_behind r new steps (subst (λ (one : Loaded). CountsOn r (Ok (session_job target one)) new steps) (ap got (sym told ∙ told_here)) counts)
