-- The files of tracks, one after the other.
use Rattle.std.proofs.Common.{◌≡◌, ℕ, suc, ◌+◌, ◌*◌, ◌/◌, ◌<◌, ◌≤◌, nat_le, Bool, true, false, if◌then◌else◌, List, [], ◌∷◌, ◌++◌, Result, Ok, Err, IsErrAnd, IsErrOf, length, take, drop, get_or, append-nil, refl, sym, ap, subst, ◌∙◌, arith}
use Rattle.af_offline.proofs.Common.{Files, Frame, Op, drop_all, drop_more, frames_to_come, le-leb, leb-false, leb-true, take_all, take_more}
use Rattle.af_io.specs.Pcm.{frame_width}
use Rattle.af_script.specs.declared.op.Op.TheVariants as op
use Rattle.af_script.specs.declared.track.TrackSpec.{TrackSpec}
use Rattle.af_offline.specs.declared.status.Refusal.{Refusal}
use Rattle.af_offline.specs.declared.status.Refusal.TheVariants.{File}
use Rattle.af_offline.specs.declared.status.Role.TheVariants as role
use Rattle.af_offline.specs.declared.status.Why.TheVariants.{Total}
use Rattle.af_offline.specs.Asked.{◌>>=◌, bytes_within, enough_of, frames_in, file_within, most_file, track_file_in, tracks_in}
use Rattle.af_offline.specs.declared.status.Stop.{Stop}
use Rattle.af_offline.specs.declared.status.Stop.TheVariants.{Store, Memory}
use Rattle.af_offline.specs.Loading.{file_view, AreServed, Serves}
use Rattle.af_offline.specs.Status.{HasFault, Meets}
use Rattle.af_offline.proofs.Chains.{Meets-stopped, behind, behind-more, then_cons}
use Rattle.std.specs.Prelude.{◌^◌}

-- ## Frames that are asked for

writes_first : (o : Op) (ops : List Op) → frames_to_come (o ∷ ops) ≡ frames_to_come (o ∷ []) + frames_to_come ops
writes_first (op.Write count) ops = omega arith
writes_first _ ops = omega arith

writes_both : (xs ys : List Op) → frames_to_come (xs ++ ys) ≡ frames_to_come xs + frames_to_come ys
writes_both [] ys = omega arith
writes_both (x ∷ xs) ys =
    let all = writes_first x (xs ++ ys) in
    let front = writes_first x xs in
    let rest = writes_both xs ys in
    omega (arith, all, front, rest)

-- one more op
pub writes_more : (d : Op) (ops : List Op) (i : ℕ) → i < length ops → frames_to_come (take (i + 1) ops) ≡ frames_to_come (take i ops) + frames_to_come (get_or ops i d ∷ [])
writes_more d ops i lt = ap frames_to_come (take_more ops i d lt) ∙ writes_both (take i ops) (get_or ops i d ∷ [])

pub writes_on : (d : Op) (ops : List Op) (i asked count : ℕ) → i < length ops → count ≡ frames_to_come (get_or ops i d ∷ []) → asked ≡ frames_to_come (take i ops) → asked + count ≡ frames_to_come (take (i + 1) ops)
writes_on d ops i asked count lt is so_far = let more = writes_more d ops i lt in omega (arith, more, is, so_far)

-- ## Tracks that have their files

pub AreServed-more : (tracks : List TrackSpec) (files : List (List Frame)) (track : TrackSpec) (file : List Frame) → AreServed tracks files → Serves track.ops file → AreServed (tracks ++ track ∷ []) (files ++ file ∷ [])
AreServed-more [] [] track file all one = (one, tt)
AreServed-more [] (f ∷ files) track file all one = absurd all
AreServed-more (t ∷ tracks) [] track file all one = absurd all
AreServed-more (t ∷ tracks) (f ∷ files) track file all one = (all.0, AreServed-more tracks files track file all.1 one)

-- one more track has its file
pub AreServed-step : (tracks : List TrackSpec) (files more : List (List Frame)) (i : ℕ) (track : TrackSpec) (file : List Frame) → i < length tracks → track ≡ get_or tracks i track → AreServed (take i tracks) files → Serves track.ops file
    → more ≡ files ++ file ∷ [] → AreServed (take (i + 1) tracks) more
AreServed-step tracks files more i track file lt is all one more_is =
    let tracks_are : take (i + 1) tracks ≡ take i tracks ++ track ∷ [] = take_more tracks i track lt ∙ ap (λ (t : TrackSpec). take i tracks ++ t ∷ []) (sym is) in
    subst (λ (x : List TrackSpec × List (List Frame)). AreServed x.0 x.1) (λ k. (sym tracks_are k, sym more_is k)) (AreServed-more (take i tracks) files track file all one)

-- there are as many files as tracks
pub served_count : (tracks : List TrackSpec) (files : List (List Frame)) → AreServed tracks files → length files ≡ length tracks
served_count [] [] all = refl
served_count [] (f ∷ files) all = absurd all
served_count (t ∷ tracks) [] all = absurd all
served_count (t ∷ tracks) (f ∷ files) all = ap suc (served_count tracks files all.1)

-- all tracks have their files, if as many first ones have theirs
pub all_served : (tracks : List TrackSpec) (files : List (List Frame)) (i : ℕ) → length tracks ≤ i → AreServed (take i tracks) files → AreServed tracks files
all_served tracks files i le all = subst (λ (ts : List TrackSpec). AreServed ts files) (take_all i tracks le) all

-- ## What the files are by the definitions

-- one more track's file is loaded
pub tracks_step : (files : Files) (number total more : ℕ) (tracks : List TrackSpec) (track : TrackSpec) (file : List Frame) (before after : List (List Frame)) → number < length tracks → track ≡ get_or tracks number track
    → track_file_in files number total track ≡ Ok (file, more) → after ≡ before ++ file ∷ []
    → behind before (tracks_in files number total (drop number tracks)) ≡ behind after (tracks_in files (number + 1) more (drop (number + 1) tracks))
tracks_step files number total more tracks track file before after lt is told after_is =
    let rest : List TrackSpec = drop (number + 1) tracks in
    let tail : Result (List (List Frame)) Refusal = tracks_in files (number + 1) more rest in
    let first : drop number tracks ≡ track ∷ rest = drop_more tracks number track lt ∙ ap (λ (t : TrackSpec). t ∷ rest) (sym is) in
    ap (λ (ts : List TrackSpec). behind before (tracks_in files number total ts)) first
    ∙ ap (λ (r : Result (List Frame × ℕ) Refusal). behind before (r >>= (λ one. then_cons one.0 (tracks_in files (number + 1) one.1 rest)))) told
    ∙ behind-more before file tail
    ∙ ap (λ (xs : List (List Frame)). behind xs tail) (sym after_is)

-- the count of faults stays if a step has its answer
pub faults_stay : {X : Type 0} (x : X) (before now : ℕ) → HasFault before now (Ok x) → now ≡ before
faults_stay {X} x before now cause = go (nat_le now before) refl
  where
    go : (b : Bool) → nat_le now before ≡ b → now ≡ before
    go true is = let le : now ≤ before = leb-true now before is in let later = cause.later in omega (arith, le, later)
    go false is = let clash : ◌≡◌ {A = Result X Stop} (Ok x) (Err Store) = cause.only (leb-false now before is) in cc

-- a stop is passed on, behind steps in which no fault came
pub fault_passed : {X Y : Type 0} (e : Stop) (first before now : ℕ) → before ≡ first → HasFault {X = X} before now (Err e) → HasFault {X = Y} first now (Err e)
fault_passed {X} {Y} e first before now same cause =
    let other : IsErrOf {T = X} {E = Stop} (Err e) Store → IsErrOf {T = Y} {E = Stop} (Err e) Store = λ h. (let is : e ≡ Store = cc in ap (λ (s : Stop). Err s) is) in
    let back : IsErrOf {T = Y} {E = Stop} (Err e) Store → IsErrOf {T = X} {E = Stop} (Err e) Store = λ h. (let is : e ≡ Store = cc in ap (λ (s : Stop). Err s) is) in
    let here : HasFault {X = Y} before now (Err e) = record { later = cause.later; fault = (λ h. cause.fault (back h)); only = (λ lt. other (cause.only lt)) } in
    subst (λ (n : ℕ). HasFault {X = Y} n now (Err e)) same here

ok_no_store : {X : Type 0} (x : X) → IsErrOf {T = X} {E = Stop} (Ok x) Store → ⊥
ok_no_store {X} x h = let e : ⊥ = cc in e

memory_no_store : {X : Type 0} → IsErrOf {T = X} {E = Stop} (Err Memory) Store → ⊥
memory_no_store {X} h = let e : ⊥ = cc in e

-- a step in which no fault came
pub faultless_ok : {X : Type 0} (x : X) (before now : ℕ) → now ≡ before → HasFault before now (Ok x)
faultless_ok {X} x before now same = record { later = omega (arith, same); fault = (λ h. absurd (ok_no_store x h)); only = (λ lt. absurd (omega (arith, lt, same))) }

pub faultless_memory : {X : Type 0} (r : Result X Stop) (before now : ℕ) → now ≡ before → IsErrAnd r (λ s. s ≡ Memory) → HasFault before now r
faultless_memory (Ok x) before now same is = absurd is
faultless_memory {X} (Err s) before now same is =
    let here : HasFault {X = X} before now (Err Memory) = record { later = omega (arith, same); fault = (λ h. absurd (memory_no_store {X = X} h)); only = (λ lt. absurd (omega (arith, lt, same))) } in
    subst (λ (stop : Stop). HasFault {X = X} before now (Err stop)) (sym is) here

-- the files stopped at a track
pub tracks_stopped : {W : Type 0} (other : W → List (List Frame)) (files : Files) (number total : ℕ) (tracks : List TrackSpec) (track : TrackSpec) (before : List (List Frame)) (e : Stop) → number < length tracks → track ≡ get_or tracks number track
    → Meets file_view (Err e) (track_file_in files number total track) → Meets other (Err e) (behind before (tracks_in files number total (drop number tracks)))
tracks_stopped other files number total tracks track before e lt is told =
    let rest : List TrackSpec = drop (number + 1) tracks in
    let first : drop number tracks ≡ track ∷ rest = drop_more tracks number track lt ∙ ap (λ (t : TrackSpec). t ∷ rest) (sym is) in
    let here : Meets other (Err e) (tracks_in files number total (track ∷ rest)) = Meets-stopped file_view other e (track_file_in files number total track) (λ one. then_cons one.0 (tracks_in files (number + 1) one.1 rest)) told in
    subst (λ (ts : List TrackSpec). Meets other (Err e) (behind before (tracks_in files number total ts))) (sym first) (Meets-stopped other other e (tracks_in files number total (track ∷ rest)) (λ ys. Ok (before ++ ys)) here)

-- all files are loaded
pub tracks_done : (files : Files) (number total : ℕ) (tracks : List TrackSpec) (before : List (List Frame)) → length tracks ≤ number → tracks_in files 0 0 tracks ≡ behind before (tracks_in files number total (drop number tracks)) → tracks_in files 0 0 tracks ≡ Ok before
tracks_done files number total tracks before le told =
    told ∙ ap (λ (ts : List TrackSpec). behind before (tracks_in files number total ts)) (drop_all number tracks le) ∙ ap Ok (append-nil before)

-- ## What one file is by the definitions

-- what follows the bytes of a track's file
abbrev framed : ℕ → ℕ → TrackSpec → List ℕ → Result (List Frame × ℕ) Refusal
framed number total track bytes = frames_in number track.mono bytes >>= enough_of number (frames_to_come track.ops) >>= (λ frames. Ok (frames, total + length bytes))

module _ (files : Files) (number total : ℕ) (track : TrackSpec) where
  -- a track's file wasn't loaded
  pub track_unloaded : {X : Type 0} (view : X → List ℕ) (e : Stop) → Meets view (Err e) (file_within (role.Track number) most_file (files track.file)) → Meets file_view (Err e) (track_file_in files number total track)
  track_unloaded view e told =
      Meets-stopped view file_view e (file_within (role.Track number) most_file (files track.file) >>= bytes_within number total) (framed number total track)
      (Meets-stopped view view e (file_within (role.Track number) most_file (files track.file)) (bytes_within number total) told)

  module _ (bytes : List ℕ) (is : file_within (role.Track number) most_file (files track.file) ≡ Ok bytes) where
    abbrev by_test : Bool → Result (List Frame × ℕ) Refusal
    by_test few = (if few then Ok bytes else Err (File (record { role = role.Track number; why = Total (total + length bytes) }))) >>= framed number total track

    here : track_file_in files number total track ≡ by_test (nat_le (total + length bytes) (2 ^ 24))
    here = ap (λ (r : Result (List ℕ) Refusal). r >>= bytes_within number total >>= framed number total track) is

    -- the files are too many bytes
    pub track_total : 2 ^ 24 < total + length bytes → track_file_in files number total track ≡ Err (File (record { role = role.Track number; why = Total (total + length bytes) }))
    track_total lt = here ∙ ap by_test (lt-leb (2 ^ 24) (total + length bytes) lt)
      where
        lt-leb : (a b : ℕ) → a < b → nat_le b a ≡ false
        lt-leb a b lt = go (nat_le b a) refl
          where
            go : (v : Bool) → nat_le b a ≡ v → nat_le b a ≡ false
            go true le = let none : b ≤ a = leb-true b a le in absurd (omega (arith, none, lt))
            go false le = le

    module _ (few : total + length bytes ≤ 2 ^ 24) where
      kept : track_file_in files number total track ≡ framed number total track bytes
      kept = here ∙ ap by_test (le-leb (total + length bytes) (2 ^ 24) few)

      -- the bytes of a track's file gave no frames
      pub track_unframed : (e : Stop) → Meets {X = List Frame} (λ pcm. pcm) (Err e) (frames_in number track.mono bytes) → Meets file_view (Err e) (track_file_in files number total track)
      track_unframed e told =
          subst (λ (r : Result (List Frame × ℕ) Refusal). Meets file_view (Err e) r) (sym kept)
          (Meets-stopped {X = List Frame} (λ (pcm : List Frame). pcm) file_view e (frames_in number track.mono bytes >>= enough_of number (frames_to_come track.ops)) (λ frames. Ok (frames, total + length bytes))
          (Meets-stopped {X = List Frame} (λ (pcm : List Frame). pcm) (λ (pcm : List Frame). pcm) e (frames_in number track.mono bytes) (enough_of number (frames_to_come track.ops)) told))

      module _ (frames : List Frame) (framed_is : frames_in number track.mono bytes ≡ Ok frames) where
        in_frames : track_file_in files number total track ≡ (enough_of number (frames_to_come track.ops) frames >>= (λ all. Ok (all, total + length bytes)))
        in_frames = kept ∙ ap (λ (r : Result (List Frame) Refusal). r >>= enough_of number (frames_to_come track.ops) >>= (λ all. Ok (all, total + length bytes))) framed_is

        -- the frames of a track's file are too few
        pub track_short : (e : Stop) → Meets {X = List Frame} (λ pcm. pcm) (Err e) (enough_of number (frames_to_come track.ops) frames) → Meets file_view (Err e) (track_file_in files number total track)
        track_short e told =
            subst (λ (r : Result (List Frame × ℕ) Refusal). Meets file_view (Err e) r) (sym in_frames)
            (Meets-stopped {X = List Frame} (λ (pcm : List Frame). pcm) file_view e (enough_of number (frames_to_come track.ops) frames) (λ all. Ok (all, total + length bytes)) told)

        -- the frames of a track's file are enough
        pub track_done : (all : List Frame) → enough_of number (frames_to_come track.ops) frames ≡ Ok all → track_file_in files number total track ≡ Ok (all, total + length bytes)
        track_done all is_all = in_frames ∙ ap (λ (r : Result (List Frame) Refusal). r >>= (λ some. Ok (some, total + length bytes))) is_all

-- ## Few frames

-- whole frames have as many bytes as there are
pub frames_bytes : (mono : Bool) (bytes : List ℕ) (n : ℕ) → n ≡ length bytes / frame_width mono → n * frame_width mono ≤ length bytes
frames_bytes true bytes n is = omega (arith, is)
frames_bytes false bytes n is = omega (arith, is)
