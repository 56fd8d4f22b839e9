-- The generated script keeps the ranges, limits and forms of a script.
use Rattle.std.proofs.Common.{◌≡◌, ℕ, zero, suc, ◌+◌, ◌*◌, ◌<◌, ◌≤◌, true, List, [], ◌∷◌, ◌++◌, length, map, All, refl, sym, ap, ◌∙◌, subst, arith, append_assoc, append-nil, add-one, length-append}
use Rattle.af_script.proofs.Common.{All-append, All-cons, All-nil, range_with_len}
use Rattle.std.proofs.lemmas.List.FromFn.{map-range_with_len_more}
use Rattle.af_script.specs.Bounds.{most_gain}
use Rattle.af_script.specs.Text.{is_name}
use Rattle.af_script.specs.Ops.{are_whole, end_with_remove, fast_cycles, asked_cycles}
use Rattle.af_script.specs.Form.{HasOpNumbers, IsTrack, IsTurn, IsScript}
use Rattle.af_script.specs.Generated.{repeated, generated_ops, generated_name, generated_track, generated_round, generated_tracks, generated_turns, generated_script}
use Rattle.af_script.specs.declared.op.Op.{Op}
use Rattle.af_script.specs.declared.op.Op.TheVariants.{OpenTrack, Start, Stop, Drain, Remove, Gain, Write}
use Rattle.af_script.specs.declared.op.TurnSpec.{TurnSpec}
use Rattle.af_script.specs.declared.op.TurnSpec.TheVariants.{Client, Normal, Fast}
use Rattle.af_script.specs.declared.track.TrackSpec.{TrackSpec}

-- ## Repeated items

repeated-more : {X : Type 0} (n : ℕ) (xs : List X) → repeated (suc n) xs ≡ repeated n xs ++ xs
unfolding repeated
repeated-more zero xs = append-nil xs
repeated-more (suc n) xs = ap (λ ys. xs ++ ys) (repeated-more n xs) ∙ sym (append_assoc xs (repeated n xs) xs)

pub repeated_next : {X : Type 0} (n : ℕ) (xs : List X) → repeated (n + 1) xs ≡ repeated n xs ++ xs
repeated_next n xs = ap (λ k. repeated k xs) (add-one n) ∙ repeated-more n xs

pub mapped_next : {X : Type 0} (f : ℕ → X) (n : ℕ) → map f (range_with_len 0 (n + 1)) ≡ map f (range_with_len 0 n) ++ f n ∷ []
mapped_next f n = map-range_with_len_more f 0 n n (omega arith)

repeated-length : {X : Type 0} (n : ℕ) (xs : List X) → length (repeated n xs) ≡ n * length xs
unfolding repeated
repeated-length zero xs = omega arith
repeated-length (suc n) xs =
    let e : length (repeated n xs) ≡ n * length xs = repeated-length n xs in
    let f : length (xs ++ repeated n xs) ≡ length xs + length (repeated n xs) = length-append xs (repeated n xs) in
    grind (arith, e, f)

repeated-All : {X : Type 0} (P : X → Type 0) (n : ℕ) (xs : List X) → All P xs → All P (repeated n xs)
unfolding repeated
repeated-All P zero xs all = All-nil P
repeated-All P (suc n) xs all = All-append P xs (repeated n xs) all (repeated-All P n xs all)

-- what holds of each item
abbrev Each : {X : Type 0} → (X → Type 0) → List X → Type 0
Each P [] = Unit {0}
Each P (x ∷ xs) = P x × Each P xs

each : {X : Type 0} (P : X → Type 0) (xs : List X) → Each P xs → All P xs
each P [] holds = All-nil P
each P (x ∷ xs) (here, more) = All-cons P x xs here (each P xs more)

-- ## Ops

abbrev write : List Op
write = Write 500 ∷ []

abbrev last_ops : List Op
last_ops = Stop ∷ Drain ∷ Remove ∷ []

writes-end : (n : ℕ) → end_with_remove (repeated n write ++ last_ops) ≡ true
unfolding repeated
writes-end zero = refl
writes-end (suc n) = writes-end n

pub ops_whole : are_whole generated_ops ≡ true
unfolding generated_ops
ops_whole = writes-end 200

ops-length : length generated_ops ≡ 206
unfolding generated_ops
ops-length =
    let e : length (repeated 200 write) ≡ 200 = repeated-length 200 write in
    let f : length (repeated 200 write ++ last_ops) ≡ length (repeated 200 write) + 3 = length-append (repeated 200 write) last_ops in
    omega (arith, e, f)

abbrev Numbers : Op → Type 0
Numbers op = HasOpNumbers 512 op

ops-numbers : All Numbers generated_ops
unfolding generated_ops
ops-numbers =
    All-append Numbers (OpenTrack ∷ Start ∷ Gain 2048 2048 ∷ []) (repeated 200 write ++ last_ops) (each Numbers (OpenTrack ∷ Start ∷ Gain 2048 2048 ∷ []) (tt, (tt, ((omega arith, omega arith), tt))))
    (All-append Numbers (repeated 200 write) last_ops (repeated-All Numbers 200 write (each Numbers write ((omega arith, omega arith), tt))) (each Numbers last_ops (tt, (tt, (tt, tt)))))

-- ## Tracks

track-is : (i : ℕ) → is_name (generated_name i) ≡ true → IsTrack (generated_track i)
unfolding generated_track
track-is i name = record {
  buffer = (omega arith, omega arith);
  base = omega arith;
  scale = omega arith;
  name = name;
  whole = ops_whole;
  count = let e = ops-length in omega (arith, e);
  numbers = ops-numbers;
}

tracks-are : All IsTrack generated_tracks
unfolding generated_tracks
tracks-are =
    each IsTrack (map generated_track (range_with_len 0 8))
    (track-is 0 refl, (track-is 1 refl, (track-is 2 refl, (track-is 3 refl, (track-is 4 refl, (track-is 5 refl, (track-is 6 refl, (track-is 7 refl, tt))))))))

-- ## Turns

asked-append : (xs ys : List TurnSpec) → fast_cycles (xs ++ ys) ≡ fast_cycles xs + fast_cycles ys
asked-append [] ys = omega arith
asked-append (x ∷ xs) ys = let e : fast_cycles (xs ++ ys) ≡ fast_cycles xs + fast_cycles ys = asked-append xs ys in omega (arith, e)

rounds-asked : (n : ℕ) → fast_cycles (repeated n generated_round) ≡ n * 4
unfolding repeated
rounds-asked zero = omega arith
rounds-asked (suc n) =
    let e : fast_cycles (repeated n generated_round) ≡ n * 4 = rounds-asked n in
    let f : fast_cycles (generated_round ++ repeated n generated_round) ≡ fast_cycles generated_round + fast_cycles (repeated n generated_round) = asked-append generated_round (repeated n generated_round) in
    omega (arith, e, f)

abbrev Eight : TurnSpec → Type 0
Eight turn = IsTurn 8 turn

round-is : All Eight generated_round
round-is =
    each Eight generated_round
    (omega arith, (omega arith, (omega arith, (omega arith, (omega arith, (omega arith, (omega arith, (omega arith, (tt, ((omega arith, omega arith), tt))))))))))

-- ## The script

pub generated_is : IsScript generated_script
unfolding generated_tracks generated_turns
generated_is = record {
  version = (omega arith, omega arith);
  frames = (omega arith, omega arith);
  normal = (omega arith, omega arith);
  cycles = (omega arith, omega arith);
  product = omega arith;
  track_count = (omega arith, omega arith);
  tracks = tracks-are;
  turn_count = let e : length (repeated 420 generated_round) ≡ 4200 = repeated-length 420 generated_round in omega (arith, e);
  turns = repeated-All Eight 420 generated_round round-is;
  asked = let e : fast_cycles (repeated 420 generated_round) ≡ 1680 = rounds-asked 420 in omega (arith, e);
}
