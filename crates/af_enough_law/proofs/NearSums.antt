-- How many rounds a track takes at most from its start on, and that they are enough.
use Rattle.std.proofs.Common.{◌≡◌, ℕ, zero, suc, ◌+◌, ◌*◌, ◌^◌, ◌≤◌, ◌<◌, min, nat_le, Bool, true, false, List, [], ◌∷◌, length, slice_index_or, refl, sym, ap, ◌∙◌, subst, arith, if◌then◌else◌}
use Rattle.af_enough_law.proofs.Common.{All-get_or, Frame, HasEnoughCycles, IsScript, IsTrack, Op, ScriptData, Session, TrackSpec, TrackTold, div_ceil, enough_rounds, greatest_cost, mul-le-mul_left, new_at, new_run, no_spec, op_cost, portion, server_list, session_of, sides_of, spec_of, sum_by, sum_by-cons, told_at, track_cost}
use Rattle.af_script.specs.declared.op.Op.TheVariants as op
use Rattle.af_script.specs.Ops.{power_above, cells_of}
use Rattle.af_runs.specs.Runs.{new_told_track}
use Rattle.af_enough_law.proofs.NearWords.{buffer_of}
use Rattle.af_enough_law.proofs.Playing.{IsWay, way_ops, way_frames}
use Rattle.af_enough_law.specs.Seen.{frames_taken}
use Rattle.af_enough_law.proofs.Flows.{way_rounds, way_within, way_costs, portions}
use Rattle.af_enough_law.proofs.Nearing.{BlockCounts}
use Rattle.af_enough_law.proofs.RunBegins.{Plays}
use Rattle.af_enough_law.proofs.StopCounts.{StopCounts}

-- ## Portions

-- what a track's portion is
pub record IsPortion (s : Session) (i q full : ℕ) : Type 0 where
  pub least : q ≡ min (spec_of s i).frames (buffer_of s)
  pub some : 1 ≤ q
  pub full_some : 1 ≤ full
  pub holds : (spec_of s i).frames ≤ q * full
  pub full_is : full ≡ div_ceil (spec_of s i).frames q

full_by : (N q full : ℕ) → 1 ≤ N → N ≤ q * full → 1 ≤ full
full_by N q zero some le = let none : q * 0 ≡ 0 = search arith in absurd (let z : ⊥ = omega (arith, some, le, none) in z)
full_by N q (suc full) some le = omega arith

pub product_some : (a b : ℕ) → 1 ≤ a → 1 ≤ b → 1 ≤ a * b
product_some a b some_a some_b = let le : a * 1 ≤ a * b = mul-le-mul_left a some_b in let one : a * 1 ≡ a = search arith in omega (arith, le, one, some_a)

-- the portion of a track of an accepted script
pub portion_of : (script : ScriptData) (files : List (List Frame)) (i : ℕ) → IsScript script → i < length script.tracks
    → (let s = session_of script files in let q = portion script (spec_of s i) in IsPortion s i q (div_ceil (spec_of s i).frames q))
portion_of script files i is lt =
    let track : TrackSpec = spec_of (session_of script files) i in
    let spec : IsTrack track = All-get_or IsTrack script.tracks i no_spec lt is.tracks in
    let frames = spec.buffer.0 in
    let buffer = product_some script.normal script.frames is.normal.0 is.frames.0 in
    let some : 1 ≤ portion script track = omega (arith, frames, buffer) in
    let holds = portions track.frames (portion script track) some in
    record { least = refl; some = some; full_some = full_by track.frames (portion script track) (div_ceil track.frames (portion script track)) frames holds; holds = holds; full_is = refl }

-- ## The sum

greatest_at : (script : ScriptData) (tracks : List TrackSpec) (i : ℕ) → i < length tracks → track_cost script (slice_index_or tracks i no_spec) ≤ greatest_cost script tracks
greatest_at script [] i lt = absurd (let z : ⊥ = omega (arith, lt) in z)
greatest_at script (track ∷ tracks) zero lt = omega arith
greatest_at script (track ∷ tracks) (suc i) lt = let rest = greatest_at script tracks i (omega (arith, lt)) in omega (arith, rest)

-- the cost of a track that plays through
cost_of : (q : ℕ) (ops rest : List Op) → ops ≡ op.OpenTrack ∷ op.Start ∷ rest → IsWay 0 rest → way_rounds q rest + 39 ≤ sum_by (op_cost q) ops
cost_of q ops rest whole way =
    let a = ap (sum_by (op_cost q)) whole in
    let b = sum_by-cons (op_cost q) op.OpenTrack (op.Start ∷ rest) in
    let c = sum_by-cons (op_cost q) op.Start rest in
    let d = way_costs q 0 rest way in
    omega (arith, a, b, c, d)

-- The rounds of a track's flow and stop, and 55 besides, are among those that are enough
pub near_costs : (script : ScriptData) (files : List (List Frame)) (i : ℕ) → i < length script.tracks → (plays : Plays (spec_of (session_of script files) i).ops)
    → (let track = spec_of (session_of script files) i in let q = portion script track in way_rounds q plays.rest + 2 * div_ceil track.frames q + 55 ≤ enough_rounds script)
near_costs script files i lt plays =
    let track : TrackSpec = spec_of (session_of script files) i in
    let q = portion script track in
    let cost = cost_of q track.ops plays.rest plays.whole plays.way in
    let greatest = greatest_at script script.tracks i lt in
    omega (arith, cost, greatest)

-- ## How many frames are written

frames_few : (q ops frames rounds most buffer cycles : ℕ) → 2 * frames + q * ops ≤ q * rounds → q ≤ 16 * buffer → rounds ≤ most → 16 * most ≤ cycles → cycles * buffer ≤ 2097152 → frames ≤ 1048576
frames_few q ops frames rounds most buffer cycles within small le enough product =
    let a : q * rounds ≤ q * most = mul-le-mul_left q le in
    let b : most * q ≤ most * (16 * buffer) = mul-le-mul_left most small in
    let c : buffer * (16 * most) ≤ buffer * cycles = mul-le-mul_left buffer enough in
    let d : q * most ≡ most * q = search arith in
    let e : most * (16 * buffer) ≡ buffer * (16 * most) = search arith in
    let f : buffer * cycles ≡ cycles * buffer = search arith in
    omega (arith, within, a, b, c, d, e, f, product)

buffer_small : (q normal frames : ℕ) → q ≤ normal * frames → normal ≤ 16 → q ≤ 16 * frames
buffer_small q normal frames le few =
    let a : frames * normal ≤ frames * 16 = mul-le-mul_left frames few in
    let b : normal * frames ≡ frames * normal = search arith in
    let c : frames * 16 ≡ 16 * frames = search arith in
    omega (arith, le, a, b, c)

-- a script with enough cycles writes few frames
pub way_few : (script : ScriptData) (files : List (List Frame)) (i : ℕ) → IsScript script → HasEnoughCycles script → i < length script.tracks → (plays : Plays (spec_of (session_of script files) i).ops) → way_frames plays.rest ≤ 1048576
way_few script files i is enough lt plays =
    let track : TrackSpec = spec_of (session_of script files) i in
    let q = portion script track in
    let p = portion_of script files i is lt in
    let least = p.least in
    let within = way_within q 0 plays.rest p.some plays.way in
    let costs = near_costs script files i lt plays in
    let small = buffer_small q script.normal script.frames (omega (arith, least)) is.normal.1 in
    frames_few q (way_ops plays.rest) (way_frames plays.rest) (way_rounds q plays.rest) (enough_rounds script) script.frames script.cycles within small (omega (arith, costs)) enough.enough is.product

-- ## The blocks before the first round

positive : (k : ℕ) → 1 ≤ 2 ^ k
positive zero = omega arith
positive (suc k) = let p = positive k in let e : 2 ^ suc k ≡ 2 * 2 ^ k = search arith in omega (arith, p, e)

power_by : (k n : ℕ) (b : Bool) → nat_le n (2 ^ k) ≡ b → n ≤ 2 ^ suc k → (n ≤ 2 ^ k → (n ≤ power_above k n) × (1 ≤ power_above k n)) → (n ≤ (if b then power_above k n else 2 ^ suc k)) × (1 ≤ (if b then power_above k n else 2 ^ suc k))
power_by k n true le low rest = rest (search (arith, le))
power_by k n false gt low rest = (low, positive (suc k))

power_least : (k n : ℕ) → n ≤ 2 ^ k → (n ≤ power_above k n) × (1 ≤ power_above k n)
power_least zero n low = (omega (arith, low), omega arith)
power_least (suc k) n low = power_by k n (nat_le n (2 ^ k)) refl low (power_least k n)

cells_least : (n : ℕ) → n ≤ 8192 → (n ≤ cells_of n) × (1 ≤ cells_of n)
unfolding cells_of
cells_least n low = power_least 13 n (omega (arith, low))

-- what is counted before the first round
pub counts_begin : (script : ScriptData) (files : List (List Frame)) (i : ℕ) → IsScript script → i < length script.tracks
    → (let s = session_of script files in BlockCounts (new_run s) i (spec_of s i).frames (spec_of s i).base)
counts_begin script files i is lt =
    let s = session_of script files in
    let here : told_at (new_run s) i ≡ new_told_track s i = new_at s i lt in
    let spec = All-get_or IsTrack script.tracks i no_spec lt is.tracks in
    let cells = cells_least (spec_of s i).frames spec.buffer.1 in
    record {
      size = ap (λ (t : TrackTold). t.stream.shape.frames) here;
      base_is = ap (λ (t : TrackTold). t.stream.shape.base) here;
      block = record { cells = subst (λ (t : TrackTold). 1 ≤ t.stream.shape.cells) (sym here) cells.1; frames = subst (λ (t : TrackTold). t.stream.shape.frames ≤ t.stream.shape.cells) (sym here) cells.0 };
      counts = subst (λ (t : TrackTold). StopCounts (sides_of t)) (sym here) (record { released = omega arith; sent = []; words = refl; within = tt });
      counted = ap (λ (t : TrackTold). frames_taken (server_list t.commands)) here ∙ sym (ap (λ (t : TrackTold). length t.commands.taken) here);
    }
