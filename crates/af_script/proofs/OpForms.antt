-- The forms of ops and turns that were read.
use Rattle.std.proofs.Common.{◌≡◌, ℕ, ◌+◌, ◌-◌, ◌==◌, ◌≤◌, ◌<◌, ◌&&◌, ◌++◌, not, nat_le, Bool, true, false, List, [], ◌∷◌, length, length-append, codes, Option, Some, None, Result, Ok, Err, refl, ap, subst, ◌∙◌, arith, if◌then◌else◌}
use Rattle.af_script.proofs.Common.{All, All-append, All-cons, All-nil, Data, IfSome, Items, as_str, bytes_eq, item, nat_tests, no_items, option_and_then}
use Rattle.af_script.specs.Bounds.{most_gain, most_write, most_value, most_fast, header_words, command_frames, most_ops}
use Rattle.af_script.specs.Ops.{words_of, plain_op, gain_of, write_of, poke_stream, poke_command, or_else, op_of, may_stand, in_place, op_at, is_remove, ends_with_remove, closed, end_with_remove, are_whole, client_turn_of, fast_of, turn_of}
use Rattle.af_script.specs.Tree.{count_of}
use Rattle.af_script.specs.Form.{HasOpNumbers, IsTurn}
use Rattle.af_script.specs.Results.{◌>>=◌}
use Rattle.af_script.specs.Reading.{each_in, op_in, ops_in, turn_of_words}
use Rattle.af_script.specs.declared.op.Op.{Op}
use Rattle.af_script.specs.declared.op.Op.TheVariants.{OpenTrack, Start, Pause, Stop, Flush, Drain, Remove, Yield, Gain, Write, Poke}
use Rattle.af_script.specs.declared.op.TurnSpec.{TurnSpec}
use Rattle.af_script.specs.declared.op.TurnSpec.TheVariants.{Client, Normal, Fast}
use Rattle.af_script.specs.declared.fault.ScriptFault.{ScriptFault}
use Rattle.af_script.specs.declared.fault.ScriptFault.TheVariants as fault
use Rattle.af_script.specs.declared.fault.LimitId.TheVariants as limit
use Rattle.af_script.proofs.Holds.{Holds, then_holds, some_holds, IsIn, AreIn, each-length, and_then-holds, map-holds, number_after-holds, pair_after-holds}

-- the first of two
either-holds : {X : Type 0} (P : X → Type 0) (a b : Option X) → IfSome a P → IfSome b P → IfSome (or_else a b) P
either-holds P None b ha hb = hb
either-holds P (Some x) b ha hb = ha

-- a choice that has no numbers, before other choices
plain_choice : (frames : ℕ) (test : Bool) (o : Op) (other : Option Op) → HasOpNumbers frames o → IfSome other (HasOpNumbers frames) → IfSome (if test then Some o else other) (HasOpNumbers frames)
plain_choice frames true o other here later = here
plain_choice frames false o other here later = later

plain-holds : (frames : ℕ) (text : List ℕ) → IfSome (plain_op text) (HasOpNumbers frames)
plain-holds frames text =
    plain_choice frames (bytes_eq text (codes "open")) OpenTrack _ tt
    (plain_choice frames (bytes_eq text (codes "start")) Start _ tt
    (plain_choice frames (bytes_eq text (codes "pause")) Pause _ tt
    (plain_choice frames (bytes_eq text (codes "stop")) Stop _ tt
    (plain_choice frames (bytes_eq text (codes "flush")) Flush _ tt
    (plain_choice frames (bytes_eq text (codes "drain")) Drain _ tt
    (plain_choice frames (bytes_eq text (codes "yield")) Yield _ tt
    (plain_choice frames (bytes_eq text (codes "remove")) Remove None tt tt)))))))

below_words : (frames word : ℕ) → word ≤ words_of frames - 1 → word < words_of frames
below_words frames word le = omega arith

op_of-holds : (frames : ℕ) (text : List ℕ) → IfSome (op_of frames text) (HasOpNumbers frames)
op_of-holds frames text =
    let P : Op → Type 0 = HasOpNumbers frames in
    either-holds P (plain_op text) _ (plain-holds frames text)
    (either-holds P (gain_of text) _ (map-holds (AreIn most_gain most_gain) P _ (λ pair. Gain pair.0 pair.1) (pair_after-holds (codes "gain ") most_gain most_gain text) (λ pair h. h))
    (either-holds P (write_of text) _ (map-holds (IsIn 1 most_write) P _ Write (number_after-holds (codes "write ") 1 most_write text) (λ n h. h))
    (either-holds P (poke_stream frames text) (poke_command text)
    (map-holds (AreIn (words_of frames - 1) most_value) P _ (λ pair. Poke false pair.0 pair.1) (pair_after-holds (codes "poke stream ") (words_of frames - 1) most_value text) (λ pair h. (below_words frames pair.0 h.0, h.1)))
    (map-holds (AreIn (header_words + command_frames - 1) most_value) P _ (λ pair. Poke true pair.0 pair.1) (pair_after-holds (codes "poke command ") (header_words + command_frames - 1) most_value text) (λ pair h. (omega arith, h.1))))))

-- an op that may stand where it stands, with its numbers
abbrev pub FitsAt : ℕ → ℕ → ℕ → Op → Type 0
FitsAt frames count i o = (may_stand (i == 0) (i + 1 == count) o ≡ true) × HasOpNumbers frames o

place-holds : (frames count i : ℕ) (o : Op) (test : Bool) → may_stand (i == 0) (i + 1 == count) o ≡ test → HasOpNumbers frames o → IfSome (if test then Some o else None) (FitsAt frames count i)
place-holds frames count i o true is has = (is, has)
place-holds frames count i o false is has = tt

op_at-by : (frames count i : ℕ) (o : Option Op) → IfSome o (HasOpNumbers frames) → IfSome (option_and_then (in_place count i) o) (FitsAt frames count i)
op_at-by frames count i None holds = tt
op_at-by frames count i (Some o) holds = place-holds frames count i o (may_stand (i == 0) (i + 1 == count) o) refl holds

op_in-holds : (track frames count i : ℕ) (d : Data) → Holds (FitsAt frames count i) (op_in track frames count i d)
op_in-holds track frames count i d =
    some_holds (FitsAt frames count i) (option_and_then (op_at frames count i) (as_str d)) (fault.Op track i)
    (and_then-holds (FitsAt frames count i) (as_str d) (op_at frames count i) (λ text. op_at-by frames count i (op_of frames text) (op_of-holds frames text)))

-- the ops from an index on
abbrev pub FitFrom : ℕ → ℕ → ℕ → List Op → Type 0
FitFrom frames count i [] = Unit {0}
FitFrom frames count i (o ∷ ops) = FitsAt frames count i o × FitFrom frames count (i + 1) ops

each-fit : (track frames count i : ℕ) (items : Items) → Holds (FitFrom frames count i) (each_in (op_in track frames count) i items)
each-fit track frames count i no_items = tt
each-fit track frames count i (item d rest) =
    then_holds (FitsAt frames count i) (FitFrom frames count i) (op_in track frames count i d) (λ o. each_in (op_in track frames count) (i + 1) rest >>= (λ ops. Ok (o ∷ ops)))
    (op_in-holds track frames count i d)
    (λ o here. then_holds (FitFrom frames count (i + 1)) (FitFrom frames count i) (each_in (op_in track frames count) (i + 1) rest) (λ ops. Ok (o ∷ ops))
    (each-fit track frames count (i + 1) rest) (λ ops later. (here, later)))

fit-numbers : (frames count i : ℕ) (ops : List Op) → FitFrom frames count i ops → All (HasOpNumbers frames) ops
fit-numbers frames count i [] fit = All-nil (HasOpNumbers frames)
fit-numbers frames count i (o ∷ ops) (here, later) = All-cons (HasOpNumbers frames) o ops here.1 (fit-numbers frames count (i + 1) ops later)

-- `remove` at the end

if-cons : (test : Bool) (o : Op) (xs ys : List Op) → (if test then o ∷ xs else o ∷ ys) ≡ o ∷ (if test then xs else ys)
if-cons true o xs ys = refl
if-cons false o xs ys = refl

closed-cons : (o : Op) (ops : List Op) → is_remove o ≡ false → closed (o ∷ ops) ≡ o ∷ closed ops
closed-cons o [] other = rw other refl
closed-cons o (next ∷ rest) other = if-cons (ends_with_remove (next ∷ rest)) o (next ∷ rest) ((next ∷ rest) ++ Remove ∷ [])

last_alone : (i count : ℕ) (rest : List Op) → (not (i == 0) && (i + 1 == count)) ≡ true → i + 1 + length rest ≡ count → rest ≡ []
last_alone i count [] stands len = refl
last_alone i count (o ∷ rest) stands len =
    let here : i + 1 ≡ count = grind (arith, nat_tests) in
    absurd (omega arith)

-- ops from the second on
tail-ends : (frames count i : ℕ) (ops : List Op) → 0 < i → i + length ops ≡ count → FitFrom frames count i ops → end_with_remove (closed ops) ≡ true
tail-ends frames count i [] later len fit = refl
tail-ends frames count i (OpenTrack ∷ ops) later len (here, fit) =
    let first : (i == 0) ≡ true = here.0 in
    absurd (grind (arith, nat_tests))
tail-ends frames count i (Remove ∷ ops) later len (here, fit) =
    let alone : ops ≡ [] = last_alone i count ops here.0 (omega arith) in
    ap (λ rest. end_with_remove (closed (Remove ∷ rest))) alone
tail-ends frames count i (Start ∷ ops) later len (here, fit) = ap end_with_remove (closed-cons Start ops refl) ∙ tail-ends frames count (i + 1) ops (omega arith) (omega arith) fit
tail-ends frames count i (Pause ∷ ops) later len (here, fit) = ap end_with_remove (closed-cons Pause ops refl) ∙ tail-ends frames count (i + 1) ops (omega arith) (omega arith) fit
tail-ends frames count i (Stop ∷ ops) later len (here, fit) = ap end_with_remove (closed-cons Stop ops refl) ∙ tail-ends frames count (i + 1) ops (omega arith) (omega arith) fit
tail-ends frames count i (Flush ∷ ops) later len (here, fit) = ap end_with_remove (closed-cons Flush ops refl) ∙ tail-ends frames count (i + 1) ops (omega arith) (omega arith) fit
tail-ends frames count i (Drain ∷ ops) later len (here, fit) = ap end_with_remove (closed-cons Drain ops refl) ∙ tail-ends frames count (i + 1) ops (omega arith) (omega arith) fit
tail-ends frames count i (Yield ∷ ops) later len (here, fit) = ap end_with_remove (closed-cons Yield ops refl) ∙ tail-ends frames count (i + 1) ops (omega arith) (omega arith) fit
tail-ends frames count i (Gain l r ∷ ops) later len (here, fit) = ap end_with_remove (closed-cons (Gain l r) ops refl) ∙ tail-ends frames count (i + 1) ops (omega arith) (omega arith) fit
tail-ends frames count i (Write n ∷ ops) later len (here, fit) = ap end_with_remove (closed-cons (Write n) ops refl) ∙ tail-ends frames count (i + 1) ops (omega arith) (omega arith) fit
tail-ends frames count i (Poke b w v ∷ ops) later len (here, fit) = ap end_with_remove (closed-cons (Poke b w v) ops refl) ∙ tail-ends frames count (i + 1) ops (omega arith) (omega arith) fit

-- all ops
ops-whole : (frames count : ℕ) (ops : List Op) → 0 < count → length ops ≡ count → FitFrom frames count 0 ops → are_whole (closed ops) ≡ true
ops-whole frames count [] some len fit = absurd (omega arith)
ops-whole frames count (OpenTrack ∷ ops) some len (here, fit) = ap are_whole (closed-cons OpenTrack ops refl) ∙ tail-ends frames count 1 ops (omega arith) (omega arith) fit
ops-whole frames count (Remove ∷ ops) some len (here, fit) = absurd (let wrong : false ≡ true = here.0 in cc)
ops-whole frames count (Start ∷ ops) some len (here, fit) = absurd (let wrong : false ≡ true = here.0 in cc)
ops-whole frames count (Pause ∷ ops) some len (here, fit) = absurd (let wrong : false ≡ true = here.0 in cc)
ops-whole frames count (Stop ∷ ops) some len (here, fit) = absurd (let wrong : false ≡ true = here.0 in cc)
ops-whole frames count (Flush ∷ ops) some len (here, fit) = absurd (let wrong : false ≡ true = here.0 in cc)
ops-whole frames count (Drain ∷ ops) some len (here, fit) = absurd (let wrong : false ≡ true = here.0 in cc)
ops-whole frames count (Yield ∷ ops) some len (here, fit) = absurd (let wrong : false ≡ true = here.0 in cc)
ops-whole frames count (Gain l r ∷ ops) some len (here, fit) = absurd (let wrong : false ≡ true = here.0 in cc)
ops-whole frames count (Write n ∷ ops) some len (here, fit) = absurd (let wrong : false ≡ true = here.0 in cc)
ops-whole frames count (Poke b w v ∷ ops) some len (here, fit) = absurd (let wrong : false ≡ true = here.0 in cc)

if-All : (P : Op → Type 0) (test : Bool) (ops : List Op) → All P ops → P Remove → All P (if test then ops else ops ++ Remove ∷ [])
if-All P true ops all here = all
if-All P false ops all here = All-append P ops (Remove ∷ []) all (All-cons P Remove [] here (All-nil P))

if-length : (test : Bool) (ops : List Op) → length (if test then ops else ops ++ Remove ∷ []) ≤ length ops + 1
if-length true ops = omega arith
if-length false ops = omega (arith, length-append ops (Remove ∷ []))

-- the ops of a track
pub record AreOps (frames : ℕ) (ops : List Op) : Type 0 where
  pub whole : are_whole ops ≡ true
  pub count : length ops ≤ most_ops + 1
  pub numbers : All (HasOpNumbers frames) ops

-- ops as they are written
record Written (frames count : ℕ) (ops : List Op) : Type 0 where
  len : length ops ≡ count
  fit : FitFrom frames count 0 ops

pub both-hold : {X : Type 0} (P Q R : X → Type 0) (r : Result X ScriptFault) → Holds P r → Holds Q r → ((x : X) → P x → Q x → R x) → Holds R r
both-hold P Q R (Ok x) p q both = both x p q
both-hold P Q R (Err found) p q both = tt

closed-are : (frames count : ℕ) (ops : List Op) → 0 < count → count ≤ most_ops → Written frames count ops → AreOps frames (closed ops)
closed-are frames count ops some few w = record {
  whole = ops-whole frames count ops some w.len w.fit;
  count = let bound : length (closed ops) ≤ length ops + 1 = if-length (ends_with_remove ops) ops in omega (arith, bound, w.len);
  numbers = if-All (HasOpNumbers frames) (ends_with_remove ops) ops (fit-numbers frames count 0 ops w.fit) tt;
}

some-count : (count : ℕ) (test : Bool) → (count == 0) ≡ test → test ≡ false → 0 < count
some-count count test is none = let zero_not : (count == 0) ≡ false = is ∙ none in grind (arith, nat_tests)

ops_in-by : (track frames : ℕ) (items : Items) (none few : Bool) → (count_of items == 0) ≡ none → nat_le (count_of items) most_ops ≡ few
    → Holds (AreOps frames) (if none then Err (fault.Op track 0) else if few then each_in (op_in track frames (count_of items)) 0 items >>= (λ ops. Ok (closed ops)) else Err (fault.Limit limit.Ops (count_of items)))
ops_in-by track frames items true few is_none is_few = tt
ops_in-by track frames items false false is_none is_few = tt
ops_in-by track frames items false true is_none is_few =
    let count : ℕ = count_of items in
    let some : 0 < count = some-count count false is_none refl in
    let bound : count ≤ most_ops = grind (arith, nat_tests) in
    then_holds (Written frames count) (AreOps frames) (each_in (op_in track frames count) 0 items) (λ ops. Ok (closed ops))
    (both-hold (λ (ops : List Op). length ops ≡ count) (FitFrom frames count 0) (Written frames count) (each_in (op_in track frames count) 0 items)
    (each-length (op_in track frames count) 0 items) (each-fit track frames count 0 items) (λ ops len fit. record { len = len; fit = fit }))
    (λ ops w. closed-are frames count ops some bound w)

pub ops_in-holds : (track frames : ℕ) (items : Items) → Holds (AreOps frames) (ops_in track frames items)
ops_in-holds track frames items = ops_in-by track frames items (count_of items == 0) (nat_le (count_of items) most_ops) refl refl

-- a turn

below_tracks : (tracks n : ℕ) → 0 < tracks → n ≤ tracks - 1 → n < tracks
below_tracks tracks n some le = omega arith

normal_choice : (tracks : ℕ) (test : Bool) (other : Option TurnSpec) → IfSome other (IsTurn tracks) → IfSome (if test then Some Normal else other) (IsTurn tracks)
normal_choice tracks true other holds = tt
normal_choice tracks false other holds = holds

turn_of-holds : (tracks : ℕ) (text : List ℕ) → 0 < tracks → IfSome (turn_of tracks text) (IsTurn tracks)
turn_of-holds tracks text some =
    normal_choice tracks (bytes_eq text (codes "n")) (or_else (client_turn_of tracks text) (fast_of text))
    (either-holds (IsTurn tracks) (client_turn_of tracks text) (fast_of text)
    (map-holds (IsIn 0 (tracks - 1)) (IsTurn tracks) _ Client (number_after-holds (codes "c ") 0 (tracks - 1) text) (λ n h. below_tracks tracks n some h.1))
    (map-holds (IsIn 1 most_fast) (IsTurn tracks) _ Fast (number_after-holds (codes "f ") 1 most_fast text) (λ n h. h)))

pub turn_in-holds : (tracks i : ℕ) (d : Data) → 0 < tracks → Holds (IsTurn tracks) (turn_of_words tracks i d)
turn_in-holds tracks i d some =
    some_holds (IsTurn tracks) (option_and_then (turn_of tracks) (as_str d)) (fault.Turn i)
    (and_then-holds (IsTurn tracks) (as_str d) (turn_of tracks) (λ text. turn_of-holds tracks text some))

-- the ops that were read, with `remove` at their end
pub closed-whole : (track frames : ℕ) (items : Items) (ops : List Op) → 0 < count_of items → count_of items ≤ most_ops → each_in (op_in track frames (count_of items)) 0 items ≡ Ok ops → are_whole (closed ops) ≡ true
closed-whole track frames items ops some bound is =
    let count : ℕ = count_of items in
    let len : length ops ≡ count = subst (Holds (λ (xs : List Op). length xs ≡ count)) is (each-length (op_in track frames count) 0 items) in
    let fit : FitFrom frames count 0 ops = subst (Holds (FitFrom frames count 0)) is (each-fit track frames count 0 items) in
    (closed-are frames count ops some bound (record { len = len; fit = fit })).whole
