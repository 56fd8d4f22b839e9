-- What the items of arrays are read as: the faults of their places in order, or what they mean.
use Rattle.std.proofs.Common.{◌≡◌, ℕ, suc, ◌+◌, ◌==◌, ◌&&◌, nat_le, Bool, true, false, List, [], ◌∷◌, ◌++◌, length, map, Option, Some, None, Result, Ok, Err, refl, sym, ap, ◌∙◌, if◌then◌else◌}
use Rattle.af_script.proofs.Common.{Data, Items, as_str, both, cons_option, is_some, item, no_items, not_none, ok_or, option_and_then, unwrap_or}
use Rattle.af_script.specs.Bounds.{most_ops, most_turns}
use Rattle.af_script.specs.Ops.{or_else, op_of, op_at, may_stand, in_place, closed, turn_of, fast_cycles}
use Rattle.af_script.specs.Tree.{all_are, count_of}
use Rattle.af_script.specs.Results.{◌>>=◌}
use Rattle.af_script.specs.Reading.{each_in, op_in, ops_in, turn_of_words, paid_turns, turns_in}
use Rattle.af_script.specs.Meaning.{picked, op_meant, turn_meant}
use Rattle.af_script.specs.Places.{Place, bound, each_place, op_place, ops_places, turn_place, unless}
use Rattle.af_script.specs.declared.op.Op.{Op}
use Rattle.af_script.specs.declared.op.Op.TheVariants.{Remove}
use Rattle.af_script.specs.declared.op.TurnSpec.{TurnSpec}
use Rattle.af_script.specs.declared.op.TurnSpec.TheVariants.{Normal}
use Rattle.af_script.specs.declared.fault.ScriptFault.{ScriptFault}
use Rattle.af_script.specs.declared.fault.ScriptFault.TheVariants as fault
use Rattle.af_script.specs.declared.fault.LimitId.TheVariants as limit
use Rattle.af_script.proofs.First.{first_of, judged, first_of-append, bind, bind_ok, behind}

-- an item of the type is read as its places and its meaning say
abbrev pub IsTied : {X Y : Type 0} → (Data → Option X) → (ℕ → Data → Result Y ScriptFault) → (ℕ → X → List Place) → (X → Y) → Type 0
IsTied {X} as_type read place mean = (i : ℕ) (d : Data) (x : X) → as_type d ≡ Some x → read i d ≡ judged (first_of (place i x)) (mean x)

item-tied : {X Y : Type 0} (as_type : Data → Option X) (read : ℕ → Data → Result Y ScriptFault) (place : ℕ → X → List Place) (mean : X → Y) → IsTied as_type read place mean → (i : ℕ) (d : Data) (rest : Items) (o : Option X) → as_type d ≡ o → (is_some o && all_are as_type rest) ≡ true
    → (all_are as_type rest ≡ true → each_in read (i + 1) rest ≡ judged (first_of (each_place place (i + 1) (picked as_type rest))) (map mean (picked as_type rest)))
    → each_in read i (item d rest) ≡ judged (first_of (each_place place i (cons_option o (picked as_type rest)))) (map mean (cons_option o (picked as_type rest)))
item-tied as_type read place mean tied i d rest None is all later = cc
item-tied as_type read place mean tied i d rest (Some x) is all later =
    bind (read i d) (first_of (place i x)) (first_of (each_place place (i + 1) (picked as_type rest))) (mean x) (mean x ∷ map mean (picked as_type rest))
    (λ y. each_in read (i + 1) rest >>= (λ ys. Ok (y ∷ ys))) (tied i d x is)
    (λ none. bind_ok (each_in read (i + 1) rest) (first_of (each_place place (i + 1) (picked as_type rest))) (map mean (picked as_type rest)) (λ ys. mean x ∷ ys) (later all))
    ∙ ap (λ p. judged p (mean x ∷ map mean (picked as_type rest))) (sym (first_of-append (place i x) (each_place place (i + 1) (picked as_type rest))))

pub each-tied : {X Y : Type 0} (as_type : Data → Option X) (read : ℕ → Data → Result Y ScriptFault) (place : ℕ → X → List Place) (mean : X → Y) → IsTied as_type read place mean → (i : ℕ) (items : Items) → all_are as_type items ≡ true → each_in read i items ≡ judged (first_of (each_place place i (picked as_type items))) (map mean (picked as_type items))
each-tied as_type read place mean tied i no_items all = refl
each-tied as_type read place mean tied i (item d rest) all =
    item-tied as_type read place mean tied i d rest (as_type d) refl all (λ all'. each-tied as_type read place mean tied (i + 1) rest all')

length-cons : {X : Type 0} (o : Option X) (xs : List X) (n : ℕ) → is_some o ≡ true → length xs ≡ n → length (cons_option o xs) ≡ suc n
length-cons None xs n some len = cc
length-cons (Some x) xs n some len = ap suc len

-- as many of the type as there are items
pub length-picked : {X : Type 0} (as_type : Data → Option X) (items : Items) → all_are as_type items ≡ true → length (picked as_type items) ≡ count_of items
length-picked as_type no_items all = refl
length-picked as_type (item d rest) all =
    let (here, later) = both (is_some (as_type d)) (all_are as_type rest) all in
    length-cons (as_type d) (picked as_type rest) (count_of rest) here (length-picked as_type rest later)

-- an op

stands-tied : (test : Bool) (found : ScriptFault) (o : Op) → ok_or (if test then Some o else None) found ≡ judged (or_else (unless (is_some {T = Op} (if test then Some o else None)) found) None) o
stands-tied true found o = refl
stands-tied false found o = refl

op-tied-by : (count i : ℕ) (found : ScriptFault) (o : Option Op) → ok_or (option_and_then (in_place count i) o) found ≡ judged (or_else (unless (is_some (option_and_then (in_place count i) o)) found) None) (unwrap_or o Remove)
op-tied-by count i found None = refl
op-tied-by count i found (Some o) = stands-tied (may_stand (i == 0) (i + 1 == count) o) found o

op-tied : (track frames count : ℕ) → IsTied as_str (op_in track frames count) (op_place track frames count) (op_meant frames)
op-tied track frames count i d text is =
    ap (λ o. ok_or (option_and_then (op_at frames count i) o) (fault.Op track i)) is ∙ op-tied-by count i (fault.Op track i) (op_of frames text)

-- a turn

turn-tied-by : (found : ScriptFault) (o : Option TurnSpec) → ok_or o found ≡ judged (or_else (unless (is_some o) found) None) (unwrap_or o Normal)
turn-tied-by found None = refl
turn-tied-by found (Some t) = refl

turn-tied : (tracks : ℕ) → IsTied as_str (turn_of_words tracks) (turn_place tracks) (turn_meant tracks)
turn-tied tracks i d text is =
    ap (λ o. ok_or (option_and_then (turn_of tracks) o) (fault.Turn i)) is ∙ turn-tied-by (fault.Turn i) (turn_of tracks text)

-- the ops of a track

some_ops : (track frames : ℕ) (texts : List (List ℕ)) (n : ℕ) → length texts ≡ suc n → ops_places track frames texts ≡ each_place (op_place track frames (length texts)) 0 texts
some_ops track frames [] n len = cc
some_ops track frames (text ∷ rest) n len = refl

ops-counted : (track frames : ℕ) (d : Data) (rest : Items) → all_are as_str (item d rest) ≡ true → ops_in track frames (item d rest) ≡ judged (or_else (unless (nat_le (count_of (item d rest)) most_ops) (fault.Limit limit.Ops (count_of (item d rest)))) (first_of (each_place (op_place track frames (count_of (item d rest))) 0 (picked as_str (item d rest))))) (closed (map (op_meant frames) (picked as_str (item d rest))))
ops-counted track frames d rest all =
    ap (λ (none : Bool). if none then Err (fault.Op track 0) else if nat_le (count_of (item d rest)) most_ops
    then each_in (op_in track frames (count_of (item d rest))) 0 (item d rest) >>= (λ ops. Ok (closed ops))
    else Err (fault.Limit limit.Ops (count_of (item d rest)))) (not_none (count_of rest))
    ∙ behind (nat_le (count_of (item d rest)) most_ops) (fault.Limit limit.Ops (count_of (item d rest)))
    (each_in (op_in track frames (count_of (item d rest))) 0 (item d rest) >>= (λ ops. Ok (closed ops)))
    (first_of (each_place (op_place track frames (count_of (item d rest))) 0 (picked as_str (item d rest))))
    (closed (map (op_meant frames) (picked as_str (item d rest))))
    (bind_ok (each_in (op_in track frames (count_of (item d rest))) 0 (item d rest)) (first_of (each_place (op_place track frames (count_of (item d rest))) 0 (picked as_str (item d rest))))
    (map (op_meant frames) (picked as_str (item d rest))) closed
    (each-tied as_str (op_in track frames (count_of (item d rest))) (op_place track frames (count_of (item d rest))) (op_meant frames) (op-tied track frames (count_of (item d rest))) 0 (item d rest) all))

pub ops-tied : (track frames : ℕ) (items : Items) → all_are as_str items ≡ true → ops_in track frames items ≡ judged (first_of (bound limit.Ops most_ops (length (picked as_str items)) ∷ ops_places track frames (picked as_str items))) (closed (map (op_meant frames) (picked as_str items)))
ops-tied track frames no_items all = refl
ops-tied track frames (item d rest) all =
    let texts : List (List ℕ) = picked as_str (item d rest) in
    let meant : List Op = closed (map (op_meant frames) texts) in
    let len : length texts ≡ count_of (item d rest) = length-picked as_str (item d rest) all in
    ops-counted track frames d rest all
    ∙ ap (λ n. judged (or_else (unless (nat_le n most_ops) (fault.Limit limit.Ops n)) (first_of (each_place (op_place track frames n) 0 texts))) meant) (sym len)
    ∙ ap (λ ps. judged (first_of (bound limit.Ops most_ops (length texts) ∷ ps)) meant) (sym (some_ops track frames texts (count_of rest) len))

-- the turns

paid-tied : (cycles : ℕ) (turns : List TurnSpec) (test : Bool) → (if test then Ok turns else Err (fault.Limit limit.Asked (fast_cycles turns))) ≡ judged (or_else (unless test (fault.Limit limit.Asked (fast_cycles turns))) None) turns
paid-tied cycles turns true = refl
paid-tied cycles turns false = refl

turns-counted : (tracks cycles : ℕ) (items : Items) → all_are as_str items ≡ true → turns_in tracks cycles items ≡ judged (or_else (unless (nat_le (count_of items) most_turns) (fault.Limit limit.Turns (count_of items))) (or_else (first_of (each_place (turn_place tracks) 0 (picked as_str items))) (first_of (bound limit.Asked cycles (fast_cycles (map (turn_meant tracks) (picked as_str items))) ∷ [])))) (map (turn_meant tracks) (picked as_str items))
turns-counted tracks cycles items all =
    let turns : List TurnSpec = map (turn_meant tracks) (picked as_str items) in
    let paid : Option ScriptFault = first_of (bound limit.Asked cycles (fast_cycles turns) ∷ []) in
    let each : Option ScriptFault = first_of (each_place (turn_place tracks) 0 (picked as_str items)) in
    behind (nat_le (count_of items) most_turns) (fault.Limit limit.Turns (count_of items)) (each_in (turn_of_words tracks) 0 items >>= paid_turns cycles) (or_else each paid) turns
    (bind (each_in (turn_of_words tracks) 0 items) each paid turns turns (paid_turns cycles)
    (each-tied as_str (turn_of_words tracks) (turn_place tracks) (turn_meant tracks) (turn-tied tracks) 0 items all)
    (λ none. paid-tied cycles turns (nat_le (fast_cycles turns) cycles)))

pub turns_in-tied : (tracks cycles : ℕ) (items : Items) → all_are as_str items ≡ true → turns_in tracks cycles items ≡ judged (first_of (bound limit.Turns most_turns (length (picked as_str items)) ∷ (each_place (turn_place tracks) 0 (picked as_str items) ++ bound limit.Asked cycles (fast_cycles (map (turn_meant tracks) (picked as_str items))) ∷ []))) (map (turn_meant tracks) (picked as_str items))
turns_in-tied tracks cycles items all =
    let texts : List (List ℕ) = picked as_str items in
    let turns : List TurnSpec = map (turn_meant tracks) texts in
    let last : List Place = bound limit.Asked cycles (fast_cycles turns) ∷ [] in
    turns-counted tracks cycles items all
    ∙ ap (λ n. judged (or_else (unless (nat_le n most_turns) (fault.Limit limit.Turns n)) (or_else (first_of (each_place (turn_place tracks) 0 texts)) (first_of last))) turns) (sym (length-picked as_str items all))
    ∙ ap (λ p. judged (or_else (unless (nat_le (length texts) most_turns) (fault.Limit limit.Turns (length texts))) p) turns) (sym (first_of-append (each_place (turn_place tracks) 0 texts) last))
