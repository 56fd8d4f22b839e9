-- What every script that was read keeps.
use Rattle.std.proofs.Common.{◌≡◌, ℕ, ◌+◌, ◌*◌, ◌≤◌, ◌<◌, ◌==◌, ◌&&◌, nat_le, Bool, true, false, List, length, Option, Some, None, Result, Ok, Err, refl, subst, arith, if◌then◌else◌}
use Rattle.af_script.proofs.Common.{All, Data, IfSome, Items, Members, as_str, as_table, nat_tests, ok_or, option_and_then, pos, within_is}
use Rattle.af_script.specs.Bounds.{most_version, most_frames, most_normal, most_cycles, most_product, most_tracks, most_buffer, most_base, unity_scale, most_turns}
use Rattle.af_script.specs.Text.{is_name}
use Rattle.af_script.specs.Ops.{fast_cycles}
use Rattle.af_script.specs.Tree.{value_at, all_keys, is_track_key, count_of, array_of}
use Rattle.af_script.specs.Form.{IsTrack, IsTurn, IsScript}
use Rattle.af_script.specs.Results.{◌>>=◌}
use Rattle.af_script.specs.Reading.{number_in, top_numbers, some_tables, track_items, fast_in, shape_in, name_if, name_in, op_items, number_or, ops_in, track_of_table, track_if, track_item, each_in, turn_of_words, paid_turns, turns_in}
use Rattle.af_script.specs.declared.op.Op.{Op}
use Rattle.af_script.specs.declared.op.TurnSpec.{TurnSpec}
use Rattle.af_script.specs.declared.track.Shape.{Shape}
use Rattle.af_script.specs.declared.track.TrackSpec.{TrackSpec}
use Rattle.af_script.specs.declared.script.TopNumbers.{TopNumbers}
use Rattle.af_script.specs.declared.fault.ScriptFault.{ScriptFault}
use Rattle.af_script.specs.declared.fault.ScriptFault.TheVariants as fault
use Rattle.af_script.specs.declared.fault.KeyId.TheVariants as key
use Rattle.af_script.specs.declared.fault.LimitId.TheVariants as limit
use Rattle.af_script.proofs.Holds.{Holds, then_holds, test_holds, some_holds, IsIn, number_in-holds, number_or-holds, each-holds, each-length, and_then-holds}
use Rattle.af_script.proofs.OpForms.{AreOps, ops_in-holds, turn_in-holds, both-hold}

-- what holds of the value that was found
abbrev found_holds : {X : Type 0} (P : X → Type 0) (r : Result X ScriptFault) (x : X) → r ≡ Ok x → Holds P r → P x
found_holds P r x is holds = subst (Holds P) is holds

abbrev Any : {X : Type 0} → X → Type 0
Any x = Unit {0}

any : {X : Type 0} (r : Result X ScriptFault) → Holds (λ (x : X). Any x) r
any (Ok x) = tt
any (Err found) = tt

-- the top table

abbrev IsTop : TopNumbers → Type 0
IsTop top = IsIn 1 most_version top.version × IsIn 1 most_frames top.frames × IsIn 1 most_normal top.normal × IsIn 1 most_cycles top.cycles

top-holds : (tree : Members) → Holds IsTop (top_numbers tree)
top-holds tree =
    then_holds (IsIn 1 most_version) IsTop (number_in 0 key.Version 1 most_version tree)
    (λ v. number_in 0 key.Frames 1 most_frames tree >>= (λ f. number_in 0 key.Normal 1 most_normal tree >>= (λ n. number_in 0 key.Cycles 1 most_cycles tree >>= (λ c.
    Ok (record { version = v; frames = f; normal = n; cycles = c })))))
    (number_in-holds 0 key.Version 1 most_version tree)
    (λ v hv. then_holds (IsIn 1 most_frames) IsTop (number_in 0 key.Frames 1 most_frames tree)
    (λ f. number_in 0 key.Normal 1 most_normal tree >>= (λ n. number_in 0 key.Cycles 1 most_cycles tree >>= (λ c. Ok (record { version = v; frames = f; normal = n; cycles = c }))))
    (number_in-holds 0 key.Frames 1 most_frames tree)
    (λ f hf. then_holds (IsIn 1 most_normal) IsTop (number_in 0 key.Normal 1 most_normal tree)
    (λ n. number_in 0 key.Cycles 1 most_cycles tree >>= (λ c. Ok (record { version = v; frames = f; normal = n; cycles = c })))
    (number_in-holds 0 key.Normal 1 most_normal tree)
    (λ n hn. then_holds (IsIn 1 most_cycles) IsTop (number_in 0 key.Cycles 1 most_cycles tree) (λ c. Ok (record { version = v; frames = f; normal = n; cycles = c }))
    (number_in-holds 0 key.Cycles 1 most_cycles tree) (λ c hc. (hv, hf, hn, hc)))))

abbrev IsSome_tables : Items → Type 0
IsSome_tables items = IsIn 1 most_tracks (count_of items)

in_test : (low high n : ℕ) → (nat_le low n && nat_le n high) ≡ true → IsIn low high n
in_test low high n e = (grind (arith, nat_tests), grind (arith, nat_tests))

tables-hold : (tree : Members) → Holds IsSome_tables (track_items tree)
tables-hold tree =
    then_holds (λ (items : Items). Any items) IsSome_tables (ok_or (option_and_then (array_of as_table) (value_at key.Track tree)) (fault.Key 0 key.Track)) some_tables
    (any (ok_or (option_and_then (array_of as_table) (value_at key.Track tree)) (fault.Key 0 key.Track)))
    (λ items h. test_holds IsSome_tables (nat_le 1 (count_of items) && nat_le (count_of items) most_tracks) (Ok items) (fault.Range 0 key.Track (pos (count_of items))) (in_test 1 most_tracks (count_of items)))

-- a track

abbrev IsShape : Shape → Type 0
IsShape shape = IsIn 1 most_buffer shape.frames

shape-holds : (t : ℕ) (tree : Members) → Holds IsShape (shape_in t tree)
shape-holds t tree =
    then_holds (λ (b : Bool). Any b) IsShape (fast_in t tree)
    (λ fast. number_in t key.Frames 1 most_buffer tree >>= (λ frames. number_in t key.Channels 1 2 tree >>= (λ channels. Ok (record { fast = fast; frames = frames; mono = channels == 1 }))))
    (any (fast_in t tree))
    (λ fast h. then_holds (IsIn 1 most_buffer) IsShape (number_in t key.Frames 1 most_buffer tree)
    (λ frames. number_in t key.Channels 1 2 tree >>= (λ channels. Ok (record { fast = fast; frames = frames; mono = channels == 1 })))
    (number_in-holds t key.Frames 1 most_buffer tree)
    (λ frames hf. then_holds (IsIn 1 2) IsShape (number_in t key.Channels 1 2 tree) (λ channels. Ok (record { fast = fast; frames = frames; mono = channels == 1 }))
    (number_in-holds t key.Channels 1 2 tree) (λ channels hc. hf)))

abbrev IsName : List ℕ → Type 0
IsName text = is_name text ≡ true

name_test : (text : List ℕ) (test : Bool) → is_name text ≡ test → IfSome (if test then Some text else None) IsName
name_test text true is = is
name_test text false is = tt

name-holds : (t : ℕ) (tree : Members) → Holds IsName (name_in t tree)
name-holds t tree =
    some_holds IsName (option_and_then name_if (option_and_then as_str (value_at key.File tree))) (fault.Key t key.File)
    (and_then-holds IsName (option_and_then as_str (value_at key.File tree)) name_if (λ text. name_test text (is_name text) refl))

made : (fast mono : Bool) (frames base scale : ℕ) (file : List ℕ) (ops : List Op) → IsIn 1 most_buffer frames → base ≤ most_base → scale ≤ unity_scale → IsName file → AreOps frames ops → IsTrack (record { fast = fast; frames = frames; mono = mono; base = base; scale = scale; file = file; ops = ops })
made fast mono frames base scale file ops hf hb hs hn ho = record { buffer = hf; base = hb; scale = hs; name = hn; whole = ho.whole; count = ho.count; numbers = ho.numbers }

track-holds : (i : ℕ) (tree : Members) → Holds IsTrack (track_of_table i tree)
track-holds i tree =
    let t : ℕ = i + 1 in
    test_holds IsTrack (all_keys is_track_key tree)
    (shape_in t tree >>= (λ shape. name_in t tree >>= (λ file. op_items t tree >>= (λ items.
    number_or t key.Base most_base 0 tree >>= (λ base. number_or t key.Scale unity_scale unity_scale tree >>= (λ scale.
    ops_in i shape.frames items >>= (λ ops. Ok (record { fast = shape.fast; frames = shape.frames; mono = shape.mono; base = base; scale = scale; file = file; ops = ops }))))))))
    (fault.Unknown t)
    (λ known. then_holds IsShape IsTrack (shape_in t tree)
    (λ shape. name_in t tree >>= (λ file. op_items t tree >>= (λ items.
    number_or t key.Base most_base 0 tree >>= (λ base. number_or t key.Scale unity_scale unity_scale tree >>= (λ scale.
    ops_in i shape.frames items >>= (λ ops. Ok (record { fast = shape.fast; frames = shape.frames; mono = shape.mono; base = base; scale = scale; file = file; ops = ops })))))))
    (shape-holds t tree)
    (λ shape hf. then_holds IsName IsTrack (name_in t tree)
    (λ file. op_items t tree >>= (λ items.
    number_or t key.Base most_base 0 tree >>= (λ base. number_or t key.Scale unity_scale unity_scale tree >>= (λ scale.
    ops_in i shape.frames items >>= (λ ops. Ok (record { fast = shape.fast; frames = shape.frames; mono = shape.mono; base = base; scale = scale; file = file; ops = ops }))))))
    (name-holds t tree)
    (λ file hn. then_holds (λ (items : Items). Any items) IsTrack (op_items t tree)
    (λ items. number_or t key.Base most_base 0 tree >>= (λ base. number_or t key.Scale unity_scale unity_scale tree >>= (λ scale.
    ops_in i shape.frames items >>= (λ ops. Ok (record { fast = shape.fast; frames = shape.frames; mono = shape.mono; base = base; scale = scale; file = file; ops = ops })))))
    (any (op_items t tree))
    (λ items hi. then_holds (λ (base : ℕ). base ≤ most_base) IsTrack (number_or t key.Base most_base 0 tree)
    (λ base. number_or t key.Scale unity_scale unity_scale tree >>= (λ scale.
    ops_in i shape.frames items >>= (λ ops. Ok (record { fast = shape.fast; frames = shape.frames; mono = shape.mono; base = base; scale = scale; file = file; ops = ops }))))
    (number_or-holds t key.Base most_base 0 tree (omega arith))
    (λ base hb. then_holds (λ (scale : ℕ). scale ≤ unity_scale) IsTrack (number_or t key.Scale unity_scale unity_scale tree)
    (λ scale. ops_in i shape.frames items >>= (λ ops. Ok (record { fast = shape.fast; frames = shape.frames; mono = shape.mono; base = base; scale = scale; file = file; ops = ops })))
    (number_or-holds t key.Scale unity_scale unity_scale tree (omega arith))
    (λ scale hs. then_holds (AreOps shape.frames) IsTrack (ops_in i shape.frames items)
    (λ ops. Ok (record { fast = shape.fast; frames = shape.frames; mono = shape.mono; base = base; scale = scale; file = file; ops = ops }))
    (ops_in-holds i shape.frames items)
    (λ ops ho. made shape.fast shape.mono shape.frames base scale file ops hf hb hs hn ho)))))))

track_if-holds : (i : ℕ) (o : Option Members) → Holds IsTrack (track_if i o)
track_if-holds i None = tt
track_if-holds i (Some tree) = track-holds i tree

track_item-holds : (i : ℕ) (d : Data) → Holds IsTrack (track_item i d)
track_item-holds i d = track_if-holds i (as_table d)

-- the turns

record AreTurns (tracks cycles : ℕ) (turns : List TurnSpec) : Type 0 where
  count : length turns ≤ most_turns
  each : All (IsTurn tracks) turns
  asked : fast_cycles turns ≤ cycles

record AreRead (tracks : ℕ) (turns : List TurnSpec) : Type 0 where
  count : length turns ≤ most_turns
  each : All (IsTurn tracks) turns

turns-hold : (tracks cycles : ℕ) (items : Items) → 0 < tracks → Holds (AreTurns tracks cycles) (turns_in tracks cycles items)
turns-hold tracks cycles items some =
    test_holds (AreTurns tracks cycles) (nat_le (count_of items) most_turns) (each_in (turn_of_words tracks) 0 items >>= paid_turns cycles) (fault.Limit limit.Turns (count_of items))
    (λ few. let bound : count_of items ≤ most_turns = within_is (count_of items) most_turns few in
    then_holds (AreRead tracks) (AreTurns tracks cycles) (each_in (turn_of_words tracks) 0 items) (paid_turns cycles)
    (both-hold (λ (turns : List TurnSpec). length turns ≡ count_of items) (All (IsTurn tracks)) (AreRead tracks) (each_in (turn_of_words tracks) 0 items)
    (each-length (turn_of_words tracks) 0 items) (each-holds (IsTurn tracks) (turn_of_words tracks) (λ i d. turn_in-holds tracks i d some) 0 items)
    (λ turns len all. record { count = omega (arith, bound, len); each = all }))
    (λ turns h. test_holds (AreTurns tracks cycles) (nat_le (fast_cycles turns) cycles) (Ok turns) (fault.Limit limit.Asked (fast_cycles turns))
    (λ paid. record { count = h.count; each = h.each; asked = within_is (fast_cycles turns) cycles paid })))

-- the script
pub script-keeps : (tree : Members) (top : TopNumbers) (tables texts : Items) (specs : List TrackSpec) (turns : List TurnSpec) → top_numbers tree ≡ Ok top → track_items tree ≡ Ok tables → each_in track_item 0 tables ≡ Ok specs → turns_in (length specs) top.cycles texts ≡ Ok turns → top.cycles * top.frames ≤ most_product
    → IsScript (record { version = top.version; frames = top.frames; normal = top.normal; cycles = top.cycles; tracks = specs; turns = turns })
script-keeps tree top tables texts specs turns is_top is_tables is_tracks is_turns product =
    let t : IsTop top = found_holds IsTop (top_numbers tree) top is_top (top-holds tree) in
    let count : IsIn 1 most_tracks (count_of tables) = found_holds IsSome_tables (track_items tree) tables is_tables (tables-hold tree) in
    let len : length specs ≡ count_of tables = found_holds (λ (xs : List TrackSpec). length xs ≡ count_of tables) (each_in track_item 0 tables) specs is_tracks (each-length track_item 0 tables) in
    let all : All IsTrack specs = found_holds (All IsTrack) (each_in track_item 0 tables) specs is_tracks (each-holds IsTrack track_item track_item-holds 0 tables) in
    let some : 0 < length specs = omega (arith, len, count.0) in
    let paid : AreTurns (length specs) top.cycles turns = found_holds (AreTurns (length specs) top.cycles) (turns_in (length specs) top.cycles texts) turns is_turns (turns-hold (length specs) top.cycles texts some) in
    record {
      version = t.0;
      frames = t.1;
      normal = t.2;
      cycles = t.3;
      product = product;
      track_count = (omega (arith, len, count.0), omega (arith, len, count.1));
      tracks = all;
      turn_count = paid.count;
      turns = paid.each;
      asked = paid.asked;
    }
