-- The printed text of a script is read as that script.
use Rattle.std.proofs.Common.{◌≡◌, ℕ, suc, ◌+◌, ◌-◌, ◌*◌, ◌≤◌, ◌==◌, ◌&&◌, nat_le, Bool, true, false, List, [], ◌∷◌, length, pos, Some, Result, Ok, All, refl, sym, ap, ◌∙◌, subst, arith}
use Rattle.af_script.proofs.Common.{All-head, All-tail, All-take, Items, as_str, as_table, is_utf8, is_within, nat_tests, ok_or, option_and_then, positive_not_zero, string}
use Rattle.af_script.specs.Bounds.{most_version, most_frames, most_normal, most_cycles, most_product, most_tracks, most_buffer, most_base, unity_scale, most_ops, most_turns}
use Rattle.af_script.specs.Text.{is_name}
use Rattle.af_script.specs.Tree.{tree_of, count_of, all_are}
use Rattle.af_script.specs.Ops.{in_place, may_stand, closed, fast_cycles}
use Rattle.af_script.specs.Form.{HasOpNumbers, IsTrack, IsTurn, IsScript}
use Rattle.af_script.specs.Data.{ScriptData}
use Rattle.af_script.specs.Results.{◌>>=◌}
use Rattle.af_script.specs.Reading.{in_range, fast_word, top_numbers, track_items as tables_in, turn_items, shape_in, name_in, op_items, number_or, each_in, op_in, ops_in, track_of_table, track_item, turn_of_words, paid_turns, turns_in, parts_in, script_in, script_of}
use Rattle.af_script.specs.Printing.{op_text, turn_text, kind_text, channels_of, written_ops, printed_script}
use Rattle.af_script.specs.declared.op.Op.{Op}
use Rattle.af_script.specs.declared.op.TurnSpec.{TurnSpec}
use Rattle.af_script.specs.declared.track.TrackSpec.{TrackSpec}
use Rattle.af_script.specs.declared.fault.ScriptFault.{ScriptFault}
use Rattle.af_script.specs.declared.fault.ScriptFault.TheVariants as fault
use Rattle.af_script.specs.declared.fault.KeyId.{KeyId}
use Rattle.af_script.specs.declared.fault.KeyId.TheVariants as key
use Rattle.af_script.proofs.PrintedWords.{op_of-text, turn_of-text}
use Rattle.af_script.proofs.WrittenOps.{StandFrom, Stands, ops-stand}
use Rattle.af_script.proofs.PrintedTree.{text_items, track_tree, track_items, script_tree, printed-tree}
use Rattle.af_script.proofs.PrintedBytes.{printed-utf8}

-- ## Items

count-texts : {X : Type 0} (text : X → List ℕ) (xs : List X) → count_of (text_items text xs) ≡ length xs
count-texts text [] = refl
count-texts text (x ∷ xs) = ap suc (count-texts text xs)

all-texts : {X : Type 0} (text : X → List ℕ) (xs : List X) → all_are as_str (text_items text xs) ≡ true
all-texts text [] = refl
all-texts text (x ∷ xs) = all-texts text xs

count-tables : (ts : List TrackSpec) → count_of (track_items ts) ≡ length ts
count-tables [] = refl
count-tables (t ∷ ts) = ap suc (count-tables ts)

all-tables : (ts : List TrackSpec) → all_are as_table (track_items ts) ≡ true
all-tables [] = refl
all-tables (t ∷ ts) = all-tables ts

step_is : {X Y : Type 0} (r : Result X ScriptFault) (x : X) (next : X → Result Y ScriptFault) → r ≡ Ok x → (r >>= next) ≡ next x
step_is r x next e = ap (λ s. s >>= next) e

both : {X : Type 0} (r : Result X ScriptFault) (rest : Result (List X) ScriptFault) (x : X) (xs : List X) → r ≡ Ok x → rest ≡ Ok xs → (r >>= (λ y. rest >>= (λ ys. Ok (y ∷ ys)))) ≡ Ok (x ∷ xs)
both r rest x xs e f = ap (λ s. s >>= (λ y. rest >>= (λ ys. Ok (y ∷ ys)))) e ∙ ap (λ s. s >>= (λ ys. Ok (x ∷ ys))) f

-- ## Turns

turn-read : (tracks i : ℕ) (turn : TurnSpec) → tracks ≤ most_tracks → IsTurn tracks turn → turn_of_words tracks i (string (turn_text turn)) ≡ Ok turn
turn-read tracks i turn few is = ap (λ o. ok_or o (fault.Turn i)) (turn_of-text tracks turn few is)

turns-read : (tracks i : ℕ) (turns : List TurnSpec) → tracks ≤ most_tracks → All (IsTurn tracks) turns → each_in (turn_of_words tracks) i (text_items turn_text turns) ≡ Ok turns
turns-read tracks i [] few all = refl
turns-read tracks i (turn ∷ turns) few all =
    both (turn_of_words tracks i (string (turn_text turn))) (each_in (turn_of_words tracks) (i + 1) (text_items turn_text turns)) turn turns
    (turn-read tracks i turn few (All-head (IsTurn tracks) turn turns all))
    (turns-read tracks (i + 1) turns few (All-tail (IsTurn tracks) turn turns all))

paid : (cycles : ℕ) (turns : List TurnSpec) → fast_cycles turns ≤ cycles → paid_turns cycles turns ≡ Ok turns
paid cycles turns le = let e : nat_le (fast_cycles turns) cycles ≡ true = grind (arith, nat_tests) in rw e refl

all-turns : (tracks cycles : ℕ) (turns : List TurnSpec) → tracks ≤ most_tracks → length turns ≤ most_turns → All (IsTurn tracks) turns → fast_cycles turns ≤ cycles → turns_in tracks cycles (text_items turn_text turns) ≡ Ok turns
all-turns tracks cycles turns few short all asked =
    let count : count_of (text_items turn_text turns) ≡ length turns = count-texts turn_text turns in
    let e : nat_le (count_of (text_items turn_text turns)) most_turns ≡ true = rw count (grind (arith, nat_tests)) in
    rw e (step_is (each_in (turn_of_words tracks) 0 (text_items turn_text turns)) turns (paid_turns cycles) (turns-read tracks 0 turns few all) ∙ paid cycles turns asked)

-- ## Ops

op-read : (track frames count i : ℕ) (op : Op) → HasOpNumbers frames op → may_stand (i == 0) (i + 1 == count) op ≡ true → op_in track frames count i (string (op_text op)) ≡ Ok op
op-read track frames count i op is stands =
    let e : in_place count i op ≡ Some op = rw stands refl in
    ap (λ o. ok_or (option_and_then (in_place count i) o) (fault.Op track i)) (op_of-text frames op is)
    ∙ ap (λ o. ok_or o (fault.Op track i)) e

ops-read : (track frames count i : ℕ) (ops : List Op) → All (HasOpNumbers frames) ops → StandFrom count i ops → each_in (op_in track frames count) i (text_items op_text ops) ≡ Ok ops
ops-read track frames count i [] all stand = refl
ops-read track frames count i (op ∷ ops) all (here, more) =
    both (op_in track frames count i (string (op_text op))) (each_in (op_in track frames count) (i + 1) (text_items op_text ops)) op ops
    (op-read track frames count i op (All-head (HasOpNumbers frames) op ops all) here)
    (ops-read track frames count (i + 1) ops (All-tail (HasOpNumbers frames) op ops all) more)

written-read : (track frames : ℕ) (ops written : List Op) → All (HasOpNumbers frames) written → Stands ops written → ops_in track frames (text_items op_text written) ≡ Ok ops
written-read track frames ops written all is =
    let items : Items = text_items op_text written in
    let count : count_of items ≡ length written = count-texts op_text written in
    let e : (count_of items == 0) ≡ false = rw count (positive_not_zero (length written) is.some) in
    let f : nat_le (count_of items) most_ops ≡ true = rw count (is_within (length written) most_ops is.few) in
    let stand : StandFrom (count_of items) 0 written = subst (λ (n : ℕ). StandFrom n 0 written) (sym count) is.stand in
    let g : each_in (op_in track frames (count_of items)) 0 items ≡ Ok written = ops-read track frames (count_of items) 0 written all stand in
    rw (e, f) (step_is (each_in (op_in track frames (count_of items)) 0 items) written (λ os. Ok (closed os)) g ∙ ap Ok is.closes)

-- ## Tracks

in_range-is : (t : ℕ) (id : KeyId) (low high n : ℕ) → low ≤ n → n ≤ high → in_range t id low high (pos n) ≡ Ok n
in_range-is t id low high n l h = let e : (nat_le low n && nat_le n high) ≡ true = grind (arith, nat_tests) in rw e refl

kind-read : (t : ℕ) (fast : Bool) → fast_word t (kind_text fast) ≡ Ok fast
kind-read t true = refl
kind-read t false = refl

channels-in : (mono : Bool) → (1 ≤ channels_of mono) × (channels_of mono ≤ 2)
channels-in true = (omega arith, omega arith)
channels-in false = (omega arith, omega arith)

channels-read : (mono : Bool) → (channels_of mono == 1) ≡ mono
channels-read true = refl
channels-read false = refl

module _ (track : ℕ) (t : TrackSpec) (is : IsTrack t) where
  shape-read : shape_in (track + 1) (track_tree t) ≡ Ok (record { fast = t.fast; frames = t.frames; mono = t.mono })
  shape-read =
      ap (λ r. r >>= (λ fast. in_range (track + 1) key.Frames 1 most_buffer (pos t.frames) >>= (λ frames. in_range (track + 1) key.Channels 1 2 (pos (channels_of t.mono)) >>= (λ channels.
      Ok (record { fast = fast; frames = frames; mono = channels == 1 }))))) (kind-read (track + 1) t.fast)
      ∙ ap (λ r. r >>= (λ frames. in_range (track + 1) key.Channels 1 2 (pos (channels_of t.mono)) >>= (λ channels.
      Ok (record { fast = t.fast; frames = frames; mono = channels == 1 })))) (in_range-is (track + 1) key.Frames 1 most_buffer t.frames is.buffer.0 is.buffer.1)
      ∙ ap (λ r. r >>= (λ channels. Ok (record { fast = t.fast; frames = t.frames; mono = channels == 1 })))
      (in_range-is (track + 1) key.Channels 1 2 (channels_of t.mono) (channels-in t.mono).0 (channels-in t.mono).1)
      ∙ ap (λ mono. Ok (record { fast = t.fast; frames = t.frames; mono = mono })) (channels-read t.mono)

  name-read : name_in (track + 1) (track_tree t) ≡ Ok t.file
  name-read = let e : is_name t.file ≡ true = is.name in rw e refl

  items-read : op_items (track + 1) (track_tree t) ≡ Ok (text_items op_text (written_ops t.ops))
  items-read = let e : all_are as_str (text_items op_text (written_ops t.ops)) ≡ true = all-texts op_text (written_ops t.ops) in rw e refl

  base-read : number_or (track + 1) key.Base most_base 0 (track_tree t) ≡ Ok t.base
  base-read = in_range-is (track + 1) key.Base 0 most_base t.base (omega arith) is.base

  scale-read : number_or (track + 1) key.Scale unity_scale unity_scale (track_tree t) ≡ Ok t.scale
  scale-read = in_range-is (track + 1) key.Scale 0 unity_scale t.scale (omega arith) is.scale

  written : ops_in track t.frames (text_items op_text (written_ops t.ops)) ≡ Ok t.ops
  written =
      written-read track t.frames t.ops (written_ops t.ops) (All-take (HasOpNumbers t.frames) 4096 t.ops is.numbers) (ops-stand t.ops is.whole is.count)

  track-read : track_of_table track (track_tree t) ≡ Ok t
  track-read =
      step_is (shape_in (track + 1) (track_tree t)) (record { fast = t.fast; frames = t.frames; mono = t.mono })
      (λ shape. name_in (track + 1) (track_tree t) >>= (λ file. op_items (track + 1) (track_tree t) >>= (λ items.
      number_or (track + 1) key.Base most_base 0 (track_tree t) >>= (λ base. number_or (track + 1) key.Scale unity_scale unity_scale (track_tree t) >>= (λ scale.
      ops_in track shape.frames items >>= (λ ops. Ok (record { fast = shape.fast; frames = shape.frames; mono = shape.mono; base = base; scale = scale; file = file; ops = ops }))))))) shape-read
      ∙ step_is (name_in (track + 1) (track_tree t)) t.file
      (λ file. op_items (track + 1) (track_tree t) >>= (λ items.
      number_or (track + 1) key.Base most_base 0 (track_tree t) >>= (λ base. number_or (track + 1) key.Scale unity_scale unity_scale (track_tree t) >>= (λ scale.
      ops_in track t.frames items >>= (λ ops. Ok (record { fast = t.fast; frames = t.frames; mono = t.mono; base = base; scale = scale; file = file; ops = ops })))))) name-read
      ∙ step_is (op_items (track + 1) (track_tree t)) (text_items op_text (written_ops t.ops))
      (λ items. number_or (track + 1) key.Base most_base 0 (track_tree t) >>= (λ base. number_or (track + 1) key.Scale unity_scale unity_scale (track_tree t) >>= (λ scale.
      ops_in track t.frames items >>= (λ ops. Ok (record { fast = t.fast; frames = t.frames; mono = t.mono; base = base; scale = scale; file = t.file; ops = ops }))))) items-read
      ∙ step_is (number_or (track + 1) key.Base most_base 0 (track_tree t)) t.base
      (λ base. number_or (track + 1) key.Scale unity_scale unity_scale (track_tree t) >>= (λ scale.
      ops_in track t.frames (text_items op_text (written_ops t.ops)) >>= (λ ops. Ok (record { fast = t.fast; frames = t.frames; mono = t.mono; base = base; scale = scale; file = t.file; ops = ops })))) base-read
      ∙ step_is (number_or (track + 1) key.Scale unity_scale unity_scale (track_tree t)) t.scale
      (λ scale. ops_in track t.frames (text_items op_text (written_ops t.ops)) >>= (λ ops. Ok (record { fast = t.fast; frames = t.frames; mono = t.mono; base = t.base; scale = scale; file = t.file; ops = ops }))) scale-read
      ∙ step_is (ops_in track t.frames (text_items op_text (written_ops t.ops))) t.ops
      (λ ops. Ok (record { fast = t.fast; frames = t.frames; mono = t.mono; base = t.base; scale = t.scale; file = t.file; ops = ops })) written

tracks-read : (i : ℕ) (ts : List TrackSpec) → All IsTrack ts → each_in track_item i (track_items ts) ≡ Ok ts
tracks-read i [] all = refl
tracks-read i (t ∷ ts) all =
    both (track_of_table i (track_tree t)) (each_in track_item (i + 1) (track_items ts)) t ts
    (track-read i t (All-head IsTrack t ts all)) (tracks-read (i + 1) ts (All-tail IsTrack t ts all))

-- ## The script

module _ (s : ScriptData) (is : IsScript s) where
  top-read : top_numbers (script_tree s) ≡ Ok (record { version = s.version; frames = s.frames; normal = s.normal; cycles = s.cycles })
  top-read =
      step_is (in_range 0 key.Version 1 most_version (pos s.version)) s.version
      (λ version. in_range 0 key.Frames 1 most_frames (pos s.frames) >>= (λ frames. in_range 0 key.Normal 1 most_normal (pos s.normal) >>= (λ normal.
      in_range 0 key.Cycles 1 most_cycles (pos s.cycles) >>= (λ cycles. Ok (record { version = version; frames = frames; normal = normal; cycles = cycles })))))
      (in_range-is 0 key.Version 1 most_version s.version is.version.0 is.version.1)
      ∙ step_is (in_range 0 key.Frames 1 most_frames (pos s.frames)) s.frames
      (λ frames. in_range 0 key.Normal 1 most_normal (pos s.normal) >>= (λ normal.
      in_range 0 key.Cycles 1 most_cycles (pos s.cycles) >>= (λ cycles. Ok (record { version = s.version; frames = frames; normal = normal; cycles = cycles }))))
      (in_range-is 0 key.Frames 1 most_frames s.frames is.frames.0 is.frames.1)
      ∙ step_is (in_range 0 key.Normal 1 most_normal (pos s.normal)) s.normal
      (λ normal. in_range 0 key.Cycles 1 most_cycles (pos s.cycles) >>= (λ cycles. Ok (record { version = s.version; frames = s.frames; normal = normal; cycles = cycles })))
      (in_range-is 0 key.Normal 1 most_normal s.normal is.normal.0 is.normal.1)
      ∙ step_is (in_range 0 key.Cycles 1 most_cycles (pos s.cycles)) s.cycles
      (λ cycles. Ok (record { version = s.version; frames = s.frames; normal = s.normal; cycles = cycles }))
      (in_range-is 0 key.Cycles 1 most_cycles s.cycles is.cycles.0 is.cycles.1)

  tables-read : tables_in (script_tree s) ≡ Ok (track_items s.tracks)
  tables-read =
      let e : all_are as_table (track_items s.tracks) ≡ true = all-tables s.tracks in
      let count : count_of (track_items s.tracks) ≡ length s.tracks = count-tables s.tracks in
      let some : 1 ≤ length s.tracks = is.track_count.0 in
      let few : length s.tracks ≤ most_tracks = is.track_count.1 in
      let f : nat_le 1 (count_of (track_items s.tracks)) ≡ true = rw count (is_within 1 (length s.tracks) some) in
      let g : nat_le (count_of (track_items s.tracks)) most_tracks ≡ true = rw count (is_within (length s.tracks) most_tracks few) in
      rw (e, f, g) refl

  turn_texts-read : turn_items (script_tree s) ≡ Ok (text_items turn_text s.turns)
  turn_texts-read = let e : all_are as_str (text_items turn_text s.turns) ≡ true = all-texts turn_text s.turns in rw e refl

  parts-read : parts_in (record { version = s.version; frames = s.frames; normal = s.normal; cycles = s.cycles }) (track_items s.tracks) (text_items turn_text s.turns) ≡ Ok s
  parts-read =
      let e : nat_le (s.cycles * s.frames) most_product ≡ true = is_within (s.cycles * s.frames) most_product is.product in
      rw e (step_is (each_in track_item 0 (track_items s.tracks)) s.tracks
      (λ tracks. turns_in (length tracks) s.cycles (text_items turn_text s.turns) >>= (λ turns.
      Ok (record { version = s.version; frames = s.frames; normal = s.normal; cycles = s.cycles; tracks = tracks; turns = turns }))) (tracks-read 0 s.tracks is.tracks)
      ∙ step_is (turns_in (length s.tracks) s.cycles (text_items turn_text s.turns)) s.turns
      (λ turns. Ok (record { version = s.version; frames = s.frames; normal = s.normal; cycles = s.cycles; tracks = s.tracks; turns = turns }))
      (all-turns (length s.tracks) s.cycles s.turns is.track_count.1 is.turn_count is.turns is.asked))

  pub tree-read : script_in (script_tree s) ≡ Ok s
  tree-read =
      step_is (top_numbers (script_tree s)) (record { version = s.version; frames = s.frames; normal = s.normal; cycles = s.cycles })
      (λ top. tables_in (script_tree s) >>= (λ tables. turn_items (script_tree s) >>= (λ texts. parts_in top tables texts))) top-read
      ∙ step_is (tables_in (script_tree s)) (track_items s.tracks)
      (λ tables. turn_items (script_tree s) >>= (λ texts. parts_in (record { version = s.version; frames = s.frames; normal = s.normal; cycles = s.cycles }) tables texts)) tables-read
      ∙ step_is (turn_items (script_tree s)) (text_items turn_text s.turns)
      (λ texts. parts_in (record { version = s.version; frames = s.frames; normal = s.normal; cycles = s.cycles }) (track_items s.tracks) texts) turn_texts-read
      ∙ parts-read

-- ## The law

-- what is printed of a script is read as that script
pub printed_reads : (s : ScriptData) → IsScript s → script_of (printed_script s) ≡ Ok s
printed_reads s is =
    let utf8 : is_utf8 (printed_script s) ≡ true = printed-utf8 s is in
    let whole : tree_of (printed_script s) ≡ Some (script_tree s) = rw utf8 (printed-tree s is) in
    ap (λ o. ok_or o fault.Toml >>= script_in) whole ∙ tree-read s is
