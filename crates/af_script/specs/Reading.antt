-- The script that bytes are read as, or its first fault: one step after another.
use Rattle.std.specs.Prelude.{ℕ, ◌+◌, ◌*◌, ◌==◌, ◌&&◌, nat_le, ℤ, pos, negsuc, Bool, true, false, List, [], ◌∷◌, length, codes, Option, Some, None, ok_or, option_and_then, Result, Ok, Err, if◌then◌else◌}
use Rattle.std.specs.Str.{bytes_eq}
use Rattle.toml.specs.Data.{Data, Items, no_items, item, Members, as_integer, as_str, as_table}
use Rattle.af_script.specs.Bounds.{most_version, most_frames, most_normal, most_cycles, most_product, most_tracks, most_buffer, most_base, unity_scale, most_ops, most_turns}
use Rattle.af_script.specs.Text.{is_name}
use Rattle.af_script.specs.Ops.{op_at, turn_of, closed, fast_cycles}
use Rattle.af_script.specs.Tree.{tree_of, value_at, all_keys, is_top_key, is_track_key, array_of, count_of}
use Rattle.af_script.specs.Results.{◌>>=◌}
use Rattle.af_script.specs.Data.{ScriptData}
use Rattle.af_script.specs.declared.op.Op.{Op}
use Rattle.af_script.specs.declared.op.TurnSpec.{TurnSpec}
use Rattle.af_script.specs.declared.track.TrackSpec.{TrackSpec}
use Rattle.af_script.specs.declared.track.Shape.{Shape}
use Rattle.af_script.specs.declared.script.TopNumbers.{TopNumbers}
use Rattle.af_script.specs.declared.fault.ScriptFault.{ScriptFault}
use Rattle.af_script.specs.declared.fault.ScriptFault.TheVariants as fault
use Rattle.af_script.specs.declared.fault.KeyId.{KeyId}
use Rattle.af_script.specs.declared.fault.KeyId.TheVariants as key
use Rattle.af_script.specs.declared.fault.LimitId.TheVariants as limit

-- an integer in a range, else Range with the integer
abbrev pub in_range : ℕ → KeyId → ℕ → ℕ → ℤ → Result ℕ ScriptFault
in_range table id low high (pos n) = if nat_le low n && nat_le n high then Ok n else Err (fault.Range table id (pos n))
in_range table id low high (negsuc n) = Err (fault.Range table id (negsuc n))

abbrev pub in_range_if : ℕ → KeyId → ℕ → ℕ → Option ℤ → Result ℕ ScriptFault
in_range_if table id low high None = Err (fault.Key table id)
in_range_if table id low high (Some z) = in_range table id low high z

-- the number at a key: Key if it is missing or has another type, Range if it is out of range
abbrev pub number_in : ℕ → KeyId → ℕ → ℕ → Members → Result ℕ ScriptFault
number_in table id low high tree = in_range_if table id low high (option_and_then as_integer (value_at id tree))

-- a number, or a default if the key is missing
abbrev pub default_if_none : ℕ → Option Data → Result ℕ ScriptFault → Result ℕ ScriptFault
default_if_none default None number = Ok default
default_if_none default (Some value) number = number

abbrev pub number_or : ℕ → KeyId → ℕ → ℕ → Members → Result ℕ ScriptFault
number_or table id high default tree = default_if_none default (value_at id tree) (number_in table id 0 high tree)

-- the numbers of the top table
abbrev pub top_numbers : Members → Result TopNumbers ScriptFault
top_numbers tree =
    number_in 0 key.Version 1 most_version tree >>= (λ version. number_in 0 key.Frames 1 most_frames tree >>= (λ frames.
    number_in 0 key.Normal 1 most_normal tree >>= (λ normal. number_in 0 key.Cycles 1 most_cycles tree >>= (λ cycles.
    Ok (record { version = version; frames = frames; normal = normal; cycles = cycles })))))

-- the tables of an array of 1 to 32 of them
abbrev pub some_tables : Items → Result Items ScriptFault
some_tables items =
    if nat_le 1 (count_of items) && nat_le (count_of items) most_tracks then Ok items else Err (fault.Range 0 key.Track (pos (count_of items)))

abbrev pub track_items : Members → Result Items ScriptFault
track_items tree = ok_or (option_and_then (array_of as_table) (value_at key.Track tree)) (fault.Key 0 key.Track) >>= some_tables

-- the texts of the turns, none if the key is missing
abbrev pub turn_items_if : Option Data → Result Items ScriptFault
turn_items_if None = Ok no_items
turn_items_if (Some value) = ok_or (array_of as_str value) (fault.Key 0 key.Turns)

abbrev pub turn_items : Members → Result Items ScriptFault
turn_items tree = turn_items_if (value_at key.Turns tree)

-- `"fast"` or `"normal"`
abbrev pub fast_word : ℕ → List ℕ → Result Bool ScriptFault
fast_word table text =
    if bytes_eq text (codes "fast") then Ok true
    else if bytes_eq text (codes "normal") then Ok false
    else Err (fault.Key table key.Kind)

abbrev pub fast_in : ℕ → Members → Result Bool ScriptFault
fast_in table tree = ok_or (option_and_then as_str (value_at key.Kind tree)) (fault.Key table key.Kind) >>= fast_word table

-- what a track is, before its file
abbrev pub shape_in : ℕ → Members → Result Shape ScriptFault
shape_in table tree =
    fast_in table tree >>= (λ fast. number_in table key.Frames 1 most_buffer tree >>= (λ frames.
    number_in table key.Channels 1 2 tree >>= (λ channels.
    Ok (record { fast = fast; frames = frames; mono = channels == 1 }))))

-- the name of a track's file
abbrev pub name_if : List ℕ → Option (List ℕ)
name_if text = if is_name text then Some text else None

abbrev pub name_in : ℕ → Members → Result (List ℕ) ScriptFault
name_in table tree =
    ok_or (option_and_then name_if (option_and_then as_str (value_at key.File tree))) (fault.Key table key.File)

-- what the items of an array are read as, one after the other with their indexes, up to the first fault
abbrev pub each_in : {X : Type 0} → (ℕ → Data → Result X ScriptFault) → ℕ → Items → Result (List X) ScriptFault
each_in read index no_items = Ok []
each_in read index (item value rest) = read index value >>= (λ x. each_in read (index + 1) rest >>= (λ xs. Ok (x ∷ xs)))

-- an op of a track, if the text spells one that may stand there
abbrev pub op_in : ℕ → ℕ → ℕ → ℕ → Data → Result Op ScriptFault
op_in track frames count index value = ok_or (option_and_then (op_at frames count index) (as_str value)) (fault.Op track index)

-- the ops of a track: at most 4096 as they are written, and at least one
abbrev pub ops_in : ℕ → ℕ → Items → Result (List Op) ScriptFault
ops_in track frames items =
    if count_of items == 0 then Err (fault.Op track 0)
    else if nat_le (count_of items) most_ops
    then each_in (op_in track frames (count_of items)) 0 items >>= (λ ops. Ok (closed ops))
    else Err (fault.Limit limit.Ops (count_of items))

abbrev pub op_items : ℕ → Members → Result Items ScriptFault
op_items table tree = ok_or (option_and_then (array_of as_str) (value_at key.Ops tree)) (fault.Key table key.Ops)

-- a track, by its number and its table
abbrev pub track_of_table : ℕ → Members → Result TrackSpec ScriptFault
track_of_table track tree =
    if all_keys is_track_key tree
    then shape_in (track + 1) tree >>= (λ shape. name_in (track + 1) tree >>= (λ file. op_items (track + 1) tree >>= (λ items.
    number_or (track + 1) key.Base most_base 0 tree >>= (λ base. number_or (track + 1) key.Scale unity_scale unity_scale tree >>= (λ scale.
    ops_in track shape.frames items >>= (λ ops. Ok (record {
      fast = shape.fast;
      frames = shape.frames;
      mono = shape.mono;
      base = base;
      scale = scale;
      file = file;
      ops = ops;
    })))))))
    else Err (fault.Unknown (track + 1))

abbrev pub track_if : ℕ → Option Members → Result TrackSpec ScriptFault
track_if track None = Err (fault.Key 0 key.Track)
track_if track (Some tree) = track_of_table track tree

abbrev pub track_item : ℕ → Data → Result TrackSpec ScriptFault
track_item track value = track_if track (as_table value)

-- a turn, with so many tracks
abbrev pub turn_of_words : ℕ → ℕ → Data → Result TurnSpec ScriptFault
turn_of_words tracks index value = ok_or (option_and_then (turn_of tracks) (as_str value)) (fault.Turn index)

-- the turns: at most 100000, whose fast turns have no more cycles than the run
abbrev pub paid_turns : ℕ → List TurnSpec → Result (List TurnSpec) ScriptFault
paid_turns cycles turns = if nat_le (fast_cycles turns) cycles then Ok turns else Err (fault.Limit limit.Asked (fast_cycles turns))

abbrev pub turns_in : ℕ → ℕ → Items → Result (List TurnSpec) ScriptFault
turns_in tracks cycles items =
    if nat_le (count_of items) most_turns then each_in (turn_of_words tracks) 0 items >>= paid_turns cycles
    else Err (fault.Limit limit.Turns (count_of items))

-- the parts of a script whose top table is in order
abbrev pub parts_in : TopNumbers → Items → Items → Result ScriptData ScriptFault
parts_in top tables texts =
    if nat_le (top.cycles * top.frames) most_product
    then each_in track_item 0 tables >>= (λ tracks. turns_in (length tracks) top.cycles texts >>= (λ turns.
    Ok (record { version = top.version; frames = top.frames; normal = top.normal; cycles = top.cycles; tracks = tracks; turns = turns })))
    else Err (fault.Limit limit.Product (top.cycles * top.frames))

-- the script that a tree is
abbrev pub script_in : Members → Result ScriptData ScriptFault
script_in tree =
    if all_keys is_top_key tree
    then top_numbers tree >>= (λ top. track_items tree >>= (λ tables. turn_items tree >>= (λ texts. parts_in top tables texts)))
    else Err (fault.Unknown 0)

-- the script that bytes are
abbrev pub script_of : List ℕ → Result ScriptData ScriptFault
script_of bytes = ok_or (tree_of bytes) fault.Toml >>= script_in
