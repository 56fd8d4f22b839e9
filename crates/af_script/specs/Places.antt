-- The places of a script in the order in which they are looked at, and the fault that a place has.
use Rattle.std.specs.Prelude.{ℕ, ◌+◌, ◌*◌, ◌&&◌, ◌||◌, nat_le, ℤ, pos, negsuc, Bool, List, [], ◌∷◌, ◌++◌, length, codes, Option, Some, None, is_some, if◌then◌else◌}
use Rattle.std.specs.Str.{bytes_eq}
use Rattle.toml.specs.Data.{Data, string, integer, array, Members, as_str, as_table}
use Rattle.af_script.specs.Bounds.{most_version, most_frames, most_normal, most_cycles, most_product, most_tracks, most_buffer, most_base, unity_scale, most_ops, most_turns}
use Rattle.af_script.specs.Text.{is_name}
use Rattle.af_script.specs.Ops.{op_at, turn_of, fast_cycles}
use Rattle.af_script.specs.Tree.{value_at, all_keys, is_top_key, is_track_key, all_are, count_of}
use Rattle.af_script.specs.Meaning.{number_of, texts_of, tables_of, buffer_of, tracks_meant, turns_meant}
use Rattle.af_script.specs.declared.fault.ScriptFault.{ScriptFault}
use Rattle.af_script.specs.declared.fault.ScriptFault.TheVariants as fault
use Rattle.af_script.specs.declared.fault.KeyId.{KeyId}
use Rattle.af_script.specs.declared.fault.KeyId.TheVariants as key
use Rattle.af_script.specs.declared.fault.LimitId.{LimitId}
use Rattle.af_script.specs.declared.fault.LimitId.TheVariants as limit

-- The form that a key asks of its value.
pub data Form : Type 0 where
  number : ℕ → ℕ → Form  -- a number from .. to
  number_or_none : ℕ → ℕ → Form  -- the same, and the key may be missing
  kind : Form  -- one of the two words
  name : Form  -- a file's name
  texts : Form  -- an array of texts
  texts_or_none : Form  -- the same, and the key may be missing
  tables : ℕ → ℕ → Form  -- an array of so many tables

-- A place of a script, with what stands there. Tables, tracks, ops and turns go by number.
pub data Place : Type 0 where
  keys : (table : ℕ) → (known : List ℕ → Bool) → (tree : Members) → Place
  entry : (table : ℕ) → (id : KeyId) → (form : Form) → (value : Option Data) → Place
  bound : (id : LimitId) → (most : ℕ) → (count : ℕ) → Place
  no_op : (track : ℕ) → Place
  op : (track frames count index : ℕ) → (text : List ℕ) → Place
  turn : (tracks index : ℕ) → (text : List ℕ) → Place

-- a fault if a test fails
abbrev pub unless : Bool → ScriptFault → Option ScriptFault
unless test found = if test then None else Some found

-- `fast` or `normal`
abbrev pub is_kind : List ℕ → Bool
is_kind text = bytes_eq text (codes "fast") || bytes_eq text (codes "normal")

-- an integer outside a range
abbrev pub range_fault : ℕ → KeyId → ℕ → ℕ → ℤ → Option ScriptFault
range_fault table id low high (pos n) = unless (nat_le low n && nat_le n high) (fault.Range table id (pos n))
range_fault table id low high (negsuc n) = Some (fault.Range table id (negsuc n))

-- the fault of an entry: Key if its value is missing or has another type than the form asks; Range if its number, or the number of its tables, is out of range
abbrev pub entry_fault : ℕ → KeyId → Form → Option Data → Option ScriptFault
entry_fault table id (number low high) (Some (integer z)) = range_fault table id low high z
entry_fault table id (number_or_none low high) None = None
entry_fault table id (number_or_none low high) (Some (integer z)) = range_fault table id low high z
entry_fault table id kind (Some (string text)) = unless (is_kind text) (fault.Key table id)
entry_fault table id name (Some (string text)) = unless (is_name text) (fault.Key table id)
entry_fault table id texts (Some (array items)) = unless (all_are as_str items) (fault.Key table id)
entry_fault table id texts_or_none None = None
entry_fault table id texts_or_none (Some (array items)) = unless (all_are as_str items) (fault.Key table id)
entry_fault table id (tables low high) (Some (array items)) =
    if all_are as_table items then range_fault table id low high (pos (count_of items)) else Some (fault.Key table id)
entry_fault table id _ _ = Some (fault.Key table id)

-- the fault that a place has
abbrev pub fault_at : Place → Option ScriptFault
fault_at (keys table known tree) = unless (all_keys known tree) (fault.Unknown table)
fault_at (entry table id form value) = entry_fault table id form value
fault_at (bound id most count) = unless (nat_le count most) (fault.Limit id count)
fault_at (no_op track) = Some (fault.Op track 0)
fault_at (op track frames count index text) = unless (is_some (op_at frames count index text)) (fault.Op track index)
fault_at (turn tracks index text) = unless (is_some (turn_of tracks text)) (fault.Turn index)

-- a key of a table
abbrev pub at : ℕ → KeyId → Form → Members → Place
at table id form tree = entry table id form (value_at id tree)

-- the places of each of some things, by their numbers
abbrev pub each_place : {X : Type 0} → (ℕ → X → List Place) → ℕ → List X → List Place
each_place places index [] = []
each_place places index (x ∷ xs) = places index x ++ each_place places (index + 1) xs

abbrev pub op_place : ℕ → ℕ → ℕ → ℕ → List ℕ → List Place
op_place track frames count index text = op track frames count index text ∷ []

-- the ops of a track; there is at least one
abbrev pub ops_places : ℕ → ℕ → List (List ℕ) → List Place
ops_places track frames [] = no_op track ∷ []
ops_places track frames (text ∷ rest) = each_place (op_place track frames (length (text ∷ rest))) 0 (text ∷ rest)

-- the places of a track
abbrev pub track_places : ℕ → Members → List Place
track_places track tree =
    keys (track + 1) is_track_key tree ∷ at (track + 1) key.Kind kind tree ∷ at (track + 1) key.Frames (number 1 most_buffer) tree
    ∷ at (track + 1) key.Channels (number 1 2) tree ∷ at (track + 1) key.File name tree ∷ at (track + 1) key.Ops texts tree
    ∷ at (track + 1) key.Base (number_or_none 0 most_base) tree ∷ at (track + 1) key.Scale (number_or_none 0 unity_scale) tree
    ∷ bound limit.Ops most_ops (length (texts_of (value_at key.Ops tree)))
    ∷ ops_places track (buffer_of tree) (texts_of (value_at key.Ops tree))

abbrev pub turn_place : ℕ → ℕ → List ℕ → List Place
turn_place tracks index text = turn tracks index text ∷ []

-- the places of the turns: their count, each of them, and the cycles that they ask for
abbrev pub turns_places : ℕ → Members → List Place
turns_places tracks tree =
    bound limit.Turns most_turns (length (texts_of (value_at key.Turns tree)))
    ∷ (each_place (turn_place tracks) 0 (texts_of (value_at key.Turns tree))
    ++ bound limit.Asked (number_of 0 (value_at key.Cycles tree)) (fast_cycles (turns_meant tracks tree)) ∷ [])

-- the places of a script, in order
abbrev pub places : Members → List Place
places tree =
    keys 0 is_top_key tree ∷ at 0 key.Version (number 1 most_version) tree ∷ at 0 key.Frames (number 1 most_frames) tree
    ∷ at 0 key.Normal (number 1 most_normal) tree ∷ at 0 key.Cycles (number 1 most_cycles) tree
    ∷ at 0 key.Track (tables 1 most_tracks) tree ∷ at 0 key.Turns texts_or_none tree
    ∷ bound limit.Product most_product (number_of 0 (value_at key.Cycles tree) * buffer_of tree)
    ∷ (each_place track_places 0 (tables_of (value_at key.Track tree)) ++ turns_places (length (tracks_meant tree)) tree)
