-- What the parts of a tree mean. A part that isn't there, or is of another type, counts as nothing; then the tree has a fault.
use Rattle.std.specs.Prelude.{ℕ, ◌==◌, pos, List, [], length, map, codes, Option, Some, unwrap_or}
use Rattle.std.specs.Str.{bytes_eq}
use Rattle.toml.specs.Data.{Data, string, integer, array, Items, no_items, item, Members, as_str, as_table}
use Rattle.std.specs.List.{cons_option}
use Rattle.af_script.specs.Bounds.{unity_scale}
use Rattle.af_script.specs.Ops.{op_of, turn_of, closed}
use Rattle.af_script.specs.Tree.{value_at}
use Rattle.af_script.specs.Data.{ScriptData}
use Rattle.af_script.specs.declared.op.Op.{Op}
use Rattle.af_script.specs.declared.op.Op.TheVariants.{Remove}
use Rattle.af_script.specs.declared.op.TurnSpec.{TurnSpec}
use Rattle.af_script.specs.declared.op.TurnSpec.TheVariants.{Normal}
use Rattle.af_script.specs.declared.track.TrackSpec.{TrackSpec}
use Rattle.af_script.specs.declared.fault.KeyId.TheVariants as key

-- the number that is there, or a default
abbrev pub number_of : ℕ → Option Data → ℕ
number_of default (Some (integer (pos n))) = n
number_of default _ = default

-- the text that is there
abbrev pub text_of : Option Data → List ℕ
text_of (Some (string text)) = text
text_of _ = []

-- the items of a type among those of an array
abbrev pub picked : {X : Type 0} → (Data → Option X) → Items → List X
picked as_type no_items = []
picked as_type (item value rest) = cons_option (as_type value) (picked as_type rest)

-- the items of the array that is there
abbrev pub items_of : Option Data → Items
items_of (Some (array items)) = items
items_of _ = no_items

-- the texts, and the tables, of the array that is there
abbrev pub texts_of : Option Data → List (List ℕ)
texts_of value = picked as_str (items_of value)

abbrev pub tables_of : Option Data → List Members
tables_of value = picked as_table (items_of value)

abbrev pub op_meant : ℕ → List ℕ → Op
op_meant frames text = unwrap_or (op_of frames text) Remove

abbrev pub turn_meant : ℕ → List ℕ → TurnSpec
turn_meant tracks text = unwrap_or (turn_of tracks text) Normal

-- the frames of a track's buffer
abbrev pub buffer_of : Members → ℕ
buffer_of tree = number_of 0 (value_at key.Frames tree)

-- the track that a table means
abbrev pub track_meant : Members → TrackSpec
track_meant tree = record {
  fast = bytes_eq (text_of (value_at key.Kind tree)) (codes "fast");
  frames = buffer_of tree;
  mono = number_of 0 (value_at key.Channels tree) == 1;
  base = number_of 0 (value_at key.Base tree);
  scale = number_of unity_scale (value_at key.Scale tree);
  file = text_of (value_at key.File tree);
  ops = closed (map (op_meant (buffer_of tree)) (texts_of (value_at key.Ops tree)));
}

abbrev pub tracks_meant : Members → List TrackSpec
tracks_meant tree = map track_meant (tables_of (value_at key.Track tree))

abbrev pub turns_meant : ℕ → Members → List TurnSpec
turns_meant tracks tree = map (turn_meant tracks) (texts_of (value_at key.Turns tree))

-- the script that a tree means
abbrev pub script_meant : Members → ScriptData
script_meant tree = record {
  version = number_of 0 (value_at key.Version tree);
  frames = buffer_of tree;
  normal = number_of 0 (value_at key.Normal tree);
  cycles = number_of 0 (value_at key.Cycles tree);
  tracks = tracks_meant tree;
  turns = turns_meant (length (tracks_meant tree)) tree;
}
