-- What each form of a key is read as: the fault of its place, or the value that it means.
use Rattle.std.proofs.Common.{◌≡◌, ℕ, ◌&&◌, ◌||◌, nat_le, pos, negsuc, Bool, true, false, Option, Some, None, Ok, Err, refl, codes, if◌then◌else◌}
use Rattle.af_script.proofs.Common.{Data, Items, array, as_integer, as_str, as_table, boolean, bytes_eq, datetime, float, integer, ok_or, option_and_then, string, table}
use Rattle.af_script.specs.Bounds.{most_tracks}
use Rattle.af_script.specs.Text.{is_name}
use Rattle.af_script.specs.Tree.{array_of, all_are, count_of}
use Rattle.af_script.specs.Results.{◌>>=◌}
use Rattle.af_script.specs.Reading.{in_range_if, default_if_none, fast_word, name_if, some_tables, turn_items_if}
use Rattle.af_script.specs.Meaning.{number_of, text_of, items_of}
use Rattle.af_script.specs.Places.{number, number_or_none, kind, name, texts, texts_or_none, tables, entry_fault, unless}
use Rattle.af_script.specs.declared.fault.ScriptFault.{ScriptFault}
use Rattle.af_script.specs.declared.fault.ScriptFault.TheVariants as fault
use Rattle.af_script.specs.declared.fault.KeyId.{KeyId}
use Rattle.af_script.specs.declared.fault.KeyId.TheVariants as key
use Rattle.af_script.proofs.First.{judged, tested}

pub number-tied : (id_table : ℕ) (id : KeyId) (low high default : ℕ) (o : Option Data) → in_range_if id_table id low high (option_and_then as_integer o) ≡ judged (entry_fault id_table id (number low high) o) (number_of default o)
number-tied t id low high default None = refl
number-tied t id low high default (Some (string text)) = refl
number-tied t id low high default (Some (integer (pos n))) = tested (nat_le low n && nat_le n high) (fault.Range t id (pos n)) n
number-tied t id low high default (Some (integer (negsuc n))) = refl
number-tied t id low high default (Some (float x)) = refl
number-tied t id low high default (Some (boolean b)) = refl
number-tied t id low high default (Some (datetime d)) = refl
number-tied t id low high default (Some (array items)) = refl
number-tied t id low high default (Some (table members)) = refl

pub number_or-tied : (id_table : ℕ) (id : KeyId) (high default : ℕ) (o : Option Data) → default_if_none default o (in_range_if id_table id 0 high (option_and_then as_integer o)) ≡ judged (entry_fault id_table id (number_or_none 0 high) o) (number_of default o)
number_or-tied t id high default None = refl
number_or-tied t id high default (Some (string text)) = refl
number_or-tied t id high default (Some (integer (pos n))) = tested (nat_le 0 n && nat_le n high) (fault.Range t id (pos n)) n
number_or-tied t id high default (Some (integer (negsuc n))) = refl
number_or-tied t id high default (Some (float x)) = refl
number_or-tied t id high default (Some (boolean b)) = refl
number_or-tied t id high default (Some (datetime d)) = refl
number_or-tied t id high default (Some (array items)) = refl
number_or-tied t id high default (Some (table members)) = refl

word-tied : (found : ScriptFault) (fast normal : Bool) → (if fast then Ok true else if normal then Ok false else Err found) ≡ judged (unless (fast || normal) found) fast
word-tied found true normal = refl
word-tied found false true = refl
word-tied found false false = refl

pub kind-tied : (id_table : ℕ) (o : Option Data) → (ok_or (option_and_then as_str o) (fault.Key id_table key.Kind) >>= fast_word id_table) ≡ judged (entry_fault id_table key.Kind kind o) (bytes_eq (text_of o) (codes "fast"))
kind-tied t None = refl
kind-tied t (Some (string text)) = word-tied (fault.Key t key.Kind) (bytes_eq text (codes "fast")) (bytes_eq text (codes "normal"))
kind-tied t (Some (integer z)) = refl
kind-tied t (Some (float x)) = refl
kind-tied t (Some (boolean b)) = refl
kind-tied t (Some (datetime d)) = refl
kind-tied t (Some (array items)) = refl
kind-tied t (Some (table members)) = refl

-- what a test lets through, and else a fault
passed : {Y : Type 0} (test : Bool) (found : ScriptFault) (y : Y) → ok_or (if test then Some y else None) found ≡ judged (unless test found) y
passed true found y = refl
passed false found y = refl

pub name-tied : (id_table : ℕ) (o : Option Data) → ok_or (option_and_then name_if (option_and_then as_str o)) (fault.Key id_table key.File) ≡ judged (entry_fault id_table key.File name o) (text_of o)
name-tied t None = refl
name-tied t (Some (string text)) = passed (is_name text) (fault.Key t key.File) text
name-tied t (Some (integer z)) = refl
name-tied t (Some (float x)) = refl
name-tied t (Some (boolean b)) = refl
name-tied t (Some (datetime d)) = refl
name-tied t (Some (array items)) = refl
name-tied t (Some (table members)) = refl

pub texts-tied : (id_table : ℕ) (o : Option Data) → ok_or (option_and_then (array_of as_str) o) (fault.Key id_table key.Ops) ≡ judged (entry_fault id_table key.Ops texts o) (items_of o)
texts-tied t None = refl
texts-tied t (Some (string text)) = refl
texts-tied t (Some (integer z)) = refl
texts-tied t (Some (float x)) = refl
texts-tied t (Some (boolean b)) = refl
texts-tied t (Some (datetime d)) = refl
texts-tied t (Some (array items)) = passed (all_are as_str items) (fault.Key t key.Ops) items
texts-tied t (Some (table members)) = refl

pub turns-tied : (o : Option Data) → turn_items_if o ≡ judged (entry_fault 0 key.Turns texts_or_none o) (items_of o)
turns-tied None = refl
turns-tied (Some (string text)) = refl
turns-tied (Some (integer z)) = refl
turns-tied (Some (float x)) = refl
turns-tied (Some (boolean b)) = refl
turns-tied (Some (datetime d)) = refl
turns-tied (Some (array items)) = passed (all_are as_str items) (fault.Key 0 key.Turns) items
turns-tied (Some (table members)) = refl

some-tied : (all : Bool) (items : Items) → (ok_or (if all then Some items else None) (fault.Key 0 key.Track) >>= some_tables) ≡ judged (if all then unless (nat_le 1 (count_of items) && nat_le (count_of items) most_tracks) (fault.Range 0 key.Track (pos (count_of items))) else Some (fault.Key 0 key.Track)) items
some-tied true items = tested (nat_le 1 (count_of items) && nat_le (count_of items) most_tracks) (fault.Range 0 key.Track (pos (count_of items))) items
some-tied false items = refl

pub tables-tied : (o : Option Data) → (ok_or (option_and_then (array_of as_table) o) (fault.Key 0 key.Track) >>= some_tables) ≡ judged (entry_fault 0 key.Track (tables 1 most_tracks) o) (items_of o)
tables-tied None = refl
tables-tied (Some (string text)) = refl
tables-tied (Some (integer z)) = refl
tables-tied (Some (float x)) = refl
tables-tied (Some (boolean b)) = refl
tables-tied (Some (datetime d)) = refl
tables-tied (Some (array items)) = some-tied (all_are as_table items) items
tables-tied (Some (table members)) = refl

-- if an array has no fault its items are all of the type

unless-none : (test : Bool) (found : ScriptFault) → unless test found ≡ None → test ≡ true
unless-none true found none = refl
unless-none false found none = cc

pub texts-all : (id_table : ℕ) (o : Option Data) → entry_fault id_table key.Ops texts o ≡ None → all_are as_str (items_of o) ≡ true
texts-all t None none = cc
texts-all t (Some (string text)) none = cc
texts-all t (Some (integer z)) none = cc
texts-all t (Some (float x)) none = cc
texts-all t (Some (boolean b)) none = cc
texts-all t (Some (datetime d)) none = cc
texts-all t (Some (array items)) none = unless-none (all_are as_str items) (fault.Key t key.Ops) none
texts-all t (Some (table members)) none = cc

pub turns-all : (o : Option Data) → entry_fault 0 key.Turns texts_or_none o ≡ None → all_are as_str (items_of o) ≡ true
turns-all None none = refl
turns-all (Some (string text)) none = cc
turns-all (Some (integer z)) none = cc
turns-all (Some (float x)) none = cc
turns-all (Some (boolean b)) none = cc
turns-all (Some (datetime d)) none = cc
turns-all (Some (array items)) none = unless-none (all_are as_str items) (fault.Key 0 key.Turns) none
turns-all (Some (table members)) none = cc

tested-all : (all : Bool) (other : Option ScriptFault) (found : ScriptFault) → (if all then other else Some found) ≡ None → all ≡ true
tested-all true other found none = refl
tested-all false other found none = cc

pub tables-all : (o : Option Data) → entry_fault 0 key.Track (tables 1 most_tracks) o ≡ None → all_are as_table (items_of o) ≡ true
tables-all None none = cc
tables-all (Some (string text)) none = cc
tables-all (Some (integer z)) none = cc
tables-all (Some (float x)) none = cc
tables-all (Some (boolean b)) none = cc
tables-all (Some (datetime d)) none = cc
tables-all (Some (array items)) none =
    tested-all (all_are as_table items) (unless (nat_le 1 (count_of items) && nat_le (count_of items) most_tracks) (fault.Range 0 key.Track (pos (count_of items))))
    (fault.Key 0 key.Track) none
tables-all (Some (table members)) none = cc
