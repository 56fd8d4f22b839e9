-- The printed text of a script is a document of its tree.
use Rattle.std.proofs.Common.{◌≡◌, ℕ, suc, ◌+◌, ◌^◌, ◌<◌, ◌≤◌, max, Bool, true, false, not, ◌&&◌, ◌||◌, List, [], ◌∷◌, ◌++◌, length, take, flat_map, codes, decimal, pos, Some, FitsSigned, All, refl, sym, ap, ◌∙◌, subst, arith, append_assoc, append-nil, if◌then◌else◌}
use Rattle.af_script.proofs.Common.{All-cons, All-head, All-nil, All-tail, All-take, Data, Items, Members, array, depth, has_valid_dates, integer, is_sorted, item, items_are_sorted, items_depth, items_have_valid_dates, member, members_are_sorted, members_depth, members_have_valid_dates, no_items, no_members, parse_document, string, table, w64}
use Rattle.toml_writer.specs.Text as writer
use Rattle.toml.specs.Tables.{key_value, array_table, Expression}
use Rattle.toml.specs.Text.{breaks_lines, IsValueText, IsItemsText, are_tables, has_items, is_section, pairs, sections, section, elements, expressions, IsLineText, IsLinesText, IsDocumentText}
use Rattle.toml.proofs.ReadBack.{parse_document-printed}
use Rattle.af_script.specs.Bounds.{most_tracks}
use Rattle.af_script.specs.Tree.{key_text}
use Rattle.af_script.specs.Form.{HasOpNumbers, IsTrack, IsTurn, IsScript}
use Rattle.af_script.specs.Data.{ScriptData}
use Rattle.af_script.specs.Printing.{op_text, turn_text, kind_text, channels_of, written_ops, quoted, array_text, pair_line, number_line, text_line, source_text, use_text, track_text, top_text, printed_script}
use Rattle.af_script.specs.declared.op.Op.{Op}
use Rattle.af_script.specs.declared.op.TurnSpec.{TurnSpec}
use Rattle.af_script.specs.declared.track.TrackSpec.{TrackSpec}
use Rattle.af_script.specs.declared.fault.KeyId.{KeyId}
use Rattle.af_script.specs.declared.fault.KeyId.TheVariants as key
use Rattle.af_script.proofs.PrintedTexts.{IsWord, quoted-word, op-word, turn-word, kind-word, name-word}

-- ## Trees

-- the texts of some things as items
abbrev pub text_items : {X : Type 0} → (X → List ℕ) → List X → Items
text_items text [] = no_items
text_items text (x ∷ xs) = item (string (text x)) (text_items text xs)

abbrev pub track_members : (base channels frames scale : ℕ) (file kind : List ℕ) (ops : Items) → Members
track_members base channels frames scale file kind ops =
    member (codes "base") (integer (pos base)) (member (codes "channels") (integer (pos channels)) (member (codes "file") (string file)
    (member (codes "frames") (integer (pos frames)) (member (codes "kind") (string kind) (member (codes "ops") (array ops)
    (member (codes "scale") (integer (pos scale)) no_members))))))

abbrev pub track_tree : TrackSpec → Members
track_tree t = track_members t.base (channels_of t.mono) t.frames t.scale t.file (kind_text t.fast) (text_items op_text (written_ops t.ops))

abbrev pub track_items : List TrackSpec → Items
track_items [] = no_items
track_items (t ∷ ts) = item (table (track_tree t)) (track_items ts)

abbrev pub top_members : (version frames normal cycles : ℕ) (tracks turns : Items) → Members
top_members version frames normal cycles tracks turns =
    member (codes "cycles") (integer (pos cycles)) (member (codes "frames") (integer (pos frames)) (member (codes "normal") (integer (pos normal))
    (member (codes "track") (array tracks) (member (codes "turns") (array turns) (member (codes "version") (integer (pos version)) no_members)))))

abbrev pub script_tree : ScriptData → Members
script_tree s = top_members s.version s.frames s.normal s.cycles (track_items s.tracks) (text_items turn_text s.turns)

-- ## Values

abbrev pub AreWords : {X : Type 0} → (X → List ℕ) → List X → Type 0
AreWords text [] = Unit {0}
AreWords text (x ∷ xs) = IsWord (text x) × AreWords text xs

abbrev pub more_texts : {X : Type 0} → (X → List ℕ) → List X → List ℕ
more_texts text xs = flat_map (λ y. codes ", " ++ quoted (text y)) xs

rest-assoc : (t f : List ℕ) → ((codes ", " ++ quoted t) ++ f) ++ codes "]" ≡ codes ", " ++ (quoted t ++ (f ++ codes "]"))
rest-assoc t f = simp append_assoc

items_written : {X : Type 0} (text : X → List ℕ) (xs : List X) → AreWords text xs → IsItemsText false false false (text_items text xs) (more_texts text xs ++ codes "]")
items_written text [] words = refl
items_written text (x ∷ xs) (here, more) =
    (quoted (text x), more_texts text xs ++ codes "]", rest-assoc (text x) (more_texts text xs), sym (quoted-word (text x) here), items_written text xs more)

one_line : {X : Type 0} (text : X → List ℕ) (xs : List X) → breaks_lines false (text_items text xs) ≡ false
one_line text [] = refl
one_line text (x ∷ []) = refl
one_line text (x ∷ y ∷ xs) = refl

first_written : {X : Type 0} (text : X → List ℕ) (x : X) (xs : List X) → AreWords text (x ∷ xs) → IsItemsText false false true (text_items text (x ∷ xs)) (quoted (text x) ++ (more_texts text xs ++ codes "]"))
first_written text x xs (here, more) = (quoted (text x), more_texts text xs ++ codes "]", refl, sym (quoted-word (text x) here), items_written text xs more)

array_written : {X : Type 0} (text : X → List ℕ) (xs : List X) → AreWords text xs → IsValueText false (array (text_items text xs)) (array_text text xs)
array_written text [] words = (codes "]", refl, refl)
array_written text (x ∷ xs) words =
    let rest : List ℕ = quoted (text x) ++ (more_texts text xs ++ codes "]") in
    (rest, refl, subst (λ (lines : Bool). IsItemsText false lines true (text_items text (x ∷ xs)) rest) (sym (one_line text (x ∷ xs))) (first_written text x xs words))

number_written : (n : ℕ) → n < 2 ^ 63 → IsValueText false (integer (pos n)) (decimal n)
number_written n small = (refl, record { sfits = small })

word_written : (text : List ℕ) → IsWord text → IsValueText false (string text) (quoted text)
word_written text word = sym (quoted-word text word)

-- ## Lines

bare : (id : KeyId) → writer.key_text (key_text id) ≡ key_text id
unfolding writer.key_text
bare key.Version = refl
bare _ = refl

abbrev line_of : KeyId → Data → Expression
line_of id d = (([], key_text id), key_value d)

pair_written : (started : Bool) (id : KeyId) (d : Data) (value : List ℕ) → IsValueText false d value → IsLineText false started ([], key_text id) (key_value d) (pair_line id value)
unfolding pair_line
pair_written started id d value written = (value, ap (λ k. k ++ (codes " = " ++ (value ++ codes "\n"))) (sym (bare id)), written)

-- a text has these lines
record Wrote (started : Bool) (es : List Expression) (text : List ℕ) : Type 0 where
  lines : IsLinesText false started es text

then_line : (started : Bool) (e : Expression) (es : List Expression) (this rest : List ℕ) → IsLineText false started e.0 e.1 this → Wrote true es rest → Wrote started (e ∷ es) (this ++ rest)
then_line started e es this rest line more = record { lines = (this, rest, refl, line, more.lines) }

then_pair : (started : Bool) (id : KeyId) (d : Data) (es : List Expression) (value rest : List ℕ) → IsValueText false d value → Wrote true es rest → Wrote started (line_of id d ∷ es) (pair_line id value ++ rest)
then_pair started id d es value rest written more = then_line started (line_of id d) es (pair_line id value) rest (pair_written started id d value written) more

then_number : (started : Bool) (id : KeyId) (n : ℕ) (es : List Expression) (rest : List ℕ) → n < 2 ^ 63 → Wrote true es rest → Wrote started (line_of id (integer (pos n)) ∷ es) (number_line id n ++ rest)
then_number started id n es rest small more = then_pair started id (integer (pos n)) es (decimal n) rest (number_written n small) more

then_word : (started : Bool) (id : KeyId) (text : List ℕ) (es : List Expression) (rest : List ℕ) → IsWord text → Wrote true es rest → Wrote started (line_of id (string text) ∷ es) (text_line id text ++ rest)
then_word started id text es rest word more = then_pair started id (string text) es (quoted text) rest (word_written text word) more

then_array : {X : Type 0} (started : Bool) (id : KeyId) (text : X → List ℕ) (xs : List X) (es : List Expression) (rest : List ℕ) → AreWords text xs → Wrote true es rest → Wrote started (line_of id (array (text_items text xs)) ∷ es) (pair_line id (array_text text xs) ++ rest)
then_array started id text xs es rest words more = then_pair started id (array (text_items text xs)) es (array_text text xs) rest (array_written text xs words) more

-- ## Tracks

-- an array of texts stands on a line
abbrev texts_inline : {X : Type 0} → (X → List ℕ) → List X → Type 0
texts_inline text xs = is_section (array (text_items text xs)) ≡ false

inline : {X : Type 0} (text : X → List ℕ) (xs : List X) → texts_inline text xs
inline text [] = refl
inline text (x ∷ xs) = refl

under_none : {X : Type 0} (text : X → List ℕ) (xs : List X) (p : List (List ℕ)) (k : List ℕ) → section (p, k) (array (text_items text xs)) ≡ []
under_none text [] p k = refl
under_none text (x ∷ xs) p k = refl

abbrev track_lines : TrackSpec → List Expression
track_lines t =
    line_of key.Base (integer (pos t.base)) ∷ line_of key.Channels (integer (pos (channels_of t.mono))) ∷ line_of key.File (string t.file)
    ∷ line_of key.Frames (integer (pos t.frames)) ∷ line_of key.Kind (string (kind_text t.fast)) ∷ line_of key.Ops (array (text_items op_text (written_ops t.ops)))
    ∷ line_of key.Scale (integer (pos t.scale)) ∷ []

track-pairs : (t : TrackSpec) → pairs (track_tree t) ≡ track_lines t
track-pairs t = let e : texts_inline op_text (written_ops t.ops) = inline op_text (written_ops t.ops) in rw e refl

track-below : (t : TrackSpec) (p : List (List ℕ)) → sections p (track_tree t) ≡ []
track-below t p = let e : section (p, codes "ops") (array (text_items op_text (written_ops t.ops))) ≡ [] = under_none op_text (written_ops t.ops) p (codes "ops") in rw e refl

abbrev header : Expression
header = (([], codes "track"), array_table)

abbrev all_lines : List TrackSpec → List Expression
all_lines [] = []
all_lines (t ∷ ts) = header ∷ (track_lines t ++ all_lines ts)

elements-lines : (ts : List TrackSpec) → elements ([], codes "track") (track_items ts) ≡ all_lines ts
elements-lines [] = refl
elements-lines (t ∷ ts) =
    let e : pairs (track_tree t) ++ sections (codes "track" ∷ []) (track_tree t) ≡ track_lines t =
    ap (λ es. es ++ sections (codes "track" ∷ []) (track_tree t)) (track-pairs t) ∙ ap (λ es. track_lines t ++ es) (track-below t (codes "track" ∷ [])) in
    ap (λ es. (header ∷ es) ++ elements ([], codes "track") (track_items ts)) e
    ∙ ap (λ es. header ∷ (track_lines t ++ es)) (elements-lines ts)

-- ## The track's text

pub op-words : (frames : ℕ) (ops : List Op) → All (HasOpNumbers frames) ops → AreWords op_text ops
op-words frames [] all = tt
op-words frames (op ∷ ops) all = (op-word frames op (All-head (HasOpNumbers frames) op ops all), op-words frames ops (All-tail (HasOpNumbers frames) op ops all))

pub turn-words : (tracks : ℕ) (turns : List TurnSpec) → tracks ≤ most_tracks → All (IsTurn tracks) turns → AreWords turn_text turns
turn-words tracks [] few all = tt
turn-words tracks (turn ∷ turns) few all = (turn-word tracks turn few (All-head (IsTurn tracks) turn turns all), turn-words tracks turns few (All-tail (IsTurn tracks) turn turns all))

seven : (h a b c d e f g rest : List ℕ) → (h ++ ((a ++ (b ++ (c ++ d))) ++ (e ++ (f ++ g)))) ++ rest ≡ h ++ (a ++ (b ++ (c ++ (d ++ (e ++ (f ++ (g ++ rest)))))))
seven h a b c d e f g rest = simp append_assoc

track-whole : (t : TrackSpec) (rest : List ℕ) → track_text t ++ rest
    ≡ codes "\n[[track]]\n" ++ (number_line key.Base t.base ++ (number_line key.Channels (channels_of t.mono) ++ (text_line key.File t.file ++ (number_line key.Frames t.frames
    ++ (text_line key.Kind (kind_text t.fast) ++ (pair_line key.Ops (array_text op_text (written_ops t.ops)) ++ (number_line key.Scale t.scale ++ rest)))))))
unfolding track_text source_text use_text
track-whole t rest =
    seven (codes "\n[[track]]\n") (number_line key.Base t.base) (number_line key.Channels (channels_of t.mono)) (text_line key.File t.file) (number_line key.Frames t.frames)
    (text_line key.Kind (kind_text t.fast)) (pair_line key.Ops (array_text op_text (written_ops t.ops))) (number_line key.Scale t.scale) rest

header_written : IsLineText false true ([], codes "track") array_table (codes "\n[[track]]\n")
unfolding writer.key_text
header_written = refl

few-channels : (mono : Bool) → channels_of mono < 2 ^ 63
few-channels true = omega arith
few-channels false = omega arith

track-written : (t : TrackSpec) → IsTrack t → (es : List Expression) (rest : List ℕ) → Wrote true es rest → Wrote true (header ∷ (track_lines t ++ es)) (track_text t ++ rest)
track-written t is es rest more =
    let words : AreWords op_text (written_ops t.ops) = op-words t.frames (written_ops t.ops) (All-take (HasOpNumbers t.frames) 4096 t.ops is.numbers) in
    let base : t.base < 2 ^ 63 = let le = is.base in omega (arith, le) in
    let frames : t.frames < 2 ^ 63 = let le = is.buffer.1 in omega (arith, le) in
    let scale : t.scale < 2 ^ 63 = let le = is.scale in omega (arith, le) in
    subst (λ (text : List ℕ). Wrote true (header ∷ (track_lines t ++ es)) text) (sym (track-whole t rest))
    (then_line true header _ (codes "\n[[track]]\n") _ header_written
    (then_number true key.Base t.base _ _ base
    (then_number true key.Channels (channels_of t.mono) _ _ (few-channels t.mono)
    (then_word true key.File t.file _ _ (name-word t.file is.name)
    (then_number true key.Frames t.frames _ _ frames
    (then_word true key.Kind (kind_text t.fast) _ _ (kind-word t.fast)
    (then_array true key.Ops op_text (written_ops t.ops) _ _ words
    (then_number true key.Scale t.scale es rest scale more))))))))

tracks-written : (ts : List TrackSpec) → All IsTrack ts → Wrote true (all_lines ts) (flat_map track_text ts)
tracks-written [] all = record { lines = refl }
tracks-written (t ∷ ts) all =
    track-written t (All-head IsTrack t ts all) (all_lines ts) (flat_map track_text ts) (tracks-written ts (All-tail IsTrack t ts all))

-- ## The whole text

are-tables : (ts : List TrackSpec) → are_tables (track_items ts) ≡ true
are-tables [] = refl
are-tables (t ∷ ts) = are-tables ts

a_section : (ts : List TrackSpec) → 1 ≤ length ts → is_section (array (track_items ts)) ≡ true
a_section [] some = absurd (omega arith)
a_section (t ∷ ts) some = are-tables ts

under-track : (ts : List TrackSpec) → section ([], codes "track") (array (track_items ts)) ≡ all_lines ts
under-track ts = let e : are_tables (track_items ts) ≡ true = are-tables ts in rw e (elements-lines ts)

abbrev top_lines : ScriptData → List Expression → List Expression
top_lines s es =
    line_of key.Cycles (integer (pos s.cycles)) ∷ line_of key.Frames (integer (pos s.frames)) ∷ line_of key.Normal (integer (pos s.normal))
    ∷ line_of key.Turns (array (text_items turn_text s.turns)) ∷ line_of key.Version (integer (pos s.version)) ∷ es

top-pairs : (s : ScriptData) → 1 ≤ length s.tracks → pairs (script_tree s) ≡ top_lines s []
top-pairs s some =
    let e : is_section (array (track_items s.tracks)) ≡ true = a_section s.tracks some in
    let f : texts_inline turn_text s.turns = inline turn_text s.turns in
    rw (e, f) refl

top-below : (s : ScriptData) → sections [] (script_tree s) ≡ all_lines s.tracks
top-below s =
    let e : section ([], codes "turns") (array (text_items turn_text s.turns)) ≡ [] = under_none turn_text s.turns [] (codes "turns") in
    ap (λ es. section ([], codes "track") (array (track_items s.tracks)) ++ (es ++ [])) e
    ∙ append-nil (section ([], codes "track") (array (track_items s.tracks)))
    ∙ under-track s.tracks

all-expressions : (s : ScriptData) → 1 ≤ length s.tracks → expressions (script_tree s) ≡ top_lines s (all_lines s.tracks)
all-expressions s some = ap (λ es. es ++ sections [] (script_tree s)) (top-pairs s some) ∙ ap (top_lines s) (top-below s)

five : (a b c d e rest : List ℕ) → (a ++ (b ++ (c ++ (d ++ e)))) ++ rest ≡ a ++ (b ++ (c ++ (d ++ (e ++ rest))))
five a b c d e rest = simp append_assoc

top-whole : (s : ScriptData) (rest : List ℕ) → top_text s ++ rest
    ≡ number_line key.Cycles s.cycles ++ (number_line key.Frames s.frames ++ (number_line key.Normal s.normal ++ (pair_line key.Turns (array_text turn_text s.turns) ++ (number_line key.Version s.version ++ rest))))
unfolding top_text
top-whole s rest =
    five (number_line key.Cycles s.cycles) (number_line key.Frames s.frames) (number_line key.Normal s.normal) (pair_line key.Turns (array_text turn_text s.turns)) (number_line key.Version s.version) rest

script-written : (s : ScriptData) → IsScript s → Wrote false (top_lines s (all_lines s.tracks)) (printed_script s)
script-written s is =
    let words : AreWords turn_text s.turns = turn-words (length s.tracks) s.turns is.track_count.1 is.turns in
    let version : s.version < 2 ^ 63 = let le = is.version.1 in omega (arith, le) in
    let frames : s.frames < 2 ^ 63 = let le = is.frames.1 in omega (arith, le) in
    let normal : s.normal < 2 ^ 63 = let le = is.normal.1 in omega (arith, le) in
    let cycles : s.cycles < 2 ^ 63 = let le = is.cycles.1 in omega (arith, le) in
    subst (λ (text : List ℕ). Wrote false (top_lines s (all_lines s.tracks)) text) (sym (top-whole s (flat_map track_text s.tracks)))
    (then_number false key.Cycles s.cycles _ _ cycles
    (then_number true key.Frames s.frames _ _ frames
    (then_number true key.Normal s.normal _ _ normal
    (then_array true key.Turns turn_text s.turns _ _ words
    (then_number true key.Version s.version (all_lines s.tracks) (flat_map track_text s.tracks) version (tracks-written s.tracks is.tracks))))))

document : (s : ScriptData) → IsScript s → IsDocumentText false (script_tree s) (printed_script s)
document s is =
    subst (λ (es : List Expression). IsLinesText false false es (printed_script s)) (sym (all-expressions s is.track_count.0)) (script-written s is).lines

-- ## The tree is one that is read back

flat-items : {X : Type 0} (text : X → List ℕ) (xs : List X) → items_depth (text_items text xs) ≡ 0
flat-items text [] = refl
flat-items text (x ∷ xs) = let e : items_depth (text_items text xs) ≡ 0 = flat-items text xs in rw e refl

flat-track : (t : TrackSpec) → members_depth (track_tree t) ≡ 1
flat-track t = let e : items_depth (text_items op_text (written_ops t.ops)) ≡ 0 = flat-items op_text (written_ops t.ops) in rw e refl

flat-tracks : (ts : List TrackSpec) → items_depth (track_items ts) ≤ 2
flat-tracks [] = omega arith
flat-tracks (t ∷ ts) =
    let e : members_depth (track_tree t) ≡ 1 = flat-track t in
    let f : items_depth (track_items ts) ≤ 2 = flat-tracks ts in
    rw e (omega (arith, f))

flat-script : (s : ScriptData) → members_depth (script_tree s) ≤ 80
flat-script s =
    let e : items_depth (text_items turn_text s.turns) ≡ 0 = flat-items turn_text s.turns in
    let f : items_depth (track_items s.tracks) ≤ 2 = flat-tracks s.tracks in
    rw e (omega (arith, f))

valid-items : {X : Type 0} (text : X → List ℕ) (xs : List X) → items_have_valid_dates (text_items text xs) ≡ true
valid-items text [] = refl
valid-items text (x ∷ xs) = valid-items text xs

valid-track : (t : TrackSpec) → members_have_valid_dates (track_tree t) ≡ true
valid-track t = let e : items_have_valid_dates (text_items op_text (written_ops t.ops)) ≡ true = valid-items op_text (written_ops t.ops) in rw e refl

valid-tracks : (ts : List TrackSpec) → items_have_valid_dates (track_items ts) ≡ true
valid-tracks [] = refl
valid-tracks (t ∷ ts) =
    let e : members_have_valid_dates (track_tree t) ≡ true = valid-track t in
    rw e (valid-tracks ts)

valid-script : (s : ScriptData) → members_have_valid_dates (script_tree s) ≡ true
valid-script s =
    let e : items_have_valid_dates (track_items s.tracks) ≡ true = valid-tracks s.tracks in
    let f : items_have_valid_dates (text_items turn_text s.turns) ≡ true = valid-items turn_text s.turns in
    rw (e, f) refl

sorted-items : {X : Type 0} (text : X → List ℕ) (xs : List X) → items_are_sorted (text_items text xs) ≡ true
sorted-items text [] = refl
sorted-items text (x ∷ xs) = sorted-items text xs

sorted-track : (t : TrackSpec) → members_are_sorted (track_tree t) ≡ true
sorted-track t = let e : items_are_sorted (text_items op_text (written_ops t.ops)) ≡ true = sorted-items op_text (written_ops t.ops) in rw e refl

sorted-tracks : (ts : List TrackSpec) → items_are_sorted (track_items ts) ≡ true
sorted-tracks [] = refl
sorted-tracks (t ∷ ts) =
    let e : members_are_sorted (track_tree t) ≡ true = sorted-track t in
    rw e (sorted-tracks ts)

sorted-script : (s : ScriptData) → members_are_sorted (script_tree s) ≡ true
sorted-script s =
    let e : items_are_sorted (track_items s.tracks) ≡ true = sorted-tracks s.tracks in
    let f : items_are_sorted (text_items turn_text s.turns) ≡ true = sorted-items turn_text s.turns in
    rw (e, f) refl

-- the printed text of a script is read as its tree
pub printed-tree : (s : ScriptData) → IsScript s → parse_document (printed_script s) ≡ Some (script_tree s)
printed-tree s is = parse_document-printed false (script_tree s) (printed_script s) (document s is) (flat-script s) (valid-script s) (sorted-script s)
