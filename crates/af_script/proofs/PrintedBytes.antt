-- What is printed is text: its bytes are UTF-8.
use Rattle.std.proofs.Common.{◌≡◌, ℕ, ◌+◌, ◌^◌, ◌<◌, ◌≤◌, nat_lt, Bool, true, false, List, [], ◌∷◌, ◌++◌, length, flat_map, codes, decimal, All, refl, arith, IsUtf8, IsAscii}
use Rattle.af_script.proofs.Common.{All-head, All-tail, All-take, IsAscii-cons, IsAscii-nil, IsUtf8-append, IsUtf8-from_ascii, and_parts, is_utf8, is_utf8-from_IsUtf8, list_all, nat_tests}
use Rattle.af_script.specs.Tree.{key_text}
use Rattle.af_script.specs.Form.{HasOpNumbers, IsTrack, IsScript}
use Rattle.af_script.specs.Data.{ScriptData}
use Rattle.af_script.specs.Printing.{op_text, turn_text, kind_text, channels_of, written_ops, quoted, array_text, pair_line, number_line, text_line, source_text, use_text, track_text, top_text, printed_script}
use Rattle.af_script.specs.declared.track.TrackSpec.{TrackSpec}
use Rattle.af_script.specs.declared.fault.KeyId.{KeyId}
use Rattle.af_script.specs.declared.fault.KeyId.TheVariants as key
use Rattle.af_script.proofs.PrintedTexts.{IsWord, word-utf8, decimal-word, name-word, kind-word}
use Rattle.af_script.proofs.PrintedTree.{AreWords, more_texts, op-words, turn-words}

abbrev is_low : ℕ → Bool
is_low c = nat_lt c 128

low-ascii : (text : List ℕ) → list_all is_low text ≡ true → IsAscii text
low-ascii [] all = IsAscii-nil
low-ascii (c ∷ text) all =
    let (here, more) = and_parts (is_low c) (list_all is_low text) all in
    IsAscii-cons c text (grind (arith, nat_tests)) (low-ascii text more)

utf8_literal : (text : List ℕ) → list_all is_low text ≡ true → IsUtf8 text
utf8_literal text e = IsUtf8-from_ascii text (low-ascii text e)

key-utf8 : (id : KeyId) → IsUtf8 (key_text id)
key-utf8 key.Version = utf8_literal (codes "version") refl
key-utf8 key.Frames = utf8_literal (codes "frames") refl
key-utf8 key.Normal = utf8_literal (codes "normal") refl
key-utf8 key.Cycles = utf8_literal (codes "cycles") refl
key-utf8 key.Track = utf8_literal (codes "track") refl
key-utf8 key.Turns = utf8_literal (codes "turns") refl
key-utf8 key.Kind = utf8_literal (codes "kind") refl
key-utf8 key.Channels = utf8_literal (codes "channels") refl
key-utf8 key.File = utf8_literal (codes "file") refl
key-utf8 key.Ops = utf8_literal (codes "ops") refl
key-utf8 key.Base = utf8_literal (codes "base") refl
key-utf8 key.Scale = utf8_literal (codes "scale") refl

quoted-utf8 : (text : List ℕ) → IsWord text → IsUtf8 (quoted text)
quoted-utf8 text word = IsUtf8-append (codes "\"") (text ++ codes "\"") (utf8_literal (codes "\"") refl) (IsUtf8-append text (codes "\"") (word-utf8 text word) (utf8_literal (codes "\"") refl))

pair-utf8 : (id : KeyId) (value : List ℕ) → IsUtf8 value → IsUtf8 (pair_line id value)
unfolding pair_line
pair-utf8 id value is =
    IsUtf8-append (key_text id) (codes " = " ++ (value ++ codes "\n")) (key-utf8 id)
    (IsUtf8-append (codes " = ") (value ++ codes "\n") (utf8_literal (codes " = ") refl) (IsUtf8-append value (codes "\n") is (utf8_literal (codes "\n") refl)))

number-utf8 : (id : KeyId) (n : ℕ) → n < 2 ^ 64 → IsUtf8 (number_line id n)
number-utf8 id n small = pair-utf8 id (decimal n) (word-utf8 (decimal n) (decimal-word n small))

text-utf8 : (id : KeyId) (text : List ℕ) → IsWord text → IsUtf8 (text_line id text)
text-utf8 id text word = pair-utf8 id (quoted text) (quoted-utf8 text word)

more-utf8 : {X : Type 0} (text : X → List ℕ) (xs : List X) → AreWords text xs → IsUtf8 (more_texts text xs)
more-utf8 text [] words = utf8_literal [] refl
more-utf8 text (x ∷ xs) (here, more) =
    IsUtf8-append (codes ", " ++ quoted (text x)) (more_texts text xs) (IsUtf8-append (codes ", ") (quoted (text x)) (utf8_literal (codes ", ") refl) (quoted-utf8 (text x) here)) (more-utf8 text xs more)

array-utf8 : {X : Type 0} (text : X → List ℕ) (xs : List X) → AreWords text xs → IsUtf8 (array_text text xs)
array-utf8 text [] words = utf8_literal (codes "[]") refl
array-utf8 text (x ∷ xs) (here, more) =
    IsUtf8-append (codes "[") (quoted (text x) ++ (more_texts text xs ++ codes "]")) (utf8_literal (codes "[") refl)
    (IsUtf8-append (quoted (text x)) (more_texts text xs ++ codes "]") (quoted-utf8 (text x) here)
    (IsUtf8-append (more_texts text xs) (codes "]") (more-utf8 text xs more) (utf8_literal (codes "]") refl)))

channels-small : (mono : Bool) → channels_of mono < 2 ^ 64
channels-small true = omega arith
channels-small false = omega arith

track-utf8 : (t : TrackSpec) → IsTrack t → IsUtf8 (track_text t)
unfolding track_text source_text use_text
track-utf8 t is =
    let words : AreWords op_text (written_ops t.ops) = op-words t.frames (written_ops t.ops) (All-take (HasOpNumbers t.frames) 4096 t.ops is.numbers) in
    let base : t.base < 2 ^ 64 = let le = is.base in omega (arith, le) in
    let frames : t.frames < 2 ^ 64 = let le = is.buffer.1 in omega (arith, le) in
    let scale : t.scale < 2 ^ 64 = let le = is.scale in omega (arith, le) in
    IsUtf8-append (codes "\n[[track]]\n") _ (utf8_literal (codes "\n[[track]]\n") refl)
    (IsUtf8-append _ _
    (IsUtf8-append _ _ (number-utf8 key.Base t.base base)
    (IsUtf8-append _ _ (number-utf8 key.Channels (channels_of t.mono) (channels-small t.mono))
    (IsUtf8-append _ _ (text-utf8 key.File t.file (name-word t.file is.name)) (number-utf8 key.Frames t.frames frames))))
    (IsUtf8-append _ _ (text-utf8 key.Kind (kind_text t.fast) (kind-word t.fast))
    (IsUtf8-append _ _ (pair-utf8 key.Ops (array_text op_text (written_ops t.ops)) (array-utf8 op_text (written_ops t.ops) words)) (number-utf8 key.Scale t.scale scale))))

tracks-utf8 : (ts : List TrackSpec) → All IsTrack ts → IsUtf8 (flat_map track_text ts)
tracks-utf8 [] all = utf8_literal [] refl
tracks-utf8 (t ∷ ts) all = IsUtf8-append (track_text t) (flat_map track_text ts) (track-utf8 t (All-head IsTrack t ts all)) (tracks-utf8 ts (All-tail IsTrack t ts all))

top-utf8 : (s : ScriptData) → IsScript s → IsUtf8 (top_text s)
unfolding top_text
top-utf8 s is =
    let words : AreWords turn_text s.turns = turn-words (length s.tracks) s.turns is.track_count.1 is.turns in
    let version : s.version < 2 ^ 64 = let le = is.version.1 in omega (arith, le) in
    let frames : s.frames < 2 ^ 64 = let le = is.frames.1 in omega (arith, le) in
    let normal : s.normal < 2 ^ 64 = let le = is.normal.1 in omega (arith, le) in
    let cycles : s.cycles < 2 ^ 64 = let le = is.cycles.1 in omega (arith, le) in
    IsUtf8-append _ _ (number-utf8 key.Cycles s.cycles cycles)
    (IsUtf8-append _ _ (number-utf8 key.Frames s.frames frames)
    (IsUtf8-append _ _ (number-utf8 key.Normal s.normal normal)
    (IsUtf8-append _ _ (pair-utf8 key.Turns (array_text turn_text s.turns) (array-utf8 turn_text s.turns words)) (number-utf8 key.Version s.version version))))

-- the printed text is text
pub printed-utf8 : (s : ScriptData) → IsScript s → is_utf8 (printed_script s) ≡ true
printed-utf8 s is = is_utf8-from_IsUtf8 (printed_script s) (IsUtf8-append (top_text s) (flat_map track_text s.tracks) (top-utf8 s is) (tracks-utf8 s.tracks is.tracks))
