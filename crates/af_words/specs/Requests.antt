-- What the words ask for.
use Rattle.std.specs.Prelude.{ℕ, ◌&&◌, ◌||◌, not, Bool, List, [], ◌∷◌, codes, Option, Some, None, option_and_then, option_map, if◌then◌else◌}
use Rattle.std.specs.List.{list_any, range_with_len}
use Rattle.std.specs.Str.{bytes_eq}
use Rattle.af_script.specs.Generated.{generated_name}
use Rattle.af_script.specs.Text.{is_name, number_within}
use Rattle.af_words.specs.declared.request.Sizes.{Sizes}
use Rattle.af_words.specs.declared.request.Turns.{Turns}
use Rattle.af_words.specs.Dash.{begins_dash}

-- a script and an output to render it to; a file to record, an output, and the sizes of the recording; a file to loop, an output, and the turns of the loop; the number of a session, a file for its script, and an output; a script, an output to play it to, and a file for its journal; a script, and the files of a sound and of a journal to be judged; a script, an output to play it to, files for its journal and its log, and the room of the log
pub data Request : Type 0 where
  Render : List ℕ → List ℕ → Request
  Record : List ℕ → List ℕ → Sizes → Request
  Loop : List ℕ → List ℕ → Turns → Request
  Generate : ℕ → List ℕ → List ℕ → Request
  Play : List ℕ → List ℕ → List ℕ → Request
  Verify : List ℕ → List ℕ → List ℕ → Request
  Trace : List ℕ → List ℕ → List ℕ → List ℕ → ℕ → Request

-- two names of files that differ
abbrev pub two_names : List ℕ → List ℕ → Option (List ℕ × List ℕ)
two_names first second = if (is_name first && is_name second) && not (bytes_eq first second) then Some (first, second) else None

-- three names of files, no two alike
abbrev pub are_three_names : List ℕ → List ℕ → List ℕ → Bool
are_three_names first second third =
    ((((is_name first && is_name second) && is_name third) && not (bytes_eq first second)) && not (bytes_eq first third)) && not (bytes_eq second third)

-- four names of files, no two alike
abbrev pub are_four_names : List ℕ → List ℕ → List ℕ → List ℕ → Bool
are_four_names first second third fourth =
    (((are_three_names first second third && is_name fourth) && not (bytes_eq first fourth)) && not (bytes_eq second fourth)) && not (bytes_eq third fourth)

-- the sizes that these words spell: room for 1 to 8192 frames, and 1 to 1024 frames in each supply and each read
abbrev pub sizes_of : List ℕ → List ℕ → List ℕ → Option Sizes
sizes_of room supply read =
    option_and_then (λ n. option_and_then (λ f. option_map (λ k. record { room = n; supply = f; read = k }) (number_within 1 1024 read)) (number_within 1 1024 supply)) (number_within 1 8192 room)

-- the calls and the setting that these words spell: 1 to 1024 places, 1 to 2048 calls, and three numbers of 32 bits
abbrev pub turns_of : List ℕ → List ℕ → List ℕ → List ℕ → List ℕ → Option Turns
turns_of places calls start end count =
    option_and_then (λ f. option_and_then (λ k. option_and_then (λ s. option_and_then (λ e. option_map (λ c. record { places = f; calls = k; start = s; end = e; count = c })
    (number_within 0 4294967295 count)) (number_within 0 4294967295 end)) (number_within 0 4294967295 start)) (number_within 1 2048 calls)) (number_within 1 1024 places)

-- the name of one of the files that the generator draws
abbrev pub is_drawn : List ℕ → Bool
is_drawn name = list_any (λ track. bytes_eq name (generated_name track)) (range_with_len 0 8)

-- two names of files that differ, and that the generator doesn't draw
abbrev pub free_names : List ℕ → List ℕ → Option (List ℕ × List ℕ)
free_names first second = if is_drawn first || is_drawn second then None else two_names first second

-- `render SCRIPT OUT`
abbrev pub render_request : List (List ℕ) → Option Request
render_request (script ∷ target ∷ []) = option_map (λ names. Render names.0 names.1) (two_names script target)
render_request words = None

-- `record IN OUT N F K`
abbrev pub record_request : List (List ℕ) → Option Request
record_request (input ∷ target ∷ room ∷ supply ∷ read ∷ []) =
    option_and_then (λ names. option_map (λ sizes. Record names.0 names.1 sizes) (sizes_of room supply read)) (two_names input target)
record_request words = None

-- `loop IN OUT F K START END COUNT`
abbrev pub loop_request : List (List ℕ) → Option Request
loop_request (input ∷ target ∷ places ∷ calls ∷ start ∷ end ∷ count ∷ []) =
    option_and_then (λ names. option_map (λ turns. Loop names.0 names.1 turns) (turns_of places calls start end count)) (two_names input target)
loop_request words = None

-- `generate NUMBER SCRIPT OUT`, with the number of a session
abbrev pub generate_request : List (List ℕ) → Option Request
generate_request (number ∷ script ∷ target ∷ []) = option_and_then (λ n. option_map (λ names. Generate n names.0 names.1) (free_names script target)) (number_within 0 2147483647 number)
generate_request words = None

-- `play SCRIPT OUT JOURNAL`
abbrev pub play_request : List (List ℕ) → Option Request
play_request (script ∷ target ∷ journal ∷ []) = if are_three_names script target journal then Some (Play script target journal) else None
play_request words = None

-- `verify SCRIPT OUT JOURNAL`
abbrev pub verify_request : List (List ℕ) → Option Request
verify_request (script ∷ sound ∷ journal ∷ []) = if are_three_names script sound journal then Some (Verify script sound journal) else None
verify_request words = None

-- `trace SCRIPT OUT JOURNAL LOG ROOM`, with room for 1 to 1024 notes
abbrev pub trace_request : List (List ℕ) → Option Request
trace_request (script ∷ target ∷ journal ∷ log ∷ room ∷ []) = if are_four_names script target journal log then option_map (λ n. Trace script target journal log n) (number_within 1 1024 room) else None
trace_request words = None

-- the command and its words
abbrev pub command_request : List (List ℕ) → Option Request
command_request [] = None
command_request (command ∷ words) =
    if bytes_eq command (codes "render") then render_request words
    else if bytes_eq command (codes "record") then record_request words
    else if bytes_eq command (codes "loop") then loop_request words
    else if bytes_eq command (codes "generate") then generate_request words
    else if bytes_eq command (codes "play") then play_request words
    else if bytes_eq command (codes "verify") then verify_request words
    else if bytes_eq command (codes "trace") then trace_request words
    else None

-- the request of words none of which begins with `-`
abbrev pub request_of : List (List ℕ) → Option Request
request_of words = if list_any begins_dash words then None else command_request words
