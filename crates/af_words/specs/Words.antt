-- The words after the program's name, as a simple command of `clap` reads them.
use Rattle.std.specs.Prelude.{ℕ, true, false, List, [], ◌∷◌, ◌++◌, codes, map, Option, Some, None, option_and_then, if◌then◌else◌}
use Rattle.std.specs.Str.{bytes_eq}
use Rattle.clap.specs.Walk.{Row, Rule, Text, first_of}
use Rattle.clap.specs.Simple.{App, Shape, new_rule, new_shape}
use Rattle.af_words.specs.Requests.{Request, render_request, record_request, loop_request, generate_request, play_request, verify_request, trace_request}

-- an argument that can't be left out
abbrev pub needed : List ℕ → Rule
needed id = record (new_rule id) { required = true }

-- a command with more arguments
abbrev pub with_rules : Shape → List Rule → Shape
with_rules shape rules = record shape { rules = shape.rules ++ rules }

-- a subcommand with these arguments, none of which can be left out
abbrev pub command_words : List ℕ → List (List ℕ) → Shape
command_words name ids = record (new_shape name) { rules = map needed ids }

-- the subcommand `render SCRIPT OUT`
abbrev pub render_words : Shape
render_words = command_words (codes "render") (codes "script" ∷ codes "out" ∷ [])

-- the subcommand `record IN OUT N F K`
abbrev pub record_words : Shape
record_words = command_words (codes "record") (codes "in" ∷ codes "out" ∷ codes "room" ∷ codes "supply" ∷ codes "read" ∷ [])

-- the subcommand `loop IN OUT F K START END COUNT`
abbrev pub loop_words : Shape
loop_words = command_words (codes "loop") (codes "in" ∷ codes "out" ∷ codes "places" ∷ codes "calls" ∷ codes "start" ∷ codes "end" ∷ codes "count" ∷ [])

-- the subcommand `generate NUMBER SCRIPT OUT`
abbrev pub generate_words : Shape
generate_words = command_words (codes "generate") (codes "number" ∷ codes "script" ∷ codes "out" ∷ [])

-- the subcommand `play SCRIPT OUT JOURNAL`
abbrev pub play_words : Shape
play_words = command_words (codes "play") (codes "script" ∷ codes "out" ∷ codes "journal" ∷ [])

-- the subcommand `verify SCRIPT OUT JOURNAL`
abbrev pub verify_words : Shape
verify_words = command_words (codes "verify") (codes "script" ∷ codes "out" ∷ codes "journal" ∷ [])

-- the subcommand `trace SCRIPT OUT JOURNAL LOG ROOM`
abbrev pub trace_words : Shape
trace_words = command_words (codes "trace") (codes "script" ∷ codes "out" ∷ codes "journal" ∷ codes "log" ∷ codes "room" ∷ [])

-- a command with subcommands of its own, and no help
abbrev pub bare_words : App
bare_words = record {
  top = record (new_shape (codes "af_player")) {
    no_binary_name = true;
    disable_help_flag = true;
    disable_help_subcommand = true;
    subcommand_required = true;
  };
  subs = [];
}

-- the command: one of its subcommands, and no help
abbrev pub player_words : App
player_words = record {
  top = record (new_shape (codes "af_player")) {
    is_leaf = false;
    no_binary_name = true;
    disable_help_flag = true;
    disable_help_subcommand = true;
    subcommand_required = true;
  };
  subs = render_words ∷ record_words ∷ loop_words ∷ generate_words ∷ play_words ∷ verify_words ∷ trace_words ∷ [];
}

-- the value of an argument, and what is made of it
abbrev pub with_value : List ℕ → List Row → (List ℕ → Option Request) → Option Request
with_value id rows next = option_and_then next (first_of id rows)

-- the request among the matches of `render`
abbrev pub render_met : List Row → Option Request
render_met rows = with_value (codes "script") rows (λ script. with_value (codes "out") rows (λ target. render_request (script ∷ target ∷ [])))

-- the request among the matches of `record`
abbrev pub record_met : List Row → Option Request
record_met rows =
    with_value (codes "in") rows (λ input. with_value (codes "out") rows (λ target. with_value (codes "room") rows (λ room.
    with_value (codes "supply") rows (λ supply. with_value (codes "read") rows (λ read. record_request (input ∷ target ∷ room ∷ supply ∷ read ∷ []))))))

-- the request among the matches of `loop`
abbrev pub loop_met : List Row → Option Request
loop_met rows =
    with_value (codes "in") rows (λ input. with_value (codes "out") rows (λ target. with_value (codes "places") rows (λ places. with_value (codes "calls") rows (λ calls.
    with_value (codes "start") rows (λ start. with_value (codes "end") rows (λ end. with_value (codes "count") rows (λ count.
    loop_request (input ∷ target ∷ places ∷ calls ∷ start ∷ end ∷ count ∷ []))))))))

-- the request among the matches of `generate`
abbrev pub generate_met : List Row → Option Request
generate_met rows = with_value (codes "number") rows (λ number. with_value (codes "script") rows (λ script. with_value (codes "out") rows (λ target. generate_request (number ∷ script ∷ target ∷ []))))

-- the request among the matches of `play`
abbrev pub play_met : List Row → Option Request
play_met rows =
    with_value (codes "script") rows (λ script. with_value (codes "out") rows (λ target. with_value (codes "journal") rows (λ journal. play_request (script ∷ target ∷ journal ∷ []))))

-- the request among the matches of `verify`
abbrev pub verify_met : List Row → Option Request
verify_met rows =
    with_value (codes "script") rows (λ script. with_value (codes "out") rows (λ sound. with_value (codes "journal") rows (λ journal. verify_request (script ∷ sound ∷ journal ∷ []))))

-- the request among the matches of `trace`
abbrev pub trace_met : List Row → Option Request
trace_met rows =
    with_value (codes "script") rows (λ script. with_value (codes "out") rows (λ target. with_value (codes "journal") rows (λ journal. with_value (codes "log") rows (λ log. with_value (codes "room") rows (λ room.
    trace_request (script ∷ target ∷ journal ∷ log ∷ room ∷ []))))))

-- the request among the matches of a subcommand
abbrev pub matched_request : Option (Text × List Row) → Option Request
matched_request None = None
matched_request (Some met) =
    if bytes_eq met.0 (codes "render") then render_met met.1
    else if bytes_eq met.0 (codes "record") then record_met met.1
    else if bytes_eq met.0 (codes "loop") then loop_met met.1
    else if bytes_eq met.0 (codes "generate") then generate_met met.1
    else if bytes_eq met.0 (codes "play") then play_met met.1
    else if bytes_eq met.0 (codes "verify") then verify_met met.1
    else if bytes_eq met.0 (codes "trace") then trace_met met.1
    else None
