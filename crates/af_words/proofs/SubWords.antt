-- What each subcommand makes of words that don't begin with `-`: of as many as it has arguments, and of fewer or more.
use Rattle.std.proofs.Common.{◌≡◌, ◌⊎◌, inl, inr, ℕ, true, false, List, [], ◌∷◌, Option, Some, None, refl, codes}
use Rattle.std.specs.List.{find, list_all, slice_index_or}
use Rattle.clap.specs.Walk.{Names, Text, answers_to, is_empty, walked}
use Rattle.clap.specs.Simple.{Shape, built, label_of, names_of as labels_of}
use Rattle.clap.specs.Faults.{turn_fault}
use Rattle.clap.proofs.OnLiterals.{clap_on_literals}
use Rattle.af_words.specs.Requests.{Request, command_request, render_request, record_request, loop_request, generate_request, play_request, verify_request, trace_request}
use Rattle.af_words.specs.Words.{matched_request, player_words, render_words}
use Rattle.af_words.proofs.PlainWords.{start, takes_one, value_level, value_rows}

-- the command as it is built, and its subcommands by their places
abbrev pub top : Shape
top = (built player_words).top

abbrev pub labels : Names
labels = labels_of (built player_words)

abbrev sub : ℕ → Shape
sub place = slice_index_or (built player_words).subs place render_words

-- the words of a subcommand pass, and ask for what is found, or fail, and ask for nothing
abbrev pub AreMet : Text → Shape → (List Text → Option Request) → List Text → Type 0
AreMet name shape asked words =
    ((value_level shape words ≡ []) × (matched_request (Some (name, value_rows shape words)) ≡ asked words))
    ⊎ ((is_empty (value_level shape words) ≡ false) × (asked words ≡ None))

-- the walk stops at the name of a subcommand, which is found by it, and whose arguments take a word each
pub record IsSub (name : Text) (shape : Shape) (asked : List Text → Option Request) : Type 0 where
  pub passes : turn_fault top labels start name ≡ []
  pub stops : walked top.rules labels start name ≡ record start { stopped = Some (name, []) }
  pub found : find (λ s. answers_to name (label_of s)) (built player_words).subs ≡ Some shape
  pub named : shape.name ≡ name
  pub single : list_all takes_one shape.rules ≡ true
  pub met : (words : List Text) → AreMet name shape asked words
  pub request : (words : List Text) → command_request (name ∷ words) ≡ asked words

render_cases : (words : List Text) → AreMet (codes "render") (sub 0) render_request words
unfolding clap_on_literals
render_cases [] = inr (refl, refl)
render_cases (script ∷ []) = inr (refl, refl)
render_cases (script ∷ target ∷ []) = inl (refl, refl)
render_cases (script ∷ target ∷ more ∷ rest) = inr (refl, refl)

pub render_sub : IsSub (codes "render") (sub 0) render_request
unfolding clap_on_literals
render_sub = record { passes = refl; stops = refl; found = refl; named = refl; single = refl; met = render_cases; request = λ words. refl }

record_cases : (words : List Text) → AreMet (codes "record") (sub 1) record_request words
unfolding clap_on_literals
record_cases [] = inr (refl, refl)
record_cases (input ∷ []) = inr (refl, refl)
record_cases (input ∷ target ∷ []) = inr (refl, refl)
record_cases (input ∷ target ∷ room ∷ []) = inr (refl, refl)
record_cases (input ∷ target ∷ room ∷ supply ∷ []) = inr (refl, refl)
record_cases (input ∷ target ∷ room ∷ supply ∷ read ∷ []) = inl (refl, refl)
record_cases (input ∷ target ∷ room ∷ supply ∷ read ∷ more ∷ rest) = inr (refl, refl)

pub record_sub : IsSub (codes "record") (sub 1) record_request
unfolding clap_on_literals
record_sub = record { passes = refl; stops = refl; found = refl; named = refl; single = refl; met = record_cases; request = λ words. refl }

loop_cases : (words : List Text) → AreMet (codes "loop") (sub 2) loop_request words
unfolding clap_on_literals
loop_cases [] = inr (refl, refl)
loop_cases (input ∷ []) = inr (refl, refl)
loop_cases (input ∷ target ∷ []) = inr (refl, refl)
loop_cases (input ∷ target ∷ places ∷ []) = inr (refl, refl)
loop_cases (input ∷ target ∷ places ∷ calls ∷ []) = inr (refl, refl)
loop_cases (input ∷ target ∷ places ∷ calls ∷ first ∷ []) = inr (refl, refl)
loop_cases (input ∷ target ∷ places ∷ calls ∷ first ∷ last ∷ []) = inr (refl, refl)
loop_cases (input ∷ target ∷ places ∷ calls ∷ first ∷ last ∷ count ∷ []) = inl (refl, refl)
loop_cases (input ∷ target ∷ places ∷ calls ∷ first ∷ last ∷ count ∷ more ∷ rest) = inr (refl, refl)

pub loop_sub : IsSub (codes "loop") (sub 2) loop_request
unfolding clap_on_literals
loop_sub = record { passes = refl; stops = refl; found = refl; named = refl; single = refl; met = loop_cases; request = λ words. refl }

generate_cases : (words : List Text) → AreMet (codes "generate") (sub 3) generate_request words
unfolding clap_on_literals
generate_cases [] = inr (refl, refl)
generate_cases (number ∷ []) = inr (refl, refl)
generate_cases (number ∷ script ∷ []) = inr (refl, refl)
generate_cases (number ∷ script ∷ target ∷ []) = inl (refl, refl)
generate_cases (number ∷ script ∷ target ∷ more ∷ rest) = inr (refl, refl)

pub generate_sub : IsSub (codes "generate") (sub 3) generate_request
unfolding clap_on_literals
generate_sub = record { passes = refl; stops = refl; found = refl; named = refl; single = refl; met = generate_cases; request = λ words. refl }

play_cases : (words : List Text) → AreMet (codes "play") (sub 4) play_request words
unfolding clap_on_literals
play_cases [] = inr (refl, refl)
play_cases (script ∷ []) = inr (refl, refl)
play_cases (script ∷ target ∷ []) = inr (refl, refl)
play_cases (script ∷ target ∷ journal ∷ []) = inl (refl, refl)
play_cases (script ∷ target ∷ journal ∷ more ∷ rest) = inr (refl, refl)

pub play_sub : IsSub (codes "play") (sub 4) play_request
unfolding clap_on_literals
play_sub = record { passes = refl; stops = refl; found = refl; named = refl; single = refl; met = play_cases; request = λ words. refl }

verify_cases : (words : List Text) → AreMet (codes "verify") (sub 5) verify_request words
unfolding clap_on_literals
verify_cases [] = inr (refl, refl)
verify_cases (script ∷ []) = inr (refl, refl)
verify_cases (script ∷ sound ∷ []) = inr (refl, refl)
verify_cases (script ∷ sound ∷ journal ∷ []) = inl (refl, refl)
verify_cases (script ∷ sound ∷ journal ∷ more ∷ rest) = inr (refl, refl)

pub verify_sub : IsSub (codes "verify") (sub 5) verify_request
unfolding clap_on_literals
verify_sub = record { passes = refl; stops = refl; found = refl; named = refl; single = refl; met = verify_cases; request = λ words. refl }

trace_cases : (words : List Text) → AreMet (codes "trace") (sub 6) trace_request words
unfolding clap_on_literals
trace_cases [] = inr (refl, refl)
trace_cases (script ∷ []) = inr (refl, refl)
trace_cases (script ∷ target ∷ []) = inr (refl, refl)
trace_cases (script ∷ target ∷ journal ∷ []) = inr (refl, refl)
trace_cases (script ∷ target ∷ journal ∷ log ∷ []) = inr (refl, refl)
trace_cases (script ∷ target ∷ journal ∷ log ∷ room ∷ []) = inl (refl, refl)
trace_cases (script ∷ target ∷ journal ∷ log ∷ room ∷ more ∷ rest) = inr (refl, refl)

pub trace_sub : IsSub (codes "trace") (sub 6) trace_request
unfolding clap_on_literals
trace_sub = record { passes = refl; stops = refl; found = refl; named = refl; single = refl; met = trace_cases; request = λ words. refl }
