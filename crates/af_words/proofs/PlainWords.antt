-- Words that don't begin with `-` are values, or name a subcommand.
use Rattle.std.proofs.Common.{◌≡◌, ◌∙◌, ◌&&◌, not, ℕ, Bool, true, false, List, [], ◌∷◌, Option, Some, None, IfSome, cond, refl, ap, ap₂}
use Rattle.std.specs.Prelude.{fold}
use Rattle.std.specs.List.{find, list_all, list_any}
use Rattle.af_base.proofs.Basics.{neither}
use Rattle.clap.specs.Walk.{Held, Row, Rule, Step, Text, Walk, after_step, arg_by_index, finished, idle, is_multiple, nothing_held, settled, subcommand_or_other, to_positional, value, walk, walk_from, walked}
use Rattle.clap.specs.Simple.{Shape}
use Rattle.clap.specs.Kinds.{Kinds, or_else}
use Rattle.clap.specs.Faults.{check_fault, defaults_fault, level_fault, other_fault, settle_fault, step_fault, turn_fault, walk_fault}
use Rattle.clap.proofs.SimpleLemmas.{is_false}
use Rattle.clap.proofs.WalkLemmas.{both}
use Rattle.af_words.specs.Dash.{begins_dash}

-- a word that is no subcommand and doesn't begin with `-` is a value
pub met_value : (rules : List Rule) (position : ℕ) (word : Text) (held : Held) → begins_dash word ≡ false
    → subcommand_or_other rules None idle position word held ≡ (held, value)
met_value rules position [] held plain = refl
met_value rules position (c ∷ rest) held plain = rw plain (rw plain refl)

pub met_faultless : (shape : Shape) (word : Text) (held : Held) → begins_dash word ≡ false → other_fault shape None word held ≡ []
met_faultless shape [] held plain = refl
met_faultless shape (c ∷ rest) held plain = rw plain (rw plain refl)

-- ---- what fails first

pub nil_first : (a b : Kinds) → or_else a b ≡ [] → a ≡ []
nil_first [] b none = refl
nil_first (k ∷ ks) b none = cc

-- what is looked at behind the words
abbrev pub end_fault : Shape → Held → Bool → Kinds
end_fault shape held entered = or_else (settle_fault shape.rules shape.args_override_self held)
    (or_else (defaults_fault (settled shape.rules held).rows shape.rules) (check_fault shape (finished shape.rules held) entered))

-- ---- the level of a subcommand whose arguments take one word each

-- where a walk begins, and where it stands before a word
abbrev pub start : Walk
start = walk_from nothing_held

abbrev standing : Held → ℕ → Walk
standing held position = record { held = held; waiting = idle; position = position; is_trailing = false; stopped = None }

-- an argument takes one word, and those behind it are read as before
abbrev pub takes_one : Rule → Bool
takes_one rule = not (is_multiple rule) && not rule.trailing_var_arg

first_takes_one : (test : Rule → Bool) (rules : List Rule) → list_all takes_one rules ≡ true → IfSome (find test rules) (λ rule. takes_one rule ≡ true)
first_takes_one test [] all = tt
first_takes_one test (rule ∷ rest) all = go (test rule) (first_takes_one test rest parts.1)
  where
    parts : (takes_one rule ≡ true) × (list_all takes_one rest ≡ true)
    parts = both (takes_one rule) (list_all takes_one rest) all

    go : (here : Bool) → IfSome (find test rest) (λ rule. takes_one rule ≡ true) → IfSome (cond here (Some rule) (find test rest)) (λ rule. takes_one rule ≡ true)
    go true behind = parts.0
    go false behind = behind

module _ (shape : Shape) where
  -- the walk behind a word that is a value
  abbrev pub at_value : Walk → Text → Walk
  at_value w word = standing (after_step shape.rules word w w.held value).held (after_step shape.rules word w w.held value).position

  -- how words fail that are all values
  abbrev pub value_faults : Walk → List Text → Kinds
  value_faults w [] = []
  value_faults w (word ∷ rest) = or_else (step_fault shape w.position w.held value) (value_faults (at_value w word) rest)

  -- how the level fails if all words are values, and what it finds
  abbrev pub value_level : List Text → Kinds
  value_level words = or_else (value_faults start words) (end_fault shape (fold at_value start words).held false)

  abbrev pub value_rows : List Text → List Row
  value_rows words = finished shape.rules (fold at_value start words).held

module _ (shape : Shape) (single : list_all takes_one shape.rules ≡ true) where
  stands : (held : Held) (position : ℕ) (word : Text) (met : Option Rule) → IfSome met (λ rule. takes_one rule ≡ true)
      → to_positional shape.rules met word (standing held position) held
      ≡ standing (to_positional shape.rules met word (standing held position) held).held (to_positional shape.rules met word (standing held position) held).position
  stands held position word None one = refl
  stands held position word (Some rule) one =
      let parts : (not (is_multiple rule) ≡ true) × (not rule.trailing_var_arg ≡ true) = both (not (is_multiple rule)) (not rule.trailing_var_arg) one in
      let alone : is_multiple rule ≡ false = is_false (is_multiple rule) parts.0 in
      let closed : rule.trailing_var_arg ≡ false = is_false rule.trailing_var_arg parts.1 in
      rw (alone, closed) refl

  value_walked : (held : Held) (position : ℕ) (word : Text) → begins_dash word ≡ false
      → walked shape.rules [] (standing held position) word ≡ at_value shape (standing held position) word
  unfolding walked
  value_walked held position word plain =
      ap (λ (met : Held × Step). after_step shape.rules word (standing held position) met.0 met.1) (met_value shape.rules position word held plain)
      ∙ stands held position word (arg_by_index shape.rules position) (first_takes_one _ shape.rules single)

  value_turn : (held : Held) (position : ℕ) (word : Text) → begins_dash word ≡ false
      → turn_fault shape [] (standing held position) word ≡ step_fault shape position held value
  value_turn held position word plain =
      ap₂ (λ (ks : Kinds) (met : Held × Step). or_else ks (step_fault shape position met.0 met.1)) (met_faultless shape word held plain) (met_value shape.rules position word held plain)

  values_walked : (held : Held) (position : ℕ) (words : List Text) → list_any begins_dash words ≡ false
      → fold (walked shape.rules []) (standing held position) words ≡ fold (at_value shape) (standing held position) words
  values_walked held position [] plain = refl
  values_walked held position (word ∷ rest) plain =
      let parts = neither (begins_dash word) (list_any begins_dash rest) plain in
      let behind = at_value shape (standing held position) word in
      ap (λ (w : Walk). fold (walked shape.rules []) w rest) (value_walked held position word parts.0) ∙ values_walked behind.held behind.position rest parts.1

  values_turned : (held : Held) (position : ℕ) (words : List Text) → list_any begins_dash words ≡ false
      → walk_fault shape [] (standing held position) words ≡ value_faults shape (standing held position) words
  unfolding walk_fault
  values_turned held position [] plain = refl
  values_turned held position (word ∷ rest) plain =
      let parts = neither (begins_dash word) (list_any begins_dash rest) plain in
      let behind = at_value shape (standing held position) word in
      ap₂ or_else (value_turn held position word parts.0)
      (ap (λ (w : Walk). walk_fault shape [] w rest) (value_walked held position word parts.0) ∙ values_turned behind.held behind.position rest parts.1)

  pub level_of_values : (words : List Text) → list_any begins_dash words ≡ false → level_fault shape [] nothing_held words false [] ≡ value_level shape words
  level_of_values words plain =
      ap₂ or_else (values_turned nothing_held 1 words plain) (ap (λ (w : Walk). end_fault shape w.held false) (values_walked nothing_held 1 words plain))

  pub rows_of_values : (words : List Text) → list_any begins_dash words ≡ false → finished shape.rules (walk shape.rules [] nothing_held words).held ≡ value_rows shape words
  rows_of_values words plain = ap (λ (w : Walk). finished shape.rules w.held) (values_walked nothing_held 1 words plain)
