-- What the command of the player makes of words that don't begin with `-`.
use Rattle.std.specs.Prelude.{fold, option_map, unwrap_or}
use Rattle.std.proofs.Common.{◌≡◌, ◌⊎◌, inl, inr, ◌∙◌, Bool, true, false, List, [], ◌∷◌, Option, Some, None, is_some, refl, sym, ap, ap₂, subst}
use Rattle.std.specs.List.{list_any}
use Rattle.std.specs.Option.{option_map_or}
use Rattle.std.specs.Str.{bytes_eq}
use Rattle.std.proofs.lemmas.Slice.Eq.{bytes_eq-Decides}
use Rattle.af_base.proofs.Basics.{neither}
use Rattle.clap.specs.Walk.{Held, Row, Step, Text, Walk, idle, is_empty, nothing_held, subcommand_met, subcommand_or_other, walk, walked}
use Rattle.clap.specs.Simple.{App, Shape, is_simple, built, entered, rows_at, subcommand_of}
use Rattle.clap.specs.Kinds.{IsAmong, Kinds, or_else}
use Rattle.clap.specs.Faults.{entered_fault, fault_of, is_simple_and_free, level_fault, other_fault, step_fault, turn_fault, walk_fault}
use Rattle.clap.specs.declared.error.kind.ErrorKind.{ErrorKind}
use Rattle.clap.specs.declared.error.kind.ErrorKind.TheVariants as kind
use Rattle.clap.proofs.OnLiterals.{clap_on_literals}
use Rattle.clap.proofs.WalkLemmas.{walk_stopped}
use Rattle.clap.proofs.FaultLemmas.{stopped_fault}
use Rattle.af_words.specs.Dash.{begins_dash}
use Rattle.af_words.specs.Requests.{Request, command_request, request_of}
use Rattle.af_words.specs.Words.{matched_request, player_words}
use Rattle.af_words.proofs.PlainWords.{end_fault, level_of_values, met_faultless, met_value, nil_first, rows_of_values, start, value_level, value_rows}
use Rattle.af_words.proofs.SubWords.{AreMet, IsSub, labels, top, render_sub, record_sub, loop_sub, generate_sub, play_sub, verify_sub, trace_sub}

-- the command is one of those whose matches and faults are known
pub player_told : is_simple_and_free player_words ≡ true
unfolding clap_on_literals
player_told = refl

-- what is found of words, and whether some fail, is what they ask for
abbrev Fits : List Text → Type 0
Fits words = (fault_of player_words words ≡ [] → matched_request (subcommand_of player_words words) ≡ command_request words)
    × ((fault_of player_words words ≡ [] → ⊥) → command_request words ≡ None)

or_nothing : (ks : Kinds) → or_else ks [] ≡ ks
or_nothing [] = refl
or_nothing (k ∷ ks) = refl

-- ---- words behind the name of a subcommand

module _ (name : Text) (shape : Shape) (asked : List Text → Option Request) (is : IsSub name shape asked) (rest : List Text) (plain : list_any begins_dash rest ≡ false) where
  -- the walk leaves the words behind the name to the subcommand
  abbrev Stopped : Walk
  Stopped = record start { stopped = Some (name, rest) }

  walk_stops : walk top.rules labels nothing_held (name ∷ rest) ≡ Stopped
  walk_stops = ap (λ (w : Walk). fold (walked top.rules labels) w rest) is.stops ∙ sym (walk_stopped top.rules labels start name [] rest)

  walk_passes : walk_fault top labels start (name ∷ rest) ≡ []
  unfolding walk_fault
  walk_passes = ap₂ or_else is.passes (ap (λ (w : Walk). walk_fault top labels w rest) is.stops ∙ stopped_fault top labels start (name, []) rest)

  -- the level above fails as the subcommand's does
  abbrev Above : Walk → Kinds
  Above w = or_else (entered_fault (built player_words) w.stopped) (end_fault top w.held (is_some (entered (built player_words) w.stopped)))

  above : Above Stopped ≡ level_fault shape [] nothing_held rest false []
  unfolding clap_on_literals
  above =
      ap (λ (met : Option Shape). or_else (option_map_or (λ s. level_fault s [] nothing_held rest false []) met []) (end_fault top nothing_held (is_some (option_map (λ s. rows_at s rest) met)))) is.found
      ∙ or_nothing (level_fault shape [] nothing_held rest false [])

  fault_below : fault_of player_words (name ∷ rest) ≡ value_level shape rest
  fault_below = ap₂ or_else walk_passes (ap Above walk_stops ∙ above) ∙ level_of_values shape is.single rest plain

  rows_below : subcommand_of player_words (name ∷ rest) ≡ Some (name, value_rows shape rest)
  rows_below =
      ap (λ (w : Walk). entered (built player_words) w.stopped) walk_stops
      ∙ (ap (option_map (λ s. rows_at s rest)) is.found ∙ ap₂ (λ (n : Text) (rows : List Row). Some (n, rows)) is.named (rows_of_values shape is.single rest plain))

  -- the words behind the name ask for what the subcommand finds
  sub_fits : AreMet name shape asked rest → Fits (name ∷ rest)
  sub_fits (inl met) = (
    λ none. ap matched_request rows_below ∙ met.1 ∙ sym (is.request rest),
    λ fails. absurd (fails (fault_below ∙ met.0)),
  )
  sub_fits (inr met) = (
    λ none. let clash : true ≡ false = sym (ap (λ (ks : Kinds). is_empty ks) (sym fault_below ∙ none)) ∙ met.0 in cc,
    λ fails. is.request rest ∙ met.1,
  )

-- ---- words behind another word

abbrev top_turn : Option Text → Text → Kinds
top_turn met word = or_else (other_fault top met word nothing_held)
    (step_fault top 1 (subcommand_or_other top.rules met idle 1 word nothing_held).0 (subcommand_or_other top.rules met idle 1 word nothing_held).1)

-- a first word that is no subcommand fails
stray_turn : (word : Text) → begins_dash word ≡ false → subcommand_met labels idle word ≡ None → turn_fault top labels start word ≡ kind.UnknownArgument ∷ kind.InvalidSubcommand ∷ []
stray_turn word plain other = ap (λ (met : Option Text). top_turn met word) other
    ∙ ap₂ (λ (ks : Kinds) (met : Held × Step). or_else ks (step_fault top 1 met.0 met.1)) (met_faultless top word nothing_held plain) (met_value top.rules 1 word nothing_held plain)

-- a first word that is no subcommand asks for nothing
stray_fits : (word : Text) (rest : List Text) → subcommand_met labels idle word ≡ None → command_request (word ∷ rest) ≡ None → begins_dash word ≡ false → Fits (word ∷ rest)
unfolding walk_fault
stray_fits word rest other nothing plain = (
  λ none.
      let walked_on = walk_fault top labels (walked top.rules labels start word) rest in
      let quiet : turn_fault top labels start word ≡ [] = nil_first (turn_fault top labels start word) walked_on (nil_first (or_else (turn_fault top labels start word) walked_on) _ none) in
      let clash : kind.UnknownArgument ∷ kind.InvalidSubcommand ∷ [] ≡ [] = sym (stray_turn word plain other) ∙ quiet in
      cc,
  λ fails. nothing,
)

-- ---- all words

-- the first word is the name of this subcommand, or another
or_sub : {name : Text} {shape : Shape} {asked : List Text → Option Request} → IsSub name shape asked → (word : Text) (rest : List Text) → list_any begins_dash rest ≡ false
    → (bytes_eq name word ≡ false → bytes_eq word name ≡ false → Fits (word ∷ rest)) → Fits (word ∷ rest)
or_sub {name} {shape} {asked} is word rest plain other = go (bytes_eq name word) refl (bytes_eq word name) refl
  where
    this : Fits (name ∷ rest)
    this = sub_fits name shape asked is rest plain (is.met rest)

    go : (a : Bool) → bytes_eq name word ≡ a → (b : Bool) → bytes_eq word name ≡ b → Fits (word ∷ rest)
    go true same b back = subst (λ (w : Text). Fits (w ∷ rest)) ((bytes_eq-Decides name word).0 same) this
    go false apart true back = subst (λ (w : Text). Fits (w ∷ rest)) (sym ((bytes_eq-Decides word name).0 back)) this
    go false apart false back = other apart back

-- words that don't begin with `-` have the request that is asked for
words_fit : (words : List Text) → list_any begins_dash words ≡ false → Fits words
words_fit [] plain = (λ none. refl, λ fails. refl)
words_fit (word ∷ rest) plain =
    let parts = neither (begins_dash word) (list_any begins_dash rest) plain in
    or_sub render_sub word rest parts.1 (λ no_render not_render.
    or_sub record_sub word rest parts.1 (λ no_record not_record.
    or_sub loop_sub word rest parts.1 (λ no_loop not_loop.
    or_sub generate_sub word rest parts.1 (λ no_generate not_generate.
    or_sub play_sub word rest parts.1 (λ no_play not_play.
    or_sub verify_sub word rest parts.1 (λ no_verify not_verify.
    or_sub trace_sub word rest parts.1 (λ no_trace not_trace.
    stray_fits word rest (rw (no_render, no_record, no_loop, no_generate, no_play, no_verify, no_trace) refl) (rw (not_render, not_record, not_loop, not_generate, not_play, not_verify, not_trace) refl) parts.0)))))))

-- ---- what a parse finds

plain_request : (words : List Text) → list_any begins_dash words ≡ false → request_of words ≡ command_request words
plain_request words plain = rw plain refl

-- words of which one begins with `-` ask for nothing
pub dash_stray : (words : List Text) → list_any begins_dash words ≡ true → request_of words ≡ None
dash_stray words dash = rw dash refl

player_simple : is_simple player_words ≡ true
unfolding clap_on_literals
player_simple = refl

-- a parse that succeeds
pub parse_fits : (app : App) (words : List Text) (met : Option (Text × List Row)) → app ≡ player_words → list_any begins_dash words ≡ false
    → (is_simple_and_free app ≡ true → fault_of app words ≡ []) → (is_simple app ≡ true → met ≡ subcommand_of app words) → matched_request met ≡ request_of words
parse_fits app words met is plain none same =
    let quiet : fault_of player_words words ≡ [] = ap (λ (a : App). fault_of a words) (sym is) ∙ none (ap is_simple_and_free is ∙ player_told) in
    ap matched_request (same (ap is_simple is ∙ player_simple) ∙ ap (λ (a : App). subcommand_of a words) is) ∙ (words_fit words plain).0 quiet ∙ sym (plain_request words plain)

no_kind : (k : ErrorKind) → (k ≡ kind.OutOfMemory) ⊎ IsAmong k [] → (k ≡ kind.OutOfMemory → ⊥) → ⊥
no_kind k (inl memory) other = other memory
no_kind k (inr among) other = among

-- a parse that fails, though memory didn't run out
pub parse_strays : (app : App) (words : List Text) (k : ErrorKind) → app ≡ player_words → list_any begins_dash words ≡ false
    → (is_simple_and_free app ≡ true → (k ≡ kind.OutOfMemory) ⊎ IsAmong k (fault_of app words)) → (k ≡ kind.OutOfMemory → ⊥) → request_of words ≡ None
parse_strays app words k is plain fails other = plain_request words plain ∙ (words_fit words plain).1 (λ none.
    no_kind k (subst (λ (ks : Kinds). (k ≡ kind.OutOfMemory) ⊎ IsAmong k ks) (ap (λ (a : App). fault_of a words) is ∙ none) (fails (ap is_simple_and_free is ∙ player_told))) other)

-- the name and the rest of what an option holds, from the one and the other
pub both_of : {P B X Y : Type 0} (n : P → X) (w : P → Y) (f : B → X) (g : B → Y) (r : Option P) (o : Option B)
    → option_map n r ≡ option_map f o → option_map w r ≡ option_map (λ (p : X × Y). p.1) (option_map {T = B} {U = X × Y} (λ b. (f b, g b)) o)
    → option_map {T = P} {U = X × Y} (λ p. (n p, w p)) r ≡ option_map {T = B} {U = X × Y} (λ b. (f b, g b)) o
both_of n w f g None None name rest = refl
both_of n w f g None (Some b) name rest = cc
both_of n w f g (Some p) None name rest = cc
both_of {P} {B} {X} {Y} n w f g (Some p) (Some b) name rest =
    ap₂ (λ (x : X) (y : Y). Some (x, y)) (ap (λ (v : Option X). unwrap_or v (n p)) name) (ap (λ (v : Option Y). unwrap_or v (w p)) rest)
