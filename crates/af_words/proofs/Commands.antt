-- One more argument of a subcommand.
use Rattle.std.proofs.Common.{◌≡◌, ◌∙◌, ◌+◌, ◌<◌, ℕ, List, [], ◌∷◌, map, get_or, length, take, sym, ap}
use Rattle.std.specs.Borrow.{Bor}
use Rattle.std.proofs.lemmas.List.{map-append, map_more}
use Rattle.clap.specs.Walk.{Rule}
use Rattle.clap.specs.Simple.{Shape, new_shape}
use Rattle.af_words.specs.Words.{command_words, needed, with_rules}

pub command_more : (name : List ℕ) (ids : List (Bor (List ℕ))) (i : ℕ) (d : Bor (List ℕ)) (so_far : Shape) → i < length ids → so_far ≡ command_words name (map (λ id. id.now) (take i ids))
    → with_rules so_far (needed (get_or ids i d).now ∷ []) ≡ command_words name (map (λ id. id.now) (take (i + 1) ids))
command_more name ids i d so_far lt is =
    ap (λ (shape : Shape). with_rules shape (needed (get_or ids i d).now ∷ [])) is
    ∙ ap (λ (rules : List Rule). record (new_shape name) { rules = rules }) (sym (ap (map needed) (map_more (λ (id : Bor (List ℕ)). id.now) ids i d lt) ∙ map-append needed (map (λ id. id.now) (take i ids)) ((get_or ids i d).now ∷ [])))
