-- Basic lemmas that several files here, and of the crates above, cite.
use Rattle.std.proofs.Common.{List, [], ◌∷◌}
use Rattle.af_audit.proofs.Common.{AreMixedBut, EntrySeen}

pub seen_map : (P Q : EntrySeen → Type 0) (es : List EntrySeen) → ((e : EntrySeen) → P e → Q e) → AreMixedBut P es → AreMixedBut Q es
seen_map P Q [] h b = b
seen_map P Q (e ∷ []) h b = h e b
seen_map P Q (e ∷ next ∷ es) h b = (b.0, seen_map P Q (next ∷ es) h b.1)
