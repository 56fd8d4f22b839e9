-- What proxies spell step by step is a list of a client, or of a server; and in a history a server sees its own front.
use Rattle.std.proofs.Common.{◌≡◌, ℕ, ◌≤◌, if◌then◌else◌, fold, List, [], ◌∷◌, ◌++◌, refl, sym, ap, ◌∙◌, append_assoc}
use Rattle.af_model.proofs.Common.{ClientEvent, fold-append}
use Rattle.af_model.specs.ClientCalls.{ClientKept, client_keeps}
use Rattle.af_model.specs.Spelled.{Kind, ClientStep, client_step_events, client_spells}

-- ## More steps at the end

module _ (kind : Kind) (frames : ℕ) where
  pub client_spells-append : (kept : ClientKept) (xs ys : List ClientStep)
      → client_spells kind frames kept (xs ++ ys) ≡ client_spells kind frames kept xs ++ client_spells kind frames (fold (client_keeps frames) kept (client_spells kind frames kept xs)) ys
  client_spells-append kept [] ys = refl
  client_spells-append kept (s ∷ xs) ys =
      let es = client_step_events kind kept s in
      let next = fold (client_keeps frames) kept es in
      let more = client_spells kind frames next xs in
      ap (λ (l : List ClientEvent). es ++ l) (client_spells-append next xs ys)
      ∙ sym (append_assoc es more (client_spells kind frames (fold (client_keeps frames) next more) ys))
      ∙ ap (λ (k : ClientKept). (es ++ more) ++ client_spells kind frames k ys) (sym (fold-append (client_keeps frames) kept es more))
