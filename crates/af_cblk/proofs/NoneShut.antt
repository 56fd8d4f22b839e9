-- If two lists have a history, neither proxy was shut.
use Rattle.std.proofs.Common.{inl, inr, ◌≤◌, ℕ, List, [], ◌∷◌, ◌++◌, sym, ap, ◌∙◌}
use Rattle.af_cblk.proofs.Common.{ClientEvent, HandEvent, HasHistory, LooksInOrder, ServerEvent, ServerKept, Shape, server_begins, server_keeps}
use Rattle.std.proofs.lemmas.Grind.{fold-append}
use Rattle.af_base.specs.declared.event.ClientEvent.TheVariants as client
use Rattle.af_base.specs.declared.event.ServerEvent.TheVariants as server
use Rattle.af_model.specs.ClientCalls.{ClientKept, client_keeps, client_begins, meets}
use Rattle.af_model.specs.ServerCalls.{meets as server_meets}
use Rattle.af_model.proofs.RoomKept.{never_corrupt, never_shut}
use Rattle.af_cblk.specs.Unshut.{NeitherShut}

pub neither_shut : (k : Shape) → k.frames ≤ 65536 → (ce : List ClientEvent) (cf : List ℕ) (se : List ServerEvent) (sf : List ℕ) (he : List HandEvent) (n m : ℕ)
    → HasHistory k (ce ++ client.Learn n ∷ []) cf (se ++ server.Learn m ∷ []) sf he → NeitherShut k ce se
neither_shut k few ce cf se sf he n m h = λ spelled.
    let hers = meets ce n spelled in (
      ap (λ (x : ClientKept). x.shut) (sym (fold-append (client_keeps k.frames) (client_begins k.base) ce (client.Learn n ∷ []))) ∙ never_corrupt k few h hers,
      (λ looked. ap (λ (x : ServerKept). x.shut) (sym (fold-append (server_keeps k) (server_begins k) se (server.Learn m ∷ []))) ∙ never_shut k few h hers (learnt looked)),
    )
  where
    learnt : LooksInOrder k se → LooksInOrder k (se ++ server.Learn m ∷ [])
    learnt (inl flat) = inl flat
    learnt (inr x) = inr (x.0, server_meets se x.0 m x.1)
