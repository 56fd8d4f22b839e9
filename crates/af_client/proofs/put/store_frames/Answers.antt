use Rattle.std.proofs.Common.{List, ℕ, map, sym, ap, ◌∙◌}
use Rattle.af_client.proofs.Common.{ClientPart, length-map, packed_word}
use Rattle.af_client.proofs.Stores.{stored_next}
use Rattle.af_client.proofs.put.store_frames.Goals as goal

pub returns-clause-same : goal.returns-clause-same
returns-clause-same g c =
    let first = c.args.pass.now.part in
    let now = c.store_cells.ensures.stored in
    now ∙ ap (λ (l : List (ℕ × ℕ)). record first { stored = l }) (sym (ap (λ (p : ClientPart). p.stored) now))

pub returns-clause-stored : goal.returns-clause-stored
returns-clause-stored g c =
    let frames = c.args.frames.now in
    stored_next c.args.pass.now.part c.store_cells.new.pass.part (map packed_word frames) _ (sym (length-map frames packed_word)) c.store_cells.ensures.stored
