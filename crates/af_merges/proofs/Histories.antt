-- A history of a block is a legal order from its starting point, with the frames.
use Rattle.std.proofs.Common.{ℕ, List}
use Rattle.af_merges.proofs.Common.{ClientEvent, HandEvent, HasHistory, ServerEvent, start}
use Rattle.af_model.specs.declared.shape.Shape.{Shape}
use Rattle.af_merges.specs.Merges.{HasLegalOrder}

pub HasLegalOrder-from_history : (shape : Shape) (ce : List ClientEvent) (cf : List ℕ) (se : List ServerEvent) (sf : List ℕ) (he : List HandEvent)
    → HasHistory shape ce cf se sf he → HasLegalOrder (start shape) ce se he
HasLegalOrder-from_history shape ce cf se sf he h =
    record { order = h.order; legal = h.legal; client_is = h.client_is; server_is = h.server_is; hand_is = h.hand_is }
