-- A look and a take, as one read.
use Rattle.std.proofs.Common.{◌≡◌, ℕ, ◌+◌, ◌≤◌, if◌then◌else◌, [], ◌∷◌, ◌++◌, refl, ap, ◌∙◌}
use Rattle.af_record.proofs.Common.{ServerPart, ServerState, count_seen, list_all, server_did}
use Rattle.af_base.specs.declared.event.ServerEvent.TheVariants as server
use Rattle.af_server.specs.declared.look.Look.{Look}
use Rattle.af_server.specs.Order.{IsInOrder}
use Rattle.af_record.specs.History.{is_reading, IsReadList}
use Rattle.af_record.specs.Ends.{takes}
use Rattle.af_record.proofs.Calm.{all_both}

module _ (c d : ServerState) (t : ServerPart) (look : Look) (places count : ℕ) (order : IsInOrder c) (is : count ≡ count_seen look.seen) (took : t.events ≡ d.pass.part.events ++ takes count) where
  abbrev s : ServerPart
  s = c.pass.part

-- ## The list goes on

-- a meeting adds Learn
pub reads_met : (s t : ServerPart) (count : ℕ) → t ≡ server_did s (server.Learn count) → IsReadList s.events → IsReadList t.events
reads_met s t count is reads = ap (λ (x : ServerPart). list_all is_reading x.events) is ∙ all_both is_reading s.events (server.Learn count ∷ []) reads refl
