-- Basic lemmas that several files here, and of the crates above, cite.
use Rattle.std.proofs.Common.{Bool, [], false, length, true, ◌∷◌, ◌≡◌}
use Rattle.af_turn_law.proofs.Common.{BlockTold, client_list, is_tame, lawful_first, server_list, stream_met}
use Rattle.af_base.specs.declared.event.ClientEvent.TheVariants as client

-- a block is tame before meetings
pub tame_met : (part handed : Bool) (b : BlockTold) → is_tame (stream_met part handed b) ≡ true → is_tame b ≡ true
tame_met true true b h = lawful_first (client_list b) (client.Learn (length (server_list b)) ∷ []) h
tame_met true false b h = lawful_first (client_list b) (client.Learn (length (server_list b)) ∷ []) h
tame_met false true b h = h
tame_met false false b h = h
