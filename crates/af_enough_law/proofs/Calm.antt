-- A block whose flags stay calm.
use Rattle.std.proofs.Common.{◌==◌, ◌&&◌, not, Bool, true, false, List, [], ◌∷◌}
use Rattle.af_enough_law.proofs.Common.{HandEvent, ServerEvent, state_in}
use Rattle.af_base.specs.declared.event.HandEvent.TheVariants as hand
use Rattle.af_base.specs.declared.event.ServerEvent.TheVariants as server

-- nothing is dropped, no flags but UNDERRUN are set, and no status says that the track was shut
abbrev pub is_calm : ServerEvent → Bool
is_calm (server.Drop to) = false
is_calm (server.SetFlags bits) = bits == 1
is_calm (server.SetStatus word) = not (state_in word == 15)
is_calm _ = true

abbrev pub are_calm : List ServerEvent → Bool
are_calm [] = true
are_calm (e ∷ es) = is_calm e && are_calm es

-- the hand sets no flag
abbrev pub is_hand_calm : HandEvent → Bool
is_hand_calm (hand.SetFlags bits) = false
is_hand_calm (hand.Met count) = true

abbrev pub are_hands_calm : List HandEvent → Bool
are_hands_calm [] = true
are_hands_calm (e ∷ es) = is_hand_calm e && are_hands_calm es
