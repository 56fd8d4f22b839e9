-- A block that is tame after a step was tame before it; and what is kept of the stream blocks that are tame so far.
use Rattle.std.proofs.Common.{◌≡◌, Bool, true, List, [], ◌∷◌}
use Rattle.af_turn_law.proofs.Common.{Moment, TrackTold, by_client, by_hand, by_server, client_of, is_lawful, is_tame, lawful_first}
use Rattle.af_turn_law.proofs.BlockSteps.{Ready, Done, told_more}

-- what is kept of a track whose stream block is tame so far, before a turn and after it
abbrev pub StreamReady : Bool → Bool → TrackTold → Type 0
StreamReady part handed t = is_tame t.stream ≡ true → Ready part handed t.stream.told

abbrev pub StreamDone : Bool → Bool → TrackTold → Type 0
StreamDone part handed t = is_tame t.stream ≡ true → Done part handed t.stream.told

tame_one : (told : List Moment) (m : Moment) → is_lawful (client_of (m ∷ told)) ≡ true → is_lawful (client_of told) ≡ true
tame_one told (by_client e) h = lawful_first (client_of told) (e ∷ []) h
tame_one told (by_server e) h = h
tame_one told (by_hand e) h = h

-- a block is tame before, whatever was told more
pub tame_told : (told moments : List Moment) → is_lawful (client_of (told_more told moments)) ≡ true → is_lawful (client_of told) ≡ true
tame_told told [] h = h
tame_told told (m ∷ moments) h = tame_one told m (tame_told (m ∷ told) moments h)
