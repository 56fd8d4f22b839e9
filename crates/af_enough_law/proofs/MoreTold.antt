-- The lists of a block once some more moments were told.
use Rattle.std.proofs.Common.{◌≡◌, List, [], ◌∷◌, ◌++◌, map, fold, refl, sym, ◌∙◌, append_assoc, append-nil}
use Rattle.af_enough_law.proofs.Common.{HandEvent, Moment, ServerEvent, by_hand, by_server, hand_of, server_of}

-- some moments more, the oldest of them first
abbrev pub told_more : List Moment → List Moment → List Moment
told_more told moments = fold (λ (sofar : List Moment) (m : Moment). m ∷ sofar) told moments

pub server-server : (told : List Moment) (es : List ServerEvent) → server_of (told_more told (map by_server es)) ≡ server_of told ++ es
server-server told [] = sym (append-nil (server_of told))
server-server told (e ∷ es) = server-server (by_server e ∷ told) es ∙ append_assoc (server_of told) (e ∷ []) es

pub server-hand : (told : List Moment) (es : List ServerEvent) → hand_of (told_more told (map by_server es)) ≡ hand_of told
server-hand told [] = refl
server-hand told (e ∷ es) = server-hand (by_server e ∷ told) es

pub hand-hand : (told : List Moment) (es : List HandEvent) → hand_of (told_more told (map by_hand es)) ≡ hand_of told ++ es
hand-hand told [] = sym (append-nil (hand_of told))
hand-hand told (e ∷ es) = hand-hand (by_hand e ∷ told) es ∙ append_assoc (hand_of told) (e ∷ []) es

pub hand-server : (told : List Moment) (es : List HandEvent) → server_of (told_more told (map by_hand es)) ≡ server_of told
hand-server told [] = refl
hand-server told (e ∷ es) = hand-server (by_hand e ∷ told) es
