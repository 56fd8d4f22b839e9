-- What a party's events see, one after the other, if no other party does anything between them.
use Rattle.std.proofs.Common.{ℕ, fold, List, [], ◌∷◌}
use Rattle.af_one_turn_run.proofs.Common.{ClientEvent, ServerEvent, TrackPoint, ClientMay, ServerMay, after_client, after_server}

-- the point of a block after some events of its client, and of its server
abbrev pub after_clients : TrackPoint → List ClientEvent → TrackPoint
after_clients p events = fold after_client p events

abbrev pub after_servers : TrackPoint → List ServerEvent → TrackPoint
after_servers p events = fold after_server p events

-- each event of the client is legal where it stands, after so many events of the server
abbrev pub ClientSees : TrackPoint → ℕ → List ClientEvent → Type 0
ClientSees p others [] = Unit {0}
ClientSees p others (e ∷ es) = ClientMay p others e × ClientSees (after_client p e) others es

-- each event of the server is legal where it stands, after so many events of the client
abbrev pub ServerSees : TrackPoint → ℕ → List ServerEvent → Type 0
ServerSees p others [] = Unit {0}
ServerSees p others (e ∷ es) = ServerMay p others e × ServerSees (after_server p e) others es
