-- In a legal order of a block each event sees what those before it left.
use Rattle.std.proofs.Common.{ℕ, map, List, [], ◌∷◌, ◌++◌, length}
use Rattle.af_one_turn_run.proofs.Common.{ClientEvent, IsLegal, Moment, ServerEvent, TrackPoint, after, after_client, after_server, by_client, by_server, client_of, server_of, told_more}
use Rattle.af_one_turn_run.proofs.Seeing.{after_clients, after_servers, ClientSees, ServerSees}

-- what comes first is legal
pub legal_front : (p : TrackPoint) (told moments : List Moment) → IsLegal p (told_more told moments) → IsLegal p told
legal_front p told [] l = l
legal_front p told (m ∷ moments) l = (legal_front p (m ∷ told) moments l).1

-- events of the client that follow see what is there, and so do events of the server
pub client_front : (p : TrackPoint) (told : List Moment) (es : List ClientEvent) → IsLegal p (told_more told (map by_client es)) → ClientSees (after p told) (length (server_of told)) es
client_front p told [] l = tt
client_front p told (e ∷ es) l = ((legal_front p (by_client e ∷ told) (map by_client es) l).0, client_front p (by_client e ∷ told) es l)

pub server_front : (p : TrackPoint) (told : List Moment) (es : List ServerEvent) → IsLegal p (told_more told (map by_server es)) → ServerSees (after p told) (length (client_of told)) es
server_front p told [] l = tt
server_front p told (e ∷ es) l = ((legal_front p (by_server e ∷ told) (map by_server es) l).0, server_front p (by_server e ∷ told) es l)

-- ## In parts

pub client_parts : (p : TrackPoint) (n : ℕ) (xs ys : List ClientEvent) → ClientSees p n (xs ++ ys) → ClientSees p n xs × ClientSees (after_clients p xs) n ys
client_parts p n [] ys h = (tt, h)
client_parts p n (x ∷ xs) ys h = let r = client_parts (after_client p x) n xs ys h.1 in ((h.0, r.0), r.1)

pub server_parts : (p : TrackPoint) (n : ℕ) (xs ys : List ServerEvent) → ServerSees p n (xs ++ ys) → ServerSees p n xs × ServerSees (after_servers p xs) n ys
server_parts p n [] ys h = (tt, h)
server_parts p n (x ∷ xs) ys h = let r = server_parts (after_server p x) n xs ys h.1 in ((h.0, r.0), r.1)
