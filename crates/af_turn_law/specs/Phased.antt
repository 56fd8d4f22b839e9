-- Orders in phases: each party learnt, by a mark of a meeting, of all that another one did before it does something itself.
use Rattle.std.specs.Prelude.{◌≡◌, ◌⊎◌, Bool, true, false, fold, List, [], ◌∷◌, ◌++◌, length}
use Rattle.af_base.specs.declared.event.ClientEvent.{ClientEvent}
use Rattle.af_base.specs.declared.event.HandEvent.{HandEvent}
use Rattle.af_base.specs.declared.event.ServerEvent.{ServerEvent}
use Rattle.af_base.specs.declared.event.ServerEvent.TheVariants as server
use Rattle.af_model.specs.History.{Moment, by_client, by_server, by_hand, client_of, server_of, hand_of, met_in, clients_at}
use Rattle.af_model.specs.Order.{Event, one, two}
use Rattle.af_model.specs.Point.{HandMay}
use Rattle.af_turn_law.specs.Acting.{SawNoInvalid}
use Rattle.af_turn_law.specs.Marking.{Marking, IsDue, client_marks, server_marks, hand_marks, client_is_mark, hand_is_mark}

-- ## Two parties, the oldest event first

module _ {A B : Type 0} (ma : Marking A) (mb : Marking B) where
  -- each event is due after those before it, of which these lists come before all
  abbrev pub IsPhasedFrom : List A → List B → List (Event A B) → Type 0
  IsPhasedFrom xs ys [] = Unit {0}
  IsPhasedFrom xs ys (one a ∷ es) = IsDue ma mb xs ys a × IsPhasedFrom (xs ++ a ∷ []) ys es
  IsPhasedFrom xs ys (two b ∷ es) = IsDue mb ma ys xs b × IsPhasedFrom xs (ys ++ b ∷ []) es

  abbrev pub IsPhased : List (Event A B) → Type 0
  IsPhased es = IsPhasedFrom [] [] es

-- ## A block, the newest event first

-- the last event is a mark, if there is one
abbrev pub ends_met : List HandEvent → Bool
ends_met hs = fold (λ met e. hand_is_mark e) true hs

-- a server sets INVALID, of which the client that did these events has seen nothing
abbrev pub IsUnseen : List ClientEvent → ServerEvent → Type 0
IsUnseen events e = (e ≡ server.SetFlags 4) × SawNoInvalid events

-- The client and the server go by each other, but for an INVALID that is unseen; the client and the hand go by each other as well. The server and the hand need no order: they change and see different words, but for flags that both only set
abbrev pub IsDueAt : List Moment → Moment → Type 0
IsDueAt told (by_client e) = IsDue client_marks server_marks (client_of told) (server_of told) e × (client_is_mark e ≡ false → ends_met (hand_of told) ≡ true)
IsDueAt told (by_server e) = IsDue server_marks client_marks (server_of told) (client_of told) e ⊎ IsUnseen (client_of told) e
IsDueAt told (by_hand e) = IsDue hand_marks client_marks (hand_of told) (client_of told) e × HandMay (length (client_of told)) (met_in told) (clients_at told) e

-- each event is due after those before it
abbrev pub IsBlockPhased : List Moment → Type 0
IsBlockPhased [] = Unit {0}
IsBlockPhased (m ∷ told) = IsDueAt told m × IsBlockPhased told
