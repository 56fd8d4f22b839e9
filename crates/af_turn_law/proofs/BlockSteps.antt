-- What each step of a run leaves of a block that is told in phases.
use Rattle.std.proofs.Common.{◌≡◌, ◌⊎◌, inl, inr, ℕ, Bool, true, false, true≢false, fold, map, List, [], ◌∷◌, ◌++◌, length, refl, sym, subst, arith, length-append}
use Rattle.af_turn_law.proofs.Common.{BlockTold, ClientEvent, HandEvent, Moment, ServerEvent, at_few, by_client, by_hand, by_server, client_of, hand_of, server_of, stream_met}
use Rattle.af_base.specs.declared.event.ClientEvent.TheVariants as client
use Rattle.af_base.specs.declared.event.ServerEvent.TheVariants as server
use Rattle.af_base.specs.declared.event.HandEvent.TheVariants as hand
use Rattle.af_turn_law.specs.Acting.{SawNoInvalid}
use Rattle.af_turn_law.specs.Marking.{KnowsAll, client_marks, server_marks, hand_marks}
use Rattle.af_turn_law.specs.Phased.{IsBlockPhased, ends_met}
use Rattle.af_turn_law.proofs.Marked.{NoMarks, knows_more, knows_met, knows_now, due_plain}
use Rattle.af_turn_law.proofs.BlockPulls.{ends_last}
use Rattle.af_turn_law.proofs.BlockForced.{phased_hand}

-- ## Who knows whom

abbrev pub ClientKnows : List Moment → Type 0
ClientKnows told = KnowsAll client_marks server_marks (client_of told) (server_of told)

abbrev pub ServerKnows : List Moment → Type 0
ServerKnows told = KnowsAll server_marks client_marks (server_of told) (client_of told)

abbrev pub HandKnows : List Moment → Type 0
HandKnows told = KnowsAll hand_marks client_marks (hand_of told) (client_of told)

abbrev pub HandMet : List Moment → Type 0
HandMet told = ends_met (hand_of told) ≡ true

-- A block before a turn. `part` says whether its server takes part in the meetings, and `handed` whether it has a hand
pub record Ready (part handed : Bool) (told : List Moment) : Type 0 where
  pub phased : IsBlockPhased told
  pub client : ClientKnows told
  pub met : HandMet told
  pub hand : handed ≡ true → HandKnows told
  pub server : part ≡ true → ServerKnows told

-- a block after a turn, before the meetings
pub record Done (part handed : Bool) (told : List Moment) : Type 0 where
  pub phased : IsBlockPhased told
  pub client : part ≡ false → ClientKnows told
  pub met : handed ≡ false → HandMet told

-- a block on which nothing was done is ready
pub new_ready : (part handed : Bool) → Ready part handed []
new_ready part handed = record { phased = tt; client = tt; met = refl; hand = λ h. tt; server = λ h. tt }

-- a block is done if nothing is done
pub rest_done : (part after handed : Bool) (told : List Moment) → Ready part handed told → Done after handed told
rest_done part after handed told h = record { phased = h.phased; client = λ e. h.client; met = λ e. h.met }

-- ## Events of one party

abbrev pub told_more : List Moment → List Moment → List Moment
told_more told moments = fold (λ (sofar : List Moment) (m : Moment). m ∷ sofar) told moments

pub client_done : (part after handed : Bool) (es : List ClientEvent) (told : List Moment) → NoMarks client_marks es → Ready part handed told → Done after handed (told_more told (map by_client es))
client_done part after handed es told plain h = by_events es told plain h.phased h.client h.met
  where
    by_events : (es : List ClientEvent) (told : List Moment) → NoMarks client_marks es → IsBlockPhased told → ClientKnows told → HandMet told → Done after handed (told_more told (map by_client es))
    by_events [] told plain phased knows met = record { phased = phased; client = λ e. knows; met = λ e. met }
    by_events (e ∷ es) told plain phased knows met =
        by_events es (by_client e ∷ told) plain.1 ((due_plain client_marks server_marks (client_of told) (server_of told) e plain.0 knows, λ p. met), phased)
        (knows_more client_marks server_marks (client_of told) (e ∷ []) (server_of told) knows) met

server_phased : (es : List ServerEvent) (told : List Moment) → NoMarks server_marks es → IsBlockPhased told → ServerKnows told → IsBlockPhased (told_more told (map by_server es))
server_phased [] told plain phased knows = phased
server_phased (e ∷ es) told plain phased knows =
    server_phased es (by_server e ∷ told) plain.1 (inl (due_plain server_marks client_marks (server_of told) (client_of told) e plain.0 knows), phased)
    (knows_more server_marks client_marks (server_of told) (e ∷ []) (client_of told) knows)

server_keeps : (P : List ClientEvent → List HandEvent → Type 0) (es : List ServerEvent) (told : List Moment) → P (client_of told) (hand_of told) → P (client_of (told_more told (map by_server es))) (hand_of (told_more told (map by_server es)))
server_keeps P [] told h = h
server_keeps P (e ∷ es) told h = server_keeps P es (by_server e ∷ told) h

-- a block is done if its server, which takes part in the meetings before and after, did these events
pub server_done : (handed : Bool) (es : List ServerEvent) (told : List Moment) → NoMarks server_marks es → Ready true handed told → Done true handed (told_more told (map by_server es))
server_done handed es told plain h = record {
  phased = server_phased es told plain h.phased (h.server refl);
  client = λ e. absurd (true≢false e);
  met = λ e. server_keeps (λ cs hs. ends_met hs ≡ true) es told h.met;
}

-- a block is in phases if the hand, once it is there, sets flags; nobody else did anything since the last meeting
pub hand_ready : (part : Bool) (bits : ℕ) (told : List Moment) → Ready part true told → (part ≡ true → ServerKnows (by_hand (hand.SetFlags bits) ∷ told)) × IsBlockPhased (by_hand (hand.SetFlags bits) ∷ told) × ClientKnows (by_hand (hand.SetFlags bits) ∷ told)
hand_ready part bits told h = (h.server, ((h.hand refl, phased_hand told h.phased), h.phased), h.client)

-- a fact of the client's events stays, whatever the hand does
pub hand_keeps : (P : List ClientEvent → Type 0) (hs : List HandEvent) (told : List Moment) → P (client_of told) → P (client_of (told_more told (map by_hand hs)))
hand_keeps P [] told h = h
hand_keeps P (e ∷ hs) told h = hand_keeps P hs (by_hand e ∷ told) h

-- the server does nothing, or sets an INVALID that is unseen
abbrev pub OnlyInvalid : List ServerEvent → List Moment → Type 0
OnlyInvalid es told = (es ≡ []) ⊎ ((es ≡ server.SetFlags 4 ∷ []) × SawNoInvalid (client_of told))

-- a block is done if the hand and then the server did these events in a turn; the hand has met after it
pub turn_done : (part after : Bool) (hs : List HandEvent) (es : List ServerEvent) (told : List Moment) → IsBlockPhased (told_more told (map by_hand hs)) → ClientKnows (told_more told (map by_hand hs)) → (part ≡ true → ServerKnows (told_more told (map by_hand hs)))
    → NoMarks server_marks es → (after ≡ false → es ≡ []) → (part ≡ false → OnlyInvalid es told) → Done after true (told_more (told_more told (map by_hand hs)) (map by_server es))
turn_done part after hs es told phased knows server plain away only = record {
  phased = by_part part server only;
  client = λ e. subst (λ es. ClientKnows (told_more (told_more told (map by_hand hs)) (map by_server es))) (sym (away e)) knows;
  met = λ e. absurd (true≢false e);
}
  where
    by_part : (b : Bool) → (b ≡ true → ServerKnows (told_more told (map by_hand hs))) → (b ≡ false → OnlyInvalid es told) → IsBlockPhased (told_more (told_more told (map by_hand hs)) (map by_server es))
    by_part true server only = server_phased es (told_more told (map by_hand hs)) plain phased (server refl)
    by_part false server only = elim (only refl) [
      | inl none ↦ subst (λ es. IsBlockPhased (told_more (told_more told (map by_hand hs)) (map by_server es))) (sym none) phased
      | inr (invalid, unseen) ↦ subst (λ es. IsBlockPhased (told_more (told_more told (map by_hand hs)) (map by_server es))) (sym invalid) (inr (refl, hand_keeps SawNoInvalid hs told unseen), phased)
    ]

-- ## Meetings

abbrev with_met : List Moment → List Moment
with_met told = by_server (server.Learn (length (client_of told))) ∷ by_client (client.Learn (length (server_of told))) ∷ told

abbrev with_flag : List Moment → List Moment
with_flag told = by_hand (hand.Met (length (client_of told))) ∷ told

met_phased : (told : List Moment) → IsBlockPhased told → IsBlockPhased (with_met told)
met_phased told h = (inl (let n = length-append (client_of told) (client.Learn (length (server_of told)) ∷ []) in omega (arith, n)), ((omega arith, λ p. absurd (true≢false p)), h))

met_client : (told : List Moment) → ClientKnows (with_met told)
met_client told = knows_met client_marks server_marks (client_of told ++ client.Learn (length (server_of told)) ∷ []) (server_of told) (server.Learn (length (client_of told))) refl
    (knows_now client_marks server_marks (client_of told) (server_of told) (client.Learn (length (server_of told))) (omega arith))

met_server : (told : List Moment) → ServerKnows (with_met told)
met_server told = knows_met server_marks client_marks (server_of told ++ server.Learn (length (client_of told)) ∷ []) (client_of told) (client.Learn (length (server_of told))) refl
    (knows_now server_marks client_marks (server_of told) (client_of told) (server.Learn (length (client_of told))) (omega arith))

flag_phased : (told : List Moment) → IsBlockPhased told → IsBlockPhased (with_flag told)
flag_phased told h = ((omega arith, (phased_hand told h, at_few told)), h)

flag_met : (told : List Moment) → HandMet (with_flag told)
flag_met told = ends_last (hand_of told) (hand.Met (length (client_of told)))

flag_knows : (told : List Moment) → HandKnows (with_flag told)
flag_knows told = knows_now hand_marks client_marks (hand_of told) (client_of told) (hand.Met (length (client_of told))) (omega arith)

-- after the meetings a block is ready again
pub block_met : (part handed : Bool) (b : BlockTold) → Done part handed b.told → Ready part handed (stream_met part handed b).told
block_met true true b h = record {
  phased = flag_phased (with_met b.told) (met_phased b.told h.phased);
  client = met_client b.told;
  met = flag_met (with_met b.told);
  hand = λ e. flag_knows (with_met b.told);
  server = λ e. met_server b.told;
}
block_met true false b h = record {
  phased = met_phased b.told h.phased;
  client = met_client b.told;
  met = h.met refl;
  hand = λ e. absurd (true≢false (sym e));
  server = λ e. met_server b.told;
}
block_met false true b h = record {
  phased = flag_phased b.told h.phased;
  client = h.client refl;
  met = flag_met b.told;
  hand = λ e. flag_knows b.told;
  server = λ e. absurd (true≢false (sym e));
}
block_met false false b h = record {
  phased = h.phased;
  client = h.client refl;
  met = h.met refl;
  hand = λ e. absurd (true≢false (sym e));
  server = λ e. absurd (true≢false (sym e));
}
