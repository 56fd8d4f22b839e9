-- What the meetings leave of a client's kept values, and what they say of the proxies of a client that has not poked.
use Rattle.std.proofs.Common.{◌≡◌, ℕ, ◌<◌, ◌≤◌, Bool, true, false, if◌then◌else◌, [], ◌∷◌, length, map, option_map, slice_get, Option, Some, None, refl, sym, ap, subst, ◌∙◌, ⊎_elim}
use Rattle.af_told_law.proofs.Common.{ClientEvent, ClientKept, ClientState, HandSide, Made, Meets, MeetsAll, MeetsAway, MeetsStream, Met, PartyState, ServerKept, ServerState, SessionState, Spot, SpotMet, TrackMet, client_kept_of, client_knows, client_made, end_party, is_lawful, kept-more, kept_more, none-some, proxies_of, same_Some, server_kept_of, slice_get-map, slice_get_cases, slice_index_or, spot_of}
use Rattle.af_session.specs.Rounds.{with_ends}
use Rattle.af_base.specs.declared.event.ClientEvent.TheVariants as client
use Rattle.af_base.specs.declared.event.ServerEvent.TheVariants as server
use Rattle.af_cblk.specs.Parts.{server_did}
use Rattle.af_model.proofs.Counts.{lawful_before, lawful_more}
use Rattle.af_server.specs.Order.{IsInOrder as IsServerInOrder}

-- ## Clients

-- the client d is c, which has perhaps learnt something: its list says of the words that shut it, and of pokes, what the list of c says
pub record IsAsBefore (c d : ClientState) : Type 0 where
  pub kept : (client_kept_of d.pass.part).shut ≡ (client_kept_of c.pass.part).shut
  pub lawful : is_lawful c.pass.part.events ≡ true → is_lawful d.pass.part.events ≡ true
  pub before : is_lawful d.pass.part.events ≡ true → is_lawful c.pass.part.events ≡ true

as_same : (c d : ClientState) → d ≡ c → IsAsBefore c d
as_same c d e = subst (IsAsBefore c) (sym e) (record { kept = refl; lawful = (λ h. h); before = (λ h. h) })

as_known : (c d : ClientState) (s : ServerState) → d ≡ client_knows c s → IsAsBefore c d
as_known c d s e =
    let p = c.pass.part in
    let learn : ClientEvent = client.Learn (length s.pass.part.events) in
    subst (IsAsBefore c) (sym e) (record {
      kept = ap (λ (x : ClientKept). x.shut) (kept-more p.shape.frames p.shape.base p.events (learn ∷ []));
      lawful = (λ h. lawful_more p.events learn refl h);
      before = (λ h. lawful_before p.events learn h);
    })

by_home : (block : Made) (s : ServerState) (h : Option HandSide) (c d : ClientState) (t : Option ServerState) (g : Option HandSide) → MeetsStream block (Some s) h c t g d → IsAsBefore c d
by_home block s None c d t g m = as_known c d s m.3.client
by_home block s (Some h) c d t g m = as_known c d s m.4.client

by_away : (block : Made) (s : Option ServerState) (h g : HandSide) (c d : ClientState) (t : Option ServerState) → MeetsAway block s h c t g d → IsAsBefore c d
by_away block None h g c d t m = as_same c d m.1.client
by_away block (Some s) h g c d t m = as_known c d s m.2.client

by_spot : (block : Made) (o : Option ServerState) (a b : Spot) (c d : ClientState) → SpotMet block o a c b d → IsAsBefore c d
by_spot block None a b c d m = by_away block a.held m.hand m.hand' c d b.held m.met
by_spot block (Some s) a b c d m = by_home block s a.hand c d b.stream b.hand m.0

-- a party whose lists say what those of p say
pub record IsPartyAsBefore (p q : PartyState) : Type 0 where
  pub stream : IsAsBefore p.stream q.stream
  pub command : IsAsBefore p.command q.command

pub party_met : (a b : Spot) (p q : PartyState) → TrackMet a b p q → IsPartyAsBefore p q
party_met a b p q met = record {
  stream = by_spot (client_made p.stream.pass) a.stream a b p.stream q.stream met.streamed;
  command = as_known p.command q.command met.command met.commanded.client;
}

-- the client of a track after all have met was there before
pub clients_met : (a b : SessionState) → Met a b → (i : ℕ) (q : PartyState) → slice_get b.clients i ≡ Some q
    → (p : PartyState) × (slice_get a.clients i ≡ Some p) × TrackMet (spot_of a.fast.observer.past.state (proxies_of a.normal a.fast) i) (spot_of a.fast.observer.past.state (proxies_of b.normal b.fast) i) p q
clients_met a b met i q is = ⊎_elim
    (λ (here : (p : PartyState) × (i < length a.clients) × (slice_get a.clients i ≡ Some p) × (slice_index_or a.clients i p ≡ p)). (here.0, here.2, met.tracks.met i here.0 q here.1 here.2 is))
    (λ (none : (length a.clients ≤ i) × (slice_get a.clients i ≡ None)). absurd (none-some q (sym ((met.tracks.rest i none.0).1 ∙ none.1) ∙ is)))
    (slice_get_cases a.clients i).1

-- once the normal mixer has ended, each client ends and keeps its proxies
ended_keeps : (o : Option PartyState) (q : PartyState) → option_map end_party o ≡ Some q → (p : PartyState) × (o ≡ Some p) × (q.stream ≡ p.stream) × (q.command ≡ p.command)
ended_keeps None q is = absurd (none-some q is)
ended_keeps (Some p) q is = let same : end_party p ≡ q = same_Some (end_party p) q is in (p, refl, ap (λ (x : PartyState). x.stream) (sym same), ap (λ (x : PartyState). x.command) (sym same))

pub clients_ended : (m : SessionState) (i : ℕ) (q : PartyState) → slice_get (with_ends m).clients i ≡ Some q → (p : PartyState) × (slice_get m.clients i ≡ Some p) × (q.stream ≡ p.stream) × (q.command ≡ p.command)
clients_ended m i q is = by_end m.normal.ended is
  where
    by_end : (b : Bool) → slice_get (if b then record m { clients = map end_party m.clients } else m).clients i ≡ Some q → (p : PartyState) × (slice_get m.clients i ≡ Some p) × (q.stream ≡ p.stream) × (q.command ≡ p.command)
    by_end true here = ended_keeps (slice_get m.clients i) q (sym (slice_get-map end_party m.clients i) ∙ here)
    by_end false here = (q, here, refl, refl)

-- ## Servers

-- a proxy that learnt something says what shut it as it did before
module _ (s : ServerState) (count : ℕ) where
  pub knows_kept : (server_kept_of (server_did s.pass.part (server.Learn count))).shut ≡ (server_kept_of s.pass.part).shut
  knows_kept = ap (λ (k : ServerKept). k.shut) (kept_more s.pass.part.shape s.pass.part.events (server.Learn count ∷ []))

-- if the client has not poked, a proxy that met it and is in order had found nothing that didn't fit
pub open_met : (block : Made) (s t : ServerState) (c d : ClientState) → Meets block s t c d → IsServerInOrder t → is_lawful c.pass.part.events ≡ true → (server_kept_of s.pass.part).shut ≡ None
open_met block s t c d m order lawful =
    sym (knows_kept s (length c.pass.part.events)) ∙ ap (λ (x : ServerState). (server_kept_of x.pass.part).shut) (sym m.server) ∙ sym order.shut_is ∙ m.unshut lawful

pub open_met_all : (block : Made) (s t : ServerState) (c d : ClientState) (h g : HandSide) → MeetsAll block s t c d h g → IsServerInOrder t → is_lawful c.pass.part.events ≡ true → (server_kept_of s.pass.part).shut ≡ None
open_met_all block s t c d h g m order lawful =
    sym (knows_kept s (length c.pass.part.events)) ∙ ap (λ (x : ServerState). (server_kept_of x.pass.part).shut) (sym m.server) ∙ sym order.shut_is ∙ m.unshut lawful

-- the stream proxy at home had found nothing that didn't fit
module _ (block : Made) (s : ServerState) (c d : ClientState) (o : Option ServerState) (g : Option HandSide) (order : (t : ServerState) → o ≡ Some t → IsServerInOrder t) (lawful : is_lawful c.pass.part.events ≡ true) where
  pub open_home : (h : Option HandSide) → MeetsStream block (Some s) h c o g d → (server_kept_of s.pass.part).shut ≡ None
  open_home None m = open_met block s m.0 c d m.3 (order m.0 m.1) lawful
  open_home (Some h) m = open_met_all block s m.0 c d h m.1 m.4 (order m.0 m.2) lawful

pub open_spot : (block : Made) (s : ServerState) (a b : Spot) (c d : ClientState) → a.stream ≡ Some s → ((t : ServerState) → b.stream ≡ Some t → IsServerInOrder t) → is_lawful c.pass.part.events ≡ true → SpotMet block a.stream a c b d → (server_kept_of s.pass.part).shut ≡ None
open_spot block s a b c d home order lawful m =
    let met : SpotMet block (Some s) a c b d = subst (λ (o : Option ServerState). SpotMet block o a c b d) home m in
    open_home block s c d b.stream b.hand order lawful a.hand met.0
