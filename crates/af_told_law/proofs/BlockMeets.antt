-- What the meetings of a block's parties leave of it is told by the meetings of the run.
use Rattle.std.proofs.Common.{◌≡◌, ℕ, ◌+◌, true, List, [], ◌∷◌, ◌++◌, length, length-append, sym, ap, ◌∙◌, subst}
use Rattle.af_told_law.proofs.Common.{BlockTold, ClientState, HandEvent, HandSide, HasBlockHistory, Meets, MeetsAll, MeetsFlag, ServerEvent, ServerPart, ServerState, Shape, Side, client_knows, client_list, client_made, is_lawful, lawful_first, meets, meets_flag, server_begins, server_list, client_side, side_of_proxy}
use Rattle.af_base.specs.declared.event.ClientEvent.TheVariants as client
use Rattle.af_base.specs.declared.event.HandEvent.TheVariants as hand
use Rattle.af_base.specs.declared.event.ServerEvent.TheVariants as server
use Rattle.af_cblk.specs.Parts.{hand_met, server_did}
use Rattle.af_model.specs.History.{HasHistory}
use Rattle.af_runs.specs.Blocks.{hand_list}
use Rattle.af_told_law.specs.Tells.{TellsServer}
use Rattle.af_told_law.proofs.KeptAlike.{met_alike}
use Rattle.af_cblk.specs.declared.view.HandPart.{HandPart}
use Rattle.af_told_law.specs.Deeds.{DeedTold, done_on}
use Rattle.af_told_law.proofs.Basics.{met_deed}
use Rattle.af_told_law.proofs.MixLooks.{own_split}

-- the lists of a client, a server and a hand that are told have the history of their block, if what the server did is told
pub history_told : (b : BlockTold) (deed : List ServerEvent) (d : ClientState) (t : ServerState) (hs : List HandEvent) → client_side b ≡ side_of_proxy d → TellsServer (done_on b deed) t → deed ≡ server_list b → hs ≡ hand_list b
    → HasHistory d.pass.part.shape d.pass.part.events d.pass.part.frames t.pass.part.events t.pass.part.frames hs → HasBlockHistory b
history_told b deed d t hs side told list hands h =
    subst (λ (y : Side × List ServerEvent × List ℕ × List HandEvent). HasHistory y.0.shape y.0.events y.0.released y.1 y.2 y.3) (λ j. (sym side j, (told.events ∙ list) j, told.taken j, hands j)) h

-- a server that met its client is told
pub did_met : (b : BlockTold) (deed : List ServerEvent) → DeedTold b deed → DeedTold (meets b) (met_deed b deed)
did_met b deed h = record {
  alike = met_alike b.shape deed (server_list b) (length (client_list b)) h.alike;
  own = (λ saw. ap (λ (es : List ServerEvent). es ++ server.Learn (length (client_list b)) ∷ []) (h.own (own_split b.shape (server_begins b.shape) deed (server.Learn (length (client_list b)) ∷ []) saw).0));
}

module _ (b : BlockTold) (deed : List ServerEvent) (c d : ClientState) (s t : ServerState) (side : client_side b ≡ side_of_proxy c) (told : TellsServer (done_on b deed) s) where
  seen_by : client_list b ≡ c.pass.part.events
  seen_by = ap (λ (y : Side). y.events) side

  -- what a client and a server that met have is told of the block after the meeting
  pub side_met : length deed ≡ length (server_list b) → d ≡ client_knows c s → client_side (meets b) ≡ side_of_proxy d
  side_met long is =
      ap (λ (y : Side × ℕ). let z : Side = record { shape = y.0.shape; events = y.0.events ++ client.Learn y.1 ∷ []; released = y.0.released } in z) (λ j. (side j, (sym long ∙ ap (λ (es : List ServerEvent). length es) (sym told.events)) j))
      ∙ sym (ap side_of_proxy is)

  pub server_met : t.pass.part ≡ server_did s.pass.part (server.Learn (length c.pass.part.events)) → TellsServer (done_on (meets b) (met_deed b deed)) t
  server_met is = record {
    shape = ap (λ (p : ServerPart). p.shape) is ∙ told.shape;
    events = ap (λ (p : ServerPart). p.events) is ∙ (λ j. told.events j ++ server.Learn (length (sym seen_by j)) ∷ []);
    taken = ap (λ (p : ServerPart). p.frames) is ∙ told.taken;
  }

-- the hand meets the client once the server has
pub hand_after : (b : BlockTold) (c : ClientState) (h g : HandSide) → client_side b ≡ side_of_proxy c → h.part.events ≡ hand_list b → g.part ≡ hand_met h.part (length c.pass.part.events + 1) → g.part.events ≡ hand_list (meets_flag (meets b))
hand_after b c h g side told is =
    let more : length (client_list b ++ client.Learn (length (server_list b)) ∷ []) ≡ length (client_list b) + 1 = length-append (client_list b) (client.Learn (length (server_list b)) ∷ []) in
    let met : length c.pass.part.events + 1 ≡ length (client_list b ++ client.Learn (length (server_list b)) ∷ []) = (λ j. length ((sym (ap (λ (y : Side). y.events) side)) j) + 1) ∙ sym more in
    ap (λ (p : HandPart). p.events) is ∙ (λ j. told j ++ hand.Met (met j) ∷ [])

-- the hand meets the client alone
pub hand_alone : (b : BlockTold) (c : ClientState) (h g : HandSide) → client_side b ≡ side_of_proxy c → h.part.events ≡ hand_list b → g.part ≡ hand_met h.part (length c.pass.part.events) → g.part.events ≡ hand_list (meets_flag b)
hand_alone b c h g side told is =
    ap (λ (p : HandPart). p.events) is ∙ (λ j. told j ++ hand.Met (length ((sym (ap (λ (y : Side). y.events) side)) j)) ∷ [])

-- a client that is lawful after it met was lawful before
client_tame : (c d : ClientState) (s : ServerState) → d ≡ client_knows c s → is_lawful d.pass.part.events ≡ true → is_lawful c.pass.part.events ≡ true
client_tame c d s is lawful = lawful_first c.pass.part.events (client.Learn (length s.pass.part.events) ∷ []) (sym (ap (λ (y : ClientState). is_lawful y.pass.part.events) is) ∙ lawful)

-- ## A client and a server

module _ (b : BlockTold) (deed : List ServerEvent) (did : DeedTold b deed) (c d : ClientState) (s t : ServerState) (side : client_side b ≡ side_of_proxy c) (told : TellsServer (done_on b deed) s) (m : Meets (client_made c.pass) s t c d) where
  pub meets_side : client_side (meets b) ≡ side_of_proxy d
  meets_side = side_met b deed c d s t side told did.alike.long m.client

  pub meets_server : TellsServer (done_on (meets b) (met_deed b deed)) t
  meets_server = server_met b deed c d s t side told (ap (λ (y : ServerState). y.pass.part) m.server)

  -- if the server still has its hand, which did nothing, the block has its history after the meeting
  pub meets_history : s.pass.has_hand ≡ true → hand_list b ≡ [] → deed ≡ server_list b → is_lawful (client_list (meets b)) ≡ true → HasBlockHistory (meets b)
  meets_history whole none list lawful =
      let h = m.history (client_tame c d s m.client (ap (λ (y : Side). is_lawful y.events) (sym meets_side) ∙ lawful)) in
      let hands : h.0 ≡ hand_list (meets b) = h.1 whole ∙ sym none in
      history_told (meets b) (met_deed b deed) d t h.0 meets_side meets_server (ap (λ (es : List ServerEvent). met_deed b es) list) hands (subst (λ (k : Shape). HasHistory k d.pass.part.events d.pass.part.frames t.pass.part.events t.pass.part.frames h.0) (sym (ap (λ (y : ClientState). y.pass.part.shape) m.client)) h.2)

-- ## With the hand

module _ (b : BlockTold) (deed : List ServerEvent) (did : DeedTold b deed) (c d : ClientState) (s t : ServerState) (h g : HandSide) (side : client_side b ≡ side_of_proxy c) (told : TellsServer (done_on b deed) s) (hand_told : h.part.events ≡ hand_list b) (m : MeetsAll (client_made c.pass) s t c d h g) where
  pub all_side : client_side (meets_flag (meets b)) ≡ side_of_proxy d
  all_side = side_met b deed c d s t side told did.alike.long m.client

  pub all_server : TellsServer (done_on (meets_flag (meets b)) (met_deed b deed)) t
  all_server = let met = server_met b deed c d s t side told (ap (λ (y : ServerState). y.pass.part) m.server) in record { shape = met.shape; events = met.events; taken = met.taken }

  pub all_did : DeedTold (meets_flag (meets b)) (met_deed b deed)
  all_did = let met = did_met b deed did in record { alike = met.alike; own = met.own }

  pub all_hand : g.part.events ≡ hand_list (meets_flag (meets b))
  all_hand = hand_after b c h g side hand_told m.hand

  pub all_history : deed ≡ server_list b → is_lawful (client_list (meets_flag (meets b))) ≡ true → HasBlockHistory (meets_flag (meets b))
  all_history list lawful =
      history_told (meets_flag (meets b)) (met_deed b deed) d t g.part.events all_side all_server (ap (λ (es : List ServerEvent). met_deed b es) list) all_hand
      (subst (λ (k : Shape). HasHistory k d.pass.part.events d.pass.part.frames t.pass.part.events t.pass.part.frames g.part.events) (sym (ap (λ (y : ClientState). y.pass.part.shape) m.client))
      (m.history (client_tame c d s m.client (ap (λ (y : Side). is_lawful y.events) (sym all_side) ∙ lawful))))

-- ## The hand alone

module _ (b : BlockTold) (c d : ClientState) (h g : HandSide) (side : client_side b ≡ side_of_proxy c) (hand_told : h.part.events ≡ hand_list b) (m : MeetsFlag (client_made c.pass) c d h g) where
  pub flag_side : client_side (meets_flag b) ≡ side_of_proxy d
  flag_side = side ∙ sym (ap side_of_proxy m.client)

  pub flag_hand : g.part.events ≡ hand_list (meets_flag b)
  flag_hand = hand_alone b c h g side hand_told m.hand
