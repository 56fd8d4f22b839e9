-- The client of a stream whose proxy isn't home meets what is there.
use Rattle.std.proofs.Common.{◌≡◌, ◌≢◌, ℕ, true, List, length, slice_get, slice_index_or, Option, Some, None, refl, sym, ap, subst, ◌∙◌, get_or-set_same, get_or-set_other, arith}
use Rattle.af_engine.proofs.Common.{AreOfBlockOf, ClientState, HandSide, IsInOrder as IsFastInOrder, IsLinked, IsStreamOf, Links, Made, MeetsAll, MeetsAway, MeetsHeld, MixerState, Observes, ServerState, StartsWith, StreamNames, at, client_made, get_or_from_slice_get, hand_made, item_at, same_Some, server_made, server_met, slot_for, slot_of}
use Rattle.af_cblk.specs.Parts.{hand_met}
use Rattle.af_client.specs.Order.{IsInOrder as IsClientInOrder}
use Rattle.af_engine.proofs.Basics.{some_of}
use Rattle.af_model.specs.History.{HasHistory, is_lawful}
use Rattle.af_engine.proofs.MetSlots.{slot_is}

-- what the meeting of a stream whose proxy isn't home comes to
pub record MeetsThere (f : MixerState) (track : ℕ) (c : ClientState) (h : HandSide) (f' : MixerState) (c' : ClientState) (h' : HandSide) : Type 0 where
  pub stream : (client_made c'.pass ≡ client_made c.pass) × IsClientInOrder c'
  pub hand : hand_made h' ≡ hand_made h
  pub same : f' ≡ record f { observer = record f.observer { items = f'.observer.items } }
  pub met : let slot = slot_for f.observer.past.state track in MeetsAway (client_made c.pass) (item_at f.observer.items slot) h c (item_at f'.observer.items slot) h' c'
  pub others : (k : ℕ) → slot_for f.observer.past.state track ≢ Some k → at f'.observer.items k ≡ at f.observer.items k

module _ (links : Links) (f : MixerState) (track slot : ℕ) (c : ClientState) (h : HandSide) (order : IsFastInOrder f × IsLinked links f) (stream : (slice_get links.streams.now track ≡ Some (client_made c.pass)) × IsClientInOrder c)
    (hand : hand_made h ≡ client_made c.pass) (found : slot_for f.observer.past.state track ≡ Some slot) where
  -- the proxy that is held in the slot is of the client's block
  pub of_block : (s : ServerState) → at f.observer.items slot ≡ Some s → AreOfBlockOf s c h
  of_block s is =
      let names = order.1.names in
      let here = slot_is f.observer.past.state track slot found in
      let fits : IsStreamOf names.0.blocks (slot_of f.observer.past.state slot).track s = order.0.observer.fit names.0 names.1 slot s here.0 is in
      let made : slice_get links.streams.now track ≡ Some (server_made s.pass) = ap (λ (bs : List Made). slice_get bs track) (sym names.2)
      ∙ ap (slice_get names.0.blocks) (sym here.2) ∙ fits.made in
      let same = same_Some (client_made c.pass) (server_made s.pass) (sym stream.0 ∙ made) in
      ((same, stream.1), hand ∙ same)

  -- the meeting of a stream whose proxy is held, if the mixer and the hand were lent
  pub held_there : (f1 f' : MixerState) (c' : ClientState) (h1 h' : HandSide) → f1 ≡ f → h1 ≡ h → f' ≡ record f1 { observer = f'.observer }
      → ((s : ServerState) → at f1.observer.items slot ≡ Some s → MeetsHeld slot s f1.observer c h1 f'.observer c' h') → MeetsThere f track c h f' c' h'
  held_there f1 f' c' h1 h' lent flag only met =
      let here = slot_is f.observer.past.state track slot found in
      let held = some_of (at f.observer.items slot) (order.0.observer.held slot here.0 ∙ here.1) in
      let s : ServerState = held.0 in
      let t : ServerState = server_met s c in
      let m = subst (λ (y : MixerState × HandSide). MeetsHeld slot s y.0.observer c y.1 f'.observer c' h') (λ i. (lent i, flag i))
      (met s (ap (λ (y : MixerState). at y.observer.items slot) lent ∙ held.1)) in
      let same : client_made c.pass ≡ server_made s.pass = (of_block s held.1).0.0 in
      let now : at f'.observer.items slot ≡ Some t =
      ap (λ (o : Observes ServerState StreamNames). at o.items slot) m.observer ∙ get_or-set_same f.observer.items slot (Some t) None
      (omega (arith, here.0, order.0.observer.whole)) in
      let all : MeetsAll (client_made c.pass) s t c c' h h' = record {
        server = refl;
        client = m.client;
        hand = m.hand;
        history = (λ k. subst (λ (b : Made). HasHistory b.shape c'.pass.part.events c'.pass.part.frames t.pass.part.events t.pass.part.frames h'.part.events)
            (sym same) (m.history k));
        unshut = m.unshut;
      } in
      let items : f'.observer ≡ record f.observer { items = f'.observer.items } =
      subst (λ (o : Observes ServerState StreamNames). o ≡ record f.observer { items = o.items }) (sym m.observer) refl in
      record {
        stream = (m.others.0.0 ∙ sym same, m.others.0.1);
        hand = m.others.1 ∙ sym same ∙ sym hand;
        same = only ∙ ap (λ (y : MixerState). record y { observer = f'.observer }) lent ∙ (λ i. record f { observer = items i });
        met = subst (λ (o : Option ℕ). MeetsAway (client_made c.pass) (item_at f.observer.items o) h c (item_at f'.observer.items o) h' c') (sym found)
            (subst (λ (y : Option ServerState). MeetsAway (client_made c.pass) y h c (at f'.observer.items slot) h' c') (sym held.1) (t, now, all));
        others = (λ k ne. ap (λ (o : Observes ServerState StreamNames). at o.items k) m.observer
            ∙ get_or-set_other f.observer.items slot k (Some t) None (λ (e : k ≡ slot). ne (found ∙ ap (λ (n : ℕ). Some n) (sym e))));
      }

-- a block that is read at its place
pub block_at : (blocks : List Made) (i : ℕ) (b other : Made) → slice_get blocks i ≡ Some b → b ≡ slice_index_or blocks i other
block_at blocks i b other there = sym (get_or_from_slice_get blocks i b other there)

-- if the observer holds no proxy of the track, the hand alone meets the client
pub none_there : (block : Made) (f f' : MixerState) (track : ℕ) (c c' : ClientState) (h h1 h' : HandSide) → slot_for f.observer.past.state track ≡ None → f' ≡ f → h1 ≡ h → c' ≡ c → client_made c.pass ≡ block → IsClientInOrder c
    → hand_made h ≡ client_made c.pass → hand_made h' ≡ block → h'.part ≡ hand_met h1.part (length c.pass.part.events)
    → (is_lawful c.pass.part.events ≡ true → (taken : List ℕ) × StartsWith h'.known c.pass.part.learnt × HasHistory block.shape c.pass.part.events c.pass.part.frames h'.known taken h'.part.events) → MeetsThere f track c h f' c' h'
none_there block f f' track c c' h h1 h' none same flag client made order hand made' part history = record {
  stream = (ap (λ (x : ClientState). client_made x.pass) client, subst IsClientInOrder (sym client) order);
  hand = made' ∙ sym made ∙ sym hand;
  same = subst (λ (x : MixerState). x ≡ record f { observer = record f.observer { items = x.observer.items } }) (sym same) refl;
  met = subst (λ (o : Option ℕ). MeetsAway (client_made c.pass) (item_at f.observer.items o) h c (item_at f'.observer.items o) h' c') (sym none) (
    refl,
    record {
      client = client;
      hand = part ∙ ap (λ (x : HandSide). hand_met x.part (length c.pass.part.events)) flag;
      history = (λ lawful. subst (λ (b : Made). (taken : List ℕ) × StartsWith h'.known c.pass.part.learnt × HasHistory b.shape c.pass.part.events c.pass.part.frames h'.known taken h'.part.events) (sym made) (history lawful));
    },
  );
  others = (λ k ne. ap (λ (x : MixerState). at x.observer.items k) same);
}
