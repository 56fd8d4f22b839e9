-- Over the links of one track each proxy that is held is of its block.
use Rattle.std.proofs.Common.{◌≡◌, ℕ, zero, suc, ◌<◌, List, [], ◌∷◌, Some, slice_get, sym, ap, subst, ◌∙◌}
use Rattle.af_base.specs.Log.{slots}
use Rattle.af_cblk.specs.Sides.{Made, HandSide, server_made, hand_made}
use Rattle.af_client.specs.Order.{ClientState}
use Rattle.af_server.specs.Order.{ServerState}
use Rattle.af_stateq.specs.Mutates.{at}
use Rattle.af_link.specs.declared.links.Links.{Links}
use Rattle.af_model.specs.StateQueue.{slot_of}
use Rattle.af_fast.specs.Meets.{AreOfBlockOf}
use Rattle.af_fast.specs.Mixer.{MixerState, IsSound, IsLinked}
use Rattle.af_client.specs.Order.{IsClientOf}
use Rattle.std.proofs.lemmas.Option.{same_Some}

only : (b x : Made) (i : ℕ) → slice_get (b ∷ []) i ≡ Some x → x ≡ b
only b x zero is = sym (same_Some b x is)
only b x (suc i) is = cc

pub held_here : (links : Links) (block : Made) (m : MixerState) (c : ClientState) (h : HandSide) → IsSound m → IsLinked links m → links.streams.now ≡ block ∷ [] → IsClientOf block c × (hand_made h ≡ block)
    → (slot : ℕ) → slot < slots → (s : ServerState) → at m.observer.items slot ≡ Some s → AreOfBlockOf s c h
held_here links block m c h order linked one of slot lt s is =
    let track : ℕ = (slot_of m.observer.past.state slot).track in
    let fits = order.order.observer.fit linked.names.0 linked.names.1 slot s lt is in
    let made : slice_get (block ∷ []) track ≡ Some (server_made s.pass) = ap (λ (bs : List Made). slice_get bs track) (sym one ∙ sym linked.names.2) ∙ fits.made in
    subst (λ (b : Made). IsClientOf b c × (hand_made h ≡ b)) (sym (only block (server_made s.pass) track made)) of
