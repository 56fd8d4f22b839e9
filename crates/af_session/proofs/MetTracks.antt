-- The parties are together after the meeting of one track.
use Rattle.std.proofs.Common.{◌≡◌, ℕ, List, length, length-set, slice_get, slice_set, Some, sym, ap, ◌∙◌}
use Rattle.af_session.proofs.Common.{AreClientsOf, IsInOrder as IsFastInOrder, IsLinked, Links, MixerState, NormalState, PartyState, all_at_set}
use Rattle.af_normal.specs.Order.{IsInOrder as IsNormalInOrder}
use Rattle.af_session.specs.Together.{AreTogether}

pub still_together : (links : Links) (clients : List PartyState) (m m' : NormalState) (f f' : MixerState) (n : ℕ) (p q : PartyState) → AreTogether links (record { clients = clients; normal = m; fast = f }) → slice_get clients n ≡ Some p
    → IsNormalInOrder links m' → IsFastInOrder f' × IsLinked links f' → m' ≡ record m { streams = m'.streams; commands = m'.commands; hands = m'.hands } → q.track ≡ p.track
    → AreClientsOf links n q.stream q.command → AreTogether links (record { clients = slice_set clients n q; normal = m'; fast = f' })
still_together links clients m m' f f' n p q t is normal fast same track ours = record {
  normal = normal;
  fast = fast;
  count = length-set clients n q ∙ t.count ∙ sym (ap (λ (y : NormalState). length y.tracks) same);
  tracks = all_at_set (λ i r. r.track ≡ i) clients n p q is t.tracks (track ∙ t.tracks n p is);
  clients = all_at_set (λ i r. AreClientsOf links i r.stream r.command) clients n p q is t.clients ours;
}
