-- After the meetings of all parties the hands know what the proxies that missed them had done.
use Rattle.std.proofs.Common.{◌≡◌, ℕ, ◌<◌, true, List, length, slice_get, Option, Some, None, sym, ap, ◌∙◌, subst, arith}
use Rattle.af_render_law.proofs.Common.{AreTogether, ClientState, FastState, HandSide, Links, MeetsAway, Met, MixerState, NormalState, PartyState, ServerState, SessionState, Spot, SpotMet, TrackKept, client_made, clients_ended, ends_keep, held_slot, is_lawful, item_at, none-some, proxies_of, same_Some, slice_get_within, slot_for, some_at, spot_of, stream_at}
use Rattle.af_model.specs.History.{HasHistory}
use Rattle.af_normal.specs.Meeting.{MeetsStream}
use Rattle.af_session.specs.Rounds.{with_ends}
use Rattle.af_told_law.proofs.TrackMeets.{tracks_are}

-- the history that the hand's meeting with the client gave
abbrev pub KnownBy : ClientState → HandSide → Type 0
KnownBy d h = is_lawful d.pass.part.events ≡ true → let c = d.pass.part in (taken : List ℕ) × HasHistory c.shape c.events c.frames h.known taken h.part.events

-- if a stream proxy is neither home nor held, and its client has not poked, the client's list and the hand's have a history with the server's list as the hand knows it
abbrev pub KnowsAway : SessionState → Type 0
KnowsAway x = (i : ℕ) (p : PartyState) (h : HandSide) → slice_get x.clients i ≡ Some p → slice_get x.normal.hands i ≡ Some h → stream_at x.normal.streams i ≡ None → item_at x.fast.observer.items (held_slot x.fast i) ≡ None → KnownBy p.stream h

module _ (c d : ClientState) where
  -- a proxy that is home meets, and stays
  stays_home : (p : ServerState) (h h' : Option HandSide) (o : Option ServerState) → MeetsStream (client_made c.pass) (Some p) h c o h' d → o ≡ None → ⊥
  stays_home p None h' o m none = none-some m.0 (sym none ∙ m.1)
  stays_home p (Some g) h' o m none = none-some m.0 (sym none ∙ m.2)

  -- a proxy that is held meets and stays, and else the hand knows its list
  by_away : (held held' : Option ServerState) (h g : HandSide) → MeetsAway (client_made c.pass) held h c held' g d → held' ≡ None → KnownBy d g
  by_away (Some p) held' h g m none = absurd (none-some m.0 (sym none ∙ m.1))
  by_away None held' h g m none = λ lawful.
      let still : d ≡ c = m.1.client in
      let known = m.1.history (subst (λ (k : ClientState). is_lawful k.pass.part.events ≡ true) still lawful) in
      subst (λ (k : ClientState). (taken : List ℕ) × HasHistory k.pass.part.shape k.pass.part.events k.pass.part.frames g.known taken g.part.events) (sym still) (known.0, known.2)

  by_spot : (o : Option ServerState) (a b : Spot) (h : HandSide) → SpotMet (client_made c.pass) o a c b d → b.stream ≡ None → b.held ≡ None → b.hand ≡ Some h → KnownBy d h
  by_spot (Some p) a b h m away gone has = absurd (stays_home p a.hand b.hand b.stream m.0 away)
  by_spot None a b h m away gone has = subst (KnownBy d) (same_Some m.hand' h (sym m.has_hand' ∙ has)) (by_away a.held b.held m.hand m.hand' m.met gone)

module _ (links : Links) (y z : SessionState) (together : AreTogether links y) (still : AreTogether links z) (m : Met y z) where
  as_many : length z.clients ≡ length y.clients
  as_many = still.count ∙ ap (λ (ts : List TrackKept). length ts) (tracks_are y z m) ∙ sym together.count

  abbrev adopted : FastState
  adopted = y.fast.observer.past.state

  -- the observer's state is the same after the meetings
  same_state : z.fast.observer.past.state ≡ adopted
  same_state = ap (λ (f : MixerState). f.observer.past.state) m.ends.fast

  pub knows_away : KnowsAway z
  knows_away i q h is has away gone =
      let low : i < length y.clients = (let w = slice_get_within z.clients i q is in let n = as_many in omega (arith, w, n)) in
      let before = some_at y.clients i low in
      let track = m.tracks.met i before.0 q low before.1 is in
      by_spot before.0.stream q.stream (stream_at y.normal.streams i) (spot_of adopted (proxies_of y.normal y.fast) i) (spot_of adopted (proxies_of z.normal z.fast) i) h track.streamed away
      (ap (λ (x : FastState). item_at z.fast.observer.items (slot_for x i)) (sym same_state) ∙ gone) has

-- clients that have ended with the mixers are the same
pub away_ends : (x : SessionState) → KnowsAway x → KnowsAway (with_ends x)
away_ends x h i q hand is has away gone =
    let was = clients_ended x i q is in
    let keep = ends_keep x in
    let known = h i was.0 hand was.1 (ap (λ (m : NormalState). slice_get m.hands i) (sym keep.normal) ∙ has) (ap (λ (m : NormalState). stream_at m.streams i) (sym keep.normal) ∙ away)
    (ap (λ (f : MixerState). item_at f.observer.items (held_slot f i)) (sym keep.fast) ∙ gone) in
    subst (λ (d : ClientState). KnownBy d hand) (sym was.2) known
