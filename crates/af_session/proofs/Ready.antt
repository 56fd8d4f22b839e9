-- What each turn and each meeting leaves ready for the next round.
use Rattle.std.proofs.Common.{◌≡◌, ℕ, zero, suc, ◌+◌, ◌*◌, ◌<◌, ◌≤◌, ◌⊎◌, inl, inr, Bool, true, false, if◌then◌else◌, List, [], length, map, option_map, slice_get, slice_set, Option, Some, None, refl, sym, ap, subst, ◌∙◌, arith}
use Rattle.af_session.proofs.Common.{AreClientsOf, CanWork, ClientState, Cycle, Given, IsFastTurn, IsReady, IsWhole, Links, Met, NormalState, PartyState, SessionState, Setup, WritesCycle, all_at_set, end_party, file_at, is_mixed, length-map, none-some, ops_at, proxies_of, same_Some, slice_get-map, slice_get_cases, slice_index_or, spot_of, with_ends}
use Rattle.af_normal.specs.Order.{IsInOrder as IsNormalInOrder}
use Rattle.af_normal.specs.State.{setup_of}
use Rattle.af_session.specs.Together.{AreTogether}
use Rattle.af_party.proofs.CanWorkOn.{work_end}
use Rattle.af_session.proofs.FastAdds.{met_keeps, whole_met}
use Rattle.af_session.proofs.MetStays.{command_learnt, work_met}
use Rattle.af_session.proofs.MetTracks.{still_together}

module _ (g : Given) where
  -- ## What a step leaves

  -- the client q of track i was a client p before, can do its work if p could, and has sent at most 128 words more for each of so many rounds
  abbrev pub Was : ℕ → SessionState → ℕ → PartyState → Type 0
  Was rounds s i q = (p : PartyState) × (slice_get s.clients i ≡ Some p)
      × (CanWork (ops_at g i) (length (file_at g i)) p → CanWork (ops_at g i) (length (file_at g i)) q)
      × (q.command.released ≤ p.command.released + 128 * rounds)

  -- what a step of at most so many rounds leaves: the clients with their work, and the normal mixer with its turns and tracks
  pub record Stays (rounds : ℕ) (s t : SessionState) : Type 0 where
    pub clients : (i : ℕ) (q : PartyState) → slice_get t.clients i ≡ Some q → Was rounds s i q
    pub turns : t.normal.turns ≤ s.normal.turns + rounds
    pub tracks : length t.normal.tracks ≡ length s.normal.tracks

  all_stays : (rounds : ℕ) (s : SessionState) → Stays rounds s s
  all_stays rounds s = record { clients = (λ i q at. (q, at, (λ can. can), omega arith)); turns = omega arith; tracks = refl }

  was_met : (a b : SessionState) → Met a b → (i : ℕ) (q : PartyState) → slice_get b.clients i ≡ Some q
      → ((x : PartyState) × (i < length a.clients) × (slice_get a.clients i ≡ Some x) × (slice_index_or a.clients i x ≡ x)) ⊎
      ((length a.clients ≤ i) × (slice_get a.clients i ≡ None)) → Was 0 a i q
  was_met a b met i q at (inl h) =
      let x = a.fast.observer.past.state in
      let one = met.tracks.met i h.0 q h.1 h.2 at in
      let before = spot_of x (proxies_of a.normal a.fast) i in
      let after = spot_of x (proxies_of b.normal b.fast) i in
      let sent = ap (λ (c : ClientState). c.released) (command_learnt before after h.0 q one) in
      (h.0, h.2, work_met before after h.0 q one (ops_at g i) (length (file_at g i)), omega (arith, sent))
  was_met a b met i q at (inr h) = absurd (none-some q (sym h.1 ∙ sym (met.tracks.rest i h.0).1 ∙ at))

  -- the meetings leave the clients with their work
  met_stays : (a b : SessionState) → Met a b → Stays 0 a b
  met_stays a b met = record {
    clients = (λ i q at. was_met a b met i q at (slice_get_cases a.clients i).1);
    turns = (let same = ap (λ (m : NormalState). m.turns) met.ends.normal in omega arith);
    tracks = ap (λ (m : NormalState). length m.tracks) met.ends.normal;
  }

  -- what is left by two steps within a round, one after the other, is left by both
  both_stay : (a b c : SessionState) → Stays 0 a b → Stays 0 b c → Stays 0 a c
  both_stay a b c x y = record {
    clients = (λ i q at. let later = y.clients i q at in let first = x.clients i later.0 later.1 in
        (first.0, first.1, (λ can. later.2 (first.2 can)), (let one = first.3 in let two = later.3 in omega arith)));
    turns = (let one = x.turns in let two = y.turns in omega arith);
    tracks = y.tracks ∙ x.tracks;
  }

  cycle_stays : (s t : SessionState) (answer : Cycle) (bytes : List ℕ) → WritesCycle s answer bytes t → Stays 0 s t
  cycle_stays s t answer bytes w =
      let x = met_stays (record s { fast = w.cycle.polled }) w.cycle.met w.cycle.meets in
      subst (Stays 0 s) (sym w.cycle.others) (record { clients = (λ i q at. x.clients i q at); turns = x.turns; tracks = x.tracks })

  by_answer : (s m t : SessionState) (back : List ℕ) (mixed : Bool) → Stays 0 s m → (mixed ≡ true → Stays 0 m t) → (mixed ≡ false → (back ≡ []) × (t ≡ m))
      → Stays 0 s t
  by_answer s m t back true first goes stops = both_stay s m t first (goes refl)
  by_answer s m t back false first goes stops = subst (Stays 0 s) (sym (stops refl).1) first

  pub fast_stays : (count : ℕ) (s t : SessionState) (bytes : List ℕ) → IsFastTurn count s bytes t → Stays 0 s t
  fast_stays zero s t bytes turn = subst (Stays 0 s) (sym turn.1) (all_stays 0 s)
  fast_stays (suc left) s t bytes turn =
      by_answer s turn.1 t turn.3 (is_mixed turn.0) (cycle_stays s turn.1 turn.0 turn.2 turn.4) (λ yes. fast_stays left turn.1 t turn.3 (turn.6 yes)) turn.7

  -- ## Ready again

  module _ (links : Links) (n : ℕ) (s : SessionState) (ready : IsReady links g n s) where
    -- parties that went on by at most so many rounds are ready after as many rounds more
    pub ready_on : (rounds m : ℕ) (t : SessionState) → n + rounds ≤ m → AreTogether links t → t.fast.adopted ≡ false → IsWhole t.fast.log → Stays rounds s t
        → IsReady links g m t
    ready_on rounds m t fits together between whole stays =
        let long : length s.clients ≡ length t.clients = ready.together.count ∙ sym stays.tracks ∙ sym together.count in
        record {
          together = together;
          between = between;
          given = (ready.given.0 ∙ long, ready.given.1 ∙ long);
          works = (λ i q at. let was = stays.clients i q at in was.2 (ready.works i was.0 was.1));
          few = (λ i q at. let was = stays.clients i q at in let old = ready.few i was.0 was.1 in let more = was.3 in omega arith);
          turns = (let old = ready.turns in let more = stays.turns in omega arith);
          whole = whole;
        }

    -- parties that only met are ready if they were
    pub ready_met : (t : SessionState) → AreTogether links t → Met s t → IsReady links g n t
    ready_met t together met = ready_on 0 n t (omega arith) together ((met_keeps s t met).3 ∙ ready.between) (whole_met s t met ready.whole) (met_stays s t met)

    -- the parties are ready after a turn of the normal mixer
    pub ready_normal : (m : NormalState) → IsNormalInOrder links m → m.turns ≡ s.normal.turns + 1 → setup_of m ≡ setup_of s.normal → IsReady links g (n + 1) (record s { normal = m })
    ready_normal m order one setup =
        let settings : length m.settings ≡ length s.normal.settings = ap (λ (c : Setup). length c.settings) setup in
        let long : length m.tracks ≡ length s.normal.tracks = sym order.tied.sizes.settings ∙ settings ∙ ready.together.normal.tied.sizes.settings in
        ready_on 1 (n + 1) (record s { normal = m }) (omega arith)
        (record {
          normal = order;
          fast = ready.together.fast;
          count = ready.together.count ∙ sym long;
          tracks = ready.together.tracks;
          clients = ready.together.clients;
        })
        ready.between ready.whole (record { clients = (λ i q at. (q, at, (λ can. can), omega arith)); turns = omega (arith, one); tracks = long })

    -- the parties are ready after a turn of a client
    pub ready_client : (i : ℕ) (p q : PartyState) → slice_get s.clients i ≡ Some p → AreClientsOf links i q.stream q.command
        → CanWork (ops_at g i) (length (file_at g i)) q → q.track ≡ p.track → q.command.released ≤ p.command.released + 128
        → IsReady links g (n + 1) (record s { clients = slice_set s.clients i q })
    ready_client i p q at ours can track sent =
        ready_on 1 (n + 1) (record s { clients = slice_set s.clients i q }) (omega arith)
        (still_together links s.clients s.normal s.normal s.fast s.fast i p q ready.together at ready.together.normal ready.together.fast refl track ours)
        ready.between ready.whole (record {
          clients = all_at_set (Was 1 s) s.clients i p q at (λ j r now. (r, now, (λ old. old), omega arith)) (p, at, (λ old. can), omega (arith, sent));
          turns = omega arith;
          tracks = refl;
        })

    -- the parties are ready after the ends: the clients have ended if the normal mixer has
    ended_was : (i : ℕ) (q : PartyState) (o : Option PartyState) → slice_get s.clients i ≡ o → option_map end_party o ≡ Some q → (p : PartyState) × (slice_get s.clients i ≡ Some p) × (q ≡ end_party p)
    ended_was i q None is now = absurd (none-some q now)
    ended_was i q (Some p) is now = (p, is, sym (same_Some (end_party p) q now))

    ended_at : (i : ℕ) (q : PartyState) → slice_get (map end_party s.clients) i ≡ Some q → (p : PartyState) × (slice_get s.clients i ≡ Some p) × (q ≡ end_party p)
    ended_at i q now = ended_was i q (slice_get s.clients i) refl (sym (slice_get-map end_party s.clients i) ∙ now)

    by_end : (ended : Bool) → IsReady links g n (if ended then record s { clients = map end_party s.clients } else s)
    by_end false = ready
    by_end true = ready_on 0 n (record s { clients = map end_party s.clients }) (omega arith)
        (record {
          normal = ready.together.normal;
          fast = ready.together.fast;
          count = length-map s.clients end_party ∙ ready.together.count;
          tracks = (λ i q now. let was = ended_at i q now in ap (λ (x : PartyState). x.track) was.2 ∙ ready.together.tracks i was.0 was.1);
          clients = (λ i q now. let was = ended_at i q now in subst (λ (x : PartyState). AreClientsOf links i x.stream x.command) (sym was.2) (ready.together.clients i was.0 was.1));
        })
        ready.between ready.whole (record {
          clients = (λ i q now.
              let was = ended_at i q now in
              let same = ap (λ (x : PartyState). x.command.released) was.2 in (
                was.0,
                was.1,
                (λ can. subst (CanWork (ops_at g i) (length (file_at g i))) (sym was.2) (work_end (ops_at g i) (length (file_at g i)) was.0 can)),
                omega (arith, same),
              ));
          turns = omega arith;
          tracks = refl;
        })

    pub ready_ends : IsReady links g n (with_ends s)
    ready_ends = by_end s.normal.ended
