-- A search that takes each Met as soon as it may finds all that matters.
use Rattle.std.proofs.Common.{◌≡◌, ℕ, zero, suc, ◌+◌, ◌<◌, ◌≤◌, List, [], ◌∷◌, ◌++◌, length, Option, Some, None, Bool, true, false, cond, ◌&&◌, ◌||◌, nat_le, refl, ap, ◌∙◌, sym, subst, inl, inr, arith}
use Rattle.af_merges.proofs.Common.{HandEvent, after_hand, and_parts, both_true, cases_lt, cond_some, nat_tests, option_and_then, option_and_then_some, same_Some, slice_get, slice_get_within}
use Rattle.af_base.specs.declared.event.HandEvent.TheVariants as hand
use Rattle.af_merges.specs.declared.search.Stage.{Stage}
use Rattle.af_merges.specs.MergeSteps.{client_step, server_step}
use Rattle.af_merges.specs.Walks.{walk}
use Rattle.af_merges.specs.Stages.{Lists, Who, Client, Server, Hand, move, eager, hand_only, takes_met, is_met, kept, keeps_event, keeps_mets, with_client, with_server, with_hand}
use Rattle.af_merges.specs.MergePieces.{IsAhead}
use Rattle.af_merges.proofs.Levels.{walk-append}

by_test : (b : Bool) (l : Lists) (w : Who) (m n : Stage) → cond b (hand_only l w m) (move l w m) ≡ Some n → move l w m ≡ Some n
by_test false l w m n e = e
by_test true l Client m n e = cc
by_test true l Server m n e = cc
by_test true l Hand m n e = e

-- each step of the eager search is a step
pub eager-move : (l : Lists) (w : Who) (m n : Stage) → eager l w m ≡ Some n → move l w m ≡ Some n
eager-move l w m n e = by_test (takes_met l.hand m) l w m n e

pub eager-walk : (l : Lists) (ws : List Who) (m n : Stage) → walk (eager l) ws m ≡ Some n → walk (move l) ws m ≡ Some n
eager-walk l [] m n e = e
eager-walk l (w ∷ ws) m n e =
    option_and_then_some (walk (eager l) ws) (eager l w m) n e
    (λ x is rest. ap (option_and_then (walk (move l) ws)) (eager-move l w m x is) ∙ eager-walk l ws x n rest)

mix : (known place i j h k : ℕ) → i ≤ j → h ≤ k
    → ((nat_le h (place + 1) || nat_le known j) && (nat_le j known || nat_le place h)) ≡ true
    → ((nat_le k (place + 1) || nat_le known i) && (nat_le i known || nat_le place k)) ≡ true
    → ((nat_le k (place + 1) || nat_le known j) && (nat_le j known || nat_le place k)) ≡ true
mix known place i j h k p q a b = grind (arith, nat_tests)

-- what is kept with more client events and with more of the hand is kept with both
pub keeps-mix : (hs : List HandEvent) (place i j h k : ℕ) → i ≤ j → h ≤ k → keeps_mets hs place j h ≡ true → keeps_mets hs place i k ≡ true → keeps_mets hs place j k ≡ true
keeps-mix [] place i j h k p q a b = refl
keeps-mix (hand.SetFlags bits ∷ hs) place i j h k p q a b = keeps-mix hs (place + 1) i j h k p q a b
keeps-mix (hand.Met known ∷ hs) place i j h k p q a b =
    let x = and_parts (keeps_event (hand.Met known) place j h) (keeps_mets hs (place + 1) j h) a in
    let y = and_parts (keeps_event (hand.Met known) place i k) (keeps_mets hs (place + 1) i k) b in
    both_true _ (keeps_mets hs (place + 1) j k) (mix known place i j h k p q x.0 y.0) (keeps-mix hs (place + 1) i j h k p q x.1 y.1)

pub ahead-itself : (l : Lists) (m : Stage) → keeps_mets l.hand 0 m.clients m.hands ≡ true → m.hands ≤ length l.hand → IsAhead l m m
ahead-itself l m k w = record { point = refl; clients = refl; servers = refl; hands = omega arith; mets = λ p a b. absurd (omega arith); kept = k; within = w }

-- a Met leaves the point as it was
met_step : (l : Lists) (m : Stage) (e : HandEvent) → is_met (Some e) ≡ true → after_hand m.point e ≡ m.point
met_step l m (hand.SetFlags bits) h = cc
met_step l m (hand.Met known) h = refl

-- an order, and an eager one that is ahead of it
pub record Eager (l : Lists) (m n : Stage) : Type 0 where
  pub ws : List Who
  pub end : Stage
  pub walk : walk (eager l) ws n ≡ Some end
  pub ahead : IsAhead l m end

pub record Settled (l : Lists) (m n : Stage) : Type 0 where
  pub ws : List Who
  pub end : Stage
  pub walk : walk (eager l) ws n ≡ Some end
  pub ahead : IsAhead l m end
  pub rests : takes_met l.hand end ≡ false

some_event : (o : Option HandEvent) → is_met o ≡ true → (e : HandEvent) × (o ≡ Some e)
some_event None h = cc
some_event (Some e) h = (e, refl)

-- a Met that may stand is taken
takes : (l : Lists) (m n : Stage) → IsAhead l m n → takes_met l.hand n ≡ true
    → (x : Stage) × (eager l Hand n ≡ Some x) × (x.hands ≡ n.hands + 1) × IsAhead l m x
takes l m n ahead t =
    let both = and_parts (is_met (slice_get l.hand n.hands)) (keeps_mets l.hand 0 n.clients (n.hands + 1)) t in
    let some = some_event (slice_get l.hand n.hands) both.0 in
    let e = some.0 in
    let met : is_met (Some e) ≡ true = ap is_met (sym some.1) ∙ both.0 in
    let same : after_hand n.point e ≡ n.point = met_step l n e met in
    let x : Stage = with_hand n (after_hand n.point e) in
    let legal : move l Hand n ≡ Some x =
    ap (option_and_then (λ e. kept l.hand (with_hand n (after_hand n.point e)))) some.1 ∙ ap (λ b. cond b (Some x) None) both.1 in
    let taken : eager l Hand n ≡ Some x = ap (λ b. cond b (move l Hand n) (move l Hand n)) t ∙ legal in
    let in_range : n.hands < length l.hand = slice_get_within l.hand n.hands e some.1 in (
      x,
      taken,
      refl,
      record {
        point = same ∙ ahead.point;
        clients = ahead.clients;
        servers = ahead.servers;
        hands = omega (arith, ahead.hands);
        mets = λ p a b. elim (cases_lt p n.hands) [
          | inl below ↦ ahead.mets p a below
          | inr past ↦ let at : p ≡ n.hands = omega arith in ap (λ q. is_met (slice_get l.hand q)) at ∙ both.0
        ];
        kept = both.1;
        within = omega arith;
      },
    )

or_test : {P : Type 0} (b : Bool) → (b ≡ false → P) → (b ≡ true → P) → P
or_test false p q = p refl
or_test true p q = q refl

here : (l : Lists) (m n : Stage) → IsAhead l m n → takes_met l.hand n ≡ false → Settled l m n
here l m n ahead t = record { ws = []; end = n; walk = refl; ahead = ahead; rests = t }

-- Mets are taken until none may be next
settled : (fuel : ℕ) (l : Lists) (m n : Stage) → length l.hand ≤ n.hands + fuel → IsAhead l m n → Settled l m n
settled zero l m n long ahead =
    or_test (takes_met l.hand n) (here l m n ahead)
    (λ t. let r = takes l m n ahead t in absurd (omega (arith, r.2, r.3.within)))
settled (suc fuel) l m n long ahead =
    or_test (takes_met l.hand n) (here l m n ahead)
    (λ t.
    let r = takes l m n ahead t in
    let s = settled fuel l m r.0 (omega (arith, r.2)) r.3 in
    record { ws = Hand ∷ s.ws; end = s.end; walk = ap (option_and_then (walk (eager l) s.ws)) r.1 ∙ s.walk; ahead = s.ahead; rests = s.rests })

-- one step of the order: a Met that was taken before, or a step that the eager one makes too
pub data Follows (l : Lists) (x n : Stage) : Type 0 where
  Before : IsAhead l x n → Follows l x n
  Makes : (w : Who) (y : Stage) → eager l w n ≡ Some y → IsAhead l x y → Follows l x n

resting : (l : Lists) (w : Who) (n y : Stage) → takes_met l.hand n ≡ false → move l w n ≡ Some y → eager l w n ≡ Some y
resting l w n y t e = ap (λ b. cond b (hand_only l w n) (move l w n)) t ∙ e

follows : (l : Lists) (w : Who) (m x n : Stage) → IsAhead l m n → takes_met l.hand n ≡ false → move l w m ≡ Some x → Follows l x n
follows l Client m x n ahead rests e =
    option_and_then_some (λ e. option_and_then (λ p. kept l.hand (with_client m p)) (client_step m.point m.servers e)) (slice_get l.client m.clients) x e
    (λ v at f. option_and_then_some (λ p. kept l.hand (with_client m p)) (client_step m.point m.servers v) x f
    (λ p is g.
    let was = cond_some _ _ _ g in
    let keeps : keeps_mets l.hand 0 (n.clients + 1) n.hands ≡ true =
    keeps-mix l.hand 0 n.clients (n.clients + 1) m.hands n.hands (omega arith) ahead.hands
    (subst (λ i. keeps_mets l.hand 0 (i + 1) m.hands ≡ true) (sym ahead.clients) was.0) ahead.kept in
    let y : Stage = with_client n p in
    let step : client_step n.point n.servers v ≡ Some p = (λ i. client_step (ahead.point i) (ahead.servers i) v) ∙ is in
    let legal : move l Client n ≡ Some y =
    ap (option_and_then (λ e. option_and_then (λ p. kept l.hand (with_client n p)) (client_step n.point n.servers e))) (ap (slice_get l.client) ahead.clients ∙ at)
    ∙ (ap (option_and_then (λ p. kept l.hand (with_client n p))) step ∙ ap (λ b. cond b (Some y) None) keeps) in
    Makes Client y (resting l Client n y rests legal)
    (subst (λ x. IsAhead l x y) was.1 (record {
      point = refl;
      clients = ap (λ i. i + 1) ahead.clients;
      servers = ahead.servers;
      hands = ahead.hands;
      mets = ahead.mets;
      kept = keeps;
      within = ahead.within;
    }))))
follows l Server m x n ahead rests e =
    option_and_then_some (λ e. option_and_then (λ p. Some (with_server m p)) (server_step m.point m.clients e)) (slice_get l.server m.servers) x e
    (λ v at f. option_and_then_some (λ p. Some (with_server m p)) (server_step m.point m.clients v) x f
    (λ p is g.
    let y : Stage = with_server n p in
    let step : server_step n.point n.clients v ≡ Some p = (λ i. server_step (ahead.point i) (ahead.clients i) v) ∙ is in
    let legal : move l Server n ≡ Some y =
    ap (option_and_then (λ e. option_and_then (λ p. Some (with_server n p)) (server_step n.point n.clients e))) (ap (slice_get l.server) ahead.servers ∙ at)
    ∙ ap (option_and_then (λ p. Some (with_server n p))) step in
    Makes Server y (resting l Server n y rests legal)
    (subst (λ x. IsAhead l x y) (same_Some _ _ g) (record {
      point = refl;
      clients = ahead.clients;
      servers = ap (λ i. i + 1) ahead.servers;
      hands = ahead.hands;
      mets = ahead.mets;
      kept = ahead.kept;
      within = ahead.within;
    }))))
follows l Hand m x n ahead rests e =
    option_and_then_some (λ e. kept l.hand (with_hand m (after_hand m.point e))) (slice_get l.hand m.hands) x e
    (λ v at g.
    let was = cond_some _ _ _ g in
    elim (cases_lt m.hands n.hands) [
      | inl below ↦
          let met : is_met (Some v) ≡ true = ap is_met (sym at) ∙ ahead.mets m.hands (omega arith) below in
          Before (subst (λ x. IsAhead l x n) was.1 (record {
            point = ahead.point ∙ sym (met_step l m v met);
            clients = ahead.clients;
            servers = ahead.servers;
            hands = omega arith;
            mets = λ p a b. ahead.mets p (omega arith) b;
            kept = ahead.kept;
            within = ahead.within;
          }))
      | inr past ↦
          let even : n.hands ≡ m.hands = omega (arith, ahead.hands) in
          let y : Stage = with_hand n (after_hand n.point v) in
          let keeps : keeps_mets l.hand 0 n.clients (n.hands + 1) ≡ true = (λ i. keeps_mets l.hand 0 (ahead.clients i) (even i + 1)) ∙ was.0 in
          let legal : move l Hand n ≡ Some y =
          ap (option_and_then (λ e. kept l.hand (with_hand n (after_hand n.point e)))) (ap (slice_get l.hand) even ∙ at) ∙ ap (λ b. cond b (Some y) None) keeps in
          let in_range : m.hands < length l.hand = slice_get_within l.hand m.hands v at in
          Makes Hand y (resting l Hand n y rests legal)
          (subst (λ x. IsAhead l x y) was.1 (record {
            point = ap (λ p. after_hand p v) ahead.point;
            clients = ahead.clients;
            servers = ahead.servers;
            hands = omega arith;
            mets = λ p a b. absurd (omega arith);
            kept = keeps;
            within = omega arith;
          }))
    ])

joined_walk : (l : Lists) (x n : Stage) (vs : List Who) (z : Stage) → walk (eager l) vs n ≡ Some z → Eager l x z → Eager l x n
joined_walk l x n vs z is r =
    record { ws = vs ++ r.ws; end = r.end; walk = walk-append (eager l) vs r.ws n z r.end is r.walk; ahead = r.ahead }

stepped : (l : Lists) (x n : Stage) (w : Who) (z : Stage) → eager l w n ≡ Some z → Eager l x z → Eager l x n
stepped l x n w z is r = record { ws = w ∷ r.ws; end = r.end; walk = ap (option_and_then (walk (eager l) r.ws)) is ∙ r.walk; ahead = r.ahead }

-- For each order there is an eager one whose end is ahead of its end.
pub follows-walk : (l : Lists) (ws : List Who) (m x n : Stage) → IsAhead l m n → walk (move l) ws m ≡ Some x → Eager l x n
follows-walk l [] m x n ahead e = record { ws = []; end = n; walk = refl; ahead = subst (λ x. IsAhead l x n) (same_Some _ _ e) ahead }
follows-walk l (w ∷ ws) m x n ahead e =
    option_and_then_some (walk (move l) ws) (move l w m) x e
    (λ y is rest.
    let s = settled (length l.hand) l m n (omega arith) ahead in
    joined_walk l x n s.ws s.end s.walk
    (elim (follows l w m y s.end s.ahead s.rests is) [
      | Before before ↦ follows-walk l ws y x s.end before rest
      | Makes v z step after ↦ stepped l x s.end v z step (follows-walk l ws y x z after rest)
    ]))
