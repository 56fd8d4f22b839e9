-- The three parties' steps, and how many events a walk has.
use Rattle.std.proofs.Common.{zero, suc, ◌≡◌, ◌+◌, ◌<◌, ◌≤◌, List, [], ◌∷◌, length, Option, Some, ap, sym, subst, inl, inr, arith}
use Rattle.af_merges.proofs.Common.{All, All-contains, Contains, after_hand, cond_some, option_and_then, option_and_then_some, same_Some, slice_get, slice_get_within}
use Rattle.af_merges.specs.declared.search.Stage.{Stage}
use Rattle.af_merges.specs.MergeSteps.{client_step, server_step}
use Rattle.af_merges.specs.Walks.{walk, Adds, Spreads}
use Rattle.af_merges.proofs.EagerMets.{eager-move}
use Rattle.af_merges.specs.Stages.{Lists, Who, Client, Server, Hand, move, eager, kept, with_client, with_server, with_hand, InBounds, count, total}

each : (step : Who → Stage → Option Stage) (m : Stage) (old a b new : List Stage)
    → Adds old (step Client m) a → Adds a (step Server m) b → Adds b (step Hand m) new
    → (w : Who) (x : Stage) → step w m ≡ Some x → Contains new x
each step m old a b new one two three Client x e = three.keeps x (two.keeps x (one.has x e))
each step m old a b new one two three Server x e = three.keeps x (two.has x e)
each step m old a b new one two three Hand x e = three.has x e

-- the steps of all three parties were added
pub Spreads-from_three : (step : Who → Stage → Option Stage) (m : Stage) (old a b new : List Stage)
    → Adds old (step Client m) a → Adds a (step Server m) b → Adds b (step Hand m) new → Spreads step m old new
Spreads-from_three step m old a b new one two three = record {
  keeps = λ x c. three.keeps x (two.keeps x (one.keeps x c));
  has = λ w x e. each step m old a b new one two three w x e;
  only = λ x c.
      elim (three.only x c) [
        | inr e ↦ inr (Hand, e)
        | inl c ↦ elim (two.only x c) [
          | inr e ↦ inr (Server, e)
          | inl c ↦ elim (one.only x c) [
            | inr e ↦ inr (Client, e)
            | inl c ↦ inl c
          ]
        ]
      ];
}

-- each step counts one event
pub count-move : (l : Lists) (w : Who) (m n : Stage) → move l w m ≡ Some n → count n ≡ count m + 1
count-move l Client m n e =
    option_and_then_some (λ e. option_and_then (λ p. kept l.hand (with_client m p)) (client_step m.point m.servers e)) (slice_get l.client m.clients) n e
    (λ x _ f. option_and_then_some (λ p. kept l.hand (with_client m p)) (client_step m.point m.servers x) n f
    (λ p _ g. let h : with_client m p ≡ n = (cond_some _ _ _ g).1 in omega (arith, ap count h)))
count-move l Server m n e =
    option_and_then_some (λ e. option_and_then (λ p. Some (with_server m p)) (server_step m.point m.clients e)) (slice_get l.server m.servers) n e
    (λ x _ f. option_and_then_some (λ p. Some (with_server m p)) (server_step m.point m.clients x) n f
    (λ p _ g. let h : with_server m p ≡ n = same_Some _ _ g in omega (arith, ap count h)))
count-move l Hand m n e =
    option_and_then_some (λ e. kept l.hand (with_hand m (after_hand m.point e))) (slice_get l.hand m.hands) n e
    (λ x _ g. let h : with_hand m (after_hand m.point x) ≡ n = (cond_some _ _ _ g).1 in omega (arith, ap count h))

pub only_one : {M : Type 0} (start m : M) → Contains (start ∷ []) m → m ≡ start
only_one start m (zero, h, e) = sym e
only_one start m (suc k, h, e) = absurd (omega arith)

pub count-eager : (l : Lists) (w : Who) (m n : Stage) → eager l w m ≡ Some n → count n ≡ count m + 1
count-eager l w m n e = count-move l w m n (eager-move l w m n e)

-- no more events have stood than there are
pub record IsWithin (l : Lists) (m : Stage) : Type 0 where
  pub clients : m.clients ≤ length l.client
  pub servers : m.servers ≤ length l.server
  pub hands : m.hands ≤ length l.hand

within-move : (l : Lists) (w : Who) (m n : Stage) → move l w m ≡ Some n → IsWithin l m → IsWithin l n
within-move l Client m n e within =
    option_and_then_some (λ e. option_and_then (λ p. kept l.hand (with_client m p)) (client_step m.point m.servers e)) (slice_get l.client m.clients) n e
    (λ x at f. option_and_then_some (λ p. kept l.hand (with_client m p)) (client_step m.point m.servers x) n f
    (λ p _ g. subst (IsWithin l) (cond_some _ _ _ g).1 (record { clients = omega (arith, slice_get_within l.client m.clients x at); servers = within.servers; hands = within.hands })))
within-move l Server m n e within =
    option_and_then_some (λ e. option_and_then (λ p. Some (with_server m p)) (server_step m.point m.clients e)) (slice_get l.server m.servers) n e
    (λ x at f. option_and_then_some (λ p. Some (with_server m p)) (server_step m.point m.clients x) n f
    (λ p _ g. subst (IsWithin l) (same_Some _ _ g) (record { clients = within.clients; servers = omega (arith, slice_get_within l.server m.servers x at); hands = within.hands })))
within-move l Hand m n e within =
    option_and_then_some (λ e. kept l.hand (with_hand m (after_hand m.point e))) (slice_get l.hand m.hands) n e
    (λ x at g. subst (IsWithin l) (cond_some _ _ _ g).1 (record { clients = within.clients; servers = within.servers; hands = omega (arith, slice_get_within l.hand m.hands x at) }))

within-walk : (l : Lists) (ws : List Who) (m n : Stage) → walk (eager l) ws m ≡ Some n → IsWithin l m → IsWithin l n
within-walk l [] m n e within = subst (IsWithin l) (same_Some _ _ e) within
within-walk l (w ∷ ws) m n e within =
    option_and_then_some (walk (eager l) ws) (eager l w m) n e
    (λ x is rest. within-walk l ws x n rest (within-move l w m x (eager-move l w m x is) within))

-- no stage is further than there are events
pub count-short : (l : Lists) (starts : List Stage) → All (InBounds l) starts
    → (s : Stage) (ws : List Who) (m : Stage) → Contains starts s → walk (eager l) ws s ≡ Some m → count m < total l + 1
count-short l starts bounds s ws m c e =
    let b = All-contains (InBounds l) starts s bounds c in
    let r = within-walk l ws s m e (record { clients = b.clients; servers = b.servers; hands = b.hands }) in
    omega (arith, r.clients, r.servers, r.hands)
