-- The open stages of lists are enough to go on from, when more events come.
use Rattle.std.proofs.Common.{◌≡◌, ◌↔◌, ◌⊎◌, ℕ, zero, suc, ◌+◌, ◌<◌, ◌≤◌, List, [], ◌∷◌, ◌++◌, length, Some, None, Bool, true, false, cond, ◌&&◌, ◌||◌, ◌==◌, nat_le, refl, ap, ◌∙◌, sym, subst, inl, inr, arith, length-append, take, drop}
use Rattle.af_merges.proofs.Common.{All, ClientEvent, Contains, HandEvent, ServerEvent, TrackPoint, after_hand, all_one, and_parts, at_before, both_true, cases_lt, cond_some, equal_is, is_equal, length-take-le, nat_tests, option_and_then, option_and_then_some, same_Some, slice_get, slice_get_within, take-append-drop}
use Rattle.af_base.specs.declared.event.HandEvent.TheVariants as hand
use Rattle.af_merges.specs.declared.search.Stage.{Stage}
use Rattle.af_merges.specs.MergeSteps.{client_step, server_step}
use Rattle.af_merges.specs.Walks.{walk, IsReached}
use Rattle.af_merges.specs.Stages.{Lists, Who, Client, Server, Hand, move, eager, is_met, kept, keeps_event, keeps_mets, with_client, with_server, with_hand, begin, IsWhole, HasWalk, InBounds}
use Rattle.af_merges.specs.Merges.{IsStart}
use Rattle.af_merges.specs.MergePieces.{knows_no_more, is_open, IsOpen, IsFrontier, IsAhead, names_at_least, joined}
use Rattle.af_merges.specs.MergeSearch.{lists_in, searched, AreThere, MayStart, Afresh, GoesOn}
use Rattle.af_merges.specs.declared.pieces.Search.{Search}
use Rattle.af_merges.proofs.Levels.{walk-push, walk-append}
use Rattle.af_merges.proofs.StageCounts.{IsWithin, only_one}
use Rattle.af_merges.proofs.EagerMets.{eager-walk, follows-walk, ahead-itself}
use Rattle.af_merges.proofs.Mets.{keeps-append}

get_back : {X : Type 0} (xs ys : List X) (i : ℕ) (x : X) → i < length xs → slice_get (xs ++ ys) i ≡ Some x → slice_get xs i ≡ Some x
get_back [] ys i x h e = absurd (omega arith)
get_back (z ∷ xs) ys zero x h e = e
get_back (z ∷ xs) ys (suc i) x h e = get_back xs ys i x (omega arith) e

pub keeps-front : (a b : List HandEvent) (place i k : ℕ) → keeps_mets (a ++ b) place i k ≡ true → keeps_mets a place i k ≡ true
keeps-front [] b place i k e = refl
keeps-front (h ∷ a) b place i k e =
    let both = and_parts (keeps_event h place i k) (keeps_mets (a ++ b) (place + 1) i k) e in
    both_true (keeps_event h place i k) (keeps_mets a (place + 1) i k) both.0 (keeps-front a b (place + 1) i k both.1)

new-met : (known n i k place : ℕ) → nat_le n known ≡ true → i ≤ n → k ≤ place
    → ((nat_le k (place + 1) || nat_le known i) && (nat_le i known || nat_le place k)) ≡ true
new-met known n i k place p q r = grind (arith, nat_tests)

-- what stood before a Met of at least so many client events came is as it was
keeps-new : (n : ℕ) (hs : List HandEvent) (place i k : ℕ) → names_at_least n hs ≡ true → i ≤ n → k ≤ place → keeps_mets hs place i k ≡ true
keeps-new n [] place i k names p q = refl
keeps-new n (hand.SetFlags bits ∷ hs) place i k names p q = keeps-new n hs (place + 1) i k names p (omega arith)
keeps-new n (hand.Met known ∷ hs) place i k names p q =
    let both = and_parts (nat_le n known) (names_at_least n hs) names in
    both_true _ (keeps_mets hs (place + 1) i k) (new-met known n i k place both.0 p q) (keeps-new n hs (place + 1) i k both.1 p (omega arith))

old-met : (known i k place : ℕ) → place < k → ((nat_le (k + 1) (place + 1) || nat_le known i) && (nat_le i known || nat_le place (k + 1))) ≡ true → nat_le known i ≡ true
old-met known i k place h e = grind (arith, nat_tests)

-- past the hand's list each Met's client events have stood
pub knows-kept : (hs : List HandEvent) (place i k : ℕ) → place + length hs ≤ k → keeps_mets hs place i (k + 1) ≡ true → knows_no_more hs i ≡ true
knows-kept [] place i k h e = refl
knows-kept (hand.SetFlags bits ∷ hs) place i k h e = knows-kept hs (place + 1) i k (omega arith) e
knows-kept (hand.Met known ∷ hs) place i k h e =
    let both = and_parts (keeps_event (hand.Met known) place i (k + 1)) (keeps_mets hs (place + 1) i (k + 1)) e in
    both_true _ (knows_no_more hs i) (old-met known i k place (omega arith) both.0) (knows-kept hs (place + 1) i k (omega arith) both.1)

pub knows-front : (a b : List HandEvent) (i : ℕ) → knows_no_more (a ++ b) i ≡ true → knows_no_more a i ≡ true
knows-front [] b i e = refl
knows-front (hand.SetFlags bits ∷ a) b i e = knows-front a b i e
knows-front (hand.Met known ∷ a) b i e =
    let both = and_parts (nat_le known i) (knows_no_more (a ++ b) i) e in
    both_true (nat_le known i) (knows_no_more a i) both.0 (knows-front a b i both.1)

-- a step that can be made can still be made when more events have come
pub record Lifts (l : Lists) (cs : List ClientEvent) (ss : List ServerEvent) (hs : List HandEvent) (w : Who) (x y : Stage) : Type 0 where
  pub legal : move (joined l cs ss hs) w x ≡ Some y
  pub within : IsWithin l y

kept-more : (l : Lists) (hs : List HandEvent) (m y : Stage) → names_at_least (length l.client) hs ≡ true
    → kept l.hand m ≡ Some y → m.clients ≤ length l.client → m.hands ≤ length l.hand → kept (l.hand ++ hs) m ≡ Some y
kept-more l hs m y names e p q =
    let was = cond_some _ _ _ e in
    let all : keeps_mets (l.hand ++ hs) 0 m.clients m.hands ≡ true =
    keeps-append l.hand hs 0 m.clients m.hands was.0 (keeps-new (length l.client) hs (0 + length l.hand) m.clients m.hands names p (omega arith)) in
    ap (λ b. cond b (Some m) None) all ∙ ap Some was.1

lifts : (l : Lists) (cs : List ClientEvent) (ss : List ServerEvent) (hs : List HandEvent) (w : Who) (x y : Stage)
    → names_at_least (length l.client) hs ≡ true → IsWithin l x → move l w x ≡ Some y → Lifts l cs ss hs w x y
lifts l cs ss hs Client x y names within e =
    option_and_then_some (λ e. option_and_then (λ p. kept l.hand (with_client x p)) (client_step x.point x.servers e)) (slice_get l.client x.clients) y e
    (λ v at f. option_and_then_some (λ p. kept l.hand (with_client x p)) (client_step x.point x.servers v) y f
    (λ p is g.
    let in_range : x.clients < length l.client = slice_get_within l.client x.clients v at in
    let same : with_client x p ≡ y = (cond_some _ _ _ g).1 in
    record {
      legal =
          ap (option_and_then (λ e. option_and_then (λ p. kept (l.hand ++ hs) (with_client x p)) (client_step x.point x.servers e))) (at_before l.client cs x.clients v at)
          ∙ (ap (option_and_then (λ p. kept (l.hand ++ hs) (with_client x p))) is ∙ kept-more l hs (with_client x p) y names g (omega arith) within.hands);
      within = subst (IsWithin l) same (record { clients = omega arith; servers = within.servers; hands = within.hands });
    }))
lifts l cs ss hs Server x y names within e =
    option_and_then_some (λ e. option_and_then (λ p. Some (with_server x p)) (server_step x.point x.clients e)) (slice_get l.server x.servers) y e
    (λ v at f. option_and_then_some (λ p. Some (with_server x p)) (server_step x.point x.clients v) y f
    (λ p is g.
    let in_range : x.servers < length l.server = slice_get_within l.server x.servers v at in
    let same : with_server x p ≡ y = same_Some _ _ g in
    record {
      legal = ap (option_and_then (λ e. option_and_then (λ p. Some (with_server x p)) (server_step x.point x.clients e))) (at_before l.server ss x.servers v at) ∙ f;
      within = subst (IsWithin l) same (record { clients = within.clients; servers = omega arith; hands = within.hands });
    }))
lifts l cs ss hs Hand x y names within e =
    option_and_then_some (λ e. kept l.hand (with_hand x (after_hand x.point e))) (slice_get l.hand x.hands) y e
    (λ v at g.
    let in_range : x.hands < length l.hand = slice_get_within l.hand x.hands v at in
    let same : with_hand x (after_hand x.point v) ≡ y = (cond_some _ _ _ g).1 in
    record {
      legal =
          ap (option_and_then (λ e. kept (l.hand ++ hs) (with_hand x (after_hand x.point e)))) (at_before l.hand hs x.hands v at)
          ∙ kept-more l hs (with_hand x (after_hand x.point v)) y names g within.clients (omega arith);
      within = subst (IsWithin l) same (record { clients = within.clients; servers = within.servers; hands = omega arith });
    })

pub lifts-walk : (l : Lists) (cs : List ClientEvent) (ss : List ServerEvent) (hs : List HandEvent) (ws : List Who) (x m : Stage)
    → names_at_least (length l.client) hs ≡ true → IsWithin l x → walk (move l) ws x ≡ Some m → walk (move (joined l cs ss hs)) ws x ≡ Some m
lifts-walk l cs ss hs [] x m names within e = e
lifts-walk l cs ss hs (w ∷ ws) x m names within e =
    option_and_then_some (walk (move l) ws) (move l w x) m e
    (λ y is rest.
    let s = lifts l cs ss hs w x y names within is in
    ap (option_and_then (walk (move (joined l cs ss hs)) ws)) s.legal ∙ lifts-walk l cs ss hs ws y m names s.within rest)

or_first : (a b c : Bool) → a ≡ true → ((a || b) || c) ≡ true
or_first a b c h = rw h refl

or_second : (a b c : Bool) → b ≡ true → ((a || b) || c) ≡ true
or_second true b c h = refl
or_second false b c h = rw h refl

or_third : (a b c : Bool) → c ≡ true → ((a || b) || c) ≡ true
or_third true b c h = refl
or_third false true c h = refl
or_third false false c h = h

or_cases : (a b c : Bool) → ((a || b) || c) ≡ true → (a ≡ true) ⊎ ((b ≡ true) ⊎ (c ≡ true))
or_cases true b c h = inl refl
or_cases false true c h = inr (inl refl)
or_cases false false c h = inr (inr h)

-- a step of the longer lists from a stage of the shorter ones: a step of the shorter ones, or one from an open stage
abbrev pub Drops : Lists → Who → Stage → Stage → Type 0
Drops l w x y = (move l w x ≡ Some y) ⊎ (is_open l x ≡ true)

kept-front : (a b : List HandEvent) (m y : Stage) → kept (a ++ b) m ≡ Some y → kept a m ≡ Some y
kept-front a b m y e =
    let was = cond_some _ _ _ e in
    ap (λ t. cond t (Some m) None) (keeps-front a b 0 m.clients m.hands was.0) ∙ ap Some was.1

open-client : (l : Lists) (x : Stage) → x.clients ≡ length l.client → is_open l x ≡ true
open-client l x h = or_first (x.clients == length l.client) _ _ (is_equal _ _ h)

open-server : (l : Lists) (x : Stage) → x.servers ≡ length l.server → is_open l x ≡ true
open-server l x h = or_second (x.clients == length l.client) (x.servers == length l.server) _ (is_equal _ _ h)

open-hand : (l : Lists) (x : Stage) → x.hands ≡ length l.hand → knows_no_more l.hand x.clients ≡ true → is_open l x ≡ true
open-hand l x h k = or_third (x.clients == length l.client) (x.servers == length l.server) _ (both_true (x.hands == length l.hand) _ (is_equal _ _ h) k)

drops : (l : Lists) (cs : List ClientEvent) (ss : List ServerEvent) (hs : List HandEvent) (w : Who) (x y : Stage)
    → IsWithin l x → move (joined l cs ss hs) w x ≡ Some y → Drops l w x y
drops l cs ss hs Client x y within e =
    elim (cases_lt x.clients (length l.client)) [
      | inl below ↦
          option_and_then_some (λ e. option_and_then (λ p. kept (l.hand ++ hs) (with_client x p)) (client_step x.point x.servers e)) (slice_get (l.client ++ cs) x.clients) y e
          (λ v at f. option_and_then_some (λ p. kept (l.hand ++ hs) (with_client x p)) (client_step x.point x.servers v) y f
          (λ p is g. inl (
          ap (option_and_then (λ e. option_and_then (λ p. kept l.hand (with_client x p)) (client_step x.point x.servers e))) (get_back l.client cs x.clients v below at)
          ∙ (ap (option_and_then (λ p. kept l.hand (with_client x p))) is ∙ kept-front l.hand hs (with_client x p) y g))))
      | inr past ↦ inr (open-client l x (omega (arith, within.clients)))
    ]
drops l cs ss hs Server x y within e =
    elim (cases_lt x.servers (length l.server)) [
      | inl below ↦
          option_and_then_some (λ e. option_and_then (λ p. Some (with_server x p)) (server_step x.point x.clients e)) (slice_get (l.server ++ ss) x.servers) y e
          (λ v at f. inl (ap (option_and_then (λ e. option_and_then (λ p. Some (with_server x p)) (server_step x.point x.clients e))) (get_back l.server ss x.servers v below at) ∙ f))
      | inr past ↦ inr (open-server l x (omega (arith, within.servers)))
    ]
drops l cs ss hs Hand x y within e =
    option_and_then_some (λ e. kept (l.hand ++ hs) (with_hand x (after_hand x.point e))) (slice_get (l.hand ++ hs) x.hands) y e
    (λ v at g.
    elim (cases_lt x.hands (length l.hand)) [
      | inl below ↦ inl (
          ap (option_and_then (λ e. kept l.hand (with_hand x (after_hand x.point e)))) (get_back l.hand hs x.hands v below at)
          ∙ kept-front l.hand hs (with_hand x (after_hand x.point v)) y g)
      | inr past ↦
          let all : keeps_mets l.hand 0 x.clients (x.hands + 1) ≡ true = keeps-front l.hand hs 0 x.clients (x.hands + 1) (cond_some _ _ _ g).0 in
          inr (open-hand l x (omega (arith, within.hands)) (knows-kept l.hand 0 x.clients x.hands (omega arith) all))
    ])

-- an old stage that is open for the longer lists was open before
open-old : (l : Lists) (cs : List ClientEvent) (ss : List ServerEvent) (hs : List HandEvent) (m : Stage)
    → IsWithin l m → is_open (joined l cs ss hs) m ≡ true → is_open l m ≡ true
open-old l cs ss hs m within still =
    elim (or_cases (m.clients == length (l.client ++ cs)) (m.servers == length (l.server ++ ss)) _ still) [
      | inl a ↦ open-client l m (omega (arith, within.clients, equal_is _ _ a, length-append l.client cs))
      | inr other ↦ elim other [
        | inl a ↦ open-server l m (omega (arith, within.servers, equal_is _ _ a, length-append l.server ss))
        | inr a ↦
            let both = and_parts (m.hands == length (l.hand ++ hs)) (knows_no_more (l.hand ++ hs) m.clients) a in
            open-hand l m (omega (arith, within.hands, equal_is _ _ both.0, length-append l.hand hs)) (knows-front l.hand hs m.clients both.1)
      ]
    ]

first-met : (known place : ℕ) → ((nat_le 0 (place + 1) || nat_le known 0) && (nat_le 0 known || nat_le place 0)) ≡ true
first-met known place = grind (arith, nat_tests)

-- at the beginning each Met is kept
pub keeps_first : (hs : List HandEvent) (place : ℕ) → keeps_mets hs place 0 0 ≡ true
keeps_first [] place = refl
keeps_first (hand.SetFlags bits ∷ hs) place = keeps_first hs (place + 1)
keeps_first (hand.Met known ∷ hs) place = both_true _ (keeps_mets hs (place + 1) 0 0) (first-met known place) (keeps_first hs (place + 1))

met-front : (a b : List HandEvent) (p : ℕ) → p < length a → is_met (slice_get a p) ≡ true → is_met (slice_get (a ++ b) p) ≡ true
met-front [] b p h m = absurd (omega arith)
met-front (x ∷ a) b zero h m = m
met-front (x ∷ a) b (suc p) h m = met-front a b p (omega arith) m

-- what is ahead of an open stage is open
open-ahead : (l : Lists) (m n : Stage) → IsAhead l m n → is_open l m ≡ true → is_open l n ≡ true
open-ahead l m n ahead still =
    elim (or_cases (m.clients == length l.client) (m.servers == length l.server) _ still) [
      | inl a ↦ open-client l n (ahead.clients ∙ equal_is _ _ a)
      | inr other ↦ elim other [
        | inl a ↦ open-server l n (ahead.servers ∙ equal_is _ _ a)
        | inr a ↦
            let both = and_parts (m.hands == length l.hand) (knows_no_more l.hand m.clients) a in
            open-hand l n (omega (arith, ahead.hands, ahead.within, equal_is _ _ both.0)) (subst (λ i. knows_no_more l.hand i ≡ true) (sym ahead.clients) both.1)
      ]
    ]

starts-ahead : (l : Lists) (from : TrackPoint) → IsAhead l (begin from) (begin from)
starts-ahead l from = ahead-itself l (begin from) (keeps_first l.hand 0) (omega arith)

-- whole lists searched afresh
pub IsFrontier-afresh : (l : Lists) (from : TrackPoint) (found : List Stage) → IsReached (eager l) (IsOpen l) (begin from ∷ []) found → IsFrontier l from found
IsFrontier-afresh l from found reached = record {
  sound = λ m c.
      let r = reached.sound m c in
      let at : r.0 ≡ begin from = only_one (begin from) r.0 r.1 in
      (r.2, ap (walk (move l) r.2) (sym at) ∙ eager-walk l r.2 r.0 m r.3);
  complete = λ ws m e o.
      let r = follows-walk l ws (begin from) m (begin from) (starts-ahead l from) e in
      (r.end, reached.complete (begin from) r.ws r.end (0, omega arith, refl) r.walk (open-ahead l m r.end r.ahead o), r.ahead);
}

-- what is ahead in the shorter lists is in the longer ones
ahead-more : (l : Lists) (cs : List ClientEvent) (ss : List ServerEvent) (hs : List HandEvent) (m n : Stage)
    → names_at_least (length l.client) hs ≡ true → n.clients ≤ length l.client → IsAhead l m n → IsAhead (joined l cs ss hs) m n
ahead-more l cs ss hs m n names short a = record {
  point = a.point;
  clients = a.clients;
  servers = a.servers;
  hands = a.hands;
  mets = λ p x y. met-front l.hand hs p (omega (arith, a.within)) (a.mets p x y);
  kept = keeps-append l.hand hs 0 n.clients n.hands a.kept (keeps-new (length l.client) hs (0 + length l.hand) n.clients n.hands names short (omega (arith, a.within)));
  within = omega (arith, a.within, length-append l.hand hs);
}

-- an order of the longer lists is one of the shorter ones, or goes on from an open stage of theirs
pub data Comes (l : Lists) (cs : List ClientEvent) (ss : List ServerEvent) (hs : List HandEvent) (b m : Stage) : Type 0 where
  Old : (ws : List Who) → walk (move l) ws b ≡ Some m → IsWithin l m → Comes l cs ss hs b m
  New : (vs : List Who) (x : Stage) → walk (move l) vs b ≡ Some x → IsWithin l x → is_open l x ≡ true
      → (ws : List Who) → walk (move (joined l cs ss hs)) ws x ≡ Some m → Comes l cs ss hs b m

comes : (l : Lists) (cs : List ClientEvent) (ss : List ServerEvent) (hs : List HandEvent) (b : Stage) → names_at_least (length l.client) hs ≡ true
    → (vs ws : List Who) (x m : Stage) → walk (move l) vs b ≡ Some x → IsWithin l x → walk (move (joined l cs ss hs)) ws x ≡ Some m
    → Comes l cs ss hs b m
comes l cs ss hs b names vs [] x m e within f = subst (Comes l cs ss hs b) (same_Some _ _ f) (Old vs e within)
comes l cs ss hs b names vs (w ∷ ws) x m e within f =
    option_and_then_some (walk (move (joined l cs ss hs)) ws) (move (joined l cs ss hs) w x) m f
    (λ y is rest.
    elim (drops l cs ss hs w x y within is) [
      | inl old ↦
          let s = lifts l cs ss hs w x y names within old in
          comes l cs ss hs b names (vs ++ w ∷ []) ws y m (walk-push (move l) vs w b x y e old) s.within rest
      | inr still ↦ New vs x e within still (w ∷ ws) f
    ])

-- The open stages of the shorter lists lead to those of the longer ones.
pub frontier_more : (l : Lists) (cs : List ClientEvent) (ss : List ServerEvent) (hs : List HandEvent) (from : TrackPoint) (old new : List Stage)
    → names_at_least (length l.client) hs ≡ true → IsFrontier l from old
    → IsReached (eager (joined l cs ss hs)) (IsOpen (joined l cs ss hs)) old new → IsFrontier (joined l cs ss hs) from new
frontier_more l cs ss hs from old new names before reached =
    let longer = joined l cs ss hs in
    let none : IsWithin l (begin from) = record { clients = omega arith; servers = omega arith; hands = omega arith } in
    record {
      sound = λ m c.
          let r = reached.sound m c in
          let s = before.sound r.0 r.1 in
          (s.0 ++ r.2, walk-append (move longer) s.0 r.2 (begin from) r.0 m (lifts-walk l cs ss hs s.0 (begin from) r.0 names none s.1) (eager-walk longer r.2 r.0 m r.3));
      complete = λ ws m e o.
          elim (comes l cs ss hs (begin from) names [] ws (begin from) m refl none e) [
            | Old vs g within ↦
                let p = before.complete vs m g (open-old l cs ss hs m within o) in
                let a = ahead-more l cs ss hs m p.0 names (omega (arith, p.2.clients, within.clients)) p.2 in
                (p.0, reached.complete p.0 [] p.0 p.1 refl (open-ahead longer m p.0 a o), a)
            | New vs x g within still us f ↦
                let p = before.complete vs x g still in
                let a = ahead-more l cs ss hs x p.0 names (omega (arith, p.2.clients, within.clients)) p.2 in
                let r = follows-walk longer us x m p.0 a f in
                (r.end, reached.complete p.0 r.ws r.end p.1 r.walk (open-ahead longer m r.end r.ahead o), r.ahead)
          ];
    }

whole-ahead : (l : Lists) (m n : Stage) → IsAhead l m n → IsWhole l m → IsWhole l n
whole-ahead l m n a w = record { client = a.clients ∙ w.client; server = a.servers ∙ w.server; hand = omega (arith, a.hands, a.within, w.hand) }

-- what the search found says whether there is an order
pub HasWalk-at_frontier : (l : Lists) (from : TrackPoint) (stages : List Stage) → IsFrontier l from stages
    → ((m : Stage) × Contains stages m × IsWhole l m) ↔ HasWalk l from
HasWalk-at_frontier l from stages frontier = (
  (λ r. let s = frontier.sound r.0 r.1 in (s.0, r.0, s.1, r.2)),
  (λ r. let p = frontier.complete r.0 r.1 r.2 (open-client l r.1 r.3.client) in (p.0, p.1, whole-ahead l r.1 p.0 p.2 r.3)),
)

-- what was searched and what came later are the lists
whole_again : (s : Search) → joined (searched s) (drop s.clients s.client.items) (drop s.servers s.server.items) (drop s.hands s.hand.items) ≡ lists_in s
whole_again s = λ i. record {
  client = take-append-drop s.clients s.client.items i;
  server = take-append-drop s.servers s.server.items i;
  hand = take-append-drop s.hands s.hand.items i;
}

names-later : (s : Search) → AreThere s → names_at_least s.clients (drop s.hands s.hand.items) ≡ true
    → names_at_least (length (take s.clients s.client.items)) (drop s.hands s.hand.items) ≡ true
names-later s there names =
    subst (λ (n : ℕ). names_at_least n (drop s.hands s.hand.items) ≡ true) (sym (length-take-le s.clients s.client.items there.clients)) names

-- what was searched from stages that it may begin at is all of it
pub IsFrontier-from_starts : (s : Search) (starts found : List Stage)
    → MayStart s starts → IsReached (eager (lists_in s)) (IsOpen (lists_in s)) starts found → IsFrontier (lists_in s) s.from found
IsFrontier-from_starts s starts found (Afresh e) reached =
    IsFrontier-afresh (lists_in s) s.from found
    (subst (λ (xs : List Stage). IsReached (eager (lists_in s)) (IsOpen (lists_in s)) xs found) e reached)
IsFrontier-from_starts s starts found (GoesOn there names frontier bounds) reached =
    subst (λ (l : Lists). IsFrontier l s.from found) (whole_again s)
    (frontier_more (searched s) (drop s.clients s.client.items) (drop s.servers s.server.items) (drop s.hands s.hand.items) s.from starts found
    (names-later s there names) frontier
    (subst (λ (l : Lists). IsReached (eager l) (IsOpen l) starts found) (sym (whole_again s)) reached))

pub InBounds-more : (l : Lists) (cs : List ClientEvent) (ss : List ServerEvent) (hs : List HandEvent) (m : Stage)
    → names_at_least (length l.client) hs ≡ true → InBounds l m → InBounds (joined l cs ss hs) m
InBounds-more l cs ss hs m names b = record {
  released = b.released;
  rear_seen = b.rear_seen;
  consumed = b.consumed;
  flush_at = b.flush_at;
  drop_to = b.drop_to;
  flushes = b.flushes;
  clients = omega (arith, b.clients, length-append l.client cs);
  servers = omega (arith, b.servers, length-append l.server ss);
  hands = omega (arith, b.hands, length-append l.hand hs);
  kept = keeps-append l.hand hs 0 m.clients m.hands b.kept (keeps-new (length l.client) hs (0 + length l.hand) m.clients m.hands names b.clients (omega (arith, b.hands)));
}

-- the beginning is in bounds
pub InBounds-first : (l : Lists) (from : TrackPoint) → IsStart from → InBounds l (begin from)
InBounds-first l from p = record {
  released = omega (arith, p.released);
  rear_seen = omega (arith, p.rear_seen);
  consumed = omega (arith, p.consumed);
  flush_at = omega (arith, p.flush_at);
  drop_to = omega (arith, p.drop_to);
  flushes = omega (arith, p.flushes);
  clients = omega arith;
  servers = omega arith;
  hands = omega arith;
  kept = keeps_first l.hand 0;
}

-- stages that the search begins with are in bounds
pub All-InBounds-from_starts : (s : Search) (starts : List Stage) → MayStart s starts → IsStart s.from → All (InBounds (lists_in s)) starts
All-InBounds-from_starts s starts (Afresh e) p =
    subst (All (InBounds (lists_in s))) (sym e) (all_one (InBounds (lists_in s)) (begin s.from) (InBounds-first (lists_in s) s.from p))
All-InBounds-from_starts s starts (GoesOn there names frontier bounds) p =
    subst (λ (l : Lists). All (InBounds l) starts) (whole_again s)
    (λ k d h. InBounds-more (searched s) (drop s.clients s.client.items) (drop s.servers s.server.items) (drop s.hands s.hand.items) _ (names-later s there names) (bounds k d h))
