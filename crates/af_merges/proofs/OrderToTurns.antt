-- From a legal order of three lists to turns that lead through them.
use Rattle.std.proofs.Common.{◌≡◌, ℕ, zero, suc, ◌+◌, ◌≤◌, List, [], ◌∷◌, ◌++◌, length, drop, Some, None, true, cond, nat_le, refl, ap, ◌∙◌, sym, subst, arith, append_assoc, append-nil, length-append}
use Rattle.af_merges.proofs.Common.{ClientEvent, HandEvent, HandMay, IsLegal, Moment, ServerEvent, TrackPoint, after, after_client, after_hand, after_server, and_parts, at_seam, both_true, by_client, by_hand, by_server, client_of, clients_at, hand_of, is_within, met_in, option_and_then, server_of, slice_get}
use Rattle.af_base.specs.declared.event.HandEvent.TheVariants as hand
use Rattle.af_model.proofs.Basics.{hand_met}
use Rattle.af_merges.specs.declared.search.Stage.{Stage}
use Rattle.af_merges.specs.Merges.{HasLegalOrder}
use Rattle.af_merges.specs.MergeSteps.{client_step, server_step}
use Rattle.af_merges.specs.Walks.{walk}
use Rattle.af_merges.specs.Stages.{Lists, Who, Client, Server, Hand, move, kept, keeps_mets, with_client, with_server, with_hand, begin, HasWalk}
use Rattle.af_merges.specs.MergePieces.{names_at_least}
use Rattle.af_merges.proofs.MetTests.{client-kept}
use Rattle.af_merges.proofs.MayTests.{client_legal-may, server_legal-may}
use Rattle.af_merges.proofs.Levels.{walk-push}
use Rattle.af_merges.proofs.MetsInOrder.{hand-more, knows-met, names-fewer}
use Rattle.af_merges.proofs.Extends.{keeps_first}

-- the hand's events to come: the next one, and those past it
abbrev names_next : ℕ → List HandEvent → Type 0
names_next n [] = Unit {0}
names_next n (h ∷ hs) = names_at_least n (h ∷ []) ≡ true

abbrev names_later : ℕ → List HandEvent → Type 0
names_later n [] = Unit {0}
names_later n (h ∷ hs) = names_at_least n hs ≡ true

names-both : (n : ℕ) (hs : List HandEvent) → names_next n hs → names_later n hs → names_at_least n hs ≡ true
names-both n [] a b = refl
names-both n (hand.SetFlags bits ∷ hs) a b = b
names-both n (hand.Met known ∷ hs) a b = both_true (nat_le n known) (names_at_least n hs) (and_parts (nat_le n known) true a).0 b

names-drop : (a b : List HandEvent) (n d : ℕ) → d ≡ length a + 1 → names_later n b → names_at_least n (drop d (a ++ b)) ≡ true
names-drop a b n zero e h = absurd (omega arith)
names-drop [] [] n (suc d) e h = refl
names-drop [] (x ∷ b) n (suc d) e h = let none : d ≡ 0 = omega arith in ap (λ d. names_at_least n (drop d b)) none ∙ h
names-drop (y ∷ a) b n (suc d) e h = names-drop a b n d (omega arith) h

later-fewer : (i j : ℕ) (hs : List HandEvent) → i ≤ j → names_later j hs → names_later i hs
later-fewer i j [] h e = tt
later-fewer i j (x ∷ hs) h e = names-fewer hs i j h e

hand_next : (clients met at : ℕ) (e : HandEvent) → HandMay clients met at e → names_at_least at (e ∷ []) ≡ true
hand_next clients met at (hand.SetFlags bits) may = refl
hand_next clients met at (hand.Met known) may = both_true (nat_le at known) true (is_within at known may.1) refl

-- what is to come of the three lists after the order
record IsRest (l : Lists) (order : List Moment) (cs : List ClientEvent) (ss : List ServerEvent) (hs : List HandEvent) : Type 0 where
  pub client : client_of order ++ cs ≡ l.client
  pub server : server_of order ++ ss ≡ l.server
  pub hand : hand_of order ++ hs ≡ l.hand
  pub next : names_next (clients_at order) hs
  pub later : names_later (length (client_of order)) hs

get-in : {X : Type 0} (xs : List X) (x : X) (ys all : List X) → xs ++ x ∷ ys ≡ all → slice_get all (length xs) ≡ Some x
get-in {X = X} xs x ys all e = ap (λ (l : List X). slice_get l (length xs)) (sym e) ∙ at_seam xs x ys

abbrev stage_of : TrackPoint → List Moment → Stage
stage_of p order =
    record { point = after p order; clients = length (client_of order); servers = length (server_of order); hands = length (hand_of order) }

-- the turns of an order, each of which is kept
record Turns (l : Lists) (p : TrackPoint) (order : List Moment) : Type 0 where
  pub ws : List Who
  pub leads : walk (move l) ws (begin p) ≡ Some (stage_of p order)
  pub kept : keeps_mets l.hand 0 (length (client_of order)) (length (hand_of order)) ≡ true

one-more : {X : Type 0} (xs : List X) (x : X) → length xs + 1 ≡ length (xs ++ x ∷ [])
one-more xs x = omega (arith, length-append xs (x ∷ []))

push_turn : (l : Lists) (p : TrackPoint) (order : List Moment) (m : Moment) (w : Who) → Turns l p order
    → move l w (stage_of p order) ≡ Some (stage_of p (m ∷ order)) → keeps_mets l.hand 0 (length (client_of (m ∷ order))) (length (hand_of (m ∷ order))) ≡ true
    → Turns l p (m ∷ order)
push_turn l p order m w t e k = record {
  ws = t.ws ++ w ∷ [];
  leads = walk-push (move l) t.ws w (begin p) (stage_of p order) (stage_of p (m ∷ order)) t.leads e;
  kept = k;
}

turns : (l : Lists) (p : TrackPoint) (order : List Moment) (cs : List ClientEvent) (ss : List ServerEvent) (hs : List HandEvent)
    → IsLegal p order → IsRest l order cs ss hs → Turns l p order
turns l p [] cs ss hs legal rest = record { ws = []; leads = refl; kept = keeps_first l.hand 0 }
turns l p (by_client e ∷ order) cs ss hs legal rest =
    let i = length (client_of order) in
    let k = length (hand_of order) in
    let x : Stage = stage_of p order in
    let y : Stage = with_client x (after_client x.point e) in
    let before : IsRest l order (e ∷ cs) ss hs = record {
      client = sym (append_assoc (client_of order) (e ∷ []) cs) ∙ rest.client;
      server = rest.server;
      hand = rest.hand;
      next = rest.next;
      later = later-fewer i (length (client_of order ++ e ∷ [])) hs (omega (arith, one-more (client_of order) e)) rest.later;
    } in
    let t = turns l p order (e ∷ cs) ss hs legal.1 before in
    let names : names_at_least (i + 1) (drop (k + 1) l.hand) ≡ true =
    subst (λ (xs : List HandEvent). names_at_least (i + 1) (drop (k + 1) xs) ≡ true) rest.hand
    (names-drop (hand_of order) hs (i + 1) (k + 1) refl (subst (λ n. names_later n hs) (sym (one-more (client_of order) e)) rest.later)) in
    let keeps : keeps_mets l.hand 0 (i + 1) k ≡ true = client-kept l.hand 0 i k (k + 1) (omega arith) t.kept ∙ names in
    let get : slice_get l.client i ≡ Some e = get-in (client_of order) e cs l.client before.client in
    let step : client_step x.point x.servers e ≡ Some (after_client x.point e) =
    ap (λ b. cond b (Some (after_client x.point e)) None) (client_legal-may x.point x.servers e legal.0) in
    let made : move l Client x ≡ Some y =
    ap (option_and_then (λ e. option_and_then (λ q. kept l.hand (with_client x q)) (client_step x.point x.servers e))) get
    ∙ (ap (option_and_then (λ q. kept l.hand (with_client x q))) step ∙ ap (λ b. cond b (Some y) None) keeps) in
    let same : y ≡ stage_of p (by_client e ∷ order) = λ j. record { point = y.point; clients = one-more (client_of order) e j; servers = y.servers; hands = y.hands } in
    push_turn l p order (by_client e) Client t (made ∙ ap Some same) (subst (λ n. keeps_mets l.hand 0 n k ≡ true) (one-more (client_of order) e) keeps)
turns l p (by_server e ∷ order) cs ss hs legal rest =
    let x : Stage = stage_of p order in
    let y : Stage = with_server x (after_server x.point e) in
    let before : IsRest l order cs (e ∷ ss) hs = record {
      client = rest.client;
      server = sym (append_assoc (server_of order) (e ∷ []) ss) ∙ rest.server;
      hand = rest.hand;
      next = rest.next;
      later = rest.later;
    } in
    let t = turns l p order cs (e ∷ ss) hs legal.1 before in
    let get : slice_get l.server x.servers ≡ Some e = get-in (server_of order) e ss l.server before.server in
    let step : server_step x.point x.clients e ≡ Some (after_server x.point e) =
    ap (λ b. cond b (Some (after_server x.point e)) None) (server_legal-may x.point x.clients e legal.0) in
    let made : move l Server x ≡ Some y =
    ap (option_and_then (λ e. option_and_then (λ q. Some (with_server x q)) (server_step x.point x.clients e))) get
    ∙ ap (option_and_then (λ q. Some (with_server x q))) step in
    let same : y ≡ stage_of p (by_server e ∷ order) = λ j. record { point = y.point; clients = y.clients; servers = one-more (server_of order) e j; hands = y.hands } in
    push_turn l p order (by_server e) Server t (made ∙ ap Some same) t.kept
turns l p (by_hand e ∷ order) cs ss hs legal rest =
    let i = length (client_of order) in
    let k = length (hand_of order) in
    let x : Stage = stage_of p order in
    let y : Stage = with_hand x (after_hand x.point e) in
    let before : IsRest l order cs ss (e ∷ hs) = record {
      client = rest.client;
      server = rest.server;
      hand = sym (append_assoc (hand_of order) (e ∷ []) hs) ∙ rest.hand;
      next = hand_next i (met_in order) (clients_at order) e legal.0;
      later = names-both i hs rest.next rest.later;
    } in
    let t = turns l p order cs ss (e ∷ hs) legal.1 before in
    let stood : met_in order ≤ i = hand_met i (met_in order) (clients_at order) e legal.0 in
    let keeps : keeps_mets l.hand 0 i (k + 1) ≡ true =
    subst (λ (xs : List HandEvent). keeps_mets xs 0 i (k + 1) ≡ true) before.hand
    (hand-more (hand_of order) (e ∷ hs) i (knows-met order i stood) (subst (λ (xs : List HandEvent). keeps_mets xs 0 i k ≡ true) (sym before.hand) t.kept)) in
    let get : slice_get l.hand k ≡ Some e = get-in (hand_of order) e hs l.hand before.hand in
    let made : move l Hand x ≡ Some y =
    ap (option_and_then (λ e. kept l.hand (with_hand x (after_hand x.point e)))) get ∙ ap (λ b. cond b (Some y) None) keeps in
    let same : y ≡ stage_of p (by_hand e ∷ order) = λ j. record { point = y.point; clients = y.clients; servers = y.servers; hands = one-more (hand_of order) e j } in
    push_turn l p order (by_hand e) Hand t (made ∙ ap Some same) (subst (λ n. keeps_mets l.hand 0 i n ≡ true) (one-more (hand_of order) e) keeps)

pub HasWalk-from_order : (l : Lists) (from : TrackPoint) → HasLegalOrder from l.client l.server l.hand → HasWalk l from
HasWalk-from_order l from h =
    let rest : IsRest l h.order [] [] [] = record {
      client = append-nil (client_of h.order) ∙ h.client_is;
      server = append-nil (server_of h.order) ∙ h.server_is;
      hand = append-nil (hand_of h.order) ∙ h.hand_is;
      next = tt;
      later = tt;
    } in
    let t = turns l from h.order [] [] [] h.legal rest in
    (t.ws, stage_of from h.order, t.leads, record { client = ap length h.client_is; server = ap length h.server_is; hand = ap length h.hand_is })
