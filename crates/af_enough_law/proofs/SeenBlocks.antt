-- What was learnt of a block is seen.
use Rattle.std.proofs.Common.{◌≡◌, ◌⊎◌, inl, inr, ℕ, ◌+◌, ◌≤◌, true, List, [], ◌∷◌, ◌++◌, length, get_or, refl, sym, ap, ◌∙◌, subst, arith, length-append, true≢false, drop}
use Rattle.af_enough_law.proofs.Common.{ClientEvent, ClientMay, HandEvent, HasHistory, IsLegal, Moment, ServerEvent, ServerMay, Shape, TrackPoint, after, after_client, after_server, both_first, both_right, both_true, by_client, by_hand, by_server, client_append, client_of, client_taken, drops_none, fold-append, hand_puts, keeps_all, legal_cut, server_append, server_of, server_put, start, status_client, status_hand, wrapped}
use Rattle.af_base.specs.declared.event.ClientEvent.TheVariants as client
use Rattle.af_base.specs.declared.event.ServerEvent.TheVariants as server
use Rattle.af_enough_law.proofs.Basics.{put-append, taken-append}
use Rattle.af_model.proofs.OneFate.{hand_consumed}
use Rattle.af_enough_law.specs.Seen.{Stands, Sees, put_by, frames_put, taken_by, frames_taken, status_by, last_status, FrontIsSeen, StatusIsSeen, BlockRearIsSeen}

-- where the last item of a list stands, by an item that stands in it
pub last_cases : {X : Type 0} (ys : List X) (y : X) (xs : List X) (x : X) (rest : List X) → ys ++ y ∷ [] ≡ xs ++ x ∷ rest
    → ((ys ≡ xs) × (y ≡ x)) ⊎ ((less : List X) × (ys ≡ xs ++ x ∷ less))
last_cases [] y [] x rest e = inl (refl, ap (λ l. get_or l 0 y) e)
last_cases [] y (a ∷ xs) x rest e = let n : length (y ∷ []) ≡ length (a ∷ xs ++ x ∷ rest) = ap length e in absurd (omega (arith, length-append xs (x ∷ rest)))
last_cases (b ∷ ys) y [] x rest e = inr (ys, ap (λ l. get_or l 0 b ∷ ys) e)
last_cases (b ∷ ys) y (a ∷ xs) x rest e =
    let first : b ≡ a = ap (λ l. get_or l 0 b) e in
    elim (last_cases ys y xs x rest (ap (drop 1) e)) as (λ _. ((b ∷ ys ≡ a ∷ xs) × (y ≡ x)) ⊎ ((less : List _) × (b ∷ ys ≡ (a ∷ xs) ++ x ∷ less))) [
      | inl same ↦ inl ((λ i. first i ∷ same.0 i), same.1)
      | inr more ↦ inr (more.0, λ i. first i ∷ more.1 i)
    ]

-- an order cut at an event
pub record Cut (order : List Moment) (m : Moment) (Before : List Moment → Type 0) : Type 0 where
  pub late : List Moment
  pub early : List Moment
  pub whole : order ≡ late ++ m ∷ early
  pub before : Before early

abbrev later : {m : Moment} {Before : List Moment → Type 0} (first : Moment) (order : List Moment) → Cut order m Before → Cut (first ∷ order) m Before
later first order c = record { late = first ∷ c.late; early = c.early; whole = ap (λ z. first ∷ z) c.whole; before = c.before }

pub client_cut : (order : List Moment) (xs : List ClientEvent) (e : ClientEvent) (rest : List ClientEvent) → client_of order ≡ xs ++ e ∷ rest → Cut order (by_client e) (λ early. client_of early ≡ xs)
client_cut [] xs e rest is = let n : 0 ≡ length (xs ++ e ∷ rest) = ap length is in absurd (omega (arith, length-append xs (e ∷ rest)))
client_cut (by_client x ∷ order) xs e rest is = elim (last_cases (client_of order) x xs e rest is) as (λ _. Cut (by_client x ∷ order) (by_client e) (λ early. client_of early ≡ xs)) [
  | inl same ↦ record { late = []; early = order; whole = ap (λ z. by_client z ∷ order) same.1; before = same.0 }
  | inr more ↦ later (by_client x) order (client_cut order xs e more.0 more.1)
]
client_cut (by_server x ∷ order) xs e rest is = later (by_server x) order (client_cut order xs e rest is)
client_cut (by_hand x ∷ order) xs e rest is = later (by_hand x) order (client_cut order xs e rest is)

pub server_cut : (order : List Moment) (xs : List ServerEvent) (e : ServerEvent) (rest : List ServerEvent) → server_of order ≡ xs ++ e ∷ rest → Cut order (by_server e) (λ early. server_of early ≡ xs)
server_cut [] xs e rest is = let n : 0 ≡ length (xs ++ e ∷ rest) = ap length is in absurd (omega (arith, length-append xs (e ∷ rest)))
server_cut (by_server x ∷ order) xs e rest is = elim (last_cases (server_of order) x xs e rest is) as (λ _. Cut (by_server x ∷ order) (by_server e) (λ early. server_of early ≡ xs)) [
  | inl same ↦ record { late = []; early = order; whole = ap (λ z. by_server z ∷ order) same.1; before = same.0 }
  | inr more ↦ later (by_server x) order (server_cut order xs e more.0 more.1)
]
server_cut (by_client x ∷ order) xs e rest is = later (by_client x) order (server_cut order xs e rest is)
server_cut (by_hand x ∷ order) xs e rest is = later (by_hand x) order (server_cut order xs e rest is)

-- what a client learnt stands before
pub client_learnt : (p : TrackPoint) (order : List Moment) (n : ℕ) → IsLegal p order → Stands (client.Learn n) (client_of order) → n ≤ length (server_of order)
client_learnt p order n l s =
    let cut = client_cut order s.before (client.Learn n) s.behind s.whole in
    let may : n ≤ length (server_of cut.early) = (legal_cut p cut.late (by_client (client.Learn n)) cut.early (subst (IsLegal p) cut.whole l)).0 in
    let all : length (server_of order) ≡ length (server_of cut.early) + length (server_of cut.late) =
    ap (λ z. length (server_of z)) cut.whole ∙ ap length (server_append cut.late (by_client (client.Learn n) ∷ cut.early)) ∙ length-append (server_of cut.early) (server_of cut.late) in
    omega arith

-- what a server learnt stands before
pub server_learnt : (p : TrackPoint) (order : List Moment) (n : ℕ) → IsLegal p order → Stands (server.Learn n) (server_of order) → n ≤ length (client_of order)
server_learnt p order n l s =
    let cut = server_cut order s.before (server.Learn n) s.behind s.whole in
    let may : n ≤ length (client_of cut.early) = (legal_cut p cut.late (by_server (server.Learn n)) cut.early (subst (IsLegal p) cut.whole l)).0 in
    let all : length (client_of order) ≡ length (client_of cut.early) + length (client_of cut.late) =
    ap (λ z. length (client_of z)) cut.whole ∙ ap length (client_append cut.late (by_server (server.Learn n) ∷ cut.early)) ∙ length-append (client_of cut.early) (client_of cut.late) in
    omega arith

-- an event of the client sees a front of the server's list, with all that was learnt
pub client_sees : (k : Shape) (before behind : List ClientEvent) (e : ClientEvent) (released : List ℕ) (ss : List ServerEvent) (taken : List ℕ) (hs : List HandEvent) (Shows : List ServerEvent → Type 0)
    → HasHistory k (before ++ e ∷ behind) released ss taken hs
    → ((order : List Moment) (rest : List ServerEvent) → ss ≡ server_of order ++ rest → IsLegal (start k) order → ClientMay (after (start k) order) (length (server_of order)) e → Shows (server_of order))
    → Sees ss (λ n. Stands (client.Learn n) before) Shows
client_sees k before behind e released ss taken hs Shows h shows =
    let cut = client_cut h.order before e behind h.client_is in
    let legal = legal_cut (start k) cut.late (by_client e) cut.early (subst (IsLegal (start k)) cut.whole h.legal) in
    let whole : ss ≡ server_of cut.early ++ server_of cut.late = sym h.server_is ∙ ap server_of cut.whole ∙ server_append cut.late (by_client e ∷ cut.early) in
    record {
      front = server_of cut.early;
      rest = server_of cut.late;
      whole = whole;
      learnt = λ n s. client_learnt (start k) cut.early n legal.1 (subst (Stands (client.Learn n)) (sym cut.before) s);
      shows = shows cut.early (server_of cut.late) whole legal.1 legal.0;
    }

-- an event of the server sees a front of the client's list, with all that was learnt
pub server_sees : (k : Shape) (before behind : List ServerEvent) (e : ServerEvent) (cs : List ClientEvent) (released : List ℕ) (taken : List ℕ) (hs : List HandEvent) (Shows : List ClientEvent → Type 0)
    → HasHistory k cs released (before ++ e ∷ behind) taken hs
    → ((order : List Moment) (rest : List ClientEvent) → cs ≡ client_of order ++ rest → IsLegal (start k) order → ServerMay (after (start k) order) (length (client_of order)) e → Shows (client_of order))
    → Sees cs (λ n. Stands (server.Learn n) before) Shows
server_sees k before behind e cs released taken hs Shows h shows =
    let cut = server_cut h.order before e behind h.server_is in
    let legal = legal_cut (start k) cut.late (by_server e) cut.early (subst (IsLegal (start k)) cut.whole h.legal) in
    let whole : cs ≡ client_of cut.early ++ client_of cut.late = sym h.client_is ∙ ap client_of cut.whole ∙ client_append cut.late (by_server e ∷ cut.early) in
    record {
      front = client_of cut.early;
      rest = client_of cut.late;
      whole = whole;
      learnt = λ n s. server_learnt (start k) cut.early n legal.1 (subst (Stands (server.Learn n)) (sym cut.before) s);
      shows = shows cut.early (client_of cut.late) whole legal.1 legal.0;
    }

-- ## Values

put_next : (p : TrackPoint) (e : ClientEvent) → (after_client p e).released ≡ p.released + put_by e
put_next p (client.Release count) = refl
put_next p _ = omega arith

-- the frames released are those that the client's list puts
pub released_is : (k : Shape) (order : List Moment) → (after (start k) order).released ≡ k.base + frames_put (client_of order)
released_is k [] = omega arith
released_is k (by_client e ∷ order) =
    let before = released_is k order in let now = put_next (after (start k) order) e in let more = put-append (client_of order) (e ∷ []) in omega arith
released_is k (by_server e ∷ order) = server_put (after (start k) order) e ∙ released_is k order
released_is k (by_hand e ∷ order) = hand_puts (after (start k) order) e ∙ released_is k order

pub drops_split : (xs ys : List ServerEvent) → drops_none (xs ++ ys) ≡ true → (drops_none xs ≡ true) × (drops_none ys ≡ true)
drops_split [] ys h = (refl, h)
drops_split (x ∷ xs) ys h = let rest = drops_split xs ys (both_right (keeps_all x) (drops_none (xs ++ ys)) h) in
    (both_true (keeps_all x) (drops_none xs) (both_first (keeps_all x) (drops_none (xs ++ ys)) h) rest.0, rest.1)

taken_next : (p : TrackPoint) (e : ServerEvent) → keeps_all e ≡ true → (after_server p e).consumed ≡ p.consumed + taken_by e
taken_next p (server.Drop to) h = absurd (true≢false (sym h))
taken_next p (server.Take count) h = refl
taken_next p _ h = omega arith

-- if nothing is dropped, the frames consumed are those that the server's list takes
pub consumed_is : (k : Shape) (order : List Moment) → drops_none (server_of order) ≡ true → (after (start k) order).consumed ≡ k.base + frames_taken (server_of order)
consumed_is k [] none = omega arith
consumed_is k (by_client e ∷ order) none = client_taken (after (start k) order) e ∙ consumed_is k order none
consumed_is k (by_server e ∷ order) none =
    let split = drops_split (server_of order) (e ∷ []) none in
    let before = consumed_is k order split.0 in
    let now = taken_next (after (start k) order) e (both_first (keeps_all e) true split.1) in
    let more = taken-append (server_of order) (e ∷ []) in
    omega arith
consumed_is k (by_hand e ∷ order) none = hand_consumed (after (start k) order) e ∙ consumed_is k order none

status_next : (p : TrackPoint) (e : ServerEvent) → (after_server p e).status ≡ status_by p.status e
status_next p (server.SawGain word) = refl
status_next p _ = refl

-- the status is the last one stored
pub status_is : (k : Shape) (order : List Moment) → (after (start k) order).status ≡ last_status (server_of order)
status_is k [] = refl
status_is k (by_client e ∷ order) = status_client (after (start k) order) e ∙ status_is k order
status_is k (by_server e ∷ order) = status_next (after (start k) order) e ∙ ap (λ w. status_by w e) (status_is k order) ∙ sym (fold-append status_by 0 (server_of order) (e ∷ []))
status_is k (by_hand e ∷ order) = status_hand (after (start k) order) e ∙ status_is k order

-- ## What is seen

pub front_seen : (k : Shape) (before behind : List ClientEvent) (others : List ServerEvent) (front : ℕ) (released taken : List ℕ) (hs : List HandEvent) → FrontIsSeen k before behind others front released taken hs
front_seen k before behind others front released taken hs h none =
    client_sees k before behind (client.SawFront front) released others taken hs (λ seen. front ≡ wrapped (k.base + frames_taken seen)) h
    (λ order rest whole legal may. may ∙ ap wrapped (consumed_is k order (drops_split (server_of order) rest (ap drops_none (sym whole) ∙ none)).0))

pub status_seen : (k : Shape) (before behind : List ClientEvent) (others : List ServerEvent) (word : ℕ) (released taken : List ℕ) (hs : List HandEvent) → StatusIsSeen k before behind others word released taken hs
status_seen k before behind others word released taken hs h =
    client_sees k before behind (client.SawStatus word) released others taken hs (λ seen. word ≡ last_status seen) h
    (λ order rest whole legal may. may ∙ status_is k order)

pub block_rear_seen : (k : Shape) (before behind : List ServerEvent) (others : List ClientEvent) (rear : ℕ) (released taken : List ℕ) (hs : List HandEvent) → BlockRearIsSeen k before behind others rear released taken hs
block_rear_seen k before behind others rear released taken hs h =
    server_sees k before behind (server.SawRear rear) others released taken hs (λ seen. rear ≡ wrapped (k.base + frames_put seen)) h
    (λ order rest whole legal may. may ∙ ap wrapped (released_is k order))
