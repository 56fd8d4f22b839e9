-- After a meeting at which the server had seen so many flushes, what the client releases is dropped only by a look that sees more.
use Rattle.std.proofs.Common.{◌≡◌, ◌≢◌, ◌⊎◌, inl, inr, ℕ, ◌+◌, ◌<◌, ◌≤◌, ◌||◌, Bool, true, false, fold, List, [], ◌∷◌, ◌++◌, length, get_or, refl, sym, ap, ◌∙◌, subst, arith, append_assoc, append-nil, length-append}
use Rattle.af_audit.proofs.Common.{ClientEvent, HandEvent, IsLegal, May, Moment, ServerEvent, ServerKept, Shape, TrackPoint, after, after_client, after_hand, after_server, by_client, by_hand, by_server, client_append, client_of, drop_end, drop_released, flushes_by, fold-append, in_turn, legal_cut, no, server_append, server_begins, server_keeps, server_kept, server_of, start}
use Rattle.af_base.specs.declared.event.ClientEvent.TheVariants as client
use Rattle.af_base.specs.declared.event.ServerEvent.TheVariants as server
use Rattle.af_base.specs.declared.event.HandEvent.TheVariants as hand
use Rattle.af_audit.specs.Fates.{ComesByFlush, DropsByFlush, SeesNewFlush}
use Rattle.af_audit.proofs.Words.{sees_more, most_seen}
use Rattle.af_audit.specs.Settled.{DropsAbove, DiscardsAbove}
use Rattle.af_audit.proofs.Flushes.{new_above, flushes_rise}

tail_of : {X : Type 0} → List X → List X
tail_of [] = []
tail_of (x ∷ xs) = xs

-- ## Two ways to cut a list

module _ {X : Type 0} where
  -- a list cut at two items that differ: the second item stands behind the first one, or before it
  places : (xs : List X) (x : X) (ys zs : List X) (w : X) (ws : List X) → xs ++ x ∷ ys ≡ zs ++ w ∷ ws → x ≢ w → ((rest : List X) × (zs ≡ xs ++ x ∷ rest)) ⊎ ((rest : List X) × (xs ≡ zs ++ w ∷ rest) × (rest ++ x ∷ ys ≡ ws))
  unfolding tail_of
  places [] x ys [] w ws e other = absurd (other (ap (λ l. get_or l 0 x) e))
  places [] x ys (z ∷ zs) w ws e other = inl (zs, ap (λ l. get_or l 0 z ∷ zs) (sym e))
  places (a ∷ xs) x ys [] w ws e other = inr (xs, ap (λ l. get_or l 0 a ∷ xs) e, ap tail_of e)
  places (a ∷ xs) x ys (z ∷ zs) w ws e other =
      let first : a ≡ z = ap (λ l. get_or l 0 a) e in
      elim (places xs x ys zs w ws (ap tail_of e) other) as (λ _. ((rest : List X) × (z ∷ zs ≡ (a ∷ xs) ++ x ∷ rest)) ⊎ ((rest : List X) × (a ∷ xs ≡ (z ∷ zs) ++ w ∷ rest) × (rest ++ x ∷ ys ≡ ws))) [
        | inl b ↦ inl (b.0, λ i. sym first i ∷ b.1 i)
        | inr b ↦ inr (b.0, (λ i. first i ∷ b.1 i), b.2)
      ]

  -- a list cut in two parts: an item stands in the second part, or in the first one
  sides : (xs ys zs : List X) (w : X) (ws : List X) → xs ++ ys ≡ zs ++ w ∷ ws → ((rest : List X) × (zs ≡ xs ++ rest)) ⊎ ((rest : List X) × (xs ≡ zs ++ w ∷ rest))
  unfolding tail_of
  sides [] ys zs w ws e = inl (zs, refl)
  sides (a ∷ xs) ys [] w ws e = inr (xs, ap (λ l. get_or l 0 a ∷ xs) e)
  sides (a ∷ xs) ys (z ∷ zs) w ws e =
      let first : a ≡ z = ap (λ l. get_or l 0 a) e in
      elim (sides xs ys zs w ws (ap tail_of e)) as (λ _. ((rest : List X) × (z ∷ zs ≡ (a ∷ xs) ++ rest)) ⊎ ((rest : List X) × (a ∷ xs ≡ (z ∷ zs) ++ w ∷ rest))) [
        | inl b ↦ inl (b.0, λ i. sym first i ∷ b.1 i)
        | inr b ↦ inr (b.0, λ i. first i ∷ b.1 i)
      ]

-- ## An order cut at an event

pub record Cut (order : List Moment) (m : Moment) (Before : List Moment → Type 0) : Type 0 where
  pub late : List Moment
  pub early : List Moment
  pub whole : order ≡ late ++ m ∷ early
  pub before : Before early

abbrev later : {m : Moment} {Before : List Moment → Type 0} (first : Moment) (order : List Moment) → Cut order m Before → Cut (first ∷ order) m Before
later first order c = record { late = first ∷ c.late; early = c.early; whole = ap (λ z. first ∷ z) c.whole; before = c.before }

-- where the last item of a list stands, by an item that stands in it
last_cases : {X : Type 0} (ys : List X) (y : X) (xs : List X) (x : X) (rest : List X) → ys ++ y ∷ [] ≡ xs ++ x ∷ rest
    → ((ys ≡ xs) × (y ≡ x)) ⊎ ((less : List X) × (ys ≡ xs ++ x ∷ less))
unfolding tail_of
last_cases [] y [] x rest e = inl (refl, ap (λ l. get_or l 0 y) e)
last_cases [] y (a ∷ xs) x rest e = let n : length (y ∷ []) ≡ length (a ∷ xs ++ x ∷ rest) = ap length e in absurd (omega (arith, length-append xs (x ∷ rest)))
last_cases (b ∷ ys) y [] x rest e = inr (ys, ap (λ l. get_or l 0 b ∷ ys) e)
last_cases (b ∷ ys) y (a ∷ xs) x rest e =
    let first : b ≡ a = ap (λ l. get_or l 0 b) e in
    elim (last_cases ys y xs x rest (ap tail_of e)) as (λ _. ((b ∷ ys ≡ a ∷ xs) × (y ≡ x)) ⊎ ((less : List _) × (b ∷ ys ≡ (a ∷ xs) ++ x ∷ less))) [
      | inl same ↦ inl ((λ i. first i ∷ same.0 i), same.1)
      | inr more ↦ inr (more.0, λ i. first i ∷ more.1 i)
    ]

pub client_cut : (order : List Moment) (xs : List ClientEvent) (e : ClientEvent) (rest : List ClientEvent) → client_of order ≡ xs ++ e ∷ rest → Cut order (by_client e) (λ early. client_of early ≡ xs)
client_cut [] xs e rest is = let n : 0 ≡ length (xs ++ e ∷ rest) = ap length is in absurd (omega (arith, length-append xs (e ∷ rest)))
client_cut (by_client x ∷ order) xs e rest is = elim (last_cases (client_of order) x xs e rest is) as (λ _. Cut (by_client x ∷ order) (by_client e) (λ early. client_of early ≡ xs)) [
  | inl same ↦ record { late = []; early = order; whole = ap (λ z. by_client z ∷ order) same.1; before = same.0 }
  | inr more ↦ later (by_client x) order (client_cut order xs e more.0 more.1)
]
client_cut (by_server x ∷ order) xs e rest is = later (by_server x) order (client_cut order xs e rest is)
client_cut (by_hand x ∷ order) xs e rest is = later (by_hand x) order (client_cut order xs e rest is)

pub server_cut : (order : List Moment) (xs : List ServerEvent) (e : ServerEvent) (rest : List ServerEvent) → server_of order ≡ xs ++ e ∷ rest → Cut order (by_server e) (λ early. server_of early ≡ xs)
server_cut [] xs e rest is = let n : 0 ≡ length (xs ++ e ∷ rest) = ap length is in absurd (omega (arith, length-append xs (e ∷ rest)))
server_cut (by_server x ∷ order) xs e rest is = elim (last_cases (server_of order) x xs e rest is) as (λ _. Cut (by_server x ∷ order) (by_server e) (λ early. server_of early ≡ xs)) [
  | inl same ↦ record { late = []; early = order; whole = ap (λ z. by_server z ∷ order) same.1; before = same.0 }
  | inr more ↦ later (by_server x) order (server_cut order xs e more.0 more.1)
]
server_cut (by_client x ∷ order) xs e rest is = later (by_client x) order (server_cut order xs e rest is)
server_cut (by_hand x ∷ order) xs e rest is = later (by_hand x) order (server_cut order xs e rest is)

-- ## What was released

-- how much an event releases
abbrev pub put_by : ClientEvent → ℕ
put_by (client.Release count) = count
put_by _ = 0

abbrev pub puts : ℕ → ClientEvent → ℕ
puts sofar e = sofar + put_by e

-- how much these events release
abbrev pub released_in : List ClientEvent → ℕ
released_in events = fold puts 0 events

put_next : (p : TrackPoint) (e : ClientEvent) → (after_client p e).released ≡ p.released + put_by e
put_next p (client.Release count) = refl
put_next p _ = omega arith

server_puts : (p : TrackPoint) (e : ServerEvent) → (after_server p e).released ≡ p.released
server_puts p (server.SawGain word) = refl
server_puts p _ = refl

hand_puts : (p : TrackPoint) (e : HandEvent) → (after_hand p e).released ≡ p.released
hand_puts p (hand.SetFlags bits) = refl
hand_puts p (hand.Met count) = refl

-- the count of a point is that of the client's list
pub released_told : (k : Shape) (order : List Moment) → (after (start k) order).released ≡ k.base + released_in (client_of order)
released_told k [] = omega arith
released_told k (by_client e ∷ order) = let a = released_told k order in let b = put_next (after (start k) order) e in let c : released_in (client_of order ++ e ∷ []) ≡ released_in (client_of order) + put_by e = fold-append puts 0 (client_of order) (e ∷ []) in omega (arith, a, b, c)
released_told k (by_server e ∷ order) = server_puts (after (start k) order) e ∙ released_told k order
released_told k (by_hand e ∷ order) = hand_puts (after (start k) order) e ∙ released_told k order

puts_rise : (n : ℕ) (es : List ClientEvent) → n ≤ fold puts n es
puts_rise n [] = omega arith
puts_rise n (e ∷ es) = let a = puts_rise (n + put_by e) es in omega (arith, a)

-- ## The flushes seen

more_seen : (k : Shape) (n : ℕ) (es : List ServerEvent) → n ≤ fold (sees_more k) n es
more_seen k n [] = omega arith
more_seen k n (e ∷ es) = let a = more_seen k (sees_more k n e) es in let b = one_more n e in omega (arith, a, b)
  where
    one_more : (n : ℕ) (e : ServerEvent) → n ≤ sees_more k n e
    one_more n (server.SawGain word) = omega arith
    one_more n _ = omega arith

-- the first events of a list saw no more flushes than all of it
pub most_grows : (k : Shape) (xs ys : List ServerEvent) → most_seen k xs ≤ most_seen k (xs ++ ys)
most_grows k xs ys = subst (λ n. most_seen k xs ≤ n) (sym (fold-append (sees_more k) 0 xs ys)) (more_seen k (most_seen k xs) ys)

-- ## A drop

-- among the events of a list a drop comes at the end of a look that noticed a new flush
drops_at : (k : Shape) (before xs : List ServerEvent) (e : ServerEvent) (ys : List ServerEvent) → DropsByFlush k before (xs ++ e ∷ ys) → ComesByFlush k (before ++ xs) e
drops_at k before [] e ys h = subst (λ (l : List ServerEvent). ComesByFlush k l e) (sym (append-nil before)) h.0
drops_at k before (x ∷ xs) e ys h = subst (λ (l : List ServerEvent). ComesByFlush k l e) (append_assoc before (x ∷ []) xs) (drops_at k (before ++ x ∷ []) xs e ys h.1)

is_learn : ServerEvent → Bool
is_learn (server.Learn count) = true
is_learn _ = false

apart : (n : ℕ) (e : ServerEvent) → is_learn e ≡ false → server.Learn n ≢ e
unfolding is_learn
apart n e plain same = no (sym plain ∙ sym (ap is_learn same))

has_learn : List ServerEvent → Bool
has_learn [] = false
has_learn (e ∷ es) = is_learn e || has_learn es

learn_in : (more : List ServerEvent) (n : ℕ) (rest : List ServerEvent) → has_learn (more ++ server.Learn n ∷ rest) ≡ true
unfolding is_learn has_learn
learn_in [] n rest = refl
learn_in (e ∷ more) n rest = either (is_learn e) (learn_in more n rest)
  where
    either : (b : Bool) {d : Bool} → d ≡ true → (b || d) ≡ true
    either true is = refl
    either false is = is

-- What is known: the lists of a block begin with those at a meeting, by which the server had seen so many flushes, and what the client had released then is no more than `from`
pub record MetSo (k : Shape) (from count : ℕ) (order : List Moment) : Type 0 where
  pub narrow : k.wrap ≤ 32768
  pub legal : IsLegal (start k) order
  pub few : (after (start k) order).flushes ≤ 65536
  pub noticed : DropsByFlush k [] (server_of order)
  pub clients : List ClientEvent
  pub servers : List ServerEvent
  pub other : ℕ
  pub clients_later : List ClientEvent
  pub servers_later : List ServerEvent
  pub clients_are : client_of order ≡ clients ++ client.Learn (length servers) ∷ clients_later
  pub servers_are : server_of order ≡ servers ++ server.Learn other ∷ servers_later
  pub seen : count ≤ most_seen k servers
  pub released : released_in clients ≤ from

module _ (k : Shape) (from count : ℕ) (order : List Moment) (met : MetSo k from count order) (late early : List Moment) (to : ℕ) (whole : order ≡ late ++ by_server (server.Drop to) ∷ early) where
  p : TrackPoint
  p = after (start k) early

  legal_here : May (start k) early (by_server (server.Drop to)) × IsLegal (start k) early
  legal_here = legal_cut (start k) late (by_server (server.Drop to)) early (subst (IsLegal (start k)) whole met.legal)

  servers_cut : server_of order ≡ server_of early ++ server.Drop to ∷ server_of late
  servers_cut = ap server_of whole ∙ server_append late (by_server (server.Drop to) ∷ early) ∙ append_assoc (server_of early) (server.Drop to ∷ []) (server_of late)

  clients_cut : client_of order ≡ client_of early ++ client_of late
  clients_cut = ap client_of whole ∙ client_append late (by_server (server.Drop to) ∷ early)

  -- a drop before the meeting reaches no frame that is released after it
  early_reaches : (rest : List ServerEvent) → met.servers ≡ server_of early ++ server.Drop to ∷ rest → drop_end p ≤ k.base + from
  unfolding p
  early_reaches rest is = by_side (sides (client_of early) (client_of late) met.clients (client.Learn (length met.servers)) met.clients_later (sym clients_cut ∙ met.clients_are))
    where
      by_side : ((more : List ClientEvent) × (met.clients ≡ client_of early ++ more)) ⊎ ((more : List ClientEvent) × (client_of early ≡ met.clients ++ client.Learn (length met.servers) ∷ more)) → drop_end p ≤ k.base + from
      by_side (inl before) =
          let a = drop_released k p (in_turn k early legal_here.1) in
          let b = released_told k early in
          let c = puts_rise (released_in (client_of early)) before.0 in
          let d : released_in met.clients ≡ fold puts (released_in (client_of early)) before.0 = ap released_in before.1 ∙ fold-append puts 0 (client_of early) before.0 in
          let e = met.released in
          omega (arith, a, b, c, d, e)
      by_side (inr behind) =
          let cut = client_cut early met.clients (client.Learn (length met.servers)) behind.0 behind.1 in
          let may : length met.servers ≤ length (server_of cut.early) = (legal_cut (start k) cut.late (by_client (client.Learn (length met.servers))) cut.early (subst (IsLegal (start k)) cut.whole legal_here.1)).0 in
          let all : length (server_of early) ≡ length (server_of cut.early) + length (server_of cut.late) =
          ap (λ z. length (server_of z)) cut.whole ∙ ap length (server_append cut.late (by_client (client.Learn (length met.servers)) ∷ cut.early)) ∙ length-append (server_of cut.early) (server_of cut.late) in
          let long : length met.servers ≡ length (server_of early) + length (server.Drop to ∷ rest) = ap length is ∙ length-append (server_of early) (server.Drop to ∷ rest) in
          absurd (omega (arith, may, all, long))

  -- a drop after the meeting follows a look that sees more flushes
  late_sees : (rest : List ServerEvent) → server_of early ≡ met.servers ++ server.Learn met.other ∷ rest → count < flushes_by k.wrap (server_kept k (server_of early)).flush
  unfolding is_learn has_learn
  late_sees rest is =
      let s : SeesNewFlush k (server_of early) = drops_at k [] (server_of early) (server.Drop to) (server_of late) (subst (DropsByFlush k []) servers_cut met.noticed) in
      by_place s (places met.servers (server.Learn met.other) rest s.before (server.SawFlush s.flush) (server.SawRear s.rear ∷ server.SawFront s.front ∷ []) (sym is ∙ s.look) (apart met.other (server.SawFlush s.flush) refl))
    where
      by_place : (s : SeesNewFlush k (server_of early))
          → ((more : List ServerEvent) × (s.before ≡ met.servers ++ server.Learn met.other ∷ more)) ⊎ ((more : List ServerEvent) × (met.servers ≡ s.before ++ server.SawFlush s.flush ∷ more) × (more ++ server.Learn met.other ∷ rest ≡ server.SawRear s.rear ∷ server.SawFront s.front ∷ []))
          → count < flushes_by k.wrap (server_kept k (server_of early)).flush
      by_place s (inl behind) =
          let cut = server_cut early s.before (server.SawFlush s.flush) (server.SawRear s.rear ∷ server.SawFront s.front ∷ []) s.look in
          let legal = subst (IsLegal (start k)) cut.whole legal_here.1 in
          let at = legal_cut (start k) cut.late (by_server (server.SawFlush s.flush)) cut.early legal in
          let inner = flushes_rise (start k) cut.late (by_server (server.SawFlush s.flush) ∷ cut.early) in
          let inner_is : (after (start k) early).flushes ≡ (after (start k) (cut.late ++ by_server (server.SawFlush s.flush) ∷ cut.early)).flushes = ap (λ (o : List Moment). (after (start k) o).flushes) cut.whole in
          let outer = flushes_rise (start k) late (by_server (server.Drop to) ∷ early) in
          let outer_is : (after (start k) order).flushes ≡ (after (start k) (late ++ by_server (server.Drop to) ∷ early)).flushes = ap (λ (o : List Moment). (after (start k) o).flushes) whole in
          let all = met.few in
          let few : (after (start k) cut.early).flushes ≤ 65536 = omega (arith, inner, inner_is, outer, outer_is, all) in
          let above = new_above k met.narrow cut.early s.flush at few (subst (λ (l : List ServerEvent). s.flush ≢ (server_kept k l).flush) (sym cut.before) s.is_new) in
          let seen : most_seen k met.servers ≤ most_seen k (server_of cut.early) = subst (λ (l : List ServerEvent). most_seen k met.servers ≤ most_seen k l) (sym (cut.before ∙ behind.1)) (most_grows k met.servers (server.Learn met.other ∷ behind.0)) in
          let kept : (server_kept k (server_of early)).flush ≡ s.flush = ap (λ (l : List ServerEvent). (server_kept k l).flush) s.look
          ∙ ap (λ (x : ServerKept). x.flush) (fold-append (server_keeps k) (server_begins k) s.before (server.SawFlush s.flush ∷ server.SawRear s.rear ∷ server.SawFront s.front ∷ [])) in
          let known = met.seen in
          subst (λ (n : ℕ). count < flushes_by k.wrap n) (sym kept) (omega (arith, above, seen, known))
      by_place s (inr before) = absurd (learn_stands before.0 before.2)
        where
          learn_stands : (more : List ServerEvent) → more ++ server.Learn met.other ∷ rest ≡ server.SawRear s.rear ∷ server.SawFront s.front ∷ [] → ⊥
          learn_stands more e = no (sym (ap has_learn e) ∙ learn_in more met.other rest)

  -- a drop that discards a frame released after the meeting follows a look that saw more flushes
  drops_so : DropsAbove k from count early (server.Drop to)
  unfolding p is_learn
  drops_so frame high low within = by_place (places met.servers (server.Learn met.other) met.servers_later (server_of early) (server.Drop to) (server_of late) (sym met.servers_are ∙ servers_cut) (apart met.other (server.Drop to) plain))
    where
      plain : is_learn (server.Drop to) ≡ false
      plain = refl

      by_place : ((rest : List ServerEvent) × (server_of early ≡ met.servers ++ server.Learn met.other ∷ rest)) ⊎ ((rest : List ServerEvent) × (met.servers ≡ server_of early ++ server.Drop to ∷ rest) × (rest ++ server.Learn met.other ∷ met.servers_later ≡ server_of late))
          → count < flushes_by k.wrap (server_kept k (server_of early)).flush
      by_place (inl behind) = late_sees behind.0 behind.1
      by_place (inr before) = let reach = early_reaches before.0 before.1 in absurd (omega (arith, reach, high, within))

-- each drop of the order that discards such a frame follows such a look
module _ (k : Shape) (from count : ℕ) (order : List Moment) (met : MetSo k from count order) where
  any_so : (late : List Moment) (e : ServerEvent) (early : List Moment) → order ≡ late ++ by_server e ∷ early → DropsAbove k from count early e
  any_so late (server.Drop to) early whole = drops_so k from count order met late early to whole
  any_so late _ early whole = tt

  more_late : (late : List Moment) (m : Moment) (early : List Moment) → order ≡ late ++ m ∷ early → order ≡ (late ++ m ∷ []) ++ early
  more_late late m early whole = whole ∙ sym (append_assoc late (m ∷ []) early)

  each_so : (early late : List Moment) → order ≡ late ++ early → DiscardsAbove k from count early
  each_so [] late whole = tt
  each_so (by_client e ∷ early) late whole = each_so early (late ++ by_client e ∷ []) (more_late late (by_client e) early whole)
  each_so (by_server e ∷ early) late whole = (any_so late e early whole, each_so early (late ++ by_server e ∷ []) (more_late late (by_server e) early whole))
  each_so (by_hand e ∷ early) late whole = each_so early (late ++ by_hand e ∷ []) (more_late late (by_hand e) early whole)

  -- what the client released after the meeting is dropped only by looks that saw more flushes
  pub met-discards : DiscardsAbove k from count order
  met-discards = each_so order [] refl
