-- The lists of a pipe's ends have the pipe's history exactly if they have a legal order, by which the frames taken begin those put.
use Rattle.std.specs.Prelude.{◌↔◌}
use Rattle.std.proofs.Common.{◌≡◌, ℕ, ◌+◌, ◌-◌, ◌≤◌, ◌&&◌, true, true≢false, List, [], ◌∷◌, ◌++◌, length, take, refl, sym, ap, ◌∙◌, subst, arith, length-append, append_assoc}
use Rattle.af_judge.proofs.Common.{ClientEvent, Event, HasPipeHistory, IsLegal, IsTakeList, Legal, Moment, PipePoint, ServerEvent, Shape, TrackPoint, after_client, after_server, append-nil, both_first, both_right, by_client, by_hand, by_server, client_of, client_taken, drops_none, fold-append, hand_of, is_taking, keeps, list_all, list_all-append, none_more, one, ones, server_of, two, twos, wrapped}
use Rattle.af_base.specs.declared.event.ClientEvent.TheVariants as client
use Rattle.af_base.specs.declared.event.ServerEvent.TheVariants as server
use Rattle.af_judge.proofs.Basics.{server_put}
use Rattle.af_model.specs.History.{after}
use Rattle.af_model.specs.PipeHistory.{legal_in_pipe, next_in_pipe}
use Rattle.af_model.specs.PipeHistory as pipe
use Rattle.af_model.proofs.Fates.{begins}
use Rattle.af_model.proofs.PipeOrders.{pipe_history}
use Rattle.af_judge.specs.PipeKept.{AreEnds, HasPipeOrder, PipeKept, pipe_begins, put_by, put_in, taken_by, taken_in}

-- ## From a legal order to the pipe's history

put_more : (events : List ClientEvent) (e : ClientEvent) → put_in (events ++ e ∷ []) ≡ put_in events + put_by e
put_more events e = fold-append (λ (sofar : ℕ) (x : ClientEvent). sofar + put_by x) 0 events (e ∷ [])

taken_more : (events : List ServerEvent) (e : ServerEvent) → taken_in (events ++ e ∷ []) ≡ taken_in events + taken_by e
taken_more events e = fold-append (λ (sofar : ℕ) (x : ServerEvent). sofar + taken_by x) 0 events (e ∷ [])

client_put : (p : TrackPoint) (e : ClientEvent) → (after_client p e).released ≡ p.released + put_by e
client_put p (client.Release count) = refl
client_put p _ = none_more p.released

server_taken : (p : TrackPoint) (e : ServerEvent) → is_taking e ≡ true → (after_server p e).consumed ≡ p.consumed + taken_by e
server_taken p (server.Drop to) is = absurd (true≢false (sym is))
server_taken p (server.Take count) is = refl
server_taken p _ is = none_more p.consumed

released_after : (order : List Moment) → hand_of order ≡ [] → (after pipe_begins order).released ≡ put_in (client_of order)
released_after [] none = refl
released_after (by_client e ∷ order) none = client_put (after pipe_begins order) e ∙ (ap (λ n. n + put_by e) (released_after order none) ∙ sym (put_more (client_of order) e))
released_after (by_server e ∷ order) none = server_put (after pipe_begins order) e ∙ released_after order none
released_after (by_hand e ∷ order) none = let long : length (hand_of order ++ e ∷ []) ≡ 0 = ap length none in absurd (omega (arith, length-append (hand_of order) (e ∷ [])))

taking_before : (events : List ServerEvent) (e : ServerEvent) → IsTakeList (events ++ e ∷ []) → IsTakeList events × (is_taking e ≡ true)
taking_before events e takes =
    let whole : (list_all is_taking events && list_all is_taking (e ∷ [])) ≡ true = sym (list_all-append is_taking events (e ∷ [])) ∙ takes in
    (both_first _ _ whole, both_first (is_taking e) true (both_right (list_all is_taking events) _ whole))

consumed_after : (order : List Moment) → hand_of order ≡ [] → IsTakeList (server_of order) → (after pipe_begins order).consumed ≡ taken_in (server_of order)
consumed_after [] none takes = refl
consumed_after (by_client e ∷ order) none takes = client_taken (after pipe_begins order) e ∙ consumed_after order none takes
consumed_after (by_server e ∷ order) none takes =
    let before = taking_before (server_of order) e takes in
    server_taken (after pipe_begins order) e before.1 ∙ (ap (λ n. n + taken_by e) (consumed_after order none before.0) ∙ sym (taken_more (server_of order) e))
consumed_after (by_hand e ∷ order) none takes = let long : length (hand_of order ++ e ∷ []) ≡ 0 = ap length none in absurd (omega (arith, length-append (hand_of order) (e ∷ [])))

all_kept : (es : List ServerEvent) → IsTakeList es → drops_none es ≡ true
all_kept [] is = refl
all_kept (e ∷ es) is = ap (λ b. b && drops_none es) (keeps e (both_first (is_taking e) _ is)) ∙ all_kept es (both_right (is_taking e) _ is)

-- the sizes of the pipe's block
abbrev shape_of : PipeKept → Shape
shape_of p = record { frames = p.size; cells = p.cells; base = 0; wrap = 0 }

history_of : (p : PipeKept) → AreEnds p → HasPipeOrder p → HasPipeHistory p.size p.puts p.put p.takes p.taken
history_of p ends h =
    let o = h.0 in
    let takes : IsTakeList (server_of o.order) = subst (λ l. IsTakeList l) (sym o.server_is) ends.takes in
    let consumed : (after pipe_begins o.order).consumed ≡ length p.taken = consumed_after o.order o.hand_is takes ∙ (ap taken_in o.server_is ∙ ends.taken_is) in
    let released : (after pipe_begins o.order).released ≡ length p.put = released_after o.order o.hand_is ∙ (ap put_in o.client_is ∙ ends.put_is) in
    pipe_history (shape_of p) p.size ends.small refl p.puts p.put p.takes p.taken (record {
      order = o.order;
      legal = o.legal;
      client_is = o.client_is;
      server_is = o.server_is;
      hand_is = o.hand_is;
      released_is = released ∙ (let e : length p.put ≡ 0 + length p.put = omega arith in e);
      taken_is =
          begins p.put (shape_of p) o.order o.legal (all_kept (server_of o.order) takes)
          ∙ (ap (λ n. take n p.put) (let e : (after pipe_begins o.order).consumed - 0 ≡ (after pipe_begins o.order).consumed = omega arith in e)
          ∙ (ap (λ n. take n p.put) consumed ∙ sym h.1));
    }) ends.puts ends.takes

-- ## From the pipe's history to a legal order

-- a point of the pipe is that of an order
record Matches (q : PipePoint) (order : List Moment) : Type 0 where
  put : (after pipe_begins order).released ≡ q.put
  taken : (after pipe_begins order).consumed ≡ q.taken
  shown : (after pipe_begins order).rear_seen ≡ q.shown
  puts : length (client_of order) ≡ q.puts
  takes : length (server_of order) ≡ q.takes

-- an order that goes on with these events
record GoesOn (order : List Moment) (es : List (Event ClientEvent ServerEvent)) : Type 0 where
  more : List Moment
  legal_is : IsLegal pipe_begins more
  client_is : client_of more ≡ client_of order ++ ones es
  server_is : server_of more ≡ server_of order ++ twos es
  hand_is : hand_of more ≡ hand_of order

one_more : {E : Type 0} (l : List E) (e : E) (n : ℕ) → length l ≡ n → length (l ++ e ∷ []) ≡ n + 1
one_more l e n is = length-append l (e ∷ []) ∙ ap (λ k. k + 1) is

after_one : (order : List Moment) (e : ClientEvent) (es : List (Event ClientEvent ServerEvent)) → GoesOn (by_client e ∷ order) es → GoesOn order (one e ∷ es)
after_one order e es g = record { more = g.more; legal_is = g.legal_is; client_is = g.client_is ∙ append_assoc (client_of order) (e ∷ []) (ones es); server_is = g.server_is; hand_is = g.hand_is }

after_two : (order : List Moment) (e : ServerEvent) (es : List (Event ClientEvent ServerEvent)) → GoesOn (by_server e ∷ order) es → GoesOn order (two e ∷ es)
after_two order e es g = record { more = g.more; legal_is = g.legal_is; client_is = g.client_is; server_is = g.server_is ∙ append_assoc (server_of order) (e ∷ []) (twos es); hand_is = g.hand_is }

module _ (size : ℕ) where
  goes_on : (es : List (Event ClientEvent ServerEvent)) (order : List Moment) (q : PipePoint) → IsLegal pipe_begins order → Matches q order → Legal (legal_in_pipe size) next_in_pipe q es → GoesOn order es
  goes_on [] order q l m legals = record { more = order; legal_is = l; client_is = sym (append-nil (client_of order)); server_is = sym (append-nil (server_of order)); hand_is = refl }
  goes_on (one (client.Release count) ∷ es) order q l m legals =
      after_one order (client.Release count) es (goes_on es (by_client (client.Release count) ∷ order) (next_in_pipe q (one (client.Release count))) (tt, l)
      (record { put = ap (λ n. n + count) m.put; taken = m.taken; shown = m.shown; puts = one_more (client_of order) (client.Release count) q.puts m.puts; takes = m.takes }) legals.1)
  goes_on (one (client.SawFront front) ∷ es) order q l m legals =
      after_one order (client.SawFront front) es (goes_on es (by_client (client.SawFront front) ∷ order) (next_in_pipe q (one (client.SawFront front))) (legals.0.0 ∙ ap wrapped (sym m.taken), l)
      (record { put = m.put; taken = m.taken; shown = m.shown; puts = one_more (client_of order) (client.SawFront front) q.puts m.puts; takes = m.takes }) legals.1)
  goes_on (one (client.Learn count) ∷ es) order q l m legals =
      after_one order (client.Learn count) es (goes_on es (by_client (client.Learn count) ∷ order) (next_in_pipe q (one (client.Learn count))) (subst (λ n. count ≤ n) (sym m.takes) legals.0, l)
      (record { put = m.put; taken = m.taken; shown = m.shown; puts = one_more (client_of order) (client.Learn count) q.puts m.puts; takes = m.takes }) legals.1)
  goes_on (one client.Flush ∷ es) order q l m legals = absurd legals.0
  goes_on (one (client.SetGain word) ∷ es) order q l m legals = absurd legals.0
  goes_on (one (client.ClearFlags old) ∷ es) order q l m legals = absurd legals.0
  goes_on (one (client.SawFlags flags) ∷ es) order q l m legals = absurd legals.0
  goes_on (one (client.SawStatus word) ∷ es) order q l m legals = absurd legals.0
  goes_on (one (client.Poke word value) ∷ es) order q l m legals = absurd legals.0
  goes_on (two (server.SawRear rear) ∷ es) order q l m legals =
      after_two order (server.SawRear rear) es (goes_on es (by_server (server.SawRear rear) ∷ order) (next_in_pipe q (two (server.SawRear rear))) (legals.0 ∙ ap wrapped (sym m.put), l)
      (record { put = m.put; taken = m.taken; shown = m.put; puts = m.puts; takes = one_more (server_of order) (server.SawRear rear) q.takes m.takes }) legals.1)
  goes_on (two (server.SawFront front) ∷ es) order q l m legals =
      after_two order (server.SawFront front) es (goes_on es (by_server (server.SawFront front) ∷ order) (next_in_pipe q (two (server.SawFront front))) (legals.0 ∙ ap wrapped (sym m.taken), l)
      (record { put = m.put; taken = m.taken; shown = m.shown; puts = m.puts; takes = one_more (server_of order) (server.SawFront front) q.takes m.takes }) legals.1)
  goes_on (two (server.Take count) ∷ es) order q l m legals =
      after_two order (server.Take count) es (goes_on es (by_server (server.Take count) ∷ order) (next_in_pipe q (two (server.Take count)))
      (subst (λ n. n + count ≤ (after pipe_begins order).rear_seen) (sym m.taken) (subst (λ n. q.taken + count ≤ n) (sym m.shown) legals.0), l)
      (record { put = m.put; taken = ap (λ n. n + count) m.taken; shown = m.shown; puts = m.puts; takes = one_more (server_of order) (server.Take count) q.takes m.takes }) legals.1)
  goes_on (two (server.Learn count) ∷ es) order q l m legals =
      after_two order (server.Learn count) es (goes_on es (by_server (server.Learn count) ∷ order) (next_in_pipe q (two (server.Learn count))) (subst (λ n. count ≤ n) (sym m.puts) legals.0, l)
      (record { put = m.put; taken = m.taken; shown = m.shown; puts = m.puts; takes = one_more (server_of order) (server.Learn count) q.takes m.takes }) legals.1)
  goes_on (two (server.SawGain word) ∷ es) order q l m legals = absurd legals.0
  goes_on (two (server.SawFlush flush) ∷ es) order q l m legals = absurd legals.0
  goes_on (two (server.Drop to) ∷ es) order q l m legals = absurd legals.0
  goes_on (two (server.Tally missing) ∷ es) order q l m legals = absurd legals.0
  goes_on (two (server.SetFlags bits) ∷ es) order q l m legals = absurd legals.0
  goes_on (two (server.SetStatus word) ∷ es) order q l m legals = absurd legals.0

order_of : (p : PipeKept) → HasPipeHistory p.size p.puts p.put p.takes p.taken → HasPipeOrder p
order_of p h =
    let g = goes_on p.size h.history.order [] pipe.start_of_pipe tt (record { put = refl; taken = refl; shown = refl; puts = refl; takes = refl }) h.history.is_legal in
    (record { order = g.more; legal = g.legal_is; client_is = g.client_is ∙ h.history.of_one; server_is = g.server_is ∙ h.history.of_two; hand_is = g.hand_is }, h.begins)

-- the one exactly if the other
pub pipe_exact : (p : PipeKept) → AreEnds p → HasPipeOrder p ↔ HasPipeHistory p.size p.puts p.put p.takes p.taken
pipe_exact p ends = (history_of p ends, order_of p)
