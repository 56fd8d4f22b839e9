-- The history of a block, on which the ends of a pipe alone did something, is one of the pipe.
use Rattle.std.proofs.Common.{◌≡◌, ℕ, ◌+◌, ◌-◌, ◌≤◌, true, true≢false, ◌&&◌, List, [], ◌∷◌, ◌++◌, length, take, refl, sym, ap, ◌∙◌, subst, arith, length-append, length-take-le}
use Rattle.af_model.proofs.Common.{ClientEvent, ServerEvent}
use Rattle.std.specs.List.{list_all}
use Rattle.std.proofs.lemmas.List.Folds.{list_all-append}
use Rattle.af_base.specs.declared.event.ClientEvent.TheVariants as client
use Rattle.af_base.specs.declared.event.ServerEvent.TheVariants as server
use Rattle.af_model.proofs.Basics.{both_first, keeps}
use Rattle.af_model.specs.declared.shape.Shape.{Shape}
use Rattle.af_model.specs.declared.point.TrackPoint.{TrackPoint}
use Rattle.af_model.specs.Point.{wrapped, ClientMay, ServerMay, after_client, after_server}
use Rattle.af_model.specs.Point.{start as block_start}
use Rattle.af_model.specs.History.{Moment, by_client, by_server, by_hand, client_of, server_of, hand_of, IsLegal, HasHistory}
use Rattle.af_model.specs.History.{after as block_after}
use Rattle.af_model.specs.Fates.{InTurn, drops_none}
use Rattle.af_model.specs.Order.{Event, one, two, ones, twos, Legal, point_after}
use Rattle.af_model.specs.PipeHistory.{PipePoint, start_of_pipe, room_by, legal_in_pipe, next_in_pipe, HasPipeHistory, PutKept, nothing_put, may_put, after_put, IsPutList, put_kept, is_taking, IsTakeList}
use Rattle.af_model.proofs.Fates.{in_turn, begins}
use Rattle.af_model.proofs.Orders.{ones_one, ones_two, twos_one, twos_two, after_end, legal_end}
use Rattle.af_model.proofs.Splits.{legal_at}
use Rattle.af_model.proofs.Logic.{both_right, ahead-between}

all_kept : (es : List ServerEvent) → IsTakeList es → drops_none es ≡ true
all_kept [] is = refl
all_kept (e ∷ es) is = let here : is_taking e ≡ true = both_first (is_taking e) _ is in ap (λ b. b && drops_none es) (keeps e here) ∙ all_kept es (both_right (is_taking e) _ is)

-- the order of both ends, oldest first
abbrev events_of : List Moment → List (Event ClientEvent ServerEvent)
events_of [] = []
events_of (by_client e ∷ order) = events_of order ++ one e ∷ []
events_of (by_server e ∷ order) = events_of order ++ two e ∷ []
events_of (by_hand e ∷ order) = events_of order

ones_of : (order : List Moment) → ones (events_of order) ≡ client_of order
ones_of [] = refl
ones_of (by_client e ∷ order) = ones_one (events_of order) e ∙ ap (λ es. es ++ e ∷ []) (ones_of order)
ones_of (by_server e ∷ order) = ones_two (events_of order) e ∙ ones_of order
ones_of (by_hand e ∷ order) = ones_of order

twos_of : (order : List Moment) → twos (events_of order) ≡ server_of order
twos_of [] = refl
twos_of (by_client e ∷ order) = twos_one (events_of order) e ∙ twos_of order
twos_of (by_server e ∷ order) = twos_two (events_of order) e ∙ ap (λ es. es ++ e ∷ []) (twos_of order)
twos_of (by_hand e ∷ order) = twos_of order

-- the pipe's point, after so many events of each end
abbrev point_of : TrackPoint → ℕ → ℕ → PipePoint
point_of p puts takes = record { put = p.released; taken = p.consumed; shown = p.rear_seen; puts = puts; takes = takes }

-- the front last seen shows frames that were taken, and there is room from these on
record PipeHasRoom (size : ℕ) (k : PutKept) (p : TrackPoint) : Type 0 where
  known : ℕ
  known_is : k.front ≡ wrapped known
  low : known ≤ p.consumed
  fits : p.released ≤ known + size
  put_is : k.put ≡ p.released

-- one more event of the end that puts
record Puts (size : ℕ) (k : PutKept) (p : TrackPoint) (puts takes : ℕ) (e : ClientEvent) : Type 0 where
  may : legal_in_pipe size (point_of p puts takes) (one e)
  point_is : next_in_pipe (point_of p puts takes) (one e) ≡ point_of (after_client p e) (puts + 1) takes
  room : PipeHasRoom size (after_put k e) (after_client p e)

record Takes (size : ℕ) (k : PutKept) (p : TrackPoint) (puts takes : ℕ) (e : ServerEvent) : Type 0 where
  may : legal_in_pipe size (point_of p puts takes) (two e)
  point_is : next_in_pipe (point_of p puts takes) (two e) ≡ point_of (after_server p e) puts (takes + 1)
  room : PipeHasRoom size k (after_server p e)

module _ (shape : Shape) (size : ℕ) (few : size ≤ 65536) (from_zero : shape.base ≡ 0) where
  room-between : (put taken : ℕ) → taken ≤ put → put ≤ taken + size → room_by size put (wrapped taken) ≡ size - (put - taken)
  room-between put taken low fits = ap (λ (n : ℕ). size - n) (ahead-between taken put low (omega arith))

  put_step : (k : PutKept) (p : TrackPoint) (puts takes : ℕ) (e : ClientEvent) → ClientMay p takes e → may_put size k e → InTurn shape p → PipeHasRoom size k p → Puts size k p puts takes e
  put_step k p puts takes (client.Release count) may fits turn r =
      let low : r.known ≤ p.released = (let a = r.low in let b = turn.within in omega arith) in
      let room : room_by size k.put k.front ≡ size - (p.released - r.known) =
      ap (λ (x : ℕ × ℕ). room_by size x.0 x.1) (λ i. (r.put_is i, r.known_is i)) ∙ room-between p.released r.known low r.fits in
      let there : p.released + count ≤ r.known + size = (let a = r.fits in omega arith) in
      record {
        may = (let a = r.low in omega arith);
        point_is = refl;
        room = record { known = r.known; known_is = r.known_is; low = r.low; fits = there; put_is = ap (λ (n : ℕ). n + count) r.put_is };
      }
  put_step k p puts takes (client.SawFront front) may fits turn r =
      let low : p.consumed ≤ p.released = turn.within in
      let there : p.released ≤ p.consumed + size = (let a = r.low in let b = r.fits in omega arith) in
      record {
        may = (may, ap (λ (n : ℕ). room_by size p.released n) may ∙ room-between p.released p.consumed low there);
        point_is = refl;
        room = record { known = p.consumed; known_is = may; low = omega arith; fits = there; put_is = r.put_is };
      }
  put_step k p puts takes (client.Learn count) may fits turn r =
      record {
        may = may;
        point_is = refl;
        room = record { known = r.known; known_is = r.known_is; low = r.low; fits = r.fits; put_is = r.put_is };
      }
  put_step k p puts takes client.Flush may fits turn r = absurd fits
  put_step k p puts takes (client.SetGain word) may fits turn r = absurd fits
  put_step k p puts takes (client.ClearFlags old) may fits turn r = absurd fits
  put_step k p puts takes (client.SawFlags flags) may fits turn r = absurd fits
  put_step k p puts takes (client.SawStatus word) may fits turn r = absurd fits
  put_step k p puts takes (client.Poke word value) may fits turn r = absurd fits

  take_step : (k : PutKept) (p : TrackPoint) (puts takes : ℕ) (e : ServerEvent) → ServerMay p puts e → is_taking e ≡ true → PipeHasRoom size k p → Takes size k p puts takes e
  take_step k p puts takes (server.SawRear rear) may is r =
      record {
        may = may;
        point_is = refl;
        room = record { known = r.known; known_is = r.known_is; low = r.low; fits = r.fits; put_is = r.put_is };
      }
  take_step k p puts takes (server.SawFront front) may is r =
      record { may = may; point_is = refl; room = r }
  take_step k p puts takes (server.Take count) may is r =
      record {
        may = may;
        point_is = refl;
        room = record { known = r.known; known_is = r.known_is; low = (let a = r.low in omega arith); fits = r.fits; put_is = r.put_is };
      }
  take_step k p puts takes (server.Learn count) may is r = record { may = may; point_is = refl; room = r }
  take_step k p puts takes (server.SawGain word) may is r = absurd (true≢false (sym is))
  take_step k p puts takes (server.SawFlush flush) may is r = absurd (true≢false (sym is))
  take_step k p puts takes (server.Drop to) may is r = absurd (true≢false (sym is))
  take_step k p puts takes (server.Tally missing) may is r = absurd (true≢false (sym is))
  take_step k p puts takes (server.SetFlags bits) may is r = absurd (true≢false (sym is))
  take_step k p puts takes (server.SetStatus word) may is r = absurd (true≢false (sym is))

  -- what holds of the events of an order so far
  record Agrees (order : List Moment) : Type 0 where
    is_legal : Legal (legal_in_pipe size) next_in_pipe start_of_pipe (events_of order)
    point_is : point_after (legal_in_pipe size) next_in_pipe start_of_pipe (events_of order) ≡ point_of (block_after (block_start shape) order) (length (client_of order)) (length (server_of order))
    room : PipeHasRoom size (put_kept size (client_of order)) (block_after (block_start shape) order)

  agrees : (order : List Moment) → IsLegal (block_start shape) order → hand_of order ≡ [] → IsPutList size (client_of order) → IsTakeList (server_of order) → Agrees order
  agrees [] h none puts takes =
      record {
        is_legal = tt;
        point_is = ap (λ (n : ℕ). record { put = n; taken = n; shown = n; puts = 0; takes = 0 }) (sym from_zero);
        room = record { known = shape.base; known_is = ap wrapped (sym from_zero); low = omega arith; fits = omega arith; put_is = sym from_zero };
      }
  agrees (by_client e ∷ order) h none puts takes =
      let s = legal_at (may_put size) after_put nothing_put (client_of order) e [] puts in
      let a = agrees order h.1 none s.0 takes in
      let n : ℕ = length (client_of order) in
      let m : ℕ = length (server_of order) in
      let step = put_step (put_kept size (client_of order)) (block_after (block_start shape) order) n m e h.0 s.1 (in_turn shape order h.1) a.room in
      let count : n + 1 ≡ length (client_of order ++ e ∷ []) = sym (length-append (client_of order) (e ∷ [])) in
      record {
        is_legal = legal_end (legal_in_pipe size) next_in_pipe start_of_pipe (events_of order) (one e) a.is_legal (subst (λ (q : PipePoint). legal_in_pipe size q (one e)) (sym a.point_is) step.may);
        point_is = after_end (legal_in_pipe size) next_in_pipe start_of_pipe (events_of order) (one e) ∙ ap (λ (q : PipePoint). next_in_pipe q (one e)) a.point_is ∙ step.point_is
            ∙ ap (λ (c : ℕ). point_of (block_after (block_start shape) (by_client e ∷ order)) c m) count;
        room = subst (λ (k : PutKept). PipeHasRoom size k (block_after (block_start shape) (by_client e ∷ order))) (sym (after_end (may_put size) after_put nothing_put (client_of order) e)) step.room;
      }
  agrees (by_server e ∷ order) h none puts takes =
      let whole : (list_all is_taking (server_of order) && list_all is_taking (e ∷ [])) ≡ true = sym (list_all-append is_taking (server_of order) (e ∷ [])) ∙ takes in
      let before = both_first _ _ whole in
      let here : is_taking e ≡ true = both_first (is_taking e) true (both_right (list_all is_taking (server_of order)) _ whole) in
      let a = agrees order h.1 none puts before in
      let n : ℕ = length (client_of order) in
      let m : ℕ = length (server_of order) in
      let step = take_step (put_kept size (client_of order)) (block_after (block_start shape) order) n m e h.0 here a.room in
      let count : m + 1 ≡ length (server_of order ++ e ∷ []) = sym (length-append (server_of order) (e ∷ [])) in
      record {
        is_legal = legal_end (legal_in_pipe size) next_in_pipe start_of_pipe (events_of order) (two e) a.is_legal (subst (λ (q : PipePoint). legal_in_pipe size q (two e)) (sym a.point_is) step.may);
        point_is = after_end (legal_in_pipe size) next_in_pipe start_of_pipe (events_of order) (two e) ∙ ap (λ (q : PipePoint). next_in_pipe q (two e)) a.point_is ∙ step.point_is
            ∙ ap (λ (c : ℕ). point_of (block_after (block_start shape) (by_server e ∷ order)) n c) count;
        room = step.room;
      }
  agrees (by_hand e ∷ order) h none puts takes = let long : length (hand_of order ++ e ∷ []) ≡ 0 = ap length none in absurd (omega (arith, length-append (hand_of order) (e ∷ [])))

  -- if the two ends of a pipe did what ends do, their history on the block is one of the pipe
  pub pipe_history : (ce : List ClientEvent) (cf : List ℕ) (se : List ServerEvent) (sf : List ℕ) → HasHistory shape ce cf se sf [] → IsPutList size ce → IsTakeList se
      → HasPipeHistory size ce cf se sf
  pipe_history ce cf se sf h puts takes =
      let puts' : IsPutList size (client_of h.order) = subst (λ (es : List ClientEvent). IsPutList size es) (sym h.client_is) puts in
      let takes' : IsTakeList (server_of h.order) = subst (λ (es : List ServerEvent). IsTakeList es) (sym h.server_is) takes in
      let a = agrees h.order h.legal h.hand_is puts' takes' in
      let p : TrackPoint = block_after (block_start shape) h.order in
      let t = in_turn shape h.order h.legal in
      let taken : sf ≡ take (p.consumed - shape.base) cf = sym h.taken_is ∙ begins cf shape h.order h.legal (all_kept (server_of h.order) takes') in
      let within : p.consumed - shape.base ≤ length cf = (let x = t.within in let z = h.released_is in omega arith) in
      let many : length sf ≡ p.consumed - shape.base = ap length taken ∙ length-take-le (p.consumed - shape.base) cf within in
      record {
        history = record { order = events_of h.order; is_legal = a.is_legal; of_one = ones_of h.order ∙ h.client_is; of_two = twos_of h.order ∙ h.server_is };
        put_is = ap (λ (q : PipePoint). q.put) a.point_is ∙ h.released_is ∙ (let e : shape.base + length cf ≡ length cf = omega arith in e);
        taken_is = ap (λ (q : PipePoint). q.taken) a.point_is ∙ sym (many ∙ (let e : p.consumed - shape.base ≡ p.consumed = omega arith in e));
        begins = taken ∙ ap (λ (n : ℕ). take n cf) (sym many);
      }
