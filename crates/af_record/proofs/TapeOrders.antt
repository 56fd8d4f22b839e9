-- The history of a block, on which the ends of a recording alone did something, is one of the recording.
use Rattle.std.proofs.Common.{◌≡◌, ℕ, ◌+◌, ◌-◌, ◌≤◌, ◌==◌, bit_and, MatchBool, Bool, true, false, true≢false, ◌&&◌, Option, List, [], ◌∷◌, ◌++◌, length, take, refl, sym, ap, ◌∙◌, subst, arith, length-append, length-take-le, eqb-true, eq-eqb}
use Rattle.af_record.proofs.Common.{ClientEvent, ClientMay, Event, HasHistory, IsLegal, IsServerList, Legal, Moment, PipePoint, PutKept, ServerEvent, ServerMay, Shape, TrackPoint, point_after, after_client, after_put, after_server, ahead-between, begins, both_first, both_right, by_client, by_hand, by_server, client_of, flushes_of, hand_of, in_turn, is_lawful, list_all, next_in_pipe, nothing_put, one, ones, room_by, server_of, start_of_pipe, two, twos, wrapped}
use Rattle.af_base.specs.declared.event.ClientEvent.TheVariants as client
use Rattle.af_base.specs.declared.event.ServerEvent.TheVariants as server
use Rattle.af_model.specs.Point.{start as block_start}
use Rattle.af_model.specs.History.{after as block_after}
use Rattle.af_model.specs.Fates.{InTurn, keeps_all, drops_none}
use Rattle.af_model.proofs.Orders.{ones_one, ones_two, twos_one, twos_two, after_end, legal_end}
use Rattle.af_model.proofs.Splits.{legal_at}
use Rattle.af_record.specs.History.{legal, HasTapeHistory, may_supply, IsSupplyList, IsReadList, is_alive, is_calm}
use Rattle.af_record.proofs.Calm.{is_zero, all_first, all_second, all_zero, drops_nothing}

-- ## The lists alone

-- an end that supplies never flushes
pub flushes_none : (size : ℕ) (k : PutKept) (es : List ClientEvent) → Legal (may_supply size) after_put k es → flushes_of es ≡ 0
flushes_none size k [] l = refl
flushes_none size k (client.Release count ∷ es) l = (let e = flushes_none size (after_put k (client.Release count)) es l.1 in omega arith)
flushes_none size k (client.SawFront front ∷ es) l = (let e = flushes_none size (after_put k (client.SawFront front)) es l.1 in omega arith)
flushes_none size k (client.SawFlags flags ∷ es) l = (let e = flushes_none size (after_put k (client.SawFlags flags)) es l.1 in omega arith)
flushes_none size k (client.Learn count ∷ es) l = (let e = flushes_none size (after_put k (client.Learn count)) es l.1 in omega arith)
flushes_none size k _ l = absurd l.0

-- nor does it poke
pub supplies_lawful : (size : ℕ) (k : PutKept) (es : List ClientEvent) → Legal (may_supply size) after_put k es → is_lawful es ≡ true
supplies_lawful size k [] l = refl
supplies_lawful size k (client.Release count ∷ es) l = supplies_lawful size (after_put k (client.Release count)) es l.1
supplies_lawful size k (client.SawFront front ∷ es) l = supplies_lawful size (after_put k (client.SawFront front)) es l.1
supplies_lawful size k (client.SawFlags flags ∷ es) l = supplies_lawful size (after_put k (client.SawFlags flags)) es l.1
supplies_lawful size k (client.Learn count ∷ es) l = supplies_lawful size (after_put k (client.Learn count)) es l.1
supplies_lawful size k _ l = absurd l.0

calm_keeps : (e : ServerEvent) → is_calm e ≡ true → keeps_all e ≡ true
calm_keeps (server.Drop to) is = is
calm_keeps _ is = refl

all_kept : (es : List ServerEvent) → list_all is_calm es ≡ true → drops_none es ≡ true
all_kept [] is = refl
all_kept (e ∷ es) is = ap (λ b. b && drops_none es) (calm_keeps e (both_first (is_calm e) _ is)) ∙ all_kept es (both_right (is_calm e) _ is)

-- ## The order of both ends, oldest first

abbrev events_of : List Moment → List (Event ClientEvent ServerEvent)
events_of [] = []
events_of (by_client e ∷ order) = events_of order ++ one e ∷ []
events_of (by_server e ∷ order) = events_of order ++ two e ∷ []
events_of (by_hand e ∷ order) = events_of order

ones_of : (order : List Moment) → ones (events_of order) ≡ client_of order
ones_of [] = refl
ones_of (by_client e ∷ order) = ones_one (events_of order) e ∙ ap (λ es. es ++ e ∷ []) (ones_of order)
ones_of (by_server e ∷ order) = ones_two (events_of order) e ∙ ones_of order
ones_of (by_hand e ∷ order) = ones_of order

twos_of : (order : List Moment) → twos (events_of order) ≡ server_of order
twos_of [] = refl
twos_of (by_client e ∷ order) = twos_one (events_of order) e ∙ twos_of order
twos_of (by_server e ∷ order) = twos_two (events_of order) e ∙ ap (λ es. es ++ e ∷ []) (twos_of order)
twos_of (by_hand e ∷ order) = twos_of order

-- the recording's point, after so many events of each end
abbrev point_of : TrackPoint → ℕ → ℕ → PipePoint
point_of p puts takes = record { put = p.released; taken = p.consumed; shown = p.rear_seen; puts = puts; takes = takes }

-- no flag is set, the front last seen shows frames that were taken, and there is room from these on
record TapeHasRoom (size : ℕ) (k : PutKept) (p : TrackPoint) : Type 0 where
  flags_are : p.flags ≡ 0
  known : ℕ
  known_is : k.front ≡ wrapped known
  low : known ≤ p.consumed
  fits : p.released ≤ known + size
  put_is : k.put ≡ p.released

-- one more event of the end that supplies
record Supplies (size : ℕ) (k : PutKept) (p : TrackPoint) (puts takes : ℕ) (e : ClientEvent) : Type 0 where
  may : legal size (point_of p puts takes) (one e)
  point_is : next_in_pipe (point_of p puts takes) (one e) ≡ point_of (after_client p e) (puts + 1) takes
  room : TapeHasRoom size (after_put k e) (after_client p e)

record Reads (size : ℕ) (k : PutKept) (p : TrackPoint) (puts takes : ℕ) (e : ServerEvent) : Type 0 where
  may : legal size (point_of p puts takes) (two e)
  point_is : next_in_pipe (point_of p puts takes) (two e) ≡ point_of (after_server p e) puts (takes + 1)
  room : TapeHasRoom size k (after_server p e)

-- if no flag is set, none are seen to have INVALID
no_flags : (flags word : ℕ) (b : Bool) → (bit_and flags 4 == 0) ≡ b → word ≡ 0 → MatchBool b (bit_and word 4 ≡ 0) (flags ≡ word) → bit_and flags 4 ≡ 0
no_flags flags word true e none may = eqb-true (bit_and flags 4) 0 e
no_flags flags word false e none may = ap (λ (n : ℕ). bit_and n 4) (may ∙ none)

module _ (shape : Shape) (size : ℕ) (few : size ≤ 65536) (from_zero : shape.base ≡ 0) where
  room-between : (put taken : ℕ) → taken ≤ put → put ≤ taken + size → room_by size put (wrapped taken) ≡ size - (put - taken)
  room-between put taken low fits = ap (λ (n : ℕ). size - n) (ahead-between taken put low (omega arith))

  put_step : (k : PutKept) (p : TrackPoint) (puts takes : ℕ) (e : ClientEvent) → ClientMay p takes e → may_supply size k e → InTurn shape p → TapeHasRoom size k p → Supplies size k p puts takes e
  put_step k p puts takes (client.Release count) may fits turn r =
      let low : r.known ≤ p.released = (let a = r.low in let b = turn.within in omega arith) in
      let room : room_by size k.put k.front ≡ size - (p.released - r.known) =
      ap (λ (x : ℕ × ℕ). room_by size x.0 x.1) (λ i. (r.put_is i, r.known_is i)) ∙ room-between p.released r.known low r.fits in
      let there : p.released + count ≤ r.known + size = (let a = r.fits in omega arith) in
      record {
        may = (let a = r.low in omega arith);
        point_is = refl;
        room = record { flags_are = r.flags_are; known = r.known; known_is = r.known_is; low = r.low; fits = there; put_is = ap (λ (n : ℕ). n + count) r.put_is };
      }
  put_step k p puts takes (client.SawFront front) may fits turn r =
      let low : p.consumed ≤ p.released = turn.within in
      let there : p.released ≤ p.consumed + size = (let a = r.low in let b = r.fits in omega arith) in
      record {
        may = (may, ap (λ (n : ℕ). room_by size p.released n) may ∙ room-between p.released p.consumed low there);
        point_is = refl;
        room = record { flags_are = r.flags_are; known = p.consumed; known_is = may; low = omega arith; fits = there; put_is = r.put_is };
      }
  put_step k p puts takes (client.SawFlags flags) may fits turn r =
      record {
        may = no_flags flags p.flags (bit_and flags 4 == 0) refl r.flags_are may;
        point_is = refl;
        room = record { flags_are = r.flags_are; known = r.known; known_is = r.known_is; low = r.low; fits = r.fits; put_is = r.put_is };
      }
  put_step k p puts takes (client.Learn count) may fits turn r =
      record {
        may = may;
        point_is = refl;
        room = record { flags_are = r.flags_are; known = r.known; known_is = r.known_is; low = r.low; fits = r.fits; put_is = r.put_is };
      }
  put_step k p puts takes client.Flush may fits turn r = absurd fits
  put_step k p puts takes (client.SetGain word) may fits turn r = absurd fits
  put_step k p puts takes (client.ClearFlags old) may fits turn r = absurd fits
  put_step k p puts takes (client.SawStatus word) may fits turn r = absurd fits
  put_step k p puts takes (client.Poke word value) may fits turn r = absurd fits

  take_step : (k : PutKept) (p : TrackPoint) (puts takes : ℕ) (e : ServerEvent) → ServerMay p puts e → is_calm e ≡ true → TapeHasRoom size k p → Reads size k p puts takes e
  take_step k p puts takes (server.SawFlush flush) may is r =
      record {
        may = eqb-true flush 0 is;
        point_is = refl;
        room = record { flags_are = r.flags_are; known = r.known; known_is = r.known_is; low = r.low; fits = r.fits; put_is = r.put_is };
      }
  take_step k p puts takes (server.SawRear rear) may is r =
      record {
        may = may;
        point_is = refl;
        room = record { flags_are = r.flags_are; known = r.known; known_is = r.known_is; low = r.low; fits = r.fits; put_is = r.put_is };
      }
  take_step k p puts takes (server.SawFront front) may is r =
      record { may = may; point_is = refl; room = r }
  take_step k p puts takes (server.Take count) may is r =
      record {
        may = may;
        point_is = refl;
        room = record { flags_are = r.flags_are; known = r.known; known_is = r.known_is; low = (let a = r.low in omega arith); fits = r.fits; put_is = r.put_is };
      }
  take_step k p puts takes (server.Learn count) may is r = record { may = may; point_is = refl; room = r }
  take_step k p puts takes (server.SawGain word) may is r = absurd (true≢false (sym is))
  take_step k p puts takes (server.Drop to) may is r = absurd (true≢false (sym is))
  take_step k p puts takes (server.Tally missing) may is r = absurd (true≢false (sym is))
  take_step k p puts takes (server.SetFlags bits) may is r = absurd (true≢false (sym is))
  take_step k p puts takes (server.SetStatus word) may is r = absurd (true≢false (sym is))

  -- what the list of the end that supplies tells
  abbrev known_of : List ClientEvent → PutKept
  known_of events = point_after (may_supply size) after_put nothing_put events

  -- what holds of the events of an order so far
  record Agrees (order : List Moment) : Type 0 where
    is_legal : Legal (legal size) next_in_pipe start_of_pipe (events_of order)
    point_is : point_after (legal size) next_in_pipe start_of_pipe (events_of order) ≡ point_of (block_after (block_start shape) order) (length (client_of order)) (length (server_of order))
    room : TapeHasRoom size (known_of (client_of order)) (block_after (block_start shape) order)

  agrees : (order : List Moment) → IsLegal (block_start shape) order → hand_of order ≡ [] → IsSupplyList size (client_of order) → list_all is_calm (server_of order) ≡ true → Agrees order
  agrees [] h none puts takes =
      record {
        is_legal = tt;
        point_is = ap (λ (n : ℕ). record { put = n; taken = n; shown = n; puts = 0; takes = 0 }) (sym from_zero);
        room = record { flags_are = refl; known = shape.base; known_is = ap wrapped (sym from_zero); low = omega arith; fits = omega arith; put_is = sym from_zero };
      }
  agrees (by_client e ∷ order) h none puts takes =
      let s = legal_at (may_supply size) after_put nothing_put (client_of order) e [] puts in
      let a = agrees order h.1 none s.0 takes in
      let n : ℕ = length (client_of order) in
      let m : ℕ = length (server_of order) in
      let step = put_step (known_of (client_of order)) (block_after (block_start shape) order) n m e h.0 s.1 (in_turn shape order h.1) a.room in
      let count : n + 1 ≡ length (client_of order ++ e ∷ []) = sym (length-append (client_of order) (e ∷ [])) in
      record {
        is_legal = legal_end (legal size) next_in_pipe start_of_pipe (events_of order) (one e) a.is_legal (subst (λ (q : PipePoint). legal size q (one e)) (sym a.point_is) step.may);
        point_is = after_end (legal size) next_in_pipe start_of_pipe (events_of order) (one e) ∙ ap (λ (q : PipePoint). next_in_pipe q (one e)) a.point_is ∙ step.point_is
            ∙ ap (λ (c : ℕ). point_of (block_after (block_start shape) (by_client e ∷ order)) c m) count;
        room = subst (λ (k : PutKept). TapeHasRoom size k (block_after (block_start shape) (by_client e ∷ order))) (sym (after_end (may_supply size) after_put nothing_put (client_of order) e)) step.room;
      }
  agrees (by_server e ∷ order) h none puts takes =
      let here : is_calm e ≡ true = both_first (is_calm e) true (all_second is_calm (server_of order) (e ∷ []) takes) in
      let a = agrees order h.1 none puts (all_first is_calm (server_of order) (e ∷ []) takes) in
      let n : ℕ = length (client_of order) in
      let m : ℕ = length (server_of order) in
      let step = take_step (known_of (client_of order)) (block_after (block_start shape) order) n m e h.0 here a.room in
      let count : m + 1 ≡ length (server_of order ++ e ∷ []) = sym (length-append (server_of order) (e ∷ [])) in
      record {
        is_legal = legal_end (legal size) next_in_pipe start_of_pipe (events_of order) (two e) a.is_legal (subst (λ (q : PipePoint). legal size q (two e)) (sym a.point_is) step.may);
        point_is = after_end (legal size) next_in_pipe start_of_pipe (events_of order) (two e) ∙ ap (λ (q : PipePoint). next_in_pipe q (two e)) a.point_is ∙ step.point_is
            ∙ ap (λ (c : ℕ). point_of (block_after (block_start shape) (by_server e ∷ order)) n c) count;
        room = step.room;
      }
  agrees (by_hand e ∷ order) h none puts takes = let long : length (hand_of order ++ e ∷ []) ≡ 0 = ap length none in absurd (omega (arith, length-append (hand_of order) (e ∷ [])))

  -- if the two ends of a recording did what ends do, their history on the block is one of the recording
  pub tape_history : (ce : List ClientEvent) (cf : List ℕ) (se : List ServerEvent) (sf : List ℕ) → HasHistory shape ce cf se sf [] → IsSupplyList size ce → list_all is_calm se ≡ true
      → HasTapeHistory size ce cf se sf
  tape_history ce cf se sf h puts takes =
      let puts' : IsSupplyList size (client_of h.order) = subst (λ (es : List ClientEvent). IsSupplyList size es) (sym h.client_is) puts in
      let takes' : list_all is_calm (server_of h.order) ≡ true = subst (λ (es : List ServerEvent). list_all is_calm es ≡ true) (sym h.server_is) takes in
      let a = agrees h.order h.legal h.hand_is puts' takes' in
      let p : TrackPoint = block_after (block_start shape) h.order in
      let t = in_turn shape h.order h.legal in
      let taken : sf ≡ take (p.consumed - shape.base) cf = sym h.taken_is ∙ begins cf shape h.order h.legal (all_kept (server_of h.order) takes') in
      let within : p.consumed - shape.base ≤ length cf = (let x = t.within in let z = h.released_is in omega arith) in
      let many : length sf ≡ p.consumed - shape.base = ap length taken ∙ length-take-le (p.consumed - shape.base) cf within in
      record {
        history = record { order = events_of h.order; is_legal = a.is_legal; of_one = ones_of h.order ∙ h.client_is; of_two = twos_of h.order ∙ h.server_is };
        put_is = ap (λ (q : PipePoint). q.put) a.point_is ∙ h.released_is ∙ (let e : shape.base + length cf ≡ length cf = omega arith in e);
        taken_is = ap (λ (q : PipePoint). q.taken) a.point_is ∙ sym (many ∙ (let e : p.consumed - shape.base ≡ p.consumed = omega arith in e));
        begins = taken ∙ ap (λ (n : ℕ). take n cf) (sym many);
      }

-- a server whose client never flushed drops nothing
pub stays_calm : (shape : Shape) (size : ℕ) (ce : List ClientEvent) (cf : List ℕ) (se : List ServerEvent) (sf : List ℕ) (shown : Option ℕ) → shape.wrap ≡ 0 → HasHistory shape ce cf se sf [] → IsSupplyList size ce → IsReadList se
    → IsServerList shape shown se → list_all is_calm se ≡ true
stays_calm shape size ce cf se sf shown flat h puts reads list =
    let none : flushes_of (client_of h.order) ≡ 0 = ap flushes_of h.client_is ∙ flushes_none size nothing_put ce puts in
    drops_nothing shape shown se list reads (subst (λ (es : List ServerEvent). list_all is_zero es ≡ true) h.server_is (all_zero shape flat h.order h.legal none))

-- ## What each end saw

alive_in : (size : ℕ) (p : PipePoint) (es : List (Event ClientEvent ServerEvent)) → Legal (legal size) next_in_pipe p es → list_all is_alive (ones es) ≡ true
alive_in size p [] l = refl
alive_in size p (two e ∷ es) l = alive_in size (next_in_pipe p (two e)) es l.1
alive_in size p (one (client.SawFlags flags) ∷ es) l =
    ap (λ (b : Bool). b && list_all is_alive (ones es)) (eq-eqb (bit_and flags 4) 0 l.0) ∙ alive_in size (next_in_pipe p (one (client.SawFlags flags))) es l.1
alive_in size p (one (client.Release count) ∷ es) l = alive_in size (next_in_pipe p (one (client.Release count))) es l.1
alive_in size p (one (client.SawFront front) ∷ es) l = alive_in size (next_in_pipe p (one (client.SawFront front))) es l.1
alive_in size p (one (client.Learn count) ∷ es) l = alive_in size (next_in_pipe p (one (client.Learn count))) es l.1
alive_in size p (one client.Flush ∷ es) l = absurd l.0
alive_in size p (one (client.SetGain word) ∷ es) l = absurd l.0
alive_in size p (one (client.ClearFlags old) ∷ es) l = absurd l.0
alive_in size p (one (client.SawStatus word) ∷ es) l = absurd l.0
alive_in size p (one (client.Poke word value) ∷ es) l = absurd l.0

-- no look at the flags shows INVALID
pub stays_alive : (size : ℕ) (puts : List ClientEvent) (put : List ℕ) (takes : List ServerEvent) (taken : List ℕ) → HasTapeHistory size puts put takes taken → list_all is_alive puts ≡ true
stays_alive size puts put takes taken h =
    subst (λ (es : List ClientEvent). list_all is_alive es ≡ true) h.history.of_one (alive_in size start_of_pipe h.history.order h.history.is_legal)
