-- What the pipe's ends see of one another, and what a round's entries take.
use Rattle.std.proofs.Common.{◌≡◌, ◌⊎◌, inl, inr, ℕ, zero, suc, ◌+◌, ◌-◌, ◌≤◌, ◌<◌, ◌==◌, min, nat_le, if◌then◌else◌, Bool, true, false, List, [], ◌∷◌, ◌++◌, length, take, drop, get_or, refl, sym, ap, ◌∙◌, subst, arith, append_assoc, length-append, eqb-true}
use Rattle.af_enough_law.proofs.Common.{ClientEvent, Event, HasOrder, Legal, PipePoint, ServerEvent, ahead, ahead-between, front_by_room, legal_at, nat_tests, one, ones, ones_append, shown, split_at, takes_shown, two, twos, wrapped}
use Rattle.af_base.specs.declared.event.ClientEvent.TheVariants as client
use Rattle.af_base.specs.declared.event.ServerEvent.TheVariants as server
use Rattle.af_base.specs.declared.seen.Seen.TheVariants as seen
use Rattle.af_enough_law.proofs.Basics.{put-append, taken-append}
use Rattle.af_model.specs.Order.{point_after}
use Rattle.af_model.specs.PipeHistory as piped
use Rattle.af_enough_law.specs.Seen.{Stands, frames_put, frames_taken}
use Rattle.af_enough_law.proofs.FastShows.{put-front}
use Rattle.af_enough_law.proofs.SeenShared.{puts_counted, takes_counted, puts_take_none, takes_put_none, put_more, put_same, taken_more, taken_same}
use Rattle.af_enough_law.proofs.Standing.{swap_order, ones_swap, twos_swap, swap_legal, legal_swapped, next_swapped, learnt_before}

-- ## The pipe's points

module _ (size : ℕ) where
  -- no more is taken than the last rear showed, no more shown than put, and no more put than there is room for
  record InRoom (p : PipePoint) : Type 0 where
    shown : p.taken ≤ p.shown
    put : p.shown ≤ p.put
    room : p.put ≤ p.taken + size

  room_next : (p : PipePoint) (e : Event ClientEvent ServerEvent) → piped.legal_in_pipe size p e → InRoom p → InRoom (piped.next_in_pipe p e)
  room_next p (one (client.Release count)) l r = record { shown = r.shown; put = (let a = r.put in omega arith); room = (let a : p.put + count ≤ p.taken + size = l in a) }
  room_next p (one (client.SawFront front)) l r = record { shown = r.shown; put = r.put; room = r.room }
  room_next p (one (client.Learn n)) l r = record { shown = r.shown; put = r.put; room = r.room }
  room_next p (one client.Flush) l r = absurd l
  room_next p (one (client.SetGain word)) l r = absurd l
  room_next p (one (client.ClearFlags old)) l r = absurd l
  room_next p (one (client.SawFlags flags)) l r = absurd l
  room_next p (one (client.SawStatus word)) l r = absurd l
  room_next p (one (client.Poke word value)) l r = absurd l
  room_next p (two (server.SawRear rear)) l r = let a = r.shown in let b = r.put in record { shown = omega arith; put = omega arith; room = r.room }
  room_next p (two (server.SawFront front)) l r = record { shown = r.shown; put = r.put; room = r.room }
  room_next p (two (server.Take count)) l r = let a : p.taken + count ≤ p.shown = l in let b = r.room in record { shown = a; put = r.put; room = omega arith }
  room_next p (two (server.Learn n)) l r = record { shown = r.shown; put = r.put; room = r.room }
  room_next p (two (server.SawGain word)) l r = absurd l
  room_next p (two (server.SawFlush flush)) l r = absurd l
  room_next p (two (server.Drop to)) l r = absurd l
  room_next p (two (server.Tally missing)) l r = absurd l
  room_next p (two (server.SetFlags bits)) l r = absurd l
  room_next p (two (server.SetStatus word)) l r = absurd l

  in_room : (p : PipePoint) (es : List (Event ClientEvent ServerEvent)) → Legal (piped.legal_in_pipe size) piped.next_in_pipe p es → InRoom p → InRoom (point_after (piped.legal_in_pipe size) piped.next_in_pipe p es)
  in_room p [] l r = r
  in_room p (e ∷ es) l r = in_room (piped.next_in_pipe p e) es l.1 (room_next p e l.0 r)

  room_start : InRoom piped.start_of_pipe
  room_start = record { shown = omega arith; put = omega arith; room = omega arith }

  put_after : (p : PipePoint) (es : List (Event ClientEvent ServerEvent)) → (point_after (piped.legal_in_pipe size) piped.next_in_pipe p es).put ≡ p.put + frames_put (ones es)
  put_after p [] = omega arith
  put_after p (one e ∷ es) = let rest = put_after (piped.next_in_pipe p (one e)) es in let now = put_more p e in omega arith
  put_after p (two e ∷ es) = let rest = put_after (piped.next_in_pipe p (two e)) es in let now = put_same p e in omega arith

  taken_after : (p : PipePoint) (es : List (Event ClientEvent ServerEvent)) → (point_after (piped.legal_in_pipe size) piped.next_in_pipe p es).taken ≡ p.taken + frames_taken (twos es)
  taken_after p [] = omega arith
  taken_after p (one e ∷ es) = let rest = taken_after (piped.next_in_pipe p (one e)) es in let now = taken_same p e in omega arith
  taken_after p (two e ∷ es) = let rest = taken_after (piped.next_in_pipe p (two e)) es in let now = taken_more p e in omega arith

  -- the lists of both ends
  abbrev pub History : List ClientEvent → List ServerEvent → Type 0
  History puts takes = HasOrder (piped.legal_in_pipe size) piped.next_in_pipe piped.start_of_pipe puts takes

  -- ## The moment of an event of the end that takes

  record TakesAt (puts : List ClientEvent) (before : List ServerEvent) (e : ServerEvent) : Type 0 where
    at : PipePoint
    may : piped.legal_in_pipe size at (two e)
    taken : at.taken ≡ frames_taken before
    low : at.taken ≤ at.put
    high : at.put ≤ at.taken + size
    within : at.put ≤ frames_put puts
    learnt : (n : ℕ) → Stands (server.Learn n) before → frames_put (take n puts) ≤ at.put

  takes_at : (puts : List ClientEvent) (before : List ServerEvent) (e : ServerEvent) (behind : List ServerEvent) → History puts (before ++ e ∷ behind) → TakesAt puts before e
  takes_at puts before e behind h =
      let cut = split_at h.order before e behind h.of_two in
      let at = legal_at (piped.legal_in_pipe size) piped.next_in_pipe piped.start_of_pipe cut.before (two e) cut.behind (subst (Legal (piped.legal_in_pipe size) piped.next_in_pipe piped.start_of_pipe) cut.whole h.is_legal) in
      let room = in_room piped.start_of_pipe cut.before at.0 room_start in
      let put = put_after piped.start_of_pipe cut.before in
      let taken = taken_after piped.start_of_pipe cut.before in
      let whole : puts ≡ ones cut.before ++ ones cut.behind = sym h.of_one ∙ ap ones cut.whole ∙ ones_append cut.before (two e ∷ cut.behind) in
      let all : frames_put puts ≡ frames_put (ones cut.before) + frames_put (ones cut.behind) = ap frames_put whole ∙ put-append (ones cut.before) (ones cut.behind) in
      let a = room.shown in let b = room.put in
      record {
        at = point_after (piped.legal_in_pipe size) piped.next_in_pipe piped.start_of_pipe cut.before;
        may = at.1;
        taken = (let z = ap frames_taken cut.first in omega arith);
        low = omega arith;
        high = room.room;
        within = omega arith;
        learnt = λ n s.
            let few = learnt_before (piped.legal_in_pipe size) piped.next_in_pipe (λ p. p.puts) server.Learn puts_counted takes_put_none (λ p n l. l) piped.start_of_pipe cut.before n refl at.0 (subst (Stands (server.Learn n)) (sym cut.first) s) in
            let less : frames_put (take n puts) ≤ frames_put (ones cut.before) = subst (λ (l : List ClientEvent). frames_put (take n l) ≤ frames_put (ones cut.before)) (sym whole) (put-front n (ones cut.before) (ones cut.behind) few) in
            omega arith;
      }

  -- ## The moment of an event of the end that puts

  record SplitOne (es : List (Event ClientEvent ServerEvent)) (xs : List ClientEvent) (a : ClientEvent) (rest : List ClientEvent) : Type 0 where
    before : List (Event ClientEvent ServerEvent)
    behind : List (Event ClientEvent ServerEvent)
    whole : es ≡ before ++ one a ∷ behind
    first : ones before ≡ xs

  split_one : (es : List (Event ClientEvent ServerEvent)) (xs : List ClientEvent) (a : ClientEvent) (rest : List ClientEvent) → ones es ≡ xs ++ a ∷ rest → SplitOne es xs a rest
  split_one [] xs a rest e = let n : 0 ≡ length (xs ++ a ∷ rest) = ap length e in absurd (omega (arith, length-append xs (a ∷ rest)))
  split_one (two b ∷ es) xs a rest e = let s = split_one es xs a rest e in record { before = two b ∷ s.before; behind = s.behind; whole = ap (λ z. two b ∷ z) s.whole; first = s.first }
  split_one (one x ∷ es) [] a rest e = record { before = []; behind = es; whole = ap (λ (l : List ClientEvent). one (get_or l 0 x) ∷ es) e; first = refl }
  split_one (one x ∷ es) (y ∷ xs) a rest e =
      let s = split_one es xs a rest (ap (drop 1) e) in
      let same : x ≡ y = ap (λ (l : List ClientEvent). get_or l 0 x) e in
      record { before = one x ∷ s.before; behind = s.behind; whole = ap (λ z. one x ∷ z) s.whole; first = λ i. same i ∷ s.first i }

  record PutsAt (takes : List ServerEvent) (before : List ClientEvent) (e : ClientEvent) : Type 0 where
    at : PipePoint
    may : piped.legal_in_pipe size at (one e)
    put : at.put ≡ frames_put before
    low : at.taken ≤ at.put
    high : at.put ≤ at.taken + size
    within : at.taken ≤ frames_taken takes
    learnt : (n : ℕ) → Stands (client.Learn n) before → frames_taken (take n takes) ≤ at.taken

  -- what the first events take, a longer front takes
  taken-front : (n : ℕ) (front rest : List ServerEvent) → n ≤ length front → frames_taken (take n (front ++ rest)) ≤ frames_taken front
  taken-front zero front rest low = omega arith
  taken-front (suc n) [] rest low = absurd (omega (arith, low))
  taken-front (suc n) (x ∷ front) rest low = let more = taken-front n front rest (omega (arith, low)) in omega arith

  twos-append : (xs ys : List (Event ClientEvent ServerEvent)) → twos (xs ++ ys) ≡ twos xs ++ twos ys
  twos-append [] ys = refl
  twos-append (one a ∷ xs) ys = twos-append xs ys
  twos-append (two b ∷ xs) ys = ap (λ z. b ∷ z) (twos-append xs ys)

  puts_at : (takes : List ServerEvent) (before : List ClientEvent) (e : ClientEvent) (behind : List ClientEvent) → History (before ++ e ∷ behind) takes → PutsAt takes before e
  puts_at takes before e behind h =
      let cut = split_one h.order before e behind h.of_one in
      let at = legal_at (piped.legal_in_pipe size) piped.next_in_pipe piped.start_of_pipe cut.before (one e) cut.behind (subst (Legal (piped.legal_in_pipe size) piped.next_in_pipe piped.start_of_pipe) cut.whole h.is_legal) in
      let room = in_room piped.start_of_pipe cut.before at.0 room_start in
      let put = put_after piped.start_of_pipe cut.before in
      let taken = taken_after piped.start_of_pipe cut.before in
      let whole : takes ≡ twos cut.before ++ twos cut.behind = sym h.of_two ∙ ap twos cut.whole ∙ twos-append cut.before (one e ∷ cut.behind) in
      let a = room.shown in let b = room.put in
      record {
        at = point_after (piped.legal_in_pipe size) piped.next_in_pipe piped.start_of_pipe cut.before;
        may = at.1;
        put = (let z = ap frames_put cut.first in omega arith);
        low = omega arith;
        high = room.room;
        within = (let z = ap frames_taken whole in let y = taken-append (twos cut.before) (twos cut.behind) in omega arith);
        learnt = λ n s.
            let few = learnt_before (legal_swapped (piped.legal_in_pipe size) piped.next_in_pipe) (next_swapped (piped.legal_in_pipe size) piped.next_in_pipe) (λ p. p.takes) client.Learn takes_counted puts_take_none (λ p n l. l) piped.start_of_pipe (swap_order cut.before) n refl
            (swap_legal (piped.legal_in_pipe size) piped.next_in_pipe piped.start_of_pipe cut.before at.0) (subst (Stands (client.Learn n)) (sym (twos_swap cut.before ∙ cut.first)) s) in
            let few' : n ≤ length (twos cut.before) = (let z = ap length (ones_swap cut.before) in omega arith) in
            let less : frames_taken (take n takes) ≤ frames_taken (twos cut.before) = subst (λ (l : List ServerEvent). frames_taken (take n l) ≤ frames_taken (twos cut.before)) (sym whole) (taken-front n (twos cut.before) (twos cut.behind) few') in
            omega arith;
      }

  -- ## The look of a mix

  shown_taken : (count : ℕ) → frames_taken (takes_shown (shown count)) ≡ count
  shown_taken count = by (count == 0) refl
    where
      by : (b : Bool) → (count == 0) ≡ b → frames_taken (takes_shown (if b then seen.Empty else seen.Frames count)) ≡ count
      by true is = sym (eqb-true count 0 is)
      by false is = omega arith

  reach : (asked a p t k b c z : ℕ) → a ≡ p - t → c ≡ min asked a → z ≡ b + c → k ≤ p → t ≡ b → t ≤ p → (b + asked ≤ z) ⊎ (k ≤ z)
  reach asked a p t k b c z far count point_after known taken low = by (nat_le asked a) refl
    where
      by : (x : Bool) → nat_le asked a ≡ x → (b + asked ≤ z) ⊎ (k ≤ z)
      by true is = let l : asked ≤ a = grind (arith, nat_tests, is) in inl (omega (arith, far, count, point_after, known, taken, low, l))
      by false is = let l : a < asked = grind (arith, nat_tests, is) in inr (omega (arith, far, count, point_after, known, taken, low, l))

  -- a mix takes all that it asks for, or all that was known to be put
  pub pipe_look : size ≤ 65536 → (puts : List ClientEvent) (all before : List ServerEvent) (asked rear front : ℕ) (takes rest : List ServerEvent) → History puts all → takes ≡ takes_shown (shown (min asked (ahead front rear)))
      → all ≡ (before ++ server.SawRear rear ∷ server.SawFront front ∷ takes) ++ rest → (n : ℕ) → Stands (server.Learn n) before
      → (let point_after = before ++ server.SawRear rear ∷ server.SawFront front ∷ takes in
      (frames_taken before ≤ frames_taken point_after) × ((frames_taken before + asked ≤ frames_taken point_after) ⊎ (frames_put (take n puts) ≤ frames_taken point_after)))
  pipe_look few puts all before asked rear front takes rest h takes_are whole n s =
      let whole' : all ≡ before ++ server.SawRear rear ∷ server.SawFront front ∷ (takes ++ rest) = whole ∙ append_assoc before (server.SawRear rear ∷ server.SawFront front ∷ takes) rest in
      let m = takes_at puts before (server.SawRear rear) (server.SawFront front ∷ (takes ++ rest)) (subst (History puts) whole' h) in
      let f = takes_at puts (before ++ server.SawRear rear ∷ []) (server.SawFront front) (takes ++ rest)
      (subst (History puts) (whole' ∙ sym (append_assoc before (server.SawRear rear ∷ []) (server.SawFront front ∷ (takes ++ rest)))) h) in
      let rear_is : rear ≡ wrapped m.at.put = m.may in
      let same : f.at.taken ≡ m.at.taken = (let a = f.taken in let b = m.taken in let c = taken-append before (server.SawRear rear ∷ []) in omega arith) in
      let front_is : front ≡ wrapped m.at.taken = f.may ∙ ap wrapped same in
      let far : ahead front rear ≡ m.at.put - m.at.taken =
      ap (λ (x : ℕ × ℕ). ahead x.0 x.1) (λ i. (front_is i, rear_is i)) ∙ ahead-between m.at.taken m.at.put m.low (let a = m.high in omega arith) in
      let point_after = taken-append before (server.SawRear rear ∷ server.SawFront front ∷ takes) in
      let count : frames_taken takes ≡ min asked (ahead front rear) = ap frames_taken takes_are ∙ shown_taken (min asked (ahead front rear)) in
      let count' : frames_taken (server.SawRear rear ∷ server.SawFront front ∷ takes) ≡ min asked (ahead front rear) = omega (arith, count) in
      let known = m.learnt n s in
      let taken = m.taken in
      let low = m.low in
      ((omega arith), reach asked (ahead front rear) m.at.put m.at.taken (frames_put (take n puts)) (frames_taken before) (frames_taken (server.SawRear rear ∷ server.SawFront front ∷ takes)) _ far count' point_after known taken low)

  -- no more is taken than put, and no more put than there is room for
  pub pipe_low : (puts : List ClientEvent) (takes : List ServerEvent) → History puts takes → (frames_taken takes ≤ frames_put puts) × (frames_put puts ≤ frames_taken takes + size)
  pipe_low puts takes h =
      let room = in_room piped.start_of_pipe h.order h.is_legal room_start in
      let put = put_after piped.start_of_pipe h.order in
      let taken = taken_after piped.start_of_pipe h.order in
      let a = room.shown in let b = room.put in let c = room.room in
      let d = ap frames_put h.of_one in let e = ap frames_taken h.of_two in
      (omega arith, omega arith)

  -- as many frames were put as the events say
  pub pipe_words : (puts : List ClientEvent) (put : List ℕ) (takes : List ServerEvent) (taken : List ℕ) → piped.HasPipeHistory size puts put takes taken → length put ≡ frames_put puts
  pipe_words puts put takes taken h = let a = h.put_is in let b = put_after piped.start_of_pipe h.history.order in let c = ap frames_put h.history.of_one in omega arith

  -- the room that is seen
  pub pipe_room : size ≤ 65536 → (all : List ClientEvent) (takes : List ServerEvent) (before : List ClientEvent) (put room : ℕ) (behind : List ClientEvent) → History all takes → put ≡ frames_put before → room ≤ size
      → all ≡ before ++ client.SawFront (front_by_room size put room) ∷ behind → (n : ℕ) → Stands (client.Learn n) before → size + frames_taken (take n takes) ≤ room + put
  pipe_room few all takes before put room behind h is low whole n s =
      let m = puts_at takes before (client.SawFront (front_by_room size put room)) behind (subst (λ l. History l takes) whole h) in
      let front : front_by_room size put room ≡ wrapped m.at.taken = m.may.0 in
      let put_is = m.put in let a = m.low in let b = m.high in let k = m.learnt n s in
      room_words put room m.at.taken few front low (omega arith) (omega arith) (frames_taken (take n takes)) k
    where
      room_words : (put room taken : ℕ) → size ≤ 65536 → front_by_room size put room ≡ wrapped taken → room ≤ size → taken ≤ put → put ≤ taken + size → (k : ℕ) → k ≤ taken → size + k ≤ room + put
      room_words put room taken few front low a b k l = omega (arith, few, front, low, a, b, l)

  -- the room seen is no more than what was taken in the end leaves
  pub pipe_room_most : size ≤ 65536 → (all : List ClientEvent) (takes : List ServerEvent) (before : List ClientEvent) (put room : ℕ) (behind : List ClientEvent) → History all takes → put ≡ frames_put before → room ≤ size
      → all ≡ before ++ client.SawFront (front_by_room size put room) ∷ behind → room + put ≤ size + frames_taken takes
  pipe_room_most few all takes before put room behind h is low whole =
      let m = puts_at takes before (client.SawFront (front_by_room size put room)) behind (subst (λ l. History l takes) whole h) in
      let front : front_by_room size put room ≡ wrapped m.at.taken = m.may.0 in
      let put_is = m.put in let a = m.low in let b = m.high in let k = m.within in
      room_words put room m.at.taken few front low (omega arith) (omega arith) (frames_taken takes) k
    where
      room_words : (put room taken : ℕ) → size ≤ 65536 → front_by_room size put room ≡ wrapped taken → room ≤ size → taken ≤ put → put ≤ taken + size → (k : ℕ) → taken ≤ k → room + put ≤ size + k
      room_words put room taken few front low a b k l = omega (arith, few, front, low, a, b, l)
