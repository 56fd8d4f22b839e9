-- In a history of a recording the room by each front seen is what the frames put and not taken leave.
use Rattle.std.proofs.Common.{◌≡◌, ℕ, zero, suc, ◌+◌, ◌≤◌, max, List, [], ◌∷◌, ◌++◌, length, take, refl, sym, ap, ◌∙◌, subst, arith, append_assoc, length-append}
use Rattle.af_record.proofs.Common.{ClientEvent, Event, Legal, PipePoint, ServerEvent, point_after, next_in_pipe, one, ones, start_of_pipe, two, twos}
use Rattle.af_base.specs.declared.event.ClientEvent.TheVariants as client
use Rattle.af_base.specs.declared.event.ServerEvent.TheVariants as server
use Rattle.af_record.specs.History.{legal, HasTapeHistory}
use Rattle.af_record.specs.Ends.{put_by, taken_in, SeesRoom}
use Rattle.af_record.proofs.Puts.{put_by-append}
use Rattle.af_record.proofs.Rears.{put_next}

pub taken_in-append : (xs ys : List ServerEvent) → taken_in (xs ++ ys) ≡ taken_in xs + taken_in ys
taken_in-append [] ys = let e : taken_in ys ≡ 0 + taken_in ys = omega arith in e
taken_in-append (server.Take count ∷ xs) ys = let e = taken_in-append xs ys in omega arith
taken_in-append (server.SawGain word ∷ xs) ys = taken_in-append xs ys
taken_in-append (server.SawFlush flush ∷ xs) ys = taken_in-append xs ys
taken_in-append (server.SawRear rear ∷ xs) ys = taken_in-append xs ys
taken_in-append (server.SawFront front ∷ xs) ys = taken_in-append xs ys
taken_in-append (server.Drop to ∷ xs) ys = taken_in-append xs ys
taken_in-append (server.Tally missing ∷ xs) ys = taken_in-append xs ys
taken_in-append (server.SetFlags bits ∷ xs) ys = taken_in-append xs ys
taken_in-append (server.SetStatus word ∷ xs) ys = taken_in-append xs ys
taken_in-append (server.Learn count ∷ xs) ys = taken_in-append xs ys

-- the frames taken, and the events, after one event more
taken_next : (p : PipePoint) (e : ServerEvent) → (next_in_pipe p (two e)).taken ≡ p.taken + taken_in (e ∷ [])
taken_next p (server.Take count) = omega arith
taken_next p _ = omega arith

takes_next : (p : PipePoint) (e : ServerEvent) → (next_in_pipe p (two e)).takes ≡ p.takes + 1
takes_next p (server.Take count) = refl
takes_next p _ = refl

put_stays : (p : PipePoint) (e : ServerEvent) → (next_in_pipe p (two e)).put ≡ p.put
put_stays p (server.Take count) = refl
put_stays p _ = refl

-- the first events took no more than all
taken_first : (count : ℕ) (xs ys : List ServerEvent) → count ≤ length xs → taken_in (take count (xs ++ ys)) ≤ taken_in xs
taken_first zero xs ys le = omega arith
taken_first (suc count) [] ys le = absurd (omega arith)
taken_first (suc count) (x ∷ xs) ys le =
    let a = taken_first count xs ys (omega arith) in
    let b : taken_in (x ∷ take count (xs ++ ys)) ≡ taken_in (x ∷ []) + taken_in (take count (xs ++ ys)) = taken_in-append (x ∷ []) (take count (xs ++ ys)) in
    let c : taken_in (x ∷ xs) ≡ taken_in (x ∷ []) + taken_in xs = taken_in-append (x ∷ []) xs in
    let d : taken_in (x ∷ take count (xs ++ ys)) ≤ taken_in (x ∷ xs) = omega arith in
    d

module _ (size : ℕ) where
  in_order : (done : List ServerEvent) (p : PipePoint) (es : List (Event ClientEvent ServerEvent)) (low : ℕ) → Legal (legal size) next_in_pipe p es → p.taken ≡ taken_in done → p.takes ≡ length done → low ≤ p.taken
      → SeesRoom size (done ++ twos es) p.put low (ones es)
  in_order done p [] low l taken takes le = tt
  in_order done p (two e ∷ es) low l taken takes le =
      let more : taken_in (done ++ e ∷ []) ≡ taken_in done + taken_in (e ∷ []) = taken_in-append done (e ∷ []) in
      let many : length (done ++ e ∷ []) ≡ length done + 1 = length-append done (e ∷ []) in
      let a = taken_next p e in
      let b = takes_next p e in
      let on = in_order (done ++ e ∷ []) (next_in_pipe p (two e)) es low l.1 (omega arith) (omega arith) (omega arith) in
      subst (λ (x : ℕ × List ServerEvent). SeesRoom size x.1 x.0 low (ones es)) (λ i. (put_stays p e i, append_assoc done (e ∷ []) (twos es) i)) on
  in_order done p (one (client.SawFront front) ∷ es) low l taken takes le =
      let all = taken_in-append done (twos es) in
      (p.taken, le, omega arith, l.0.1, in_order done (next_in_pipe p (one (client.SawFront front))) es p.taken l.1 taken takes (omega arith))
  in_order done p (one (client.Release count) ∷ es) low l taken takes le = in_order done (next_in_pipe p (one (client.Release count))) es low l.1 taken takes le
  in_order done p (one (client.Learn count) ∷ es) low l taken takes le =
      let known : count ≤ length done = (let m = l.0 in omega arith) in
      let first = taken_first count done (twos es) known in
      in_order done (next_in_pipe p (one (client.Learn count))) es (max low (taken_in (take count (done ++ twos es)))) l.1 taken takes (omega arith)
  in_order done p (one client.Flush ∷ es) low l taken takes le = absurd l.0
  in_order done p (one (client.SetGain word) ∷ es) low l taken takes le = absurd l.0
  in_order done p (one (client.ClearFlags old) ∷ es) low l taken takes le = absurd l.0
  in_order done p (one (client.SawFlags flags) ∷ es) low l taken takes le = in_order done (next_in_pipe p (one (client.SawFlags flags))) es low l.1 taken takes le
  in_order done p (one (client.SawStatus word) ∷ es) low l taken takes le = absurd l.0
  in_order done p (one (client.Poke word value) ∷ es) low l taken takes le = absurd l.0

  -- no more is put than there is room for
  within : (p : PipePoint) (es : List (Event ClientEvent ServerEvent)) → Legal (legal size) next_in_pipe p es → p.put ≤ p.taken + size → (point_after (legal size) next_in_pipe p es).put ≤ (point_after (legal size) next_in_pipe p es).taken + size
  within p [] l le = le
  within p (two e ∷ es) l le =
      let a = taken_next p e in
      let b = put_stays p e in
      within (next_in_pipe p (two e)) es l.1 (omega arith)
  within p (one (client.SawFront front) ∷ es) l le = within (next_in_pipe p (one (client.SawFront front))) es l.1 le
  within p (one (client.Release count) ∷ es) l le = within (next_in_pipe p (one (client.Release count))) es l.1 l.0
  within p (one (client.Learn count) ∷ es) l le = within (next_in_pipe p (one (client.Learn count))) es l.1 le
  within p (one client.Flush ∷ es) l le = absurd l.0
  within p (one (client.SetGain word) ∷ es) l le = absurd l.0
  within p (one (client.ClearFlags old) ∷ es) l le = absurd l.0
  within p (one (client.SawFlags flags) ∷ es) l le = within (next_in_pipe p (one (client.SawFlags flags))) es l.1 le
  within p (one (client.SawStatus word) ∷ es) l le = absurd l.0
  within p (one (client.Poke word value) ∷ es) l le = absurd l.0

  taken_leaves : (p : PipePoint) (e : ClientEvent) → (next_in_pipe p (one e)).taken ≡ p.taken
  taken_leaves p (client.Release count) = refl
  taken_leaves p _ = refl

  -- the frames taken are those of the takes
  all_taken : (p : PipePoint) (es : List (Event ClientEvent ServerEvent)) → (point_after (legal size) next_in_pipe p es).taken ≡ p.taken + taken_in (twos es)
  all_taken p [] = omega arith
  all_taken p (one e ∷ es) = all_taken (next_in_pipe p (one e)) es ∙ ap (λ (n : ℕ). n + taken_in (twos es)) (taken_leaves p e)
  all_taken p (two e ∷ es) =
      let a = all_taken (next_in_pipe p (two e)) es in
      let b = taken_next p e in
      let c : taken_in (e ∷ twos es) ≡ taken_in (e ∷ []) + taken_in (twos es) = taken_in-append (e ∷ []) (twos es) in
      let d : (point_after (legal size) next_in_pipe p (two e ∷ es)).taken ≡ p.taken + taken_in (e ∷ twos es) = omega arith in
      d

module _ (size : ℕ) (puts : List ClientEvent) (put : List ℕ) (takes : List ServerEvent) (taken : List ℕ) (h : HasTapeHistory size puts put takes taken) where
  pub sees_room : SeesRoom size takes 0 0 puts
  sees_room =
      subst (λ (x : List ClientEvent × List ServerEvent). SeesRoom size x.1 0 0 x.0) (λ i. (h.history.of_one i, h.history.of_two i))
      (in_order size [] start_of_pipe h.history.order 0 h.history.is_legal refl refl (omega arith))

  pub put_within : length put ≤ length taken + size
  put_within =
      let a = within size start_of_pipe h.history.order h.history.is_legal (omega arith) in
      let b = h.put_is in
      let c = h.taken_is in
      omega arith

  pub taken_count : length taken ≡ taken_in takes
  taken_count =
      sym h.taken_is ∙ all_taken size start_of_pipe h.history.order ∙ (let e : 0 + taken_in (twos h.history.order) ≡ taken_in (twos h.history.order) = omega arith in e) ∙ ap taken_in h.history.of_two

module _ (size : ℕ) where
  -- the frames put are those of the releases
  all_put : (p : PipePoint) (es : List (Event ClientEvent ServerEvent)) → (point_after (legal size) next_in_pipe p es).put ≡ p.put + put_by (ones es)
  all_put p [] = omega arith
  all_put p (two e ∷ es) = all_put (next_in_pipe p (two e)) es ∙ ap (λ (n : ℕ). n + put_by (ones es)) (put_stays p e)
  all_put p (one e ∷ es) =
      let a = all_put (next_in_pipe p (one e)) es in
      let b = put_next p e in
      let c : put_by (e ∷ ones es) ≡ put_by (e ∷ []) + put_by (ones es) = put_by-append (e ∷ []) (ones es) in
      let d : (point_after (legal size) next_in_pipe p (one e ∷ es)).put ≡ p.put + put_by (e ∷ ones es) = omega arith in
      d

pub put_count : (size : ℕ) (puts : List ClientEvent) (put : List ℕ) (takes : List ServerEvent) (taken : List ℕ) → HasTapeHistory size puts put takes taken → length put ≡ put_by puts
put_count size puts put takes taken h =
    sym h.put_is ∙ all_put size start_of_pipe h.history.order ∙ (let e : 0 + put_by (ones h.history.order) ≡ put_by (ones h.history.order) = omega arith in e) ∙ ap put_by h.history.of_one
