-- In a history of a log of notes each front that the end that notes sees is that of a number of notes read.
use Rattle.std.proofs.Common.{◌≡◌, ℕ, zero, suc, ◌+◌, ◌-◌, ◌*◌, ◌≤◌, max, Bool, true, List, [], ◌∷◌, ◌++◌, length, take, ◌&&◌, refl, ap, ◌∙◌, subst, arith, append_assoc, length-append, eqb-true}
use Rattle.af_nblog.proofs.Common.{ClientEvent, Event, HasPipeHistory, Legal, PipePoint, ServerEvent, and_parts, legal_in_pipe, list_all, list_all-append, next_in_pipe, one, ones, start_of_pipe, two, twos, wrapped}
use Rattle.af_base.specs.declared.event.ClientEvent.TheVariants as client
use Rattle.af_base.specs.declared.event.ServerEvent.TheVariants as server
use Rattle.af_nblog.specs.NoteFronts.{takes_note, read_in, SeesRead}

-- ## What the events of the end that reads take

-- two lists of whole notes
pub both_take : (xs ys : List ServerEvent) → list_all takes_note xs ≡ true → list_all takes_note ys ≡ true → list_all takes_note (xs ++ ys) ≡ true
both_take xs ys a b = list_all-append takes_note xs ys ∙ ap (λ (t : Bool). t && list_all takes_note ys) a ∙ b

pub is_eight : (count : ℕ) → takes_note (server.Take count) ≡ true → count ≡ 8
is_eight count is = eqb-true count 8 is

pub read_in-append : (xs ys : List ServerEvent) → read_in (xs ++ ys) ≡ read_in xs + read_in ys
read_in-append [] ys = let e : read_in ys ≡ 0 + read_in ys = omega arith in e
read_in-append (server.Take count ∷ xs) ys = let e = read_in-append xs ys in omega arith
read_in-append (server.SawGain word ∷ xs) ys = read_in-append xs ys
read_in-append (server.SawFlush flush ∷ xs) ys = read_in-append xs ys
read_in-append (server.SawRear rear ∷ xs) ys = read_in-append xs ys
read_in-append (server.SawFront front ∷ xs) ys = read_in-append xs ys
read_in-append (server.Drop to ∷ xs) ys = read_in-append xs ys
read_in-append (server.Tally missing ∷ xs) ys = read_in-append xs ys
read_in-append (server.SetFlags bits ∷ xs) ys = read_in-append xs ys
read_in-append (server.SetStatus word ∷ xs) ys = read_in-append xs ys
read_in-append (server.Learn count ∷ xs) ys = read_in-append xs ys

-- the first events read no more than all
read_first : (count : ℕ) (xs ys : List ServerEvent) → count ≤ length xs → read_in (take count (xs ++ ys)) ≤ read_in xs
read_first zero xs ys le = omega arith
read_first (suc count) [] ys le = absurd (omega arith)
read_first (suc count) (x ∷ xs) ys le =
    let a = read_first count xs ys (omega arith) in
    let b : read_in (x ∷ take count (xs ++ ys)) ≡ read_in (x ∷ []) + read_in (take count (xs ++ ys)) = read_in-append (x ∷ []) (take count (xs ++ ys)) in
    let c : read_in (x ∷ xs) ≡ read_in (x ∷ []) + read_in xs = read_in-append (x ∷ []) xs in
    let d : read_in (x ∷ take count (xs ++ ys)) ≤ read_in (x ∷ xs) = omega arith in
    d

-- ## The order

module _ (size : ℕ) where
  -- what holds at a point, after these events of the end that reads
  record Stands (done : List ServerEvent) (low put taken shown takes : ℕ) : Type 0 where
    taken_is : taken ≡ 8 * read_in done
    takes_is : takes ≡ length done
    low_is : low ≤ read_in done
    seen : taken ≤ shown
    fewer : shown ≤ put
    room : put ≤ taken + size

  -- an event of the end that reads, which takes so many notes
  more : (done : List ServerEvent) (e : ServerEvent) (low put taken shown takes taken' shown' notes : ℕ) → Stands done low put taken shown takes → notes ≡ read_in (e ∷ []) → taken' ≡ taken + 8 * notes → taken' ≤ shown' → shown' ≤ put
      → Stands (done ++ e ∷ []) low put taken' shown' (takes + 1)
  more done e low put taken shown takes taken' shown' notes s is a b c =
      let n : read_in (done ++ e ∷ []) ≡ read_in done + read_in (e ∷ []) = read_in-append done (e ∷ []) in
      let m : length (done ++ e ∷ []) ≡ length done + 1 = length-append done (e ∷ []) in
      record { taken_is = omega arith; takes_is = omega arith; low_is = omega arith; seen = b; fewer = c; room = omega arith }

  in_order : (done : List ServerEvent) (p : PipePoint) (es : List (Event ClientEvent ServerEvent)) (low : ℕ) → Legal (legal_in_pipe size) next_in_pipe p es → list_all takes_note (twos es) ≡ true → Stands done low p.put p.taken p.shown p.takes
      → SeesRead size (done ++ twos es) p.put low (ones es)
  in_order done p [] low l all s = tt
  in_order done p (two (server.SawRear rear) ∷ es) low l all s =
      let e : ServerEvent = server.SawRear rear in
      subst (λ (x : List ServerEvent). SeesRead size x p.put low (ones es)) (append_assoc done (e ∷ []) (twos es))
      (in_order (done ++ e ∷ []) (next_in_pipe p (two e)) es low l.1 all (more done e low p.put p.taken p.shown p.takes p.taken p.put 0 s refl (omega arith) (omega arith) (omega arith)))
  in_order done p (two (server.SawFront front) ∷ es) low l all s =
      let e : ServerEvent = server.SawFront front in
      subst (λ (x : List ServerEvent). SeesRead size x p.put low (ones es)) (append_assoc done (e ∷ []) (twos es))
      (in_order (done ++ e ∷ []) (next_in_pipe p (two e)) es low l.1 all (more done e low p.put p.taken p.shown p.takes p.taken p.shown 0 s refl (omega arith) s.seen s.fewer))
  in_order done p (two (server.Take count) ∷ es) low l all s =
      let e : ServerEvent = server.Take count in
      let parts = and_parts (takes_note e) (list_all takes_note (twos es)) all in
      let whole : count ≡ 8 = is_eight count parts.0 in
      let fits : p.taken + count ≤ p.shown = l.0 in
      subst (λ (x : List ServerEvent). SeesRead size x p.put low (ones es)) (append_assoc done (e ∷ []) (twos es))
      (in_order (done ++ e ∷ []) (next_in_pipe p (two e)) es low l.1 parts.1 (more done e low p.put p.taken p.shown p.takes (p.taken + count) p.shown 1 s refl (omega arith) fits s.fewer))
  in_order done p (two (server.Learn count) ∷ es) low l all s =
      let e : ServerEvent = server.Learn count in
      subst (λ (x : List ServerEvent). SeesRead size x p.put low (ones es)) (append_assoc done (e ∷ []) (twos es))
      (in_order (done ++ e ∷ []) (next_in_pipe p (two e)) es low l.1 all (more done e low p.put p.taken p.shown p.takes p.taken p.shown 0 s refl (omega arith) s.seen s.fewer))
  in_order done p (two (server.SawGain word) ∷ es) low l all s = absurd l.0
  in_order done p (two (server.SawFlush flush) ∷ es) low l all s = absurd l.0
  in_order done p (two (server.Drop to) ∷ es) low l all s = absurd l.0
  in_order done p (two (server.Tally missing) ∷ es) low l all s = absurd l.0
  in_order done p (two (server.SetFlags bits) ∷ es) low l all s = absurd l.0
  in_order done p (two (server.SetStatus word) ∷ es) low l all s = absurd l.0
  in_order done p (one (client.SawFront front) ∷ es) low l all s =
      let here : Stands done (read_in done) p.put p.taken p.shown p.takes = record { taken_is = s.taken_is; takes_is = s.takes_is; low_is = omega arith; seen = s.seen; fewer = s.fewer; room = s.room } in (
        read_in done,
        s.low_is,
        omega arith,
        omega arith,
        l.0.0 ∙ ap wrapped s.taken_is,
        l.0.1 ∙ ap (λ (n : ℕ). size - (p.put - n)) s.taken_is,
        in_order done (next_in_pipe p (one (client.SawFront front))) es (read_in done) l.1 all here,
      )
  in_order done p (one (client.Release count) ∷ es) low l all s =
      let fits : p.put + count ≤ p.taken + size = l.0 in
      let here : Stands done low (p.put + count) p.taken p.shown p.takes = record { taken_is = s.taken_is; takes_is = s.takes_is; low_is = s.low_is; seen = s.seen; fewer = omega arith; room = fits } in
      in_order done (next_in_pipe p (one (client.Release count))) es low l.1 all here
  in_order done p (one (client.Learn count) ∷ es) low l all s =
      let met : count ≤ p.takes = l.0 in
      let first = read_first count done (twos es) (omega arith) in
      let here : Stands done (max low (read_in (take count (done ++ twos es)))) p.put p.taken p.shown p.takes = record { taken_is = s.taken_is; takes_is = s.takes_is; low_is = omega arith; seen = s.seen; fewer = s.fewer; room = s.room } in
      in_order done (next_in_pipe p (one (client.Learn count))) es (max low (read_in (take count (done ++ twos es)))) l.1 all here
  in_order done p (one client.Flush ∷ es) low l all s = absurd l.0
  in_order done p (one (client.SetGain word) ∷ es) low l all s = absurd l.0
  in_order done p (one (client.ClearFlags old) ∷ es) low l all s = absurd l.0
  in_order done p (one (client.SawFlags flags) ∷ es) low l all s = absurd l.0
  in_order done p (one (client.SawStatus word) ∷ es) low l all s = absurd l.0
  in_order done p (one (client.Poke word value) ∷ es) low l all s = absurd l.0

pub sees_read : (size : ℕ) (puts : List ClientEvent) (put : List ℕ) (takes : List ServerEvent) (taken : List ℕ) → HasPipeHistory size puts put takes taken → list_all takes_note takes ≡ true → SeesRead size takes 0 0 puts
sees_read size puts put takes taken h all =
    let whole : list_all takes_note (twos h.history.order) ≡ true = ap (list_all takes_note) h.history.of_two ∙ all in
    let begin : Stands size [] 0 0 0 0 0 = record { taken_is = refl; takes_is = refl; low_is = omega arith; seen = omega arith; fewer = omega arith; room = omega arith } in
    subst (λ (x : List ClientEvent × List ServerEvent). SeesRead size x.1 0 0 x.0) (λ i. (h.history.of_one i, h.history.of_two i))
    (in_order size [] start_of_pipe h.history.order 0 h.history.is_legal whole begin)
