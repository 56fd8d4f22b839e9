-- In a history of a log of notes each rear that the end that reads sees is that of a number of words put.
use Rattle.std.proofs.Common.{◌≡◌, ℕ, zero, suc, ◌+◌, ◌*◌, ◌≤◌, max, true, List, [], ◌∷◌, ◌++◌, length, take, refl, sym, ap, ◌∙◌, subst, arith, append_assoc, length-append}
use Rattle.af_nblog.proofs.Common.{ClientEvent, Event, HasPipeHistory, Legal, PipePoint, ServerEvent, point_after, and_parts, legal_in_pipe, list_all, next_in_pipe, one, ones, start_of_pipe, two, twos}
use Rattle.af_base.specs.declared.event.ClientEvent.TheVariants as client
use Rattle.af_base.specs.declared.event.ServerEvent.TheVariants as server
use Rattle.af_nblog.specs.NoteFronts.{takes_note, read_in}
use Rattle.af_nblog.specs.NoteRears.{put_in, SeesPut}
use Rattle.af_nblog.proofs.Fronts.{is_eight}

-- ## What the events of the end that notes put

pub put_in-append : (xs ys : List ClientEvent) → put_in (xs ++ ys) ≡ put_in xs + put_in ys
put_in-append [] ys = let e : put_in ys ≡ 0 + put_in ys = omega arith in e
put_in-append (client.Release count ∷ xs) ys = let e = put_in-append xs ys in omega arith
put_in-append (_ ∷ xs) ys = put_in-append xs ys

-- the first events put no more than all
put_first : (count : ℕ) (xs ys : List ClientEvent) → count ≤ length xs → put_in (take count (xs ++ ys)) ≤ put_in xs
put_first zero xs ys le = omega arith
put_first (suc count) [] ys le = absurd (omega arith)
put_first (suc count) (x ∷ xs) ys le =
    let a = put_first count xs ys (omega arith) in
    let b : put_in (x ∷ take count (xs ++ ys)) ≡ put_in (x ∷ []) + put_in (take count (xs ++ ys)) = put_in-append (x ∷ []) (take count (xs ++ ys)) in
    let c : put_in (x ∷ xs) ≡ put_in (x ∷ []) + put_in xs = put_in-append (x ∷ []) xs in
    let d : put_in (x ∷ take count (xs ++ ys)) ≤ put_in (x ∷ xs) = omega arith in
    d

-- ## The order

module _ (size : ℕ) where
  -- what holds at a point, after these events of the end that notes
  record Stands (done : List ClientEvent) (low put taken shown puts : ℕ) : Type 0 where
    put_is : put ≡ put_in done
    puts_is : puts ≡ length done
    low_is : low ≤ put
    seen : taken ≤ shown
    fewer : shown ≤ put
    room : put ≤ taken + size

  -- an event of the end that notes, which puts so many words
  more : (done : List ClientEvent) (e : ClientEvent) (low put taken shown puts put' words : ℕ) → Stands done low put taken shown puts → words ≡ put_in (e ∷ []) → put' ≡ put + words → put' ≤ taken + size → Stands (done ++ e ∷ []) low put' taken shown (puts + 1)
  more done e low put taken shown puts put' words s is a b =
      let n : put_in (done ++ e ∷ []) ≡ put_in done + put_in (e ∷ []) = put_in-append done (e ∷ []) in
      let m : length (done ++ e ∷ []) ≡ length done + 1 = length-append done (e ∷ []) in
      let p = s.put_is in
      let q = s.puts_is in
      let r = s.low_is in
      let t = s.fewer in
      record { put_is = omega arith; puts_is = omega arith; low_is = omega arith; seen = s.seen; fewer = omega arith; room = b }

  in_order : (done : List ClientEvent) (p : PipePoint) (es : List (Event ClientEvent ServerEvent)) (low : ℕ) → Legal (legal_in_pipe size) next_in_pipe p es → Stands done low p.put p.taken p.shown p.puts → SeesPut size (done ++ ones es) p.taken low (twos es)
  in_order done p [] low l s = tt
  in_order done p (one (client.SawFront front) ∷ es) low l s =
      let e : ClientEvent = client.SawFront front in
      subst (λ (x : List ClientEvent). SeesPut size x p.taken low (twos es)) (append_assoc done (e ∷ []) (ones es))
      (in_order (done ++ e ∷ []) (next_in_pipe p (one e)) es low l.1 (more done e low p.put p.taken p.shown p.puts p.put 0 s refl (omega arith) s.room))
  in_order done p (one (client.Release count) ∷ es) low l s =
      let e : ClientEvent = client.Release count in
      let fits : p.put + count ≤ p.taken + size = l.0 in
      subst (λ (x : List ClientEvent). SeesPut size x p.taken low (twos es)) (append_assoc done (e ∷ []) (ones es))
      (in_order (done ++ e ∷ []) (next_in_pipe p (one e)) es low l.1 (more done e low p.put p.taken p.shown p.puts (p.put + count) count s (omega arith) refl fits))
  in_order done p (one (client.Learn count) ∷ es) low l s =
      let e : ClientEvent = client.Learn count in
      subst (λ (x : List ClientEvent). SeesPut size x p.taken low (twos es)) (append_assoc done (e ∷ []) (ones es))
      (in_order (done ++ e ∷ []) (next_in_pipe p (one e)) es low l.1 (more done e low p.put p.taken p.shown p.puts p.put 0 s refl (omega arith) s.room))
  in_order done p (one _ ∷ es) low l s = absurd l.0
  in_order done p (two (server.SawRear rear) ∷ es) low l s =
      let here : Stands done p.put p.put p.taken p.put p.puts = record { put_is = s.put_is; puts_is = s.puts_is; low_is = omega arith; seen = (let a = s.seen in let b = s.fewer in omega arith); fewer = omega arith; room = s.room } in
      (p.put, s.low_is, here.seen, s.room, l.0, in_order done (next_in_pipe p (two (server.SawRear rear))) es p.put l.1 here)
  in_order done p (two (server.SawFront front) ∷ es) low l s = (l.0, in_order done (next_in_pipe p (two (server.SawFront front))) es low l.1 s)
  in_order done p (two (server.Take count) ∷ es) low l s =
      let fits : p.taken + count ≤ p.shown = l.0 in
      let room = s.room in
      let here : Stands done low p.put (p.taken + count) p.shown p.puts = record { put_is = s.put_is; puts_is = s.puts_is; low_is = s.low_is; seen = fits; fewer = s.fewer; room = omega arith } in
      in_order done (next_in_pipe p (two (server.Take count))) es low l.1 here
  in_order done p (two (server.Learn count) ∷ es) low l s =
      let met : count ≤ p.puts = l.0 in
      let is = s.puts_is in
      let put = s.put_is in
      let old = s.low_is in
      let first = put_first count done (ones es) (omega arith) in
      let here : Stands done (max low (put_in (take count (done ++ ones es)))) p.put p.taken p.shown p.puts = record { put_is = s.put_is; puts_is = s.puts_is; low_is = omega arith; seen = s.seen; fewer = s.fewer; room = s.room } in
      in_order done (next_in_pipe p (two (server.Learn count))) es (max low (put_in (take count (done ++ ones es)))) l.1 here
  in_order done p (two _ ∷ es) low l s = absurd l.0

  -- ## The counts

  -- what the events put and take
  put_after : (p : PipePoint) (es : List (Event ClientEvent ServerEvent)) → Legal (legal_in_pipe size) next_in_pipe p es → (point_after (legal_in_pipe size) next_in_pipe p es).put ≡ p.put + put_in (ones es)
  put_after p [] l = omega arith
  put_after p (one (client.Release count) ∷ es) l = let e = put_after (next_in_pipe p (one (client.Release count))) es l.1 in omega arith
  put_after p (one (client.SawFront front) ∷ es) l = put_after (next_in_pipe p (one (client.SawFront front))) es l.1
  put_after p (one (client.Learn count) ∷ es) l = put_after (next_in_pipe p (one (client.Learn count))) es l.1
  put_after p (one _ ∷ es) l = absurd l.0
  put_after p (two (server.SawRear rear) ∷ es) l = put_after (next_in_pipe p (two (server.SawRear rear))) es l.1
  put_after p (two (server.SawFront front) ∷ es) l = put_after (next_in_pipe p (two (server.SawFront front))) es l.1
  put_after p (two (server.Take count) ∷ es) l = put_after (next_in_pipe p (two (server.Take count))) es l.1
  put_after p (two (server.Learn count) ∷ es) l = put_after (next_in_pipe p (two (server.Learn count))) es l.1
  put_after p (two _ ∷ es) l = absurd l.0

  taken_after : (p : PipePoint) (es : List (Event ClientEvent ServerEvent)) → Legal (legal_in_pipe size) next_in_pipe p es → list_all takes_note (twos es) ≡ true → (point_after (legal_in_pipe size) next_in_pipe p es).taken ≡ p.taken + 8 * read_in (twos es)
  taken_after p [] l all = omega arith
  taken_after p (one (client.Release count) ∷ es) l all = taken_after (next_in_pipe p (one (client.Release count))) es l.1 all
  taken_after p (one (client.SawFront front) ∷ es) l all = taken_after (next_in_pipe p (one (client.SawFront front))) es l.1 all
  taken_after p (one (client.Learn count) ∷ es) l all = taken_after (next_in_pipe p (one (client.Learn count))) es l.1 all
  taken_after p (one _ ∷ es) l all = absurd l.0
  taken_after p (two (server.SawRear rear) ∷ es) l all = taken_after (next_in_pipe p (two (server.SawRear rear))) es l.1 all
  taken_after p (two (server.SawFront front) ∷ es) l all = taken_after (next_in_pipe p (two (server.SawFront front))) es l.1 all
  taken_after p (two (server.Take count) ∷ es) l all =
      let parts = and_parts (takes_note (server.Take count)) (list_all takes_note (twos es)) all in
      let whole : count ≡ 8 = is_eight count parts.0 in
      let e = taken_after (next_in_pipe p (two (server.Take count))) es l.1 parts.1 in
      omega arith
  taken_after p (two (server.Learn count) ∷ es) l all = taken_after (next_in_pipe p (two (server.Learn count))) es l.1 all
  taken_after p (two _ ∷ es) l all = absurd l.0

pub sees_put : (size : ℕ) (puts : List ClientEvent) (put : List ℕ) (takes : List ServerEvent) (taken : List ℕ) → HasPipeHistory size puts put takes taken → SeesPut size puts 0 0 takes
sees_put size puts put takes taken h =
    let begin : Stands size [] 0 0 0 0 0 = record { put_is = refl; puts_is = refl; low_is = omega arith; seen = omega arith; fewer = omega arith; room = omega arith } in
    subst (λ (x : List ClientEvent × List ServerEvent). SeesPut size x.0 0 0 x.1) (λ i. (h.history.of_one i, h.history.of_two i)) (in_order size [] start_of_pipe h.history.order 0 h.history.is_legal begin)

-- the words put and taken are as many as the events tell
pub put_count : (size : ℕ) (puts : List ClientEvent) (put : List ℕ) (takes : List ServerEvent) (taken : List ℕ) → HasPipeHistory size puts put takes taken → put_in puts ≡ length put
put_count size puts put takes taken h =
    let a = put_after size start_of_pipe h.history.order h.history.is_legal in
    let b = h.put_is in
    let c : put_in (ones h.history.order) ≡ length put = omega arith in
    sym (ap put_in h.history.of_one) ∙ c

pub read_count : (size : ℕ) (puts : List ClientEvent) (put : List ℕ) (takes : List ServerEvent) (taken : List ℕ) → HasPipeHistory size puts put takes taken → list_all takes_note takes ≡ true → 8 * read_in takes ≡ length taken
read_count size puts put takes taken h all =
    let whole : list_all takes_note (twos h.history.order) ≡ true = ap (list_all takes_note) h.history.of_two ∙ all in
    let a = taken_after size start_of_pipe h.history.order h.history.is_legal whole in
    let b = h.taken_is in
    let c : 8 * read_in (twos h.history.order) ≡ length taken = omega arith in
    sym (ap (λ (es : List ServerEvent). 8 * read_in es) h.history.of_two) ∙ c
