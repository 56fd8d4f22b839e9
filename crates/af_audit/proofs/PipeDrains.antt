-- If the putting end of a pipe saw the whole room, and put nothing after that, all that was put is taken in the end.
use Rattle.std.proofs.Common.{◌≡◌, ℕ, ◌-◌, ◌<◌, ◌≤◌, List, [], ◌∷◌, ◌++◌, drop, get_or, length, refl, sym, ap, ◌∙◌, subst, arith}
use Rattle.af_audit.proofs.Common.{ClientEvent, Event, HasPipeHistory, Legal, PipePoint, ServerEvent, one, ones, room_by, two, wrapped}
use Rattle.af_base.specs.declared.event.ClientEvent.TheVariants as client
use Rattle.af_base.specs.declared.event.ServerEvent.TheVariants as server
use Rattle.af_model.specs.Order.{point_after}
use Rattle.af_model.specs.PipeHistory as piped

abbrev Told : Type 0
Told = List (Event ClientEvent ServerEvent)

-- ## What each end leaves

one_takes : (p : PipePoint) (e : ClientEvent) → (piped.next_in_pipe p (one e)).taken ≡ p.taken
one_takes p (client.Release count) = refl
one_takes p _ = refl

record Takes (p q : PipePoint) : Type 0 where
  put : q.put ≡ p.put
  taken : p.taken ≤ q.taken

two_takes : (p : PipePoint) (e : ServerEvent) → Takes p (piped.next_in_pipe p (two e))
two_takes p (server.SawGain word) = record { put = refl; taken = omega arith }
two_takes p _ = record { put = refl; taken = omega arith }

module _ (size : ℕ) where
  abbrev point : PipePoint → Told → PipePoint
  point p es = point_after (piped.legal_in_pipe size) piped.next_in_pipe p es

  taken_grows : (p : PipePoint) (es : Told) → p.taken ≤ (point p es).taken
  taken_grows p [] = omega arith
  taken_grows p (one e ∷ es) = let a = one_takes p e in let b = taken_grows (piped.next_in_pipe p (one e)) es in omega (arith, a, b)
  taken_grows p (two e ∷ es) = let a = (two_takes p e).taken in let b = taken_grows (piped.next_in_pipe p (two e)) es in omega (arith, a, b)

  -- nothing is put by the other end
  puts_none : (p : PipePoint) (es : Told) → ones es ≡ [] → (point p es).put ≡ p.put
  puts_none p [] none = refl
  puts_none p (one e ∷ es) none = absurd (let l = ap length none in omega (arith, l))
  puts_none p (two e ∷ es) none = puts_none (piped.next_in_pipe p (two e)) es none ∙ (two_takes p e).put

  -- a meeting puts nothing
  puts_learns : (p : PipePoint) (es : Told) (n : ℕ) → ones es ≡ client.Learn n ∷ [] → (point p es).put ≡ p.put
  puts_learns p [] n is = absurd (let l = ap length is in omega (arith, l))
  puts_learns p (one e ∷ es) n is =
      let same : e ≡ client.Learn n = ap (λ (l : List ClientEvent). get_or l 0 e) is in
      puts_none (piped.next_in_pipe p (one e)) es (ap (drop 1) is) ∙ ap (λ (x : ClientEvent). (piped.next_in_pipe p (one x)).put) same
  puts_learns p (two e ∷ es) n is = puts_learns (piped.next_in_pipe p (two e)) es n is ∙ (two_takes p e).put

  -- ## The whole room

  module _ (some : 0 < size) (front n : ℕ) where
    -- if the front seen is the word of all frames put, none is left
    none_left : (p : PipePoint) (put : ℕ) → p.put ≡ put → front ≡ wrapped put → room_by size p.put front ≡ size - (p.put - p.taken) → p.put ≤ p.taken
    none_left p put is word room =
        let front_is : front ≡ wrapped p.put = word ∙ ap wrapped (sym is) in
        omega (arith, front_is, room, some)

    drains : (p : PipePoint) (es : Told) (before : List ClientEvent) → Legal (piped.legal_in_pipe size) piped.next_in_pipe p es → ones es ≡ before ++ client.SawFront front ∷ client.Learn n ∷ [] → front ≡ wrapped (point p es).put → (point p es).put ≤ (point p es).taken
    drains p [] [] legal is word = absurd (let l = ap length is in omega (arith, l))
    drains p [] (b ∷ before) legal is word = absurd (let l = ap length is in omega (arith, l))
    drains p (two e ∷ es) before legal is word = drains (piped.next_in_pipe p (two e)) es before legal.1 is word
    drains p (one e ∷ es) (b ∷ before) legal is word = drains (piped.next_in_pipe p (one e)) es before legal.1 (ap (drop 1) is) word
    drains p (one e ∷ es) [] legal is word =
        let same : e ≡ client.SawFront front = ap (λ (l : List ClientEvent). get_or l 0 e) is in
        let q : PipePoint = piped.next_in_pipe p (one e) in
        let put : (point q es).put ≡ q.put = puts_learns q es n (ap (drop 1) is) in
        let first : q.put ≡ p.put = ap (λ (x : ClientEvent). (piped.next_in_pipe p (one x)).put) same in
        let may : piped.legal_in_pipe size p (one (client.SawFront front)) = subst (λ (x : ClientEvent). piped.legal_in_pipe size p (one x)) same legal.0 in
        let left = none_left p (point q es).put (sym (put ∙ first)) word may.1 in
        let kept = one_takes p e in
        let more = taken_grows q es in
        omega (arith, put, first, left, kept, more)

  -- in a history of the pipe all that was put is taken
  pub all_taken : (puts : List ClientEvent) (put : List ℕ) (takes : List ServerEvent) (taken : List ℕ) (before : List ClientEvent) (front n : ℕ) → 0 < size → HasPipeHistory size puts put takes taken
      → puts ≡ before ++ client.SawFront front ∷ client.Learn n ∷ [] → front ≡ wrapped (length put) → length put ≤ length taken
  all_taken puts put takes taken before front n some h is word =
      let a = h.put_is in
      let b = h.taken_is in
      let c = drains some front n piped.start_of_pipe h.history.order before h.history.is_legal (h.history.of_one ∙ is) (word ∙ ap wrapped (sym a)) in
      omega (arith, a, b, c)
