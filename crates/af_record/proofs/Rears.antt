-- In a history of a recording each rear seen is the number of frames put by then.
use Rattle.std.proofs.Common.{◌≡◌, ℕ, zero, suc, ◌+◌, ◌≤◌, max, List, [], ◌∷◌, ◌++◌, length, take, refl, subst, arith, append_assoc, length-append}
use Rattle.af_record.proofs.Common.{ClientEvent, Event, Legal, PipePoint, ServerEvent, next_in_pipe, one, ones, start_of_pipe, two, twos}
use Rattle.af_base.specs.declared.event.ClientEvent.TheVariants as client
use Rattle.af_base.specs.declared.event.ServerEvent.TheVariants as server
use Rattle.af_record.specs.History.{legal, HasTapeHistory}
use Rattle.af_record.specs.Ends.{put_by, SeesPut}
use Rattle.af_record.proofs.Puts.{put_by-append}

-- the frames put after one event more
pub put_next : (p : PipePoint) (e : ClientEvent) → (next_in_pipe p (one e)).put ≡ p.put + put_by (e ∷ [])
put_next p (client.Release count) = omega arith
put_next p _ = omega arith

puts_next : (p : PipePoint) (e : ClientEvent) → (next_in_pipe p (one e)).puts ≡ p.puts + 1
puts_next p (client.Release count) = refl
puts_next p _ = refl

-- the first events put no more than all
put_first : (count : ℕ) (xs ys : List ClientEvent) → count ≤ length xs → put_by (take count (xs ++ ys)) ≤ put_by xs
put_first zero xs ys le = omega arith
put_first (suc count) [] ys le = absurd (omega arith)
put_first (suc count) (x ∷ xs) ys le =
    let a = put_first count xs ys (omega arith) in
    let b : put_by (x ∷ take count (xs ++ ys)) ≡ put_by (x ∷ []) + put_by (take count (xs ++ ys)) = put_by-append (x ∷ []) (take count (xs ++ ys)) in
    let c : put_by (x ∷ xs) ≡ put_by (x ∷ []) + put_by xs = put_by-append (x ∷ []) xs in
    let d : put_by (x ∷ take count (xs ++ ys)) ≤ put_by (x ∷ xs) = omega arith in
    d

module _ (size : ℕ) where
  in_order : (done : List ClientEvent) (p : PipePoint) (es : List (Event ClientEvent ServerEvent)) (low : ℕ) → Legal (legal size) next_in_pipe p es → p.put ≡ put_by done → p.puts ≡ length done → low ≤ p.put
      → SeesPut (done ++ ones es) low (twos es)
  in_order done p [] low l put puts le = tt
  in_order done p (one e ∷ es) low l put puts le =
      let more : put_by (done ++ e ∷ []) ≡ put_by done + put_by (e ∷ []) = put_by-append done (e ∷ []) in
      let many : length (done ++ e ∷ []) ≡ length done + 1 = length-append done (e ∷ []) in
      let a = put_next p e in
      let b = puts_next p e in
      subst (λ (cs : List ClientEvent). SeesPut cs low (twos es)) (append_assoc done (e ∷ []) (ones es)) (in_order (done ++ e ∷ []) (next_in_pipe p (one e)) es low l.1 (omega arith) (omega arith) (omega arith))
  in_order done p (two (server.SawRear rear) ∷ es) low l put puts le =
      let all = put_by-append done (ones es) in
      (p.put, le, omega arith, l.0, in_order done (next_in_pipe p (two (server.SawRear rear))) es p.put l.1 put puts (omega arith))
  in_order done p (two (server.SawFront front) ∷ es) low l put puts le = in_order done (next_in_pipe p (two (server.SawFront front))) es low l.1 put puts le
  in_order done p (two (server.Take count) ∷ es) low l put puts le = in_order done (next_in_pipe p (two (server.Take count))) es low l.1 put puts le
  in_order done p (two (server.Learn count) ∷ es) low l put puts le =
      let known : count ≤ length done = (let m = l.0 in omega arith) in
      let first = put_first count done (ones es) known in
      in_order done (next_in_pipe p (two (server.Learn count))) es (max low (put_by (take count (done ++ ones es)))) l.1 put puts (omega arith)
  in_order done p (two (server.SawGain word) ∷ es) low l put puts le = absurd l.0
  in_order done p (two (server.SawFlush flush) ∷ es) low l put puts le = in_order done (next_in_pipe p (two (server.SawFlush flush))) es low l.1 put puts le
  in_order done p (two (server.Drop to) ∷ es) low l put puts le = absurd l.0
  in_order done p (two (server.Tally missing) ∷ es) low l put puts le = absurd l.0
  in_order done p (two (server.SetFlags bits) ∷ es) low l put puts le = absurd l.0
  in_order done p (two (server.SetStatus word) ∷ es) low l put puts le = absurd l.0

pub sees_put : (size : ℕ) (puts : List ClientEvent) (put : List ℕ) (takes : List ServerEvent) (taken : List ℕ) → HasTapeHistory size puts put takes taken → SeesPut puts 0 takes
sees_put size puts put takes taken h =
    subst (λ (x : List ClientEvent × List ServerEvent). SeesPut x.0 0 x.1) (λ i. (h.history.of_one i, h.history.of_two i)) (in_order size [] start_of_pipe h.history.order 0 h.history.is_legal refl refl (omega arith))
