-- If each look at the pipe saw the number of frames taken before, the look of a mix saw as many as its end has.
use Rattle.std.proofs.Common.{List, [], ap, arith, length, refl, subst, sym, ℕ, ◌++◌, ◌+◌, ◌∙◌, ◌∷◌, ◌≡◌}
use Rattle.af_told_law.proofs.Common.{ClientEvent, Event, HasPipeHistory, MixerState, PipePoint, SeesTaken, ServerEvent, SlotEntry, SubmixSlot, point_after, one, takes_shown, two, twos, wrapped}
use Rattle.af_base.specs.declared.event.ClientEvent.TheVariants as client
use Rattle.af_base.specs.declared.event.ServerEvent.TheVariants as server
use Rattle.af_model.specs.PipeHistory.{legal_in_pipe, next_in_pipe, start_of_pipe}
use Rattle.af_enough_law.specs.Seen.{frames_taken}
use Rattle.af_told_law.specs.MixLaws.{TookCounted}

-- what stands after some events sees what they took
seen_after : (taken : ℕ) (es more : List ServerEvent) → SeesTaken taken (es ++ more) → SeesTaken (taken + frames_taken es) more
seen_after taken [] more s = subst (λ (n : ℕ). SeesTaken n more) (let z : taken ≡ taken + 0 = omega arith in z) s
seen_after taken (server.Take count ∷ es) more s = subst (λ (n : ℕ). SeesTaken n more) (let z : (taken + count) + frames_taken es ≡ taken + (count + frames_taken es) = omega arith in z) (seen_after (taken + count) es more s)
seen_after taken (server.SawFront front ∷ es) more s = subst (λ (n : ℕ). SeesTaken n more) (let z : taken + frames_taken es ≡ taken + (0 + frames_taken es) = omega arith in z) (seen_after taken es more s.1)
seen_after taken (_ ∷ es) more s = subst (λ (n : ℕ). SeesTaken n more) (let z : taken + frames_taken es ≡ taken + (0 + frames_taken es) = omega arith in z) (seen_after taken es more s)

-- the front that the look of a mix saw at the pipe
pub front_taken : (f g : MixerState) (slot : SlotEntry) → TookCounted f → SeesTaken 0 g.pipe.pass.part.events → (submix : SubmixSlot f.frames f.pipe.pass.part.events g.pipe.pass.part.events slot) → submix.front ≡ wrapped (length f.pipe.pass.part.frames)
front_taken f g slot counted sees submix =
    let more : List ServerEvent = server.SawRear slot.rear ∷ server.SawFront submix.front ∷ takes_shown slot.seen in
    let seen : SeesTaken (0 + frames_taken f.pipe.pass.part.events) more = seen_after 0 f.pipe.pass.part.events more (subst (λ (es : List ServerEvent). SeesTaken 0 es) submix.list sees) in
    seen.0 ∙ ap wrapped ((let z : 0 + frames_taken f.pipe.pass.part.events ≡ frames_taken f.pipe.pass.part.events = omega arith in z) ∙ sym counted)

-- ## By a history

module _ (size : ℕ) where
  took_one : (p : PipePoint) (e : ClientEvent) → (next_in_pipe p (one e)).taken ≡ p.taken
  took_one p (client.Release count) = refl
  took_one p e = refl

  took_two : (p : PipePoint) (e : ServerEvent) → (next_in_pipe p (two e)).taken ≡ p.taken + frames_taken (e ∷ [])
  took_two p (server.Take count) = omega arith
  took_two p (server.SawRear rear) = omega arith
  took_two p e = omega arith

  took_first : (e : ServerEvent) (es : List ServerEvent) → frames_taken (e ∷ es) ≡ frames_taken (e ∷ []) + frames_taken es
  took_first e es = omega arith

  took_after : (p : PipePoint) (es : List (Event ClientEvent ServerEvent)) → (point_after (legal_in_pipe size) next_in_pipe p es).taken ≡ p.taken + frames_taken (twos es)
  took_after p [] = omega arith
  took_after p (one e ∷ es) = let rest = took_after (next_in_pipe p (one e)) es in let now = took_one p e in omega arith
  took_after p (two e ∷ es) = let rest = took_after (next_in_pipe p (two e)) es in let now = took_two p e in let all = took_first e (twos es) in omega arith

-- an end whose pipe has a history has as many frames as it took
pub took_counted : (f : MixerState) (puts : List ClientEvent) (put : List ℕ) → HasPipeHistory f.pipe.pass.part.shape.frames puts put f.pipe.pass.part.events f.pipe.pass.part.frames → TookCounted f
took_counted f puts put h = let size : ℕ = f.pipe.pass.part.shape.frames in sym h.taken_is ∙ took_after size start_of_pipe h.history.order ∙ (let z : start_of_pipe.taken + frames_taken (twos h.history.order) ≡ frames_taken (twos h.history.order) = omega arith in z) ∙ ap frames_taken h.history.of_two
