-- What the normal mixer sees of the queue, the report and the pipe is what is told of them.
use Rattle.std.proofs.Common.{◌≡◌, ℕ, ◌-◌, ◌%◌, ◌^◌, ◌<◌, ◌≤◌, ◌==◌, Bool, true, false, true≢false, if◌then◌else◌, map, List, [], ◌∷◌, ◌++◌, length, Option, refl, sym, ap, ◌∙◌, subst, arith, ne_eqb}
use Rattle.af_one_turn_run.proofs.Common.{Item, Learnt, Legal, LegalPush, Load, NormalKept, QueuePoint, Setup, Turn, after_edits, front_by_room, going, mutator_list, number_seen, one, pipe_list, pipe_size, push_list, put_by, two}
use Rattle.af_base.specs.declared.event.ClientEvent.TheVariants as client
use Rattle.af_base.specs.declared.state.Push.{Push}
use Rattle.af_base.specs.declared.state.Push.TheVariants.{Pushed, Clean, Busy}
use Rattle.af_base.specs.declared.report.Report.{Report}
use Rattle.af_model.specs.declared.states.MutatorEvent.{MutatorEvent}
use Rattle.af_model.specs.declared.states.MutatorEvent.TheVariants as mutator
use Rattle.af_model.specs.NewestValue as newest
use Rattle.af_model.specs.PipeHistory as piped
use Rattle.af_model.specs.PipeHistory.{releases_of}
use Rattle.af_model.specs.StateQueue as queued

-- ## The queue

-- a push that stands was seen so, and one that goes finds the last one acknowledged
pub data PushSees (acked : ℕ) (n : NormalKept) : Push → Type 0 where
  clean : PushSees acked n Clean
  busy : (seen expected : ℕ) → n.pushed - 1 ≡ acked → PushSees acked n (Busy seen expected)
  pushed : (number : ℕ) → (0 < n.pushed → n.pushed ≡ acked) → PushSees acked n (Pushed number)

module _ (q : QueuePoint Item) (c : Setup) (k : Learnt) (m : NormalKept) (e : Turn) (back again sent : List (Option Item)) where
  abbrev QueueSees : List (MutatorEvent Item) → Type 0
  QueueSees events = Legal queued.legal queued.next q (map one events)

  abbrev after_ack : List (MutatorEvent Item)
  after_ack = mutator.SawAck (number_seen m e.ack) back ∷ going e (push_list (after_edits c k e m) e.push again sent)

  began : m.ended ≡ false → QueueSees (mutator_list c k m e back again sent) → QueueSees after_ack
  began runs l = subst (λ (b : Bool). QueueSees (if b then [] else after_ack)) runs l

  -- the look at the acknowledgement saw the number acknowledged
  pub ack_seen : m.ended ≡ false → QueueSees (mutator_list c k m e back again sent) → number_seen m e.ack ≡ q.observer.acked
  ack_seen runs l = (began runs l).0.0

  push_sees : (n : NormalKept) (r : QueuePoint Item) (p : Push) → Legal queued.legal queued.next r (map one (push_list n p again sent)) → PushSees r.observer.acked n p
  push_sees n r Clean l = clean
  push_sees n r (Busy seen expected) l = busy seen expected l.0.0
  push_sees n r (Pushed number) l = pushed number (λ some. by_first (n.pushed == 0) (ne_eqb n.pushed 0 (λ e. omega (arith, e, some))) l)
    where
      by_first : (b : Bool) → b ≡ false → Legal queued.legal queued.next r (map one ((if b then [] else mutator.SawAck n.pushed again ∷ []) ++ mutator.Push number n.draft sent ∷ [])) → n.pushed ≡ r.observer.acked
      by_first true is l = absurd (true≢false is)
      by_first false is l = l.0.0

  pub push_seen : m.ended ≡ false → e.ended ≡ false → QueueSees (mutator_list c k m e back again sent) → PushSees q.observer.acked (after_edits c k e m) e.push
  push_seen runs goes l = push_sees (after_edits c k e m) (queued.next q (one (mutator.SawAck (number_seen m e.ack) back))) e.push (subst (λ (b : Bool). Legal queued.legal queued.next (queued.next q (one (mutator.SawAck (number_seen m e.ack) back))) (map one (if b then [] else push_list (after_edits c k e m) e.push again sent))) goes (began runs l).1)

pub one_push : (acked : ℕ) (n : NormalKept) (a b : Push) → LegalPush n a → PushSees acked n a → LegalPush n b → PushSees acked n b → a ≡ b
one_push acked n Clean Clean la sa lb sb = refl
one_push acked n Clean (Busy seen expected) la sa lb sb = absurd (true≢false (sym lb.0 ∙ la))
one_push acked n Clean (Pushed number) la sa lb sb = absurd (true≢false (sym lb.0 ∙ la))
one_push acked n (Busy seen expected) Clean la sa lb sb = absurd (true≢false (sym la.0 ∙ lb))
one_push acked n (Pushed number) Clean la sa lb sb = absurd (true≢false (sym la.0 ∙ lb))
one_push acked n (Pushed a) (Pushed b) la sa lb sb = ap Pushed (la.1 ∙ sym lb.1)
one_push acked n (Busy seen expected) (Busy seen_b expected_b) la sa lb sb = λ i. Busy ((la.3 ∙ sym lb.3) i) ((la.2 ∙ sym lb.2) i)
one_push acked n (Pushed a) (Busy seen expected) la (pushed _ stands) lb (busy _ _ waits) = absurd (let z : ⊥ = (let x = stands lb.1 in let y = waits in let w = lb.1 in omega (arith, x, y, w)) in z)
one_push acked n (Busy seen expected) (Pushed b) la (busy _ _ waits) lb (pushed _ stands) = absurd (let z : ⊥ = (let x = stands la.1 in let y = waits in let w = la.1 in omega (arith, x, y, w)) in z)

-- ## The report and the pipe

module _ (e : Turn) where
  -- the turn saw the number of the report
  pub report_seen : (r : newest.CellPoint Report) (x : Report) → e.ended ≡ false → Legal newest.legal_value newest.next_value r (map two (going e (Load e.cycle x ∷ []))) → e.cycle ≡ r.number
  report_seen r x goes l = (subst (λ (b : Bool). Legal newest.legal_value newest.next_value r (map two (if b then [] else Load e.cycle x ∷ []))) goes l).0.0

  -- the turn saw the front of the pipe
  pub room_seen : (p : piped.PipePoint) (c : Setup) (cells put : ℕ) → e.ended ≡ false → Legal (piped.legal_in_pipe (pipe_size c)) piped.next_in_pipe p (map one (pipe_list c cells put e)) → front_by_room (pipe_size c) put e.room ≡ p.taken % 2 ^ 32
  room_seen p c cells put goes l = (subst (λ (b : Bool). Legal (piped.legal_in_pipe (pipe_size c)) piped.next_in_pipe p (map one (if b then [] else client.SawFront (front_by_room (pipe_size c) put e.room) ∷ releases_of cells put (length (put_by c e.mixes))))) goes l).0.0

-- one room has one front
pub one_room : (size put a b : ℕ) → size < 2 ^ 32 → a ≤ size → b ≤ size → front_by_room size put a ≡ front_by_room size put b → a ≡ b
one_room size put a b small low low_b same = omega (arith, small, low, low_b, same)
