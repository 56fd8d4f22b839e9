-- What is left to write and to flush never grows.
use Rattle.std.proofs.Common.{◌≡◌, ℕ, ◌+◌, ◌-◌, ◌<◌, ◌≤◌, ◌==◌, ◌&&◌, ◌||◌, nat_le, not, bit_and, Bool, true, false, if◌then◌else◌, List, [], ◌∷◌, All, refl, ap, subst, arith}
use Rattle.af_party.proofs.Common.{All-cons, All-head, All-nil, All-tail, Client, ClientCall, Op, Want, after_answer, asked_by, at_next_turn, begins, begun, eqb-false, eqb-true, is_active, is_stoppable, is_stopped, more, rested, settled_in, state_in, wants_of}
use Rattle.af_base.specs.declared.event.ClientCall.TheVariants as call
use Rattle.af_script.specs.declared.op.Op.TheVariants as op
use Rattle.af_runs.specs.declared.want.ClientCommand.{ClientCommand}
use Rattle.af_runs.specs.declared.want.ClientCommand.TheVariants as command
use Rattle.af_runs.specs.declared.want.Mode.{Mode}
use Rattle.af_runs.specs.declared.want.Want.TheVariants as want
use Rattle.af_party.specs.Asking.{flushed_by, written_by}
use Rattle.af_party.specs.Works.{IsFitting, IsFittingOp, flushes_due, flushes_to_come, frames_due, frames_to_come}

-- the wants and the ops of a client
abbrev pub AllFit : (stream command : ℕ) → List Want → List Op → Type 0
AllFit s k due ops = All (IsFitting s k) due × All (IsFittingOp s k) ops

-- So many frames were written and flushes asked for, and no more is left than was left before without them
pub record Left (s k written flushed : ℕ) (due : List Want) (ops : List Op) (due' : List Want) (ops' : List Op) : Type 0 where
  pub frames : frames_due due' + frames_to_come ops' + written ≤ frames_due due + frames_to_come ops
  pub flushes : flushes_due due' + flushes_to_come ops' + flushed ≤ flushes_due due + flushes_to_come ops
  pub fits : AllFit s k due ops → AllFit s k due' ops'

-- the flushes that a want asks for
abbrev pub flush_of : Want → ℕ
flush_of want.Flush = 1
flush_of _ = 0

-- from one client to another
abbrev pub LeftBy : (s k written flushed : ℕ) → Client → Client → Type 0
LeftBy s k written flushed c d = Left s k written flushed c.due c.ops d.due d.ops

-- ## Small steps

-- nothing changed
left_same : (s k x y : ℕ) (due : List Want) (ops : List Op) → x ≤ 0 → y ≤ 0 → Left s k x y due ops due ops
left_same s k x y due ops few flushed = record { frames = omega arith; flushes = omega arith; fits = λ h. h }

pub left_then : (s k x y : ℕ) (c d e : Client) → LeftBy s k 0 0 c d → LeftBy s k x y d e → LeftBy s k x y c e
left_then s k x y c d e first second = record {
  frames = omega (arith, first.frames, second.frames);
  flushes = omega (arith, first.flushes, second.flushes);
  fits = λ h. second.fits (first.fits h);
}

-- the work left by either of two clients
left_either : (s k x y : ℕ) (b : Bool) (c d e : Client) → LeftBy s k x y c d → LeftBy s k x y c e → LeftBy s k x y c (if b then d else e)
left_either s k x y true c d e one other = one
left_either s k x y false c d e one other = other

-- ## An op is begun

frames-only : (b : Bool) (wants : List Want) → frames_due wants ≡ 0 → frames_due (if b then wants else []) ≡ 0
frames-only true wants none = none
frames-only false wants none = refl

flushes-only : (b : Bool) (wants : List Want) → flushes_due (if b then wants else []) ≤ flushes_due wants
flushes-only true wants = omega arith
flushes-only false wants = omega arith

fits-only : (s k : ℕ) (b : Bool) (wants : List Want) → All (IsFitting s k) wants → All (IsFitting s k) (if b then wants else [])
fits-only s k true wants h = h
fits-only s k false wants h = All-nil (IsFitting s k)

one-fits : (s k : ℕ) (w : Want) → IsFitting s k w → All (IsFitting s k) (w ∷ [])
one-fits s k w h = All-cons (IsFitting s k) w [] h (All-nil (IsFitting s k))

two-fit : (s k : ℕ) (v w : Want) → IsFitting s k v → IsFitting s k w → All (IsFitting s k) (v ∷ w ∷ [])
two-fit s k v w g h = All-cons (IsFitting s k) v (w ∷ []) g (one-fits s k w h)

-- the frames that an op writes, and the flushes that it asks for
frames-wanted : (m : Mode) (o : Op) (ops : List Op) → frames_due (wants_of m o) + frames_to_come ops ≤ frames_to_come (o ∷ ops)
frames-wanted m op.Start ops = omega (arith, frames-only (not (is_active m)) (want.Send command.Start ∷ want.Settled ∷ []) refl)
frames-wanted m op.Pause ops = omega (arith, frames-only (is_active m) (want.Send command.Pause ∷ []) refl)
frames-wanted m op.Stop ops = omega (arith, frames-only (is_stoppable m) (want.Send command.Stop ∷ []) refl)
frames-wanted m op.Flush ops = omega (arith, frames-only (not (is_active m)) (want.Flush ∷ want.Send command.Flush ∷ []) refl)
frames-wanted m op.Drain ops = omega (arith, frames-only (is_stopped m) (want.Drained ∷ []) refl)
frames-wanted m _ ops = omega arith

flushes-wanted : (m : Mode) (o : Op) (ops : List Op) → flushes_due (wants_of m o) + flushes_to_come ops ≤ flushes_to_come (o ∷ ops)
flushes-wanted m op.Start ops = omega (arith, flushes-only (not (is_active m)) (want.Send command.Start ∷ want.Settled ∷ []))
flushes-wanted m op.Pause ops = omega (arith, flushes-only (is_active m) (want.Send command.Pause ∷ []))
flushes-wanted m op.Stop ops = omega (arith, flushes-only (is_stoppable m) (want.Send command.Stop ∷ []))
flushes-wanted m op.Flush ops = omega (arith, flushes-only (not (is_active m)) (want.Flush ∷ want.Send command.Flush ∷ []))
flushes-wanted m op.Drain ops = omega (arith, flushes-only (is_stopped m) (want.Drained ∷ []))
flushes-wanted m _ ops = omega arith

fits-poke : (s k : ℕ) (in_command : Bool) (word value : ℕ) → IsFittingOp s k (op.Poke in_command word value) → IsFitting s k (want.Poke in_command word value)
fits-poke s k true word value h = h
fits-poke s k false word value h = h

fits-wanted : (s k : ℕ) (m : Mode) (o : Op) → IsFittingOp s k o → All (IsFitting s k) (wants_of m o)
fits-wanted s k m op.OpenTrack h = one-fits s k (want.Send command.Open) tt
fits-wanted s k m op.Start h = fits-only s k (not (is_active m)) (want.Send command.Start ∷ want.Settled ∷ []) (two-fit s k (want.Send command.Start) want.Settled tt tt)
fits-wanted s k m op.Pause h = fits-only s k (is_active m) (want.Send command.Pause ∷ []) (one-fits s k (want.Send command.Pause) tt)
fits-wanted s k m op.Stop h = fits-only s k (is_stoppable m) (want.Send command.Stop ∷ []) (one-fits s k (want.Send command.Stop) tt)
fits-wanted s k m op.Flush h = fits-only s k (not (is_active m)) (want.Flush ∷ want.Send command.Flush ∷ []) (two-fit s k want.Flush (want.Send command.Flush) tt tt)
fits-wanted s k m op.Drain h = fits-only s k (is_stopped m) (want.Drained ∷ []) (one-fits s k want.Drained tt)
fits-wanted s k m op.Remove h = one-fits s k (want.Send command.Remove) tt
fits-wanted s k m op.Yield h = one-fits s k want.Rest tt
fits-wanted s k m (op.Gain left right) h = one-fits s k (want.Gain left right) h
fits-wanted s k m (op.Write count) h = one-fits s k (want.Write count) h
fits-wanted s k m (op.Poke in_command word value) h = one-fits s k (want.Poke in_command word value) (fits-poke s k in_command word value h)

wanted_left : (s k : ℕ) (m : Mode) (o : Op) (ops : List Op) → Left s k 0 0 [] (o ∷ ops) (wants_of m o) ops
wanted_left s k m o ops = record {
  frames = omega (arith, frames-wanted m o ops);
  flushes = omega (arith, flushes-wanted m o ops);
  fits = λ h. (fits-wanted s k m o (All-head (IsFittingOp s k) o ops h.1), All-tail (IsFittingOp s k) o ops h.1);
}

begins_left : (s k : ℕ) (c : Client) (due : List Want) (ops : List Op) → Left s k 0 0 due ops (begins c due ops).due (begins c due ops).ops
begins_left s k c (w ∷ wants) ops = left_same s k 0 0 (w ∷ wants) ops (omega arith) (omega arith)
begins_left s k c [] [] = left_same s k 0 0 [] [] (omega arith) (omega arith)
begins_left s k c [] (o ∷ ops) =
    let first = wanted_left s k c.mode o ops in let second = begins_left s k c (wants_of c.mode o) ops in record {
      frames = omega (arith, first.frames, second.frames);
      flushes = omega (arith, first.flushes, second.flushes);
      fits = λ h. second.fits (first.fits h);
    }

pub begun_left : (s k : ℕ) (c : Client) → LeftBy s k 0 0 c (begun c)
begun_left s k c = begins_left s k c c.due c.ops

-- ## An answer is noted

frames-first : (w : Want) (rest : List Want) → frames_due (w ∷ rest) ≡ asked_by w + frames_due rest
frames-first (want.Write count) rest = refl
frames-first _ rest = omega arith

flushes-first : (w : Want) (rest : List Want) → flushes_due (w ∷ rest) ≡ flush_of w + flushes_due rest
flushes-first want.Flush rest = refl
flushes-first _ rest = omega arith

-- the work left if these wants stand in place of the first
next_left : (s k x y : ℕ) (w : Want) (rest due' : List Want) (c : Client) → c.due ≡ w ∷ rest → frames_due due' + x ≤ asked_by w + frames_due rest → flushes_due due' + y ≤ flush_of w + flushes_due rest
    → (IsFitting s k w → All (IsFitting s k) rest → All (IsFitting s k) due') → Left s k x y c.due c.ops due' c.ops
next_left s k x y w rest due' c is few flushed fit = record {
  frames = omega (arith, few, ap frames_due is, frames-first w rest);
  flushes = omega (arith, flushed, ap flushes_due is, flushes-first w rest);
  fits = λ h. let all : All (IsFitting s k) (w ∷ rest) = subst (All (IsFitting s k)) is h.0 in
      (fit (All-head (IsFitting s k) w rest all) (All-tail (IsFitting s k) w rest all), h.1);
}

-- the first is done with
done_left : (s k x y : ℕ) (w : Want) (rest : List Want) (c : Client) → c.due ≡ w ∷ rest → x ≤ asked_by w → y ≤ flush_of w → Left s k x y c.due c.ops rest c.ops
done_left s k x y w rest c is few flushed = next_left s k x y w rest rest c is (omega arith) (omega arith) (λ g h. h)

-- a last REMOVE is all that is left
leave_left : (s k x y : ℕ) (w : Want) (rest : List Want) (c : Client) → c.due ≡ w ∷ rest → x ≤ asked_by w → y ≤ flush_of w → Left s k x y c.due c.ops (want.Leave ∷ []) []
leave_left s k x y w rest c is few flushed = record {
  frames = omega (arith, ap frames_due is, frames-first w rest);
  flushes = omega (arith, ap flushes_due is, flushes-first w rest);
  fits = λ h. (one-fits s k want.Leave tt, All-nil (IsFittingOp s k));
}

sent_left : (s k x y : ℕ) (sending : ClientCommand) (rest : List Want) (c : Client) (n : ℕ) (front code argument : ℕ) → c.due ≡ want.Send sending ∷ rest → x ≤ 0 → y ≤ 0
    → LeftBy s k x y c (after_answer n (want.Send sending) rest c (call.Sent front code argument))
sent_left s k x y command.Open rest c n front code argument is few flushed = done_left s k x y (want.Send command.Open) rest c is few flushed
sent_left s k x y command.Start rest c n front code argument is few flushed = done_left s k x y (want.Send command.Start) rest c is few flushed
sent_left s k x y command.Pause rest c n front code argument is few flushed = done_left s k x y (want.Send command.Pause) rest c is few flushed
sent_left s k x y command.Stop rest c n front code argument is few flushed = done_left s k x y (want.Send command.Stop) rest c is few flushed
sent_left s k x y command.Flush rest c n front code argument is few flushed = done_left s k x y (want.Send command.Flush) rest c is few flushed
sent_left s k x y command.Remove rest c n front code argument is few flushed = done_left s k x y (want.Send command.Remove) rest c is few flushed

-- ### A Put

frames-if : (b : Bool) (left : ℕ) (rest : List Want) → (b ≡ true → left ≡ 0) → frames_due (if b then rest else want.Write left ∷ rest) ≡ left + frames_due rest
frames-if true left rest h = omega (arith, h refl)
frames-if false left rest h = refl

flushes-if : (b : Bool) (left : ℕ) (rest : List Want) → flushes_due (if b then rest else want.Write left ∷ rest) ≡ flushes_due rest
flushes-if true left rest = refl
flushes-if false left rest = refl

fits-if : (s k : ℕ) (b : Bool) (left : ℕ) (rest : List Want) → (b ≡ false → 1 ≤ left) → left < 4294967296 → All (IsFitting s k) rest → All (IsFitting s k) (if b then rest else want.Write left ∷ rest)
fits-if s k true left rest some few h = h
fits-if s k false left rest some few h = All-cons (IsFitting s k) (want.Write left) rest (some refl, few) h

frames-more : (left : ℕ) (rest : List Want) → frames_due (more left rest) ≡ left + frames_due rest
frames-more left rest = frames-if (left == 0) left rest (λ h. eqb-true left 0 h)

flushes-more : (left : ℕ) (rest : List Want) → flushes_due (more left rest) ≡ flushes_due rest
flushes-more left rest = flushes-if (left == 0) left rest

fits-more : (s k left : ℕ) (rest : List Want) → left < 4294967296 → All (IsFitting s k) rest → All (IsFitting s k) (more left rest)
fits-more s k left rest few h = fits-if s k (left == 0) left rest (λ h. let ne = eqb-false left 0 h in omega arith) few h

-- a Clear goes before these, if the client is active
put_left : (s k x y : ℕ) (b : Bool) (asked left : ℕ) (rest : List Want) (c : Client) → c.due ≡ want.Write asked ∷ rest → left + x ≤ asked → y ≤ 0
    → Left s k x y c.due c.ops (if b then want.Clear ∷ more left rest else more left rest) c.ops
put_left s k x y true asked left rest c is few flushed =
    next_left s k x y (want.Write asked) rest (want.Clear ∷ more left rest) c is (omega (arith, frames-more left rest)) (omega (arith, flushes-more left rest))
    (λ g h. All-cons (IsFitting s k) want.Clear (more left rest) tt (fits-more s k left rest (omega (arith, g.1)) h))
put_left s k x y false asked left rest c is few flushed =
    next_left s k x y (want.Write asked) rest (more left rest) c is (omega (arith, frames-more left rest)) (omega (arith, flushes-more left rest)) (λ g h. fits-more s k left rest (omega (arith, g.1)) h)

-- ### What was owed

-- a START goes before these, or not
owed_left : (s k x y : ℕ) (b : Bool) (rest : List Want) (c : Client) → c.due ≡ want.Clear ∷ rest → x ≤ 0 → y ≤ 0 → Left s k x y c.due c.ops (if b then rest else want.Send command.Start ∷ rest) c.ops
owed_left s k x y true rest c is few flushed = done_left s k x y want.Clear rest c is few flushed
owed_left s k x y false rest c is few flushed =
    next_left s k x y want.Clear rest (want.Send command.Start ∷ rest) c is (omega arith) (omega arith) (λ g h. All-cons (IsFitting s k) (want.Send command.Start) rest tt h)

-- ### Each answer

status_left : (s k x y : ℕ) (over there : Bool) (w : Want) (rest : List Want) (c : Client) → c.due ≡ w ∷ rest → x ≤ 0 → y ≤ 0
    → LeftBy s k x y c (if over then record c { ended = true } else if there then record c { due = rest } else record c { waiting = true })
status_left s k x y true there w rest c is few flushed = left_same s k x y c.due c.ops few flushed
status_left s k x y false true w rest c is few flushed = done_left s k x y w rest c is (omega arith) (omega arith)
status_left s k x y false false w rest c is few flushed = left_same s k x y c.due c.ops few flushed

-- the client after an answer to the first of its wants
pub answer_left : (s k n : ℕ) (w : Want) (rest : List Want) (c : Client) (a : ClientCall) → c.due ≡ w ∷ rest → written_by a ≤ asked_by w → flushed_by a ≤ flush_of w
    → LeftBy s k (written_by a) (flushed_by a) c (after_answer n w rest c a)
answer_left s k n (want.Send sending) rest c (call.Sent front code argument) is few flushed = sent_left s k 0 0 sending rest c n front code argument is few flushed
answer_left s k n (want.Send sending) rest c a is few flushed = left_same s k (written_by a) (flushed_by a) c.due c.ops few flushed
answer_left s k n want.Settled rest c (call.Status word) is few flushed = status_left s k 0 0 (state_in word == 15) (nat_le n (settled_in word) && (not false || (state_in word == 8))) want.Settled rest c is few flushed
answer_left s k n want.Settled rest c a is few flushed = left_same s k (written_by a) (flushed_by a) c.due c.ops few flushed
answer_left s k n want.Drained rest c (call.Status word) is few flushed = status_left s k 0 0 (state_in word == 15) (nat_le n (settled_in word) && (not true || (state_in word == 8))) want.Drained rest c is few flushed
answer_left s k n want.Drained rest c a is few flushed = left_same s k (written_by a) (flushed_by a) c.due c.ops few flushed
answer_left s k n want.Flush rest c a is few flushed = done_left s k (written_by a) (flushed_by a) want.Flush rest c is few flushed
answer_left s k n (want.Gain left right) rest c a is few flushed = done_left s k (written_by a) (flushed_by a) (want.Gain left right) rest c is few flushed
answer_left s k n (want.Write asked) rest c (call.Put front count) is few flushed = put_left s k count 0 (is_active c.mode) asked (asked - count) rest c is (omega (arith, few)) flushed
answer_left s k n (want.Write asked) rest c (call.Full front) is few flushed = left_same s k 0 0 c.due c.ops (omega arith) flushed
answer_left s k n (want.Write asked) rest c a is few flushed = leave_left s k (written_by a) (flushed_by a) (want.Write asked) rest c is few flushed
answer_left s k n want.Clear rest c (call.Cleared flags) is few flushed = owed_left s k 0 0 (bit_and flags 8 == 0) rest c is few flushed
answer_left s k n want.Clear rest c a is few flushed = left_same s k (written_by a) (flushed_by a) c.due c.ops few flushed
answer_left s k n (want.Poke in_command word value) rest c a is few flushed = done_left s k (written_by a) (flushed_by a) (want.Poke in_command word value) rest c is few flushed
answer_left s k n want.Rest rest c a is few flushed = done_left s k (written_by a) (flushed_by a) want.Rest rest c is few flushed
answer_left s k n want.Leave rest c a is few flushed = left_same s k (written_by a) (flushed_by a) c.due c.ops few flushed

-- ## A turn ends

rested_left : (s k : ℕ) (due : List Want) (ops : List Op) → Left s k 0 0 due ops (rested due) ops
rested_left s k (want.Rest ∷ wants) ops = record {
  frames = omega arith;
  flushes = omega arith;
  fits = λ h. (All-tail (IsFitting s k) want.Rest wants h.0, h.1);
}
rested_left s k due ops = left_same s k 0 0 due ops (omega arith) (omega arith)

pub ended_left : (s k : ℕ) (cut : Bool) (c : Client) → LeftBy s k 0 0 c (at_next_turn cut c)
ended_left s k cut c =
    let gone : Client = record (begun c) { due = rested (begun c).due } in
    left_either s k 0 0 (c.waiting || c.ended || cut) c (record c { waiting = false }) gone (left_same s k 0 0 c.due c.ops (omega arith) (omega arith))
    (left_then s k 0 0 c (begun c) gone (begun_left s k c) (rested_left s k (begun c).due (begun c).ops))
