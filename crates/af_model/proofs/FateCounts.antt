-- All frames that were released are counted once: as mixed, as discarded or as queued.
use Rattle.std.proofs.Common.{◌≡◌, ℕ, ◌+◌, ◌-◌, ◌≤◌, List, [], ◌∷◌, length, take, drop, sym, ap, ◌∙◌, arith, length-append, length-take, length-drop}
use Rattle.af_base.specs.declared.event.ClientEvent.{ClientEvent}
use Rattle.af_base.specs.declared.event.ServerEvent.{ServerEvent}
use Rattle.af_base.specs.declared.event.HandEvent.{HandEvent}
use Rattle.af_model.specs.declared.shape.Shape.{Shape}
use Rattle.af_model.specs.History.{HasHistory, point}
use Rattle.af_model.specs.Fates.{InTurn}
use Rattle.af_model.specs.Spans.{Fate, mixed, discarded, queued, Span, spans_of, fates_of, Follow, frames_by, mixed_by, count_if, count_with}
use Rattle.af_model.proofs.Fates.{in_turn}
use Rattle.af_model.proofs.OneFate.{spans_follow, fates_follow, taken-mixed, mixed_in}

one_of : (fate : Fate) (count : ℕ) → count_if mixed fate count + count_if discarded fate count + count_if queued fate count ≡ count
one_of mixed count = omega arith
one_of discarded count = omega arith
one_of queued count = omega arith

all_of : (from to : ℕ) (spans : List Span) → Follow from spans to → from + (count_with mixed spans + count_with discarded spans + count_with queued spans) ≡ to
all_of from to [] f = let e : from ≡ to = f in omega arith
all_of from to (s ∷ spans) f =
    let r = all_of s.to to spans f.2 in
    let o = one_of s.fate (s.to - s.from) in
    let a = f.0 in
    let b = f.1 in
    omega arith

reaches : (from to : ℕ) (spans : List Span) → Follow from spans to → from ≤ to
reaches from to [] f = let e : from ≡ to = f in omega arith
reaches from to (s ∷ spans) f = let r = reaches s.to to spans f.2 in let a = f.1 in omega arith

length-frames_by : (fate : Fate) (frames : List ℕ) (count : ℕ) → length frames ≡ count → length (frames_by fate frames) ≡ count_if mixed fate count
length-frames_by mixed frames count is = is
length-frames_by discarded frames count is = omega arith
length-frames_by queued frames count is = omega arith

length-mixed_by : (released : List ℕ) (base from to : ℕ) (spans : List Span) → Follow from spans to → base ≤ from → to ≤ base + length released
    → length (mixed_by released base spans) ≡ count_with mixed spans
length-mixed_by released base from to [] f low high = omega arith
length-mixed_by released base from to (s ∷ spans) f low high =
    let a = f.0 in
    let b = f.1 in
    let r = length-mixed_by released base s.to to spans f.2 (omega arith) high in
    let up = reaches s.to to spans f.2 in
    let long : length (take (s.to - s.from) (drop (s.from - base) released)) ≡ s.to - s.from = (
    let d = length-drop (s.from - base) released in
    let t = length-take (s.to - s.from) (drop (s.from - base) released) in
    omega arith) in
    let one = length-frames_by s.fate (take (s.to - s.from) (drop (s.from - base) released)) (s.to - s.from) long in
    let joined = length-append (mixed_in released base s) (mixed_by released base spans) in
    omega arith

module _ {shape : Shape} {ce : List ClientEvent} {cf : List ℕ} {se : List ServerEvent} {sf : List ℕ} {he : List HandEvent} (h : HasHistory shape ce cf se sf he) where
  -- what was mixed, discarded and queued is all that was released
  pub fates-counted : count_with mixed (fates_of h) + count_with discarded (fates_of h) + count_with queued (fates_of h) ≡ length cf
  fates-counted = let a = all_of shape.base (point h).released (fates_of h) (fates_follow h) in let b = h.released_is in omega arith

  -- as many frames are mixed as the server took
  pub mixed-counted : count_with mixed (spans_of shape h.order) ≡ length sf
  mixed-counted =
      let turn : InTurn shape (point h) = in_turn shape h.order h.legal in
      let all : (point h).consumed ≤ shape.base + length cf = (let a = turn.within in let r = h.released_is in omega arith) in
      sym (ap length (taken-mixed h) ∙ length-mixed_by cf shape.base shape.base (point h).consumed (spans_of shape h.order) (spans_follow shape h.order h.legal) (omega arith) all)
