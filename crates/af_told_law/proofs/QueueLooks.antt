-- What a look at the acknowledgement brings, by the history of the queue, wherever it stands: the items given back with the last acknowledgement, if it saw that.
use Rattle.std.proofs.Common.{◌≡◌, ◌≢◌, ⊎_elim, ℕ, ◌+◌, ◌≤◌, ◌<◌, ◌==◌, ◌&&◌, not, Bool, true, false, true≢false, if◌then◌else◌, List, [], ◌∷◌, ◌++◌, length, length-append, get_or, Option, refl, sym, ap, subst, ◌∙◌, arith}
use Rattle.af_told_law.proofs.Common.{Ack, AreOf, Event, FastState, HasStateHistory, Legal, MutatorEvent, MutatorPoint, ObserverEvent, ObserverPoint, QueuePoint, SawAck, SawNext, ServerState, after_ones, after_twos, cases_eq, eq-eqb, eqb-true, legal, legal_at, mutated, ne_eqb, next, observed, one, ones, point_after, start_of_queue, two}
use Rattle.af_model.specs.declared.states.MutatorEvent.TheVariants.{Push}
use Rattle.af_model.specs.declared.states.MutatorEvent.TheVariants as mutator
use Rattle.af_model.specs.declared.states.ObserverEvent.TheVariants as observer

abbrev Events : Type 0
Events = List (Event (MutatorEvent ServerState) (ObserverEvent ServerState))

abbrev Point : Type 0
Point = QueuePoint ServerState

-- ## An order cut at an event of the mutator

tail_of : {A : Type 0} → List A → List A
tail_of [] = []
tail_of (x ∷ xs) = xs

record Cut (es : Events) (xs : List (MutatorEvent ServerState)) (a : MutatorEvent ServerState) : Type 0 where
  before : Events
  behind : Events
  whole : es ≡ before ++ one a ∷ behind
  first : ones before ≡ xs

cut_at : (es : Events) (xs : List (MutatorEvent ServerState)) (a : MutatorEvent ServerState) (rest : List (MutatorEvent ServerState)) → ones es ≡ xs ++ a ∷ rest → Cut es xs a
unfolding tail_of
cut_at [] xs a rest e = let n : 0 ≡ length (xs ++ a ∷ rest) = ap length e in absurd (omega (arith, length-append xs (a ∷ rest)))
cut_at (two b ∷ es) xs a rest e = let s = cut_at es xs a rest e in record { before = two b ∷ s.before; behind = s.behind; whole = ap (λ (z : Events). two b ∷ z) s.whole; first = s.first }
cut_at (one x ∷ es) [] a rest e = let same : x ≡ a = ap (λ (l : List (MutatorEvent ServerState)). get_or l 0 x) e in record { before = []; behind = es; whole = ap (λ (z : MutatorEvent ServerState). one z ∷ es) same; first = refl }
cut_at (one x ∷ es) (y ∷ xs) a rest e =
    let s = cut_at es xs a rest (ap tail_of e) in
    let same : x ≡ y = ap (λ (l : List (MutatorEvent ServerState)). get_or l 0 x) e in
    record { before = one x ∷ s.before; behind = s.behind; whole = ap (λ (z : Events). one x ∷ z) s.whole; first = λ i. same i ∷ s.first i }

after_parts : (p : Point) (xs ys : Events) → point_after legal next p (xs ++ ys) ≡ point_after legal next (point_after legal next p xs) ys
after_parts p [] ys = refl
after_parts p (x ∷ xs) ys = after_parts (next p x) xs ys

-- ## What holds at each point

-- At most one push isn't acknowledged, and a push that is due isn't yet; what was seen acknowledged is; and the items of the last push, and those given back with its acknowledgement, are those of the slots that are new in it, and that went off with it
pub record IsSane (p : Point) : Type 0 where
  pub low : p.observer.acked ≤ p.mutator.pushed
  pub level : p.mutator.pushed ≤ p.observer.acked + 1
  pub due : p.observer.due ≢ 0 → (p.observer.acked < p.observer.due) × (p.observer.due ≤ p.mutator.pushed)
  pub seen : p.mutator.clear ≡ true → p.observer.acked ≡ p.mutator.pushed
  pub sent : 0 < p.mutator.pushed → AreOf p.mutator.last p.mutator.before p.mutator.items
  pub given : p.mutator.clear ≡ false → p.observer.acked ≡ p.mutator.pushed → AreOf p.mutator.before p.mutator.last p.observer.given

due_next : (k acked pushed : ℕ) (b : Bool) → (k == acked) ≡ b → acked ≤ pushed → k ≡ pushed → (if b then 0 else k) ≢ 0 → (acked < (if b then 0 else k)) × ((if b then 0 else k) ≤ pushed)
due_next k acked pushed true same le is ne = absurd (ne refl)
due_next k acked pushed false same le is ne = (
  ⊎_elim
      (λ (e : k ≡ acked). absurd (true≢false (sym (eq-eqb k acked e) ∙ same)))
      (λ (other : k ≢ acked). (let r : acked < k = omega (arith, le, is, other) in r))
      (cases_eq k acked),
  omega (arith, is),
)

pub sane_next : (p : Point) (e : Event (MutatorEvent ServerState) (ObserverEvent ServerState)) → IsSane p → legal p e → IsSane (next p e)
sane_next p (one (Push k x items)) h l = record {
  low = (let a = h.low in let b = l.0 in omega arith);
  level = (let a = l.1 in let b = l.0 in omega arith);
  due = (λ ne. let d = h.due ne in (d.0, (let b = l.0 in let c = d.1 in omega arith)));
  seen = (λ c. absurd (true≢false (sym c)));
  sent = (λ some. l.3);
  given = (λ off same. absurd (let a = l.1 in let b = l.0 in omega (arith, a, b, same)));
}
sane_next p (one (SawAck a items)) h l = record {
  low = h.low;
  level = h.level;
  due = h.due;
  seen = (λ c. sym l.0 ∙ eqb-true a p.mutator.pushed c);
  sent = h.sent;
  given = (λ off same. absurd (true≢false (sym (eq-eqb a p.mutator.pushed (l.0 ∙ same)) ∙ off)));
}
sane_next p (one (mutator.Learn c)) h l = record { low = h.low; level = h.level; due = h.due; seen = h.seen; sent = h.sent; given = h.given }
sane_next p (two (SawNext k x items)) h l = record {
  low = h.low;
  level = h.level;
  due = due_next k p.observer.acked p.mutator.pushed (k == p.observer.acked) refl h.low l.0;
  seen = h.seen;
  sent = h.sent;
  given = h.given;
}
sane_next p (two (Ack k items)) h l =
    let d = h.due (λ (none : p.observer.due ≡ 0). l.1 (l.0 ∙ none)) in record {
      low = (let b = l.0 in let c = d.1 in omega arith);
      level = (let b = l.0 in let c = d.0 in let v = h.level in omega arith);
      due = (λ ne. absurd (ne refl));
      seen = (λ c. absurd (let s = h.seen c in let v = d.0 in let w = d.1 in omega (arith, s, v, w)));
      sent = h.sent;
      given = (λ off same. l.2);
    }
sane_next p (two (observer.Learn c)) h l = record { low = h.low; level = h.level; due = (λ ne. absurd (ne refl)); seen = h.seen; sent = h.sent; given = h.given }

sane_after : (p : Point) (es : Events) → IsSane p → Legal legal next p es → IsSane (point_after legal next p es)
sane_after p [] h l = h
sane_after p (e ∷ es) h l = sane_after (next p e) es (sane_next p e h l.0) l.1

pub sane_start : (first : FastState) → IsSane (start_of_queue first)
sane_start first = record { low = omega arith; level = omega arith; due = (λ ne. absurd (ne refl)); seen = (λ c. refl); sent = (λ some. absurd (omega (arith, some))); given = (λ off. absurd (true≢false off)) }

-- ## Acknowledgements

-- acknowledgements are never taken back, and each gives other items
pub record Grown (p q : Point) : Type 0 where
  pub few : p.observer.acked ≤ q.observer.acked
  pub same : q.observer.acked ≡ p.observer.acked → q.observer.given ≡ p.observer.given

grown_next : (p : Point) (e : Event (MutatorEvent ServerState) (ObserverEvent ServerState)) → IsSane p → legal p e → Grown p (next p e)
grown_next p (one e) h l = record { few = omega arith; same = (λ s. refl) }
grown_next p (two (SawNext k x items)) h l = record { few = omega arith; same = (λ s. refl) }
grown_next p (two (Ack k items)) h l =
    let d = h.due (λ (none : p.observer.due ≡ 0). l.1 (l.0 ∙ none)) in
    record { few = (let b = l.0 in let c = d.0 in omega arith); same = (λ s. absurd (let b = l.0 in let c = d.0 in omega (arith, b, c, s))) }
grown_next p (two (observer.Learn c)) h l = record { few = omega arith; same = (λ s. refl) }

pub grown_after : (p : Point) (es : Events) → IsSane p → Legal legal next p es → Grown p (point_after legal next p es)
grown_after p [] h l = record { few = omega arith; same = (λ s. refl) }
grown_after p (e ∷ es) h l =
    let one_more = grown_next p e h l.0 in
    let rest = grown_after (next p e) es (sane_next p e h l.0) l.1 in
    let a = one_more.few in
    let b = rest.few in
    record {
      few = omega (arith, a, b);
      same = (λ s. rest.same (omega (arith, a, b, s)) ∙ one_more.same (omega (arith, a, b, s)));
    }

-- ## Histories

module _ (first : FastState) (ms : List (MutatorEvent ServerState)) (os : List (ObserverEvent ServerState)) where
  -- the point that the two lists leave
  abbrev pub point_of : Point
  point_of = record { mutator = mutated first ms; observer = observed os }

  pub history_sane : HasStateHistory first ms os → IsSane point_of
  history_sane h = subst IsSane
      (λ j. record { mutator = (after_ones (start_of_queue first) h.order ∙ ap (mutated first) h.of_one) j; observer = (after_twos (start_of_queue first) h.order ∙ ap observed h.of_two) j })
      (sane_after (start_of_queue first) h.order (sane_start first) h.is_legal)

  -- Of a look that saw the number a, after the events ms: no more was seen than the observer acknowledged. If that was all, the look brought what was given back with it; if it wasn't the last push, the look brought nothing, and nothing later was seen before
  pub record Looked (a : ℕ) (items : List (Option ServerState)) : Type 0 where
    pub few : a ≤ (observed os).acked
    pub brings : a ≡ (observed os).acked → items ≡ (if not (mutated first ms).clear && (a == (mutated first ms).pushed) then (observed os).given else [])
    pub none : a ≢ (mutated first ms).pushed → (items ≡ []) × ((mutated first ms).clear ≡ false)

  module _ (a : ℕ) (items : List (Option ServerState)) (rest : List (MutatorEvent ServerState)) (h : HasStateHistory first (ms ++ SawAck a items ∷ rest) os) where
    cut : Cut h.order ms (SawAck a items)
    cut = cut_at h.order ms (SawAck a items) rest h.of_one

    abbrev p : Point
    p = point_after legal next (start_of_queue first) cut.before

    l : Legal legal next (start_of_queue first) cut.before × legal p (one (SawAck a items)) × Legal legal next (next p (one (SawAck a items))) cut.behind
    l = legal_at legal next (start_of_queue first) cut.before (one (SawAck a items)) cut.behind (subst (Legal legal next (start_of_queue first)) cut.whole h.is_legal)

    sane : IsSane p
    sane = sane_after (start_of_queue first) cut.before (sane_start first) l.0

    seen : a ≡ p.observer.acked
    seen = l.1.0

    m_is : p.mutator ≡ mutated first ms
    m_is = after_ones (start_of_queue first) cut.before ∙ ap (mutated first) cut.first

    abbrev q : Point
    q = point_after legal next (next p (one (SawAck a items))) cut.behind

    grown : Grown (next p (one (SawAck a items))) q
    grown = grown_after (next p (one (SawAck a items))) cut.behind (sane_next p (one (SawAck a items)) sane l.1) l.2

    o_is : q.observer ≡ observed os
    o_is = ap (λ (z : Point). z.observer) (sym (after_parts (start_of_queue first) cut.before (one (SawAck a items) ∷ cut.behind)) ∙ ap (point_after legal next (start_of_queue first)) (sym cut.whole))
        ∙ after_twos (start_of_queue first) h.order ∙ ap observed h.of_two

    all_acked : q.observer.acked ≡ (observed os).acked
    all_acked = ap (λ (o : ObserverPoint ServerState). o.acked) o_is

    no_items : (c : Bool) {b : Bool} → b ≡ false → (if not c && b then p.observer.given else []) ≡ []
    no_items true is = refl
    no_items false is = ap (λ (b : Bool). if b then p.observer.given else []) is

    by_clear : a ≢ (mutated first ms).pushed → (b : Bool) → (mutated first ms).clear ≡ b → b ≡ false
    by_clear other false is = refl
    by_clear other true is = absurd (other (seen ∙ sane.seen (ap (λ (z : MutatorPoint ServerState). z.clear) m_is ∙ is) ∙ ap (λ (z : MutatorPoint ServerState). z.pushed) m_is))

    pub looked_at : Looked a items
    looked_at = record {
      few = (let g = grown.few in let b = seen in omega (arith, g, b, all_acked));
      brings = (λ all. l.1.1 ∙ (λ j. if not (m_is j).clear && (sym seen j == (m_is j).pushed) then (sym (grown.same (omega (arith, all, seen, all_acked))) ∙ ap (λ (o : ObserverPoint ServerState). o.given) o_is) j else []));
      none = (λ other. (
        l.1.1 ∙ (λ j. if not p.mutator.clear && (sym seen j == (m_is j).pushed) then p.observer.given else []) ∙ no_items p.mutator.clear (ne_eqb a (mutated first ms).pushed other),
        by_clear other (mutated first ms).clear refl,
      ));
    }
