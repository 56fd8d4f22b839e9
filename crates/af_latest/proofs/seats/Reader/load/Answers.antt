use Rattle.std.proofs.Common.{rules, ◌≡◌, ℕ, ◌<◌, if◌then◌else◌, eq-eqb, ne_eqb, subst, arith, List, [], ◌∷◌, ◌++◌, get_or, unwrap_or, ap, sym, refl, ◌∙◌}
use Rattle.af_model.specs.declared.newest.ReaderEvent.{ReaderEvent}
use Rattle.af_model.specs.declared.newest.ReaderEvent.TheVariants.{Load}
use Rattle.af_latest.specs.Ends.{last_number, load_steps}
use Rattle.af_latest.proofs.Steps.{looks_allowed, fetches_at}
use Rattle.af_latest.proofs.seats.Reader.load.Goals.{then-load-ge4, else-load-ge4}
use Rattle.af_latest.proofs.seats.Reader.load.Goals as goal

pub load-requires : goal.load-requires
load-requires g c = (search rules, search rules, looks_allowed _ _ _ _ c.self.invariant.1)

pub swap-word-requires : goal.swap-word-requires
swap-word-requires g c = let i = c.self.invariant in let m = c.load.ensures.2.0 c.if-load-ge4.true in (
  search rules,
  search rules,
  fetches_at _ _ _ _ _ c.self.inside.slot i.6.0 (ap (λ z. z.0.reads) m ∙ i.1) (ap (λ z. z.0.reading.fresh) m) (ap (λ z. z.1) m ∙ i.6.2) (sym (ap (λ z. z.0.reading.slot) m ∙ i.4)) refl,
)

-- the value that the slot shows is that of the load
shows : {T : Type 0} (old new : List (ReaderEvent T)) (n k j : ℕ) (x y : T) (cs left : List (ℕ × T)) → new ≡ old ++ Load n x ∷ [] → cs ≡ (k, x) ∷ [] → cs ≡ (j, y) ∷ left → new ≡ old ++ Load n y ∷ []
shows old new n k j x y cs left e a b = e ∙ ap (λ z. old ++ Load n z ∷ []) (ap (λ (l : List _). (get_or l 0 (0, x)).1) (sym a ∙ b))

one_step : (last n : ℕ) → n ≡ last → load_steps last n ≡ 1
one_step last n e = ap (λ b. if b then 1 else 2) (eq-eqb n last e)

two_steps : (last n : ℕ) → last < n → load_steps last n ≡ 2
two_steps last n h = ap (λ b. if b then 1 else 2) (ne_eqb n last (λ e. omega arith))

pub returns-clause-list : goal.returns-clause-list
returns-clause-list g c =
    let before = ap (λ z. z.events) c.self.view_is in
    let old = c.args.self.now.events in
    let now = c.if-load-ge4.self-inside.seat.me in
    elim c.if-load-ge4.branch [
      | then-load-ge4 w ↦
          let f = w.swap-word.ensures.2 in
          let m = c.load.ensures.2.0 w.if-load-ge4.true in (
            f.0,
            shows old now.0.reading.events f.0 _ _ f.1 c.slot_mut.result.now now.1 _
                (ap (λ z. z.seat.me.0.reading.events) w.self-inside-is ∙ ap (λ z. z.0.reading.events) f.5 ∙ ap (λ l. l ++ Load f.0 f.1 ∷ []) (ap (λ z. z.0.reading.events) m ∙ before))
                (ap (λ z. z.seat.me.1) w.self-inside-is ∙ ap (λ z. z.1) f.5) c.slot_mut.ensures.value,
            (let more : last_number 0 old < f.0 = subst (λ es. last_number 0 es < f.0) (ap (λ z. z.0.reading.events) m ∙ before) f.2 in
                let two = two_steps (last_number 0 old) f.0 more in let s = w.steps-is in omega arith),
          )
      | else-load-ge4 w ↦
          let f = c.load.ensures.2.1 w.if-load-ge4.false in
          let i = c.self.invariant.6 in
          let same : i.0 ≡ f.1 = ap (λ o. unwrap_or o i.0) (sym i.1 ∙ f.3) in (
            f.0,
            shows old now.0.reading.events f.0 _ _ f.1 c.slot_mut.result.now now.1 _
                (ap (λ z. z.seat.me.0.reading.events) w.self-inside-is ∙ ap (λ z. z.0.reading.events) f.4 ∙ ap (λ l. l ++ Load f.0 f.1 ∷ []) before)
                (ap (λ z. z.seat.me.1) w.self-inside-is ∙ ap (λ z. z.1) f.4 ∙ i.2 ∙ ap (λ z. (c.self.inside.slot, z) ∷ []) same) c.slot_mut.ensures.value,
            (let one = one_step (last_number 0 old) f.0 (f.2 ∙ ap (last_number 0) before) in let s = w.steps-is in omega arith),
          )
    ]
