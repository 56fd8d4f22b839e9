-- The rule at the start, when the ends take their slots, and when a part changes seats.
use Rattle.std.proofs.Common.{◌≡◌, ◌≢◌, ℕ, zero, suc, ◌+◌, ◌<◌, true, false, true≢false, List, [], ◌∷◌, map, drop, set, get_or, replicate, None, sym, refl, ap, ◌∙◌, arith, length-set}
use Rattle.af_stateq.proofs.Common.{Allows, FastState, Joins, Splits, State, chain, drop-set-lt, homes_after, one_changes, opening, set_else, slots, start_of_queue, step, takes, two_changes, two_comes, two_leaves}
use mathlib.Core.Option as maybe
use lib.ListN.{get_elem?}
use Rattle.af_stateq.specs.declared.cell.Slot.{Slot}
use Rattle.af_stateq.specs.declared.rule.Basis.{Basis}
use Rattle.af_stateq.specs.declared.view.View.{View}
use Rattle.af_stateq.specs.declared.view.Mutating.{Mutating}
use Rattle.af_stateq.specs.declared.view.Observing.{Observing}
use mathlib.Core.Option.{some-injective, some-ne-none}
use Rattle.af_stateq.proofs.Acts.{takes_all, carried_takes, takes_else, length_takes, takes_valid}
use Rattle.af_stateq.specs.Shelved.{cell, cells, starting, spent, has_mutating, mutating, has_observing, observing, Phase, quiet, shown, taken, known_by, InPhase, Kept, Seated, sat_mutator, sat_observer}

module _ {P K : Type 0} (fits : K → ℕ → P → Type 0) (basis : Basis K) where
  abbrev Rule : State (Slot P) (View P K) → Type 0
  Rule = Kept fits basis

  abbrev Homes : Type 0
  Homes = List (maybe.Option (Slot P))

  alone : (a : View P K) (j : ℕ) (u : View P K) → get_elem? (a ∷ []) j ≡ maybe.some u → (j ≡ 0) × (a ≡ u)
  alone a zero u e = (refl, some-injective a u e)
  alone a (suc j) u e = absurd (some-ne-none u (sym e))

  pub opens : (x : FastState) → Rule (opening (0 ∷ 0 ∷ []) (replicate (cells + slots) record { state = x; item = None }) (starting basis))
  opens x =
      let empty : Slot P = record { state = x; item = None } in
      let v : View P K = starting basis in
      record {
        m = v.mutating;
        o = v.observing;
        seats = record {
          one_at = 0;
          two_at = 0;
          one_held = λ j u e _. ((alone v j u e).0, ap mutating (sym (alone v j u e).1));
          two_held = λ j u e _. ((alone v j u e).0, ap observing (sym (alone v j u e).1));
        };
        stands = record { history = record { order = []; is_legal = tt; of_one = refl; of_two = refl }; point = start_of_queue basis.first; point_is = refl };
        ties = record { keys = (refl, refl, refl); counts = (refl, refl); numbers = (refl, refl, refl, refl); states = (refl, refl) };
        words = refl;
        laid = record {
          whole = refl;
          phase = quiet;
          in_phase = (refl, refl, refl, (empty, refl), λ e. absurd (true≢false e));
          m_home = λ _. (refl, refl, (empty, refl), (replicate slots empty, refl, refl));
          o_home = λ _. (refl, (empty, refl), (empty, refl));
        };
      }

  pub splits_allowed : (id : ℕ) (v : View P K) → v.observes ≡ true → Splits Rule id v (record v { observes = false }) (record v { mutates = false })
  splits_allowed id v ok s k here =
      let a : View P K = record v { observes = false } in
      let b : View P K = record v { mutates = false } in
      record {
        m = k.m;
        o = k.o;
        seats = two_leaves has_mutating mutating has_observing observing s.views k.m k.o k.seats id v here a b ok refl refl refl refl refl;
        stands = k.stands;
        ties = k.ties;
        words = k.words;
        laid = k.laid;
      }

  pub joins_allowed : (id : ℕ) (v : View P K) (other : ℕ) (w : View P K) → w.observes ≡ true → Joins Rule id v other w (record v { observes = w.observes; observing = w.observing }) spent
  joins_allowed id v other w ok s k here apart there =
      let both : View P K = record v { observes = w.observes; observing = w.observing } in
      record {
        m = k.m;
        o = k.o;
        seats = two_comes has_mutating mutating has_observing observing s.views k.m k.o k.seats id v here other w both spent apart there ok refl refl refl refl refl;
        stands = k.stands;
        ties = k.ties;
        words = k.words;
        laid = k.laid;
      }

  module _ (s : State (Slot P) (View P K)) (k : Rule s) where
    abbrev Now : Mutating P K → Observing P K → Homes → Phase → Type 0
    Now m o hs = InPhase (fits basis.key) (known_by m o k.stands.point) hs

    -- a mutator takes the shelves ys, and then its cell
    module _ (cs : List (ℕ × Slot P)) (ys : List (Slot P)) where
      abbrev h1 : Homes
      h1 = homes_after s.homes cs (takes_all cells ys)

      abbrev h2 : Homes
      h2 = set h1 0 maybe.none

      far : (j : ℕ) (y : Slot P) → 0 < j → j < cells → get_elem? s.homes j ≡ maybe.some (maybe.some y) → get_elem? h2 j ≡ maybe.some (maybe.some y)
      far j y pos low at = set_else h1 0 j maybe.none (λ e. omega arith) ∙ takes_else cells ys s.homes cs j low ∙ at

      seated_m : (p : Phase) → k.m.pushed ≡ 0 → k.m.clear ≡ true → Now k.m k.o s.homes p → Now (record k.m { out = true }) k.o h2 p
      seated_m quiet z cl i = (i.0, i.1, i.2, (i.3.0, far (cell (k.m.pushed + 2)) i.3.0 (let b : cell (k.m.pushed + 2) ≡ 1 = ap (λ (n : ℕ). cell (n + 2)) z in omega arith) (let b : cell (k.m.pushed + 2) ≡ 1 = ap (λ (n : ℕ). cell (n + 2)) z in omega arith) i.3.1), λ e. absurd (true≢false (sym cl ∙ e)))
      seated_m shown z cl i = absurd (true≢false (sym cl ∙ i.2))
      seated_m taken z cl i = absurd (true≢false (sym cl ∙ i.2))

    abbrev g1 : Homes
    g1 = set s.homes 2 maybe.none

    abbrev g2 : Homes
    g2 = set g1 3 maybe.none

    still : (l : List (maybe.Option (Slot P))) → drop cells s.homes ≡ l → drop cells g2 ≡ l
    still l e = drop-set-lt cells g1 3 maybe.none (omega arith) ∙ drop-set-lt cells s.homes 2 maybe.none (omega arith) ∙ e

    near : (j : ℕ) (y : Slot P) → j ≢ 2 → j ≢ 3 → get_elem? s.homes j ≡ maybe.some (maybe.some y) → get_elem? g2 j ≡ maybe.some (maybe.some y)
    near j y a b at = set_else g1 3 j maybe.none b ∙ set_else s.homes 2 j maybe.none a ∙ at

    seated_o : (p : Phase) → k.o.current ≡ 0 → Now k.m k.o s.homes p → Now k.m (record k.o { out = true }) g2 p
    seated_o quiet z i = let b : cell (k.m.pushed + 2) ≡ 1 = ap (λ (n : ℕ). cell (n + 2)) (sym i.0 ∙ z) in
        (i.0, i.1, i.2, (i.3.0, near (cell (k.m.pushed + 2)) i.3.0 (λ e. omega arith) (λ e. omega arith) i.3.1), λ e. let g = i.4 e in ((g.0.0, still (map maybe.some g.0.0) g.0.1, g.0.2), g.1, g.2))
    seated_o shown z i = let b : cell k.m.pushed ≡ 0 = ap cell (i.0 ∙ ap (λ (n : ℕ). n + 1) z) in
        (i.0, i.1, i.2, i.3, (i.4.0, near (cell k.m.pushed) i.4.0 (λ e. omega arith) (λ e. omega arith) i.4.1, i.4.2), (i.5.0, still (map maybe.some i.5.0) i.5.1, i.5.2), i.6, i.7)
    seated_o taken z i = i

  pub sits_mutator : (slots id : ℕ) (me : Seated P K) → me.0.mutates ≡ true → me.0.mutating.out ≡ false → Allows Rule slots id me 0 (λ n. n) (sat_mutator (step slots 0 0 0 maybe.none) me)
  sits_mutator slots id me ok home s k len here low =
      let v = me.0 in
      let w : View P K = record v { mutating = record v.mutating { out = true } } in
      let is : v.mutating ≡ k.m = (k.seats.one_held id v here ok).1 in
      let h = k.laid.m_home (ap (λ (m : Mutating P K). m.out) (sym is) ∙ home) in
      let ys : List (Slot P) = h.3.0 in (
        w,
        chain (takes_all cells ys) (takes 0 h.2.0),
        (takes_valid cells ys s.homes me.1 h.3.1, takes_else cells ys s.homes me.1 0 (omega arith) ∙ h.2.1),
        record {
          m = record k.m { out = true };
          o = k.o;
          seats = one_changes has_mutating mutating has_observing observing s.views k.m k.o k.seats id v here w (record k.m { out = true }) ok (ap (λ (m : Mutating P K). record m { out = true }) is) refl refl;
          stands = k.stands;
          ties = record { keys = k.ties.keys; counts = k.ties.counts; numbers = k.ties.numbers; states = k.ties.states };
          words = ap (λ (ws : List ℕ). set ws 0 (get_or ws 0 0)) k.words;
          laid = record {
            whole = length-set (h1 s k me.1 ys) 0 maybe.none ∙ length_takes cells ys s.homes me.1 ∙ k.laid.whole;
            phase = k.laid.phase;
            in_phase = seated_m s k me.1 ys k.laid.phase h.0 h.1 k.laid.in_phase;
            m_home = λ e. absurd (true≢false e);
            o_home = λ e. let b = k.laid.o_home e in (b.0, (b.1.0, far s k me.1 ys 3 b.1.0 (omega arith) (omega arith) b.1.1), (b.2.0, far s k me.1 ys 2 b.2.0 (omega arith) (omega arith) b.2.1));
          };
        },
        (h.2.0, ys, h.3.2, λ i. (w, (0, h.2.0) ∷ carried_takes cells ys me.1 i)),
      )

  pub sits_observer : (slots id : ℕ) (me : Seated P K) → me.0.observes ≡ true → me.0.observing.out ≡ false → Allows Rule slots id me 0 (λ n. n) (sat_observer (step slots 0 0 0 maybe.none) me)
  sits_observer slots id me ok home s k len here low =
      let v = me.0 in
      let w : View P K = record v { observing = record v.observing { out = true } } in
      let is : v.observing ≡ k.o = (k.seats.two_held id v here ok).1 in
      let h = k.laid.o_home (ap (λ (o : Observing P K). o.out) (sym is) ∙ home) in (
        w,
        chain (takes 2 h.2.0) (takes 3 h.1.0),
        (h.2.1, set_else s.homes 2 3 maybe.none (λ e. omega arith) ∙ h.1.1),
        record {
          m = k.m;
          o = record k.o { out = true };
          seats = two_changes has_mutating mutating has_observing observing s.views k.m k.o k.seats id v here w (record k.o { out = true }) ok (ap (λ (o : Observing P K). record o { out = true }) is) refl refl;
          stands = k.stands;
          ties = record { keys = k.ties.keys; counts = k.ties.counts; numbers = k.ties.numbers; states = k.ties.states };
          words = ap (λ (ws : List ℕ). set ws 0 (get_or ws 0 0)) k.words;
          laid = record {
            whole = length-set (g1 s k) 3 maybe.none ∙ length-set s.homes 2 maybe.none ∙ k.laid.whole;
            phase = k.laid.phase;
            in_phase = seated_o s k k.laid.phase h.0 k.laid.in_phase;
            m_home = λ e. let b = k.laid.m_home e in (b.0, b.1, (b.2.0, near s k 0 b.2.0 (λ e. omega arith) (λ e. omega arith) b.2.1), (b.3.0, still s k (map maybe.some b.3.0) b.3.1, b.3.2));
            o_home = λ e. absurd (true≢false e);
          };
        },
        (h.1.0, h.2.0, refl),
      )
