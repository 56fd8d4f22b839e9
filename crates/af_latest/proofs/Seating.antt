-- The rule at the start, when the ends take their slots, and when a part changes seats.
use Rattle.std.proofs.Common.{◌≡◌, ℕ, true, false, true≢false, List, [], ◌∷◌, set, get_or, sym, refl, ap, ◌∙◌, subst, arith, length-set, zero, suc, Some}
use mathlib.Core.Option.{none, some, some-injective, some-ne-none}
use lib.ListN.{get_elem?}
use Rattle.atomic_table.specs.Table.{step, takes, Allows, Splits, Joins, opening}
use Rattle.atomic_table.proofs.Lists.{set_else}
use Rattle.af_latest.specs.declared.view.View.{View}
use Rattle.af_latest.specs.declared.view.Writing.{Writing}
use Rattle.af_latest.specs.declared.view.Reading.{Reading}
use Rattle.af_model.proofs.PartySteps.{one_changes, two_changes, two_leaves, two_comes}
use Rattle.af_model.specs.NewestValue.{start_value}
use Rattle.af_latest.specs.Rule.{starting, spent, has_writing, writing, has_reading, reading, Kept, Seated, sat_writer, sat_reader}

module _ {T : Type 0} where
  pub opens : (x : T) → Kept x (opening (2 ∷ []) (x ∷ x ∷ x ∷ []) (starting x))
  opens x =
      let only : (j : ℕ) (u : View T) → get_elem? (starting x ∷ []) j ≡ some u → (j ≡ 0) × (starting x ≡ u) = alone (starting x) in
      record {
        writer = (starting x).writing;
        reader = (starting x).reading;
        seats = record { one_at = 0; two_at = 0; one_held = λ j u e _. ((only j u e).0, ap writing (sym (only j u e).1)); two_held = λ j u e _. ((only j u e).0, ap reading (sym (only j u e).1)) };
        first_is = refl;
        stands = record { history = record { order = []; is_legal = tt; of_one = refl; of_two = refl }; point = start_value x; point_is = refl };
        counts = (refl, refl);
        middle = 2;
        fresh = false;
        word_is = refl;
        laid = record {
          slots = record { small_a = omega arith; small_b = omega arith; small_c = omega arith; ab = λ e. omega arith; ac = λ e. omega arith; bc = λ e. omega arith };
          three = refl;
          shown = x;
          middle_home = refl;
          writer_home = λ _. (x, refl);
          reader_home = λ _. (x, refl, refl);
          newest = λ e. absurd (true≢false (sym e));
          old = λ _. (refl, refl);
          seen = λ e. absurd (true≢false (sym e));
        };
      }
    where
      alone : (a : View T) (j : ℕ) (u : View T) → get_elem? (a ∷ []) j ≡ some u → (j ≡ 0) × (a ≡ u)
      alone a zero u e = (refl, some-injective a u e)
      alone a (suc j) u e = absurd (some-ne-none u (sym e))

  module _ (first : T) where
    pub splits_allowed : (id : ℕ) (v : View T) → v.reads ≡ true → Splits (Kept first) id v (record v { reads = false }) (record v { writes = false })
    splits_allowed id v r_ok s k here =
        let left : View T = record v { reads = false } in
        let right : View T = record v { writes = false } in
        record {
          writer = k.writer;
          reader = k.reader;
          seats = two_leaves has_writing writing has_reading reading s.views k.writer k.reader k.seats id v here left right r_ok refl refl refl refl refl;
          first_is = k.first_is;
          stands = k.stands;
          counts = k.counts;
          middle = k.middle;
          fresh = k.fresh;
          word_is = k.word_is;
          laid = k.laid;
        }

    pub joins_allowed : (id : ℕ) (v : View T) (other : ℕ) (w : View T) → w.reads ≡ true → Joins (Kept first) id v other w (record v { reads = w.reads; reading = w.reading }) spent
    joins_allowed id v other w r_ok s k here apart there =
        let both : View T = record v { reads = w.reads; reading = w.reading } in
        record {
          writer = k.writer;
          reader = k.reader;
          seats = two_comes has_writing writing has_reading reading s.views k.writer k.reader k.seats id v here other w both spent apart there r_ok refl refl refl refl refl;
          first_is = k.first_is;
          stands = k.stands;
          counts = k.counts;
          middle = k.middle;
          fresh = k.fresh;
          word_is = k.word_is;
          laid = k.laid;
        }

    pub sits_writer : (slots id : ℕ) (m : Seated T) → m.0.writes ≡ true → m.0.writing.out ≡ false → Allows (Kept first) slots id m 0 (λ n. n) (sat_writer (step slots 0 0 0 none) m)
    sits_writer slots id m w_ok home s k len here small =
        let v = m.0 in
        let w : View T = record v { writing = record v.writing { out = true } } in
        let v_is : v.writing ≡ k.writer = (k.seats.one_held id v here w_ok).1 in
        let h : (x : T) × (get_elem? s.homes v.writing.slot ≡ some (some x)) = subst (λ (z : Writing T). z.out ≡ false → (x : T) × (get_elem? s.homes z.slot ≡ some (some x))) (sym v_is) k.laid.writer_home home in
        let gone : v.writing.slot ≡ k.writer.slot = ap (λ (z : Writing T). z.slot) v_is in (
          w,
          takes v.writing.slot h.0,
          h.1,
          record {
            writer = record k.writer { out = true };
            reader = k.reader;
            seats = one_changes has_writing writing has_reading reading s.views k.writer k.reader k.seats id v here w (record k.writer { out = true }) w_ok (ap (λ (z : Writing T). record z { out = true }) v_is) refl refl;
            first_is = k.first_is;
            stands = k.stands;
            counts = k.counts;
            middle = k.middle;
            fresh = k.fresh;
            word_is = ap (λ (ws : List ℕ). set ws 0 (get_or ws 0 0)) k.word_is;
            laid = record {
              slots = k.laid.slots;
              three = length-set s.homes v.writing.slot none ∙ k.laid.three;
              shown = k.laid.shown;
              middle_home = set_else s.homes v.writing.slot k.middle none (λ e. k.laid.slots.ac (sym (e ∙ gone))) ∙ k.laid.middle_home;
              writer_home = λ e. absurd (true≢false e);
              reader_home = λ e. let r = k.laid.reader_home e in (r.0, r.1, set_else s.homes v.writing.slot k.reader.slot none (λ q. k.laid.slots.ab (sym (q ∙ gone))) ∙ r.2);
              newest = k.laid.newest;
              old = k.laid.old;
              seen = k.laid.seen;
            };
          },
          λ _ _. (h.0, refl),
        )

    pub sits_reader : (slots id : ℕ) (m : Seated T) → m.0.reads ≡ true → m.0.reading.out ≡ false → Allows (Kept first) slots id m 0 (λ n. n) (sat_reader (step slots 0 0 0 none) m)
    sits_reader slots id m r_ok home s k len here small =
        let v = m.0 in
        let w : View T = record v { reading = record v.reading { out = true } } in
        let v_is : v.reading ≡ k.reader = (k.seats.two_held id v here r_ok).1 in
        let h : (x : T) × (v.reading.value ≡ Some x) × (get_elem? s.homes v.reading.slot ≡ some (some x))
        = subst (λ (z : Reading T). z.out ≡ false → (x : T) × (z.value ≡ Some x) × (get_elem? s.homes z.slot ≡ some (some x))) (sym v_is) k.laid.reader_home home in
        let gone : v.reading.slot ≡ k.reader.slot = ap (λ (z : Reading T). z.slot) v_is in (
          w,
          takes v.reading.slot h.0,
          h.2,
          record {
            writer = k.writer;
            reader = record k.reader { out = true };
            seats = two_changes has_writing writing has_reading reading s.views k.writer k.reader k.seats id v here w (record k.reader { out = true }) r_ok (ap (λ (z : Reading T). record z { out = true }) v_is) refl refl;
            first_is = k.first_is;
            stands = k.stands;
            counts = k.counts;
            middle = k.middle;
            fresh = k.fresh;
            word_is = ap (λ (ws : List ℕ). set ws 0 (get_or ws 0 0)) k.word_is;
            laid = record {
              slots = k.laid.slots;
              three = length-set s.homes v.reading.slot none ∙ k.laid.three;
              shown = k.laid.shown;
              middle_home = set_else s.homes v.reading.slot k.middle none (λ e. k.laid.slots.bc (sym (e ∙ gone))) ∙ k.laid.middle_home;
              writer_home = λ e. let r = k.laid.writer_home e in (r.0, set_else s.homes v.reading.slot k.writer.slot none (λ q. k.laid.slots.ab (q ∙ gone)) ∙ r.1);
              reader_home = λ e. absurd (true≢false e);
              newest = k.laid.newest;
              old = k.laid.old;
              seen = k.laid.seen;
            };
          },
          λ _ _. (h.0, h.1, refl),
        )
