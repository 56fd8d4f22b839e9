-- Each step of the cell keeps its rule.
use Rattle.std.proofs.Common.{◌≡◌, ℕ, ◌+◌, ◌%◌, ◌<◌, ◌≤◌, Bool, true, false, true≢false, List, [], ◌∷◌, ◌++◌, length, set, get_or, sym, refl, ap, ◌∙◌, subst, arith, length-set, length-append, Some}
use Rattle.af_base.proofs.Basics.{some_same}
use mathlib.Core.Option.{none, some}
use lib.ListN.{get_elem?}
use Rattle.atomic_table.specs.Table.{State, step, Act, keeps, takes, gives, chain, carried_after, Valid, stepped, Allows}
use Rattle.atomic_table.proofs.Lists.{set_here, set_else}
use Rattle.af_latest.specs.declared.view.View.{View}
use Rattle.af_latest.specs.declared.view.Writing.{Writing}
use Rattle.af_latest.specs.declared.view.Reading.{Reading}
use Rattle.af_model.specs.declared.newest.WriterEvent.{WriterEvent}
use Rattle.af_model.specs.declared.newest.WriterEvent.TheVariants.{Store}
use Rattle.af_model.specs.declared.newest.WriterEvent.TheVariants as writes
use Rattle.af_model.specs.declared.newest.ReaderEvent.{ReaderEvent}
use Rattle.af_model.specs.declared.newest.ReaderEvent.TheVariants.{Load}
use Rattle.af_model.specs.declared.newest.ReaderEvent.TheVariants as reads
use Rattle.af_model.specs.Order.{one, two}
use Rattle.af_model.specs.Parties.{AreHeld, Stands}
use Rattle.af_model.proofs.PartySteps.{one_changes, two_changes, both_change, stand_one, stand_two}
use Rattle.af_model.specs.NewestValue.{CellPoint, start_value, legal_value, next_value, HasValueHistory}
use Rattle.af_latest.specs.Ends.{last_number}
use Rattle.af_latest.specs.Rule.{code, has_writing, writing, has_reading, reading, Apart, known_by, AreLaid, Kept, Seated, stored, looked, fetched, met}

pub code_mod : (k : ℕ) (f : Bool) → k < 3 → code k f % 4 ≡ k
code_mod k true h = omega arith
code_mod k false h = omega arith

module _ {T : Type 0} where
  pub last_load : (n : ℕ) (es : List (ReaderEvent T)) (m : ℕ) (x : T) → last_number n (es ++ Load m x ∷ []) ≡ m
  last_load n [] m x = refl
  last_load n (Load k y ∷ es) m x = last_load k es m x
  last_load n (reads.Learn c ∷ es) m x = last_load n es m x

  pub last_learn : (n : ℕ) (es : List (ReaderEvent T)) (c : ℕ) → last_number n (es ++ reads.Learn c ∷ []) ≡ last_number n es
  last_learn n [] c = refl
  last_learn n (Load k y ∷ es) c = last_learn k es c
  last_learn n (reads.Learn d ∷ es) c = last_learn n es c

module _ {T : Type 0} (first : T) where
  module _ (s : State T (View T)) (k : Kept first s) (id : ℕ) (v : View T) (here : get_elem? s.views id ≡ some v) where
    writer_is : v.writes ≡ true → v.writing ≡ k.writer
    writer_is w = (k.seats.one_held id v here w).1

    reader_is : v.reads ≡ true → v.reading ≡ k.reader
    reader_is r = (k.seats.two_held id v here r).1

    same_word : (n : ℕ) → set s.words 0 n ≡ n ∷ []
    same_word n = ap (λ (ws : List ℕ). set ws 0 n) k.word_is

    no_word : set s.words 0 (get_or s.words 0 0) ≡ code k.middle k.fresh ∷ []
    no_word = ap (λ (ws : List ℕ). set ws 0 (get_or ws 0 0)) k.word_is

    found : get_or s.words 0 0 ≡ code k.middle k.fresh
    found = ap (λ (ws : List ℕ). get_or ws 0 0) k.word_is

    abbrev p : CellPoint T
    p = k.stands.point

    -- one event more
    abbrev more_w : (e : WriterEvent T) → legal_value p (one e) → Stands legal_value next_value (start_value first) (k.writer.events ++ e ∷ []) k.reader.events
    more_w e l = stand_one legal_value next_value (start_value first) k.writer.events k.reader.events k.stands e l

    abbrev more_r : (e : ReaderEvent T) → legal_value p (two e) → Stands legal_value next_value (start_value first) k.writer.events (k.reader.events ++ e ∷ [])
    more_r e l = stand_two legal_value next_value (start_value first) k.writer.events k.reader.events k.stands e l

    w_counts : (e : WriterEvent T) → (p.writes + 1 ≡ length (k.writer.events ++ e ∷ [])) × (p.reads ≡ length k.reader.events)
    w_counts e = (ap (λ (z : ℕ). z + 1) k.counts.0 ∙ sym (length-append k.writer.events (e ∷ [])), k.counts.1)

    r_counts : (e : ReaderEvent T) → (p.writes ≡ length k.writer.events) × (p.reads + 1 ≡ length (k.reader.events ++ e ∷ []))
    r_counts e = (k.counts.0, ap (λ (z : ℕ). z + 1) k.counts.1 ∙ sym (length-append k.reader.events (e ∷ [])))

    -- only the writer's view changes, only the reader's
    seat_w : (w : View T) (x : Writing T) → v.writes ≡ true → w.writing ≡ x → w.reads ≡ v.reads → w.reading ≡ v.reading → AreHeld has_writing writing has_reading reading (set s.views id w) x k.reader
    seat_w = one_changes has_writing writing has_reading reading s.views k.writer k.reader k.seats id v here

    seat_r : (w : View T) (x : Reading T) → v.reads ≡ true → w.reading ≡ x → w.writes ≡ v.writes → w.writing ≡ v.writing → AreHeld has_writing writing has_reading reading (set s.views id w) k.writer x
    seat_r = two_changes has_writing writing has_reading reading s.views k.writer k.reader k.seats id v here

    -- the reader has loaded no later value than the last
    upto : (f : Bool) → k.fresh ≡ f → last_number 0 k.reader.events ≤ p.number
    upto true is = let h = (k.laid.newest is).1 in omega arith
    upto false is = let h = (k.laid.old is).1 in omega arith

    -- the writer's swap
    module _ (w_ok : v.writes ≡ true) (a : ℕ) (x : T) (a_is : a ≡ v.writing.slot) where
      abbrev new_writer : Writing T
      new_writer = record { first = k.writer.first; events = k.writer.events ++ Store x ∷ []; slot = k.middle; out = true }

      abbrev new_view : View T
      new_view = record v { writing = new_writer }

      stores : (new : ℕ) → new ≡ a + 4 → Kept first (stepped s 0 new id ((a, x) ∷ []) new_view (chain gives (takes k.middle k.laid.shown)))
      stores new is =
          let a_k : a ≡ k.writer.slot = a_is ∙ ap (λ (z : Writing T). z.slot) (writer_is w_ok) in
          let ap_ : Apart a k.reader.slot k.middle = subst (λ (z : ℕ). Apart z k.reader.slot k.middle) (sym a_k) k.laid.slots in
          let small : a < 3 = ap_.small_a in
          let hs : List (mathlib.Core.Option.Option T) = set s.homes a (some x) in
          let wide : a < length s.homes = subst (λ (z : ℕ). a < z) (sym k.laid.three) small in
          record {
            writer = new_writer;
            reader = k.reader;
            seats = seat_w new_view new_writer w_ok refl refl refl;
            first_is = k.first_is;
            stands = more_w (Store x) tt;
            counts = w_counts (Store x);
            middle = a;
            fresh = true;
            word_is = same_word new ∙ ap (λ (z : ℕ). z ∷ []) is;
            laid = record {
              slots = record { small_a = ap_.small_c; small_b = ap_.small_b; small_c = small; ab = λ e. ap_.bc (sym e); ac = λ e. ap_.ac (sym e); bc = λ e. ap_.ab (sym e) };
              three = length-set hs k.middle none ∙ length-set s.homes a (some x) ∙ k.laid.three;
              shown = x;
              middle_home = set_else hs k.middle a none ap_.ac ∙ set_here s.homes a (some x) wide;
              writer_home = λ e. absurd (true≢false e);
              reader_home = λ e. let h = k.laid.reader_home e in (h.0, h.1, set_else hs k.middle k.reader.slot none ap_.bc ∙ set_else s.homes a k.reader.slot (some x) (λ z. ap_.ab (sym z)) ∙ h.2);
              newest = λ _. (refl, (let h = upto k.fresh refl in omega arith));
              old = λ e. absurd (true≢false e);
              seen = λ _. refl;
            };
          }

  pub stores_allowed : (slots id new : ℕ) (v : View T) (a : ℕ) (x : T) → v.writes ≡ true → a ≡ v.writing.slot → new ≡ a + 4
      → Allows (Kept first) slots id (v, (a, x) ∷ []) 0 (λ _. new) (stored (step slots 0 new 0 none) (v, (a, x) ∷ []))
  stores_allowed slots id new v a x w_ok a_is is s k len here small =
      let r_is : get_or s.words 0 0 % 4 ≡ k.middle = ap (λ (z : ℕ). z % 4) (found s k id v here) ∙ code_mod k.middle k.fresh k.laid.slots.small_c in
      let v_is : v.writing ≡ k.writer = writer_is s k id v here w_ok in
      let y : T = k.laid.shown in
      let a_k : a ≡ k.writer.slot = a_is ∙ ap (λ (z : Writing T). z.slot) v_is in
      let home : get_elem? (set s.homes a (some x)) k.middle ≡ some (some y) = set_else s.homes a k.middle (some x) (λ e. k.laid.slots.ac (sym (e ∙ a_k))) ∙ k.laid.middle_home in (
        new_view s k id v here w_ok a x a_is,
        chain gives (takes k.middle y),
        (tt, home),
        stores s k id v here w_ok a x a_is new is,
        λ x' e. let x_is : x ≡ x' = ap (λ (l : List (ℕ × T)). (get_or l 0 (0, x)).1) e in (
          y,
          subst (λ (z : ℕ). z < 3) (sym r_is) k.laid.slots.small_c,
          λ i. (record v { writing = record { first = (sym v_is i).first; events = (sym v_is i).events ++ Store (x_is i) ∷ []; slot = sym r_is i; out = true } }, (sym r_is i, y) ∷ []),
        ),
      )

  module _ (s : State T (View T)) (k : Kept first s) (id : ℕ) (v : View T) (here : get_elem? s.views id ≡ some v) (r_ok : v.reads ≡ true) where
    -- the look that finds the reader's own value the newest
    abbrev look_view : View T
    look_view = record v { reading = record k.reader { events = k.reader.events ++ Load k.stands.point.number k.stands.point.value ∷ [] } }

    looks_old : k.fresh ≡ false → (cs : List (ℕ × T)) → Kept first (stepped s 0 (get_or s.words 0 0) id cs look_view keeps)
    looks_old is cs = record {
      writer = k.writer;
      reader = look_view.reading;
      seats = seat_r s k id v here look_view look_view.reading r_ok refl refl refl;
      first_is = k.first_is;
      stands = more_r s k id v here (Load k.stands.point.number k.stands.point.value) (refl, refl);
      counts = r_counts s k id v here (Load k.stands.point.number k.stands.point.value);
      middle = k.middle;
      fresh = k.fresh;
      word_is = no_word s k id v here;
      laid = record {
        slots = k.laid.slots;
        three = k.laid.three;
        shown = k.laid.shown;
        middle_home = k.laid.middle_home;
        writer_home = k.laid.writer_home;
        reader_home = k.laid.reader_home;
        newest = λ e. absurd (true≢false (sym e ∙ is));
        old = λ _. ((k.laid.old is).0, last_load 0 k.reader.events k.stands.point.number k.stands.point.value);
        seen = k.laid.seen;
      };
    }

    -- the look that finds a fresh value
    abbrev see_view : View T
    see_view = record v { reading = record v.reading { fresh = true } }

    looks_fresh : k.fresh ≡ true → (cs : List (ℕ × T)) → Kept first (stepped s 0 (get_or s.words 0 0) id cs see_view keeps)
    looks_fresh is cs = record {
      writer = k.writer;
      reader = record k.reader { fresh = true };
      seats = seat_r s k id v here see_view (record k.reader { fresh = true }) r_ok (ap (λ (z : Reading T). record z { fresh = true }) (reader_is s k id v here r_ok)) refl refl;
      first_is = k.first_is;
      stands = k.stands;
      counts = k.counts;
      middle = k.middle;
      fresh = k.fresh;
      word_is = no_word s k id v here;
      laid = record {
        slots = k.laid.slots;
        three = k.laid.three;
        shown = k.laid.shown;
        middle_home = k.laid.middle_home;
        writer_home = k.laid.writer_home;
        reader_home = k.laid.reader_home;
        newest = k.laid.newest;
        old = k.laid.old;
        seen = λ _. is;
      };
    }

    looks_by : (slots : ℕ) (cs : List (ℕ × T)) (f : Bool) → k.fresh ≡ f → (w : View T) × (a : Act T) × Valid s.homes cs a × Kept first (stepped s 0 (get_or s.words 0 0) id cs w a)
        × looked (step slots 0 0 0 none) (v, cs) (get_or s.words 0 0) (w, carried_after cs a)
    looks_by slots cs true is = (
      see_view,
      keeps,
      tt,
      looks_fresh is cs,
      ((λ _. refl), λ low. let e : get_or s.words 0 0 ≡ k.middle + 4 = found s k id v here ∙ ap (code k.middle) is in absurd (omega arith)),
    )
    looks_by slots cs false is = let v_is : v.reading ≡ k.reader = reader_is s k id v here r_ok in (
      look_view,
      keeps,
      tt,
      looks_old is cs,
      (
        (λ high. let e : get_or s.words 0 0 ≡ k.middle = found s k id v here ∙ ap (code k.middle) is in let small : k.middle < 3 = k.laid.slots.small_c in absurd (omega arith)),
        λ _. (
          k.stands.point.number,
          k.stands.point.value,
          sym (ap (λ (z : Reading T). last_number 0 z.events) v_is ∙ (k.laid.old is).1),
          ap (λ (z : Reading T). z.value) v_is ∙ (k.laid.old is).0,
          λ i. (record v { reading = record ((sym v_is) i) { events = (sym v_is i).events ++ Load k.stands.point.number k.stands.point.value ∷ [] } }, cs),
        ),
      ),
    )

  pub looks_allowed : (slots id : ℕ) (m : Seated T) → m.0.reads ≡ true → Allows (Kept first) slots id m 0 (λ n. n) (looked (step slots 0 0 0 none) m)
  looks_allowed slots id m r_ok s k len here small = looks_by s k id m.0 here r_ok slots m.1 k.fresh refl

  -- the reader's swap
  module _ (s : State T (View T)) (k : Kept first s) (id : ℕ) (v : View T) (here : get_elem? s.views id ≡ some v) (r_ok : v.reads ≡ true) (b : ℕ) (z : T) (b_is : b ≡ v.reading.slot) where
    abbrev new_reader : Reading T
    new_reader = record { events = k.reader.events ++ Load k.stands.point.number k.laid.shown ∷ []; slot = k.middle; out = true; value = Some k.laid.shown; fresh = false }

    abbrev fetch_view : View T
    fetch_view = record v { reading = new_reader }

    fetches : k.fresh ≡ true → Kept first (stepped s 0 b id ((b, z) ∷ []) fetch_view (chain gives (takes k.middle k.laid.shown)))
    fetches is =
        let b_k : b ≡ k.reader.slot = b_is ∙ ap (λ (y : Reading T). y.slot) (reader_is s k id v here r_ok) in
        let ap_ : Apart k.writer.slot b k.middle = subst (λ (y : ℕ). Apart k.writer.slot y k.middle) (sym b_k) k.laid.slots in
        let small : b < 3 = ap_.small_b in
        let hs : List (mathlib.Core.Option.Option T) = set s.homes b (some z) in
        let wide : b < length s.homes = subst (λ (y : ℕ). b < y) (sym k.laid.three) small in
        record {
          writer = k.writer;
          reader = new_reader;
          seats = seat_r s k id v here fetch_view new_reader r_ok refl refl refl;
          first_is = k.first_is;
          stands = more_r s k id v here (Load k.stands.point.number k.laid.shown) (refl, (k.laid.newest is).0);
          counts = r_counts s k id v here (Load k.stands.point.number k.laid.shown);
          middle = b;
          fresh = false;
          word_is = same_word s k id v here b;
          laid = record {
            slots = record { small_a = ap_.small_a; small_b = ap_.small_c; small_c = small; ab = ap_.ac; ac = ap_.ab; bc = λ e. ap_.bc (sym e) };
            three = length-set hs k.middle none ∙ length-set s.homes b (some z) ∙ k.laid.three;
            shown = z;
            middle_home = set_else hs k.middle b none ap_.bc ∙ set_here s.homes b (some z) wide;
            writer_home = λ e. let h = k.laid.writer_home e in (h.0, set_else hs k.middle k.writer.slot none ap_.ac ∙ set_else s.homes b k.writer.slot (some z) ap_.ab ∙ h.1);
            reader_home = λ e. absurd (true≢false e);
            newest = λ e. absurd (true≢false (sym e));
            old = λ _. (ap Some (k.laid.newest is).0, last_load 0 k.reader.events k.stands.point.number k.laid.shown);
            seen = λ e. absurd (true≢false (sym e));
          };
        }

  pub fetches_allowed : (slots id new : ℕ) (v : View T) (b : ℕ) (z : T) → v.reads ≡ true → v.reading.fresh ≡ true → b ≡ v.reading.slot → new ≡ b
      → Allows (Kept first) slots id (v, (b, z) ∷ []) 0 (λ _. new) (fetched (step slots 0 new 0 none) (v, (b, z) ∷ []))
  fetches_allowed slots id new v b z r_ok f_ok b_is is s k len here small =
      let v_is : v.reading ≡ k.reader = reader_is s k id v here r_ok in
      let fresh : k.fresh ≡ true = k.laid.seen (ap (λ (y : Reading T). y.fresh) (sym v_is) ∙ f_ok) in
      let e : get_or s.words 0 0 ≡ k.middle + 4 = found s k id v here ∙ ap (code k.middle) fresh in
      let low : k.middle < 3 = k.laid.slots.small_c in
      let r_is : get_or s.words 0 0 % 4 ≡ k.middle = ap (λ (y : ℕ). y % 4) (found s k id v here) ∙ code_mod k.middle k.fresh low in
      let b_k : b ≡ k.reader.slot = b_is ∙ ap (λ (y : Reading T). y.slot) v_is in
      let home : get_elem? (set s.homes b (some z)) k.middle ≡ some (some k.laid.shown) = set_else s.homes b k.middle (some z) (λ q. k.laid.slots.bc (sym (q ∙ b_k))) ∙ k.laid.middle_home in (
        fetch_view s k id v here r_ok b z b_is,
        chain gives (takes k.middle k.laid.shown),
        (tt, home),
        subst (λ (n : ℕ). Kept first (stepped s 0 n id ((b, z) ∷ []) (fetch_view s k id v here r_ok b z b_is) (chain gives (takes k.middle k.laid.shown)))) (sym is) (fetches s k id v here r_ok b z b_is fresh),
        (
          k.stands.point.number,
          k.laid.shown,
          subst (λ (y : Reading T). last_number 0 y.events < k.stands.point.number) (sym v_is) (k.laid.newest fresh).1,
          omega arith,
          omega arith,
          λ i. (record v { reading = record { events = (sym v_is i).events ++ Load k.stands.point.number k.laid.shown ∷ []; slot = sym r_is i; out = true; value = Some k.laid.shown; fresh = false } }, (sym r_is i, k.laid.shown) ∷ []),
        ),
      )

  -- the load at which both learn
  module _ (s : State T (View T)) (k : Kept first s) (id : ℕ) (v : View T) (here : get_elem? s.views id ≡ some v) (w_ok : v.writes ≡ true) (r_ok : v.reads ≡ true) where
    abbrev met_writer : Writing T
    met_writer = record k.writer { events = k.writer.events ++ writes.Learn (length k.reader.events) ∷ [] }

    abbrev met_reader : Reading T
    met_reader = record k.reader { events = k.reader.events ++ reads.Learn (length k.writer.events) ∷ [] }

    abbrev met_view : View T
    met_view = record v { writing = met_writer; reading = met_reader }

    -- the lists with what was learnt have a history
    abbrev met_stands : Stands legal_value next_value (start_value first) met_writer.events met_reader.events
    met_stands = stand_two legal_value next_value (start_value first) met_writer.events k.reader.events
        (more_w s k id v here (writes.Learn (length k.reader.events)) (let c = k.counts.1 in omega arith)) (reads.Learn (length k.writer.events)) (let c = k.counts.0 in omega arith)

    meets : (cs : List (ℕ × T)) → Kept first (stepped s 0 (get_or s.words 0 0) id cs met_view keeps)
    meets cs =
        record {
          writer = met_writer;
          reader = met_reader;
          seats = both_change has_writing writing has_reading reading s.views k.writer k.reader k.seats id v here met_view met_writer met_reader w_ok r_ok refl refl;
          first_is = k.first_is;
          stands = met_stands;
          counts = ((w_counts s k id v here (writes.Learn (length k.reader.events))).0, (r_counts s k id v here (reads.Learn (length k.writer.events))).1);
          middle = k.middle;
          fresh = k.fresh;
          word_is = no_word s k id v here;
          laid = subst (λ (n : ℕ). AreLaid record (known_by k.writer k.reader k.stands.point) { loaded = n } k.middle k.fresh s.homes) (sym (last_learn 0 k.reader.events (length k.writer.events))) k.laid;
        }

  pub meets_allowed : (slots id : ℕ) (m : Seated T) → m.0.writes ≡ true → m.0.reads ≡ true → Allows (Kept first) slots id m 0 (λ n. n) (met (step slots 0 0 0 none) m)
  meets_allowed slots id m w_ok r_ok s k len here small =
      let v = m.0 in
      let w_is : k.writer ≡ v.writing = sym (writer_is s k id v here w_ok) in
      let r_is : k.reader ≡ v.reading = sym (reader_is s k id v here r_ok) in (
        met_view s k id v here w_ok r_ok,
        keeps,
        tt,
        meets s k id v here w_ok r_ok m.1,
        (
          (λ x e. subst (λ (q : T × Writing T × Reading T). HasValueHistory q.0 q.1.events q.2.events × HasValueHistory q.0 (q.1.events ++ writes.Learn (length q.2.events) ∷ []) (q.2.events ++ reads.Learn (length q.1.events) ∷ []))
              (λ i. (some_same first x (sym k.first_is ∙ ap (λ (y : Writing T). y.first) w_is ∙ e) i, w_is i, r_is i)) (k.stands.history, (met_stands s k id v here w_ok r_ok).history)),
          λ i. (
            record v {
              writing = record (w_is i) { events = (w_is i).events ++ writes.Learn (length (r_is i).events) ∷ [] };
              reading = record (r_is i) { events = (r_is i).events ++ reads.Learn (length (w_is i).events) ∷ [] };
            },
            m.1,
          ),
        ),
      )

  -- the same for a seat whose list of slots is known by an equation
  pub stores_at : (slots id new : ℕ) (m : Seated T) (a : ℕ) (x : T) → m.0.writes ≡ true → m.1 ≡ (a, x) ∷ [] → a ≡ m.0.writing.slot → new ≡ a + 4 → Allows (Kept first) slots id m 0 (λ _. new) (stored (step slots 0 new 0 none) m)
  stores_at slots id new m a x w_ok e a_is is = subst (λ (cs : List (ℕ × T)). Allows (Kept first) slots id (m.0, cs) 0 (λ _. new) (stored (step slots 0 new 0 none) (m.0, cs))) (sym e) (stores_allowed slots id new m.0 a x w_ok a_is is)

  pub fetches_at : (slots id new : ℕ) (m : Seated T) (b : ℕ) (z : T) → m.0.reads ≡ true → m.0.reading.fresh ≡ true → m.1 ≡ (b, z) ∷ [] → b ≡ m.0.reading.slot → new ≡ b
      → Allows (Kept first) slots id m 0 (λ _. new) (fetched (step slots 0 new 0 none) m)
  fetches_at slots id new m b z r_ok f_ok e b_is is = subst (λ (cs : List (ℕ × T)). Allows (Kept first) slots id (m.0, cs) 0 (λ _. new) (fetched (step slots 0 new 0 none) (m.0, cs))) (sym e) (fetches_allowed slots id new m.0 b z r_ok f_ok b_is is)
