-- What each word step of the client makes of the history, the words and the parts, if the client has not poked.
use Rattle.std.proofs.Common.{◌≡◌, ◌≢◌, ⊎_elim, ℕ, ◌+◌, ◌-◌, ◌%◌, ◌^◌, ◌<◌, ◌≤◌, if◌then◌else◌, ◌==◌, Bool, true, false, MatchBool, bit_and, List, ◌++◌, length, set, sym, refl, ap, ◌∙◌, subst, arith, length-set, length-append, append_assoc, get_or-set_other, get_or-set_same, get_or-append-add, eq-eqb, ne_eqb, eqb-true, mod-lt, mod-eq_of_lt, lt_of_not-le}
use Rattle.af_cblk.proofs.Common.{and_le_l, client_adds, client_releases, flush_number, flushes_are, flushes_of, point, taken_of, wrapped}
use mathlib.Core.Logic.{dite}
use native.Mathlib.Decide.{dec_le, ℕ_discrete}
use Rattle.af_base.specs.declared.event.ClientEvent.TheVariants as client
use Rattle.af_cblk.specs.declared.view.ClientPart.{ClientPart}
use Rattle.af_cblk.specs.declared.view.ServerPart.{ServerPart}
use Rattle.af_cblk.specs.declared.view.HandPart.{HandPart}
use Rattle.af_cblk.specs.Parts.{ahead, released, filled, room, number_at, Has, word_at, run_of, client_did, client_flushed, flush_amount, client_saw_front, cell_stored, rear_stored, recorded}
use Rattle.af_cblk.specs.Rule.{words_of, Stands}
use Rattle.af_cblk.specs.Shape.{most_flushes}
use Rattle.af_cblk.proofs.Sized.{IsSized}
use Rattle.af_cblk.proofs.Flushes.{flush_adds, word_fits, flush_asked}
use Rattle.af_cblk.proofs.Numbers.{twice, same_cell, ahead_is, apart, back, between, one_place}
use Rattle.af_cblk.proofs.Rows.{small_set, set_cell, run_length, run_at, run_fits, get_front, part_front}
use Rattle.af_cblk.proofs.QuietSteps.{at, turn_of, longer, quiet_client, same_word}

module _ (words : List ℕ) (c : ClientPart) (s : ServerPart) (h : HandPart) (i : Stands c.shape words c s h) where
  pub client_loads_front : Stands c.shape (set words 0 (at words 0)) (client_saw_front c (wrapped (at words 0))) s h
  client_loads_front =
      let n = at words 0 in
      let p = point i.history in
      let is : wrapped n ≡ wrapped p.consumed = twice n p.consumed (ap (λ (ws : List ℕ). at ws 0) i.words_are) in
      let y = i.client_knows in
      record {
        history = client_adds i.history (client.SawFront (wrapped n)) is refl;
        settled = i.settled;
        tally = i.tally;
        cells = i.cells;
        words_are = same_word 0 words ∙ i.words_are;
        tally_is = i.tally_is;
        small = i.small;
        mets = longer i.history.order (client.SawFront (wrapped n)) i.mets;
        learnt = i.learnt;
        flushed = i.flushed;
        flush_known = i.flush_known;
        client_knows = record {
          known = p.consumed;
          known_is = sym is;
          known_low = omega arith;
          known_room = (let a = y.known_room in let b = y.known_low in omega arith);
          stored_room = (λ x has. let a = y.stored_room x has in let b = y.known_low in omega arith);
          cells_are = y.cells_are;
          small = y.small;
          pending = y.pending;
          live = y.live;
        };
        server_knows = i.server_knows;
      }

  -- the client lies less than a room past the front that it saw
  pub filled_is : IsSized c.shape → filled c ≡ released c - i.client_knows.known
  filled_is shape =
      let y = i.client_knows in
      let r = i.history.released_is in
      let t = turn_of i in
      let front : wrapped y.known ≡ c.front = y.known_is in
      let low : y.known ≤ released c = (let a = y.known_low in let b = t.within in omega arith) in
      let few : c.shape.frames ≤ 65536 = (let a = shape.1 in let b = shape.2 in omega arith) in
      let high : released c ≤ y.known + 65536 = (let a = y.known_room in omega arith) in
      ap (λ (z : ℕ). ahead z (wrapped (released c))) (sym front) ∙ between y.known (released c) low high

  pub filled_fits : IsSized c.shape → filled c ≤ c.shape.frames
  filled_fits shape = let e = filled_is shape in let r = i.history.released_is in let a = i.client_knows.known_room in omega arith

  pub room_is : IsSized c.shape → (x : ℕ) → x < room c → released c + x < i.client_knows.known + c.shape.frames
  room_is shape x less =
      let e = filled_is shape in
      let r = i.history.released_is in
      let a = i.client_knows.known_room in
      let b = i.client_knows.known_low in
      let d = (turn_of i).within in
      omega arith

pub number_is : (c : ClientPart) → IsSized c.shape → (position : ℕ) → position < 2 ^ 32 → ahead (released c) position < room c
    → number_at c (position % c.shape.cells) ≡ length c.frames + ahead (released c) position
number_is c shape position small inside =
    let k = c.shape in
    let x = ahead (released c) position in
    let here : (released c + x) % k.cells ≡ position % k.cells = sym (same_cell (released c + x) shape.3.0 k.cells shape.3.1) ∙ ap (λ (z : ℕ). z % k.cells) (ahead_is (released c) position small) in
    let below : x < k.cells = (let a = inside in let b = shape.1 in omega arith) in
    ap (λ (z : ℕ). length c.frames + (z + (k.cells - released c % k.cells)) % k.cells) (sym here) ∙ ap (λ (z : ℕ). length c.frames + z) (back (released c) x k.cells below)

module _ (words : List ℕ) (c : ClientPart) (s : ServerPart) (h : HandPart) (i : Stands c.shape words c s h) (shape : IsSized c.shape) where
  pub client_stores_cell : (position word : ℕ) → position < 2 ^ 32 → word < 2 ^ 32 → ahead (released c) position < room c
      → Stands c.shape (set words (7 + position % c.shape.cells) word) (cell_stored c (position % c.shape.cells) word) s h
  client_stores_cell position word small fits inside =
      let k = c.shape in
      let p = point i.history in
      let y = i.client_knows in
      let t = turn_of i in
      let x = ahead (released c) position in
      let j = position % k.cells in
      let some_cells : 0 < k.cells = (let a = shape.0 in let b = shape.1 in omega arith) in
      let near : released c + x < y.known + k.frames = room_is words c s h i shape x inside in
      let here : (released c + x) % k.cells ≡ j = sym (same_cell (released c + x) shape.3.0 k.cells shape.3.1) ∙ ap (λ (z : ℕ). z % k.cells) (ahead_is (released c) position small) in
      let number : number_at c j ≡ length c.frames + x = number_is c shape position small inside in
      let within : j < length i.cells = (let a : j < k.cells = mod-lt position some_cells in let b = y.cells_are in omega arith) in
      record {
        history = i.history;
        settled = i.settled;
        tally = i.tally;
        cells = set i.cells j word;
        words_are = ap (λ (ws : List ℕ). set ws (7 + j) word) i.words_are ∙ set_cell p i.tally i.cells j word;
        tally_is = i.tally_is;
        small = i.small;
        mets = i.mets;
        learnt = i.learnt;
        flushed = i.flushed;
        flush_known = i.flush_known;
        client_knows = record {
          known = y.known;
          known_is = y.known_is;
          known_low = y.known_low;
          known_room = y.known_room;
          stored_room = (λ z has. ⊎_elim (λ (e : z ≡ number_at c j). let n : z ≡ length c.frames + x = e ∙ number in omega arith) (λ (old : Has c.stored z). y.stored_room z old) has);
          cells_are = length-set i.cells j word ∙ y.cells_are;
          small = small_set i.cells j word (2 ^ 32) fits within y.small;
          pending = (λ z low has. dite (ℕ_discrete z (number_at c j))
              (λ (e : z ≡ number_at c j).
              let place : (k.base + z) % k.cells ≡ j = ap (λ (n : ℕ). n % k.cells) (let n : z ≡ length c.frames + x = e ∙ number in let g : k.base + z ≡ released c + x = omega arith in g) ∙ here in
              ap (λ (n : ℕ). at (set i.cells j word) n) place ∙ get_or-set_same i.cells j word 0 within
              ∙ ap (λ (b : Bool). if b then word else word_at c.stored z) (sym (eq-eqb z (number_at c j) e)))
              (λ (not : z ≢ number_at c j).
              let old : Has c.stored z = ⊎_elim (λ (e : z ≡ number_at c j). absurd (not e)) (λ (o : Has c.stored z). o) has in
              let high : k.base + z < y.known + k.frames = y.stored_room z old in
              let q : ℕ = k.base + z in
              let r = i.history.released_is in
              let low' : y.known ≤ q = (let a = y.known_low in let b = t.within in omega arith) in
              let other : q % k.cells ≢ j = (λ e. not (let same : q ≡ released c + x = one_place q (released c + x) k.cells y.known k.frames shape.1 low' high (let a = y.known_low in let b = t.within in omega arith) near (e ∙ sym here) in let g : z ≡ length c.frames + x = omega arith in g ∙ sym number)) in
              get_or-set_other i.cells j (q % k.cells) word 0 other ∙ y.pending z low old
              ∙ ap (λ (b : Bool). if b then word else word_at c.stored z) (sym (ne_eqb z (number_at c j) not))));
          live = (λ q low high.
              let r = i.history.released_is in
              let first : q < released c + x = omega arith in
              let turn : released c + x < q + k.cells = (let a = y.known_low in let b = shape.1 in omega arith) in
              let other : q % k.cells ≢ j = (λ e. apart q (released c + x) k.cells first turn (e ∙ sym here)) in
              get_or-set_other i.cells j (q % k.cells) word 0 other ∙ y.live q low high);
        };
        server_knows = i.server_knows;
      }

module _ (words : List ℕ) (c : ClientPart) (s : ServerPart) (h : HandPart) (i : Stands c.shape words c s h) where
  pub client_stores_rear : (count : ℕ) → ((j : ℕ) → j < count → Has c.stored (length c.frames + j))
      → Stands c.shape (set words 1 (wrapped (released c + count))) (rear_stored c count) s h
  client_stores_rear count has =
      let k = c.shape in
      let p = point i.history in
      let y = i.client_knows in
      let t = turn_of i in
      let v = i.server_knows in
      let r : p.released ≡ k.base + length c.frames = i.history.released_is in
      let fs = run_of c.stored (length c.frames) count in
      let long : length (c.frames ++ fs) ≡ length c.frames + count = length-append c.frames fs ∙ ap (λ (z : ℕ). length c.frames + z) (run_length c.stored (length c.frames) count) in
      record {
        history = client_releases i.history count fs (omega arith) (i.settled fs);
        settled = (λ more. ap (λ (l : List ℕ). taken_of l k i.history.order) (append_assoc c.frames fs more) ∙ i.settled (fs ++ more) ∙ sym (i.settled fs));
        tally = i.tally;
        cells = i.cells;
        words_are = ap (λ (ws : List ℕ). set ws 1 (wrapped (released c + count))) i.words_are ∙ ap (λ (z : ℕ). words_of (record p { released = z + count }) i.tally i.cells) (sym r);
        tally_is = i.tally_is;
        small = i.small;
        mets = longer i.history.order (client.Release count) i.mets;
        learnt = i.learnt;
        flushed = i.flushed;
        flush_known = i.flush_known;
        client_knows = record {
          known = y.known;
          known_is = y.known_is;
          known_low = y.known_low;
          known_room = (let a = run_fits c.stored k.base (length c.frames) count (y.known + k.frames) y.stored_room (let b = y.known_room in omega arith) has in omega arith);
          stored_room = y.stored_room;
          cells_are = y.cells_are;
          small = y.small;
          pending = (λ z low old. y.pending z (omega arith) old);
          live = (λ q low high.
              let from : k.base ≤ q = (let a = t.from_base in omega arith) in
              dite (dec_le (released c) q)
              (λ (new : released c ≤ q).
              let j : ℕ = q - released c in
              let place : q - k.base ≡ length c.frames + j = omega arith in
              let pos : k.base + (length c.frames + j) ≡ q = omega arith in
              ap (λ (z : ℕ). at i.cells (z % k.cells)) (sym pos)
              ∙ y.pending (length c.frames + j) (omega arith) (has j (omega arith))
              ∙ sym (ap (λ (z : ℕ). at (c.frames ++ fs) z) place ∙ get_or-append-add c.frames (run_of c.stored (length c.frames) count) j 0 ∙ run_at c.stored (length c.frames) count j (omega arith)))
              (λ not. let old : q < released c = lt_of_not-le not in
              y.live q low (omega arith) ∙ sym (get_front c.frames fs (q - k.base) (omega arith))));
        };
        server_knows = record {
          rear_is = v.rear_is;
          front_is = v.front_is;
          loaded_is = (λ n few seen. v.loaded_is n few seen ∙ sym (part_front (p.consumed - k.base) n c.frames fs (let a = t.from_base in let b = t.to_released in omega arith)));
        };
      }

  -- the word of the flags is that of the history's last point
  pub flags_seen : wrapped (at words 4) ≡ (point i.history).flags
  flags_seen = ap (λ (ws : List ℕ). wrapped (at ws 4)) i.words_are ∙ mod-eq_of_lt i.small.flags_fit

  pub client_loads_flags : Stands c.shape (set words 4 (at words 4)) (client_did c (client.SawFlags (recorded (wrapped (at words 4))))) s h
  client_loads_flags =
      let p = point i.history in
      quiet_client c.shape words (set words 4 (at words 4)) c s h i (client.SawFlags (recorded (wrapped (at words 4)))) (noted (wrapped (at words 4)) p.flags flags_seen (bit_and (wrapped (at words 4)) 4 == 0) refl) refl
      (i.tally, same_word 4 words ∙ i.words_are, i.tally_is, i.small)
    where
      noted : (f flags : ℕ) → f ≡ flags → (b : Bool) → (bit_and f 4 == 0) ≡ b
          → MatchBool (bit_and (if b then 0 else f) 4 == 0) (bit_and flags 4 ≡ 0) ((if b then 0 else f) ≡ flags)
      noted f flags is true e = ap (λ (z : ℕ). bit_and z 4) (sym is) ∙ eqb-true (bit_and f 4) 0 e
      noted f flags is false e = subst (λ (b : Bool). MatchBool b (bit_and flags 4 ≡ 0) (f ≡ flags)) (sym e) is

  pub client_loads_status : Stands c.shape (set words 6 (at words 6)) (client_did c (client.SawStatus (wrapped (at words 6)))) s h
  client_loads_status =
      let p = point i.history in
      let held : at words 6 ≡ p.status = ap (λ (ws : List ℕ). at ws 6) i.words_are in
      quiet_client c.shape words (set words 6 (at words 6)) c s h i (client.SawStatus (wrapped (at words 6))) (ap wrapped held ∙ mod-eq_of_lt i.small.status_fit) refl
      (i.tally, same_word 6 words ∙ i.words_are, i.tally_is, i.small)

  pub client_flushes : flushes_of c.events < most_flushes c.shape.wrap → (amount : ℕ) → amount ≡ flush_amount c → Stands c.shape (set words 2 ((at words 2 + amount) % 2 ^ 64)) (client_flushed c) s h
  client_flushes few amount is =
      let k = c.shape in
      let p = point i.history in
      let t = turn_of i in
      let r : p.released ≡ released c = i.history.released_is in
      let count : p.flushes ≡ flushes_of c.events = flushes_are k i.history.order ∙ ap flushes_of i.history.client_is in
      let room : p.flushes < most_flushes k.wrap = subst (λ (n : ℕ). n < most_flushes k.wrap) (sym count) few in
      let held : at words 2 ≡ flush_number k.wrap p.flushes c.flush_at = ap (λ (ws : List ℕ). at ws 2) i.words_are ∙ ap (λ (x : ℕ × ℕ). flush_number x.0 p.flushes x.1) (λ n. (t.wrap_is n, i.flushed n)) in
      let next : (at words 2 + amount) % 2 ^ 64 ≡ flush_number p.wrap (p.flushes + 1) p.released =
      ap (λ (x : ℕ × ℕ). (x.0 + x.1) % 2 ^ 64) (λ n. (held n, is n)) ∙ flush_adds k.wrap p.flushes c.flush_at (released c) room
      ∙ ap (λ (x : ℕ × ℕ). flush_number x.0 (p.flushes + 1) x.1) (λ n. (sym t.wrap_is n, sym r n)) in
      record {
        history = client_adds i.history client.Flush tt refl;
        settled = i.settled;
        tally = i.tally;
        cells = i.cells;
        words_are = ap (λ (z : ℕ). set words 2 z) next ∙ ap (λ (ws : List ℕ). set ws 2 (flush_number p.wrap (p.flushes + 1) p.released)) i.words_are;
        tally_is = i.tally_is;
        small = record {
          flush_fits = subst (λ (w : ℕ). flush_number w (p.flushes + 1) p.released < 2 ^ 32) (sym t.wrap_is) (word_fits k.wrap p.flushes p.released room);
          flags_fit = i.small.flags_fit;
          gains_fit = i.small.gains_fit;
          status_fit = i.small.status_fit;
        };
        mets = longer i.history.order client.Flush i.mets;
        learnt = i.learnt;
        flushed = r;
        flush_known = (λ placed. flush_asked k _ _ _ _ _ _ _ _ _ _ (i.flush_known placed) p.released t.within);
        client_knows = i.client_knows;
        server_knows = i.server_knows;
      }

  pub client_stores_gain : (word : ℕ) → word < 2 ^ 32 → Stands c.shape (set words 5 word) (client_did c (client.SetGain word)) s h
  client_stores_gain word fits =
      quiet_client c.shape words (set words 5 word) c s h i (client.SetGain word) tt refl (
        i.tally,
        ap (λ (ws : List ℕ). set ws 5 word) i.words_are,
        i.tally_is,
        record { flush_fits = i.small.flush_fits; flags_fit = i.small.flags_fit; gains_fit = fits; status_fit = i.small.status_fit },
      )

  pub client_clears_flags : Stands c.shape (set words 4 (bit_and (at words 4) 4294967287)) (client_did c (client.ClearFlags (wrapped (at words 4)))) s h
  client_clears_flags =
      let p = point i.history in
      let held : at words 4 ≡ p.flags = ap (λ (ws : List ℕ). at ws 4) i.words_are in
      quiet_client c.shape words (set words 4 (bit_and (at words 4) 4294967287)) c s h i (client.ClearFlags (wrapped (at words 4))) (ap wrapped held ∙ mod-eq_of_lt i.small.flags_fit) refl (
        i.tally,
        ap (λ (ws : List ℕ). set ws 4 (bit_and (at ws 4) 4294967287)) i.words_are,
        i.tally_is,
        record { flush_fits = i.small.flush_fits; flags_fit = (let a = and_le_l p.flags 4294967287 in let b = i.small.flags_fit in omega arith); gains_fit = i.small.gains_fit; status_fit = i.small.status_fit },
      )
