-- What each word step of the server makes of the history, the words and the parts, if the client has not poked.
use Rattle.std.proofs.Common.{subst, ◌≡◌, ◌≢◌, ◌*◌, eq-eqb, ne_eqb, ℕ, ◌+◌, ◌-◌, ◌%◌, ◌^◌, ◌<◌, ◌≤◌, if◌then◌else◌, ◌==◌, Bool, true, false, bit_or, List, [], ◌∷◌, ◌++◌, length, set, take, drop, sym, refl, ap, ◌∙◌, arith, length-append, eqb-true, mod-eq_of_lt, lt_of_not-le}
use Rattle.af_cblk.proofs.Common.{ServerEvent, drop_end, drop_flat, drop_low, drop_placed, drop_released, flush_number, flush_position, flush_word, or_of_32, past_front, point, server_adds, take-append-le, taken_of, wrapped}
use mathlib.Core.Logic.{dite}
use native.Mathlib.Decide.{dec_le, ℕ_discrete}
use Rattle.af_base.specs.declared.event.ServerEvent.TheVariants as server
use Rattle.af_cblk.specs.declared.view.ClientPart.{ClientPart}
use Rattle.af_cblk.specs.declared.view.ServerPart.{ServerPart}
use Rattle.af_cblk.specs.declared.view.HandPart.{HandPart}
use Rattle.af_cblk.specs.Parts.{ahead, server_did, saw_flush, saw_rear, server_saw_front, saw_cell, took, dropped, drop_front, MayDrop, MayTake}
use Rattle.af_cblk.specs.Rule.{StartsWith, KnowsFlush, Stands}
use Rattle.af_cblk.proofs.Sized.{IsSized, IsWrapped}
use Rattle.af_cblk.proofs.Flushes.{flush_placed, drop_word, flush_loaded, rear_loaded, front_moves}
use Rattle.af_cblk.proofs.Numbers.{twice, same_cell, ahead_is, between, past}
use Rattle.af_cblk.proofs.Rows.{get_cell, part_front, take_none, read_on}
use Rattle.af_cblk.proofs.QuietSteps.{at, turn_of, more_events, quiet_server, same_word}

module _ (words : List ℕ) (c : ClientPart) (s : ServerPart) (h : HandPart) (i : Stands s.shape words c s h) where
  server_goes_on : (e : ServerEvent) → StartsWith (s.events ++ e ∷ []) c.learnt
  server_goes_on e = more_events s.shape words words c s h i e

  pub server_loads_flush : Stands s.shape (set words 2 (at words 2)) c (saw_flush s (wrapped (at words 2))) h
  server_loads_flush =
      let p = point i.history in
      let t = turn_of i in
      let held : at words 2 ≡ flush_word p = ap (λ (ws : List ℕ). at ws 2) i.words_are in
      let is : wrapped (at words 2) ≡ flush_word p = ap wrapped held ∙ mod-eq_of_lt i.small.flush_fits in
      let tells : wrapped (at words 2) ≡ flush_number s.shape.wrap p.flushes p.flush_at = is ∙ ap (λ (w : ℕ). flush_number w p.flushes p.flush_at) t.wrap_is in
      record {
        history = server_adds i.history (server.SawFlush (wrapped (at words 2))) s.frames is refl refl;
        settled = i.settled;
        tally = i.tally;
        cells = i.cells;
        words_are = same_word 2 words ∙ i.words_are;
        tally_is = i.tally_is;
        small = i.small;
        mets = i.mets;
        learnt = server_goes_on (server.SawFlush (wrapped (at words 2)));
        flushed = i.flushed;
        flush_known = (λ placed. flush_loaded s.shape _ _ _ _ _ _ _ _ _ _ (i.flush_known placed) (wrapped (at words 2)) tells t.drop_flushed);
        client_knows = i.client_knows;
        server_knows = i.server_knows;
      }

  pub server_loads_rear : Stands s.shape (set words 1 (at words 1)) c (saw_rear s (wrapped (at words 1))) h
  server_loads_rear =
      let n = at words 1 in
      let p = point i.history in
      let is : wrapped n ≡ wrapped p.released = twice n p.released (ap (λ (ws : List ℕ). at ws 1) i.words_are) in
      let t = turn_of i in
      record {
        history = server_adds i.history (server.SawRear (wrapped n)) s.frames is refl refl;
        settled = i.settled;
        tally = i.tally;
        cells = i.cells;
        words_are = same_word 1 words ∙ i.words_are;
        tally_is = i.tally_is;
        small = i.small;
        mets = i.mets;
        learnt = server_goes_on (server.SawRear (wrapped n));
        flushed = i.flushed;
        flush_known = (λ placed. rear_loaded s.shape _ _ _ _ _ _ _ _ _ _ (i.flush_known placed) p.released (let a = t.drop_flushed in let b = t.flush_released in omega arith) t.within);
        client_knows = i.client_knows;
        server_knows = record { rear_is = is; front_is = i.server_knows.front_is; loaded_is = (λ n few seen. take_none n few (drop (p.consumed - s.shape.base) c.frames)) };
      }

  pub server_loads_front : Stands s.shape (set words 0 (at words 0)) c (server_saw_front s (wrapped (at words 0))) h
  server_loads_front =
      let n = at words 0 in
      let p = point i.history in
      let is : wrapped n ≡ wrapped p.consumed = twice n p.consumed (ap (λ (ws : List ℕ). at ws 0) i.words_are) in
      record {
        history = server_adds i.history (server.SawFront (wrapped n)) s.frames is refl refl;
        settled = i.settled;
        tally = i.tally;
        cells = i.cells;
        words_are = same_word 0 words ∙ i.words_are;
        tally_is = i.tally_is;
        small = i.small;
        mets = i.mets;
        learnt = server_goes_on (server.SawFront (wrapped n));
        flushed = i.flushed;
        flush_known = i.flush_known;
        client_knows = i.client_knows;
        server_knows = record { rear_is = i.server_knows.rear_is; front_is = is; loaded_is = (λ n few seen. take_none n few (drop (p.consumed - s.shape.base) c.frames)) };
      }

  pub server_loads_gain : Stands s.shape (set words 5 (at words 5)) c (server_did s (server.SawGain (wrapped (at words 5)))) h
  server_loads_gain =
      let held : at words 5 ≡ (point i.history).gains = ap (λ (ws : List ℕ). at ws 5) i.words_are in
      quiet_server s.shape words (set words 5 (at words 5)) c s h i (server.SawGain (wrapped (at words 5))) (ap wrapped held ∙ mod-eq_of_lt i.small.gains_fit) refl (λ _ _ _ _. refl)
      (i.tally, same_word 5 words ∙ i.words_are, i.tally_is, i.small)

  pub server_tallies : (missing : ℕ) → Stands s.shape (set words 3 ((at words 3 + missing) % 2 ^ 64)) c (server_did s (server.Tally missing)) h
  server_tallies missing =
      let held : at words 3 ≡ i.tally = ap (λ (ws : List ℕ). at ws 3) i.words_are in
      let low : wrapped ((i.tally + missing) % 2 ^ 64) ≡ wrapped (wrapped i.tally + missing) = carried i.tally missing in
      quiet_server s.shape words (set words 3 ((at words 3 + missing) % 2 ^ 64)) c s h i (server.Tally missing) tt refl (λ _ _ _ _. refl) (
        (i.tally + missing) % 2 ^ 64,
        ap (λ (ws : List ℕ). set ws 3 ((at ws 3 + missing) % 2 ^ 64)) i.words_are,
        low ∙ ap (λ (z : ℕ). wrapped (z + missing)) i.tally_is,
        i.small,
      )
    where
      carried : (a b : ℕ) → wrapped ((a + b) % 2 ^ 64) ≡ wrapped (wrapped a + b)
      carried a b = omega arith

  pub server_sets_flags : (bits : ℕ) → bits < 2 ^ 32 → Stands s.shape (set words 4 (bit_or (at words 4) bits)) c (server_did s (server.SetFlags bits)) h
  server_sets_flags bits fits =
      let p = point i.history in
      quiet_server s.shape words (set words 4 (bit_or (at words 4) bits)) c s h i (server.SetFlags bits) tt refl (λ _ _ _ _. refl) (
        i.tally,
        ap (λ (ws : List ℕ). set ws 4 (bit_or (at ws 4) bits)) i.words_are,
        i.tally_is,
        record { flush_fits = i.small.flush_fits; flags_fit = or_of_32 p.flags bits i.small.flags_fit fits; gains_fit = i.small.gains_fit; status_fit = i.small.status_fit },
      )

  pub server_stores_status : (word : ℕ) → word < 2 ^ 32 → Stands s.shape (set words 6 word) c (server_did s (server.SetStatus word)) h
  server_stores_status word fits =
      quiet_server s.shape words (set words 6 word) c s h i (server.SetStatus word) tt refl (λ _ _ _ _. refl) (
        i.tally,
        ap (λ (ws : List ℕ). set ws 6 word) i.words_are,
        i.tally_is,
        record { flush_fits = i.small.flush_fits; flags_fit = i.small.flags_fit; gains_fit = i.small.gains_fit; status_fit = fits },
      )

  module _ (shape : IsSized s.shape) (wrap : s.shape.wrap ≢ 0 → IsWrapped s.shape) where
    -- what is consumed lies not past the rear that was loaded last
    rear_ahead : (s.shape.wrap ≢ 0 → s.rear_fresh ≡ true) → (point i.history).consumed ≤ (point i.history).rear_seen
    rear_ahead fresh =
        dite (ℕ_discrete s.shape.wrap 0)
        (λ (flat : s.shape.wrap ≡ 0). (turn_of i).to_seen flat)
        (λ (placed : s.shape.wrap ≢ 0). ((i.flush_known placed).shows (fresh placed)).1)

    -- no more frames wait than there is room for
    waits : (point i.history).released ≤ (point i.history).consumed + s.shape.frames
    waits = let y = i.client_knows in let a = y.known_room in let b = y.known_low in omega arith

    dropped_there : s.noticed ≡ true → (s.shape.wrap ≢ 0 → s.rear_fresh ≡ true) → drop_front s ≡ wrapped (drop_end (point i.history))
    dropped_there noticed fresh =
        let k = s.shape in
        let p = point i.history in
        let t = turn_of i in
        let v = i.server_knows in
        dite (ℕ_discrete k.wrap 0)
        (λ (flat : k.wrap ≡ 0).
        ap (λ (b : Bool). if b then s.rear else wrapped (s.front + past_front s.front (flush_position k.wrap s.flush s.rear))) (eq-eqb k.wrap 0 flat)
        ∙ v.rear_is ∙ ap wrapped (sym (drop_flat p (t.wrap_is ∙ flat))))
        (λ (placed : k.wrap ≢ 0).
        let y = i.flush_known placed in
        let shows = y.shows (fresh placed) in
        let w = wrap (placed) in
        let flush : s.flush ≡ wrapped (p.flush_seen * k.wrap + p.drop_to % k.wrap) = y.flush_is ∙ flush_placed k.wrap p.flush_seen p.drop_to placed in
        let words_are : wrapped (s.front + past_front s.front (flush_position k.wrap s.flush s.rear))
        ≡ wrapped (wrapped p.consumed + past_front (wrapped p.consumed) (flush_position k.wrap (wrapped (p.flush_seen * k.wrap + p.drop_to % k.wrap)) (wrapped p.rear_seen))) =
        ap (λ (x : ℕ × ℕ × ℕ). wrapped (x.0 + past_front x.0 (flush_position k.wrap x.1 x.2))) (λ n. (v.front_is n, flush n, v.rear_is n)) in
        let far : p.rear_seen ≤ p.consumed + k.frames = (let a = t.to_released in let b = waits in omega arith) in
        ap (λ (b : Bool). if b then s.rear else wrapped (s.front + past_front s.front (flush_position k.wrap s.flush s.rear))) (ne_eqb k.wrap 0 placed)
        ∙ words_are
        ∙ drop_word k.wrap w.3.0 p.flush_seen p.drop_to p.rear_seen p.consumed k.frames w.3.1 w.0 w.1 w.2 shows.0 far (y.near noticed)
        ∙ ap wrapped (sym (drop_placed p (λ e. placed (sym t.wrap_is ∙ e)))))

    pub server_drops : (front : ℕ) → s.noticed ≡ true → MayDrop s front → Stands s.shape (set words 0 front) c (dropped s front) h
    server_drops front noticed may =
        let p = point i.history in
        let y = i.client_knows in
        let t = turn_of i in
        let fresh : s.shape.wrap ≢ 0 → s.rear_fresh ≡ true = (λ placed. (may.1 placed).0) in
        let is : front ≡ wrapped (drop_end p) = may.2 ∙ dropped_there noticed fresh in
        let onward = drop_low s.shape p t in
        let reach : drop_end p ≤ p.consumed + s.shape.frames = (let a = drop_released s.shape p t in let b = waits in omega arith) in
        record {
          history = server_adds i.history (server.Drop front) s.frames is refl refl;
          settled = i.settled;
          tally = i.tally;
          cells = i.cells;
          words_are = ap (λ (z : ℕ). set words 0 z) is ∙ ap (λ (ws : List ℕ). set ws 0 (wrapped (drop_end p))) i.words_are;
          tally_is = i.tally_is;
          small = i.small;
          mets = i.mets;
          learnt = server_goes_on (server.Drop front);
          flushed = i.flushed;
          flush_known = (λ placed. front_moves s.shape _ _ _ _ _ _ _ _ _ _ (i.flush_known placed) (drop_end p) (fresh placed) onward reach);
          client_knows = record {
            known = y.known;
            known_is = y.known_is;
            known_low = (let a = y.known_low in let b = onward in omega arith);
            known_room = y.known_room;
            stored_room = y.stored_room;
            cells_are = y.cells_are;
            small = y.small;
            pending = y.pending;
            live = (λ q low high. y.live q (let b = onward in omega arith) high);
          };
          server_knows = record { rear_is = i.server_knows.rear_is; front_is = is; loaded_is = (λ n few seen. take_none n few (drop (drop_end p - s.shape.base) c.frames)) };
        }

    -- what was loaded in order is what was released there
    loads : (j w : ℕ) → wrapped (at words (7 + j)) ≡ w → (b : Bool) → (j == wrapped (s.front + length s.loaded) % s.shape.cells) ≡ b
        → (n : ℕ) → n ≤ length (if b then s.loaded ++ w ∷ [] else s.loaded) → (point i.history).consumed + n ≤ (point i.history).rear_seen
        → take n (if b then s.loaded ++ w ∷ [] else s.loaded) ≡ take n (drop ((point i.history).consumed - s.shape.base) c.frames)
    loads j w is false miss n few seen = i.server_knows.loaded_is n few seen
    loads j w is true hit n few seen =
        let k = s.shape in
        let p = point i.history in
        let y = i.client_knows in
        let t = turn_of i in
        let v = i.server_knows in
        let m : ℕ = length s.loaded in
        let most : n ≤ m + 1 = (let l = length-append s.loaded (w ∷ []) in omega arith) in
        dite (dec_le n m)
        (λ old. take-append-le n s.loaded (w ∷ []) old ∙ v.loaded_is n old seen)
        (λ not.
        let new : m + 1 ≡ n = (let a = lt_of_not-le not in omega arith) in
        let turn : j ≡ (p.consumed + m) % k.cells = eqb-true _ _ hit ∙ ap (λ (z : ℕ). wrapped (z + m) % k.cells) v.front_is ∙ ap (λ (z : ℕ). z % k.cells) (past p.consumed m) ∙ same_cell (p.consumed + m) shape.3.0 k.cells shape.3.1 in
        let held : at words (7 + j) ≡ at i.cells j = ap (λ (ws : List ℕ). at ws (7 + j)) i.words_are ∙ get_cell p i.tally i.cells j in
        let word : w ≡ at i.cells j = sym is ∙ ap wrapped held ∙ mod-eq_of_lt (y.small j) in
        let r = i.history.released_is in
        let frame : w ≡ at c.frames (p.consumed - k.base + m) = word ∙ ap (λ (z : ℕ). at i.cells z) turn
        ∙ y.live (p.consumed + m) (omega arith) (let a = t.to_released in omega arith)
        ∙ ap (λ (z : ℕ). at c.frames z) (let a = t.from_base in omega arith) in
        read_on s.loaded c.frames (p.consumed - k.base) n w new (let a = t.from_base in let b = t.to_released in omega arith) frame (v.loaded_is m (omega arith) (omega arith)))

    pub server_loads_cell : (position : ℕ)
        → Stands s.shape (set words (7 + position % s.shape.cells) (at words (7 + position % s.shape.cells))) c (saw_cell s (position % s.shape.cells) (wrapped (at words (7 + position % s.shape.cells)))) h
    server_loads_cell position =
        record {
          history = i.history;
          settled = i.settled;
          tally = i.tally;
          cells = i.cells;
          words_are = same_word (7 + position % s.shape.cells) words ∙ i.words_are;
          tally_is = i.tally_is;
          small = i.small;
          mets = i.mets;
          learnt = i.learnt;
          flushed = i.flushed;
          flush_known = i.flush_known;
          client_knows = i.client_knows;
          server_knows = record {
            rear_is = i.server_knows.rear_is;
            front_is = i.server_knows.front_is;
            loaded_is = loads (position % s.shape.cells) _ refl ((position % s.shape.cells) == wrapped (s.front + length s.loaded) % s.shape.cells) refl;
          };
        }

    pub server_takes : (front : ℕ) → front < 2 ^ 32 → s.noticed ≡ false → MayTake s front → Stands s.shape (set words 0 front) c (took s front) h
    server_takes front small unnoticed may =
        let k = s.shape in
        let p = point i.history in
        let y = i.client_knows in
        let t = turn_of i in
        let v = i.server_knows in
        let count : ℕ = ahead s.front front in
        let within : count ≤ ahead s.front s.rear = may.1 in
        let read : count ≤ length s.loaded = may.2 in
        let fresh : k.wrap ≢ 0 → s.rear_fresh ≡ true = (λ placed. (may.3 placed).0) in
        let seen_low : p.consumed ≤ p.rear_seen = rear_ahead fresh in
        let d : ℕ = p.consumed - k.base in
        let few : k.frames ≤ 65536 = (let a = shape.1 in let b = shape.2 in omega arith) in
        let gap : p.rear_seen ≤ p.consumed + 65536 = (let a = t.to_released in let b = y.known_room in let e = y.known_low in omega arith) in
        let left : ahead s.front s.rear ≡ p.rear_seen - p.consumed = ap (λ (z : ℕ). ahead z s.rear) v.front_is ∙ ap (λ (z : ℕ). ahead (wrapped p.consumed) z) v.rear_is ∙ between p.consumed p.rear_seen seen_low gap in
        let seen : p.consumed + count ≤ p.rear_seen = omega arith in
        let frames : take count (drop d c.frames) ≡ take count s.loaded = sym (v.loaded_is count read seen) in
        let new : front ≡ wrapped (p.consumed + count) = sym (ahead_is s.front front small) ∙ ap (λ (z : ℕ). wrapped (z + count)) v.front_is ∙ past p.consumed count in
        let r = i.history.released_is in
        record {
          history = server_adds i.history (server.Take count) (s.frames ++ take count s.loaded) seen refl (ap (λ (l : List ℕ). s.frames ++ l) frames);
          settled = (λ more. ap (λ (l : List ℕ). l ++ take count (drop d (c.frames ++ more))) (i.settled more)
              ∙ ap (λ (l : List ℕ). taken_of c.frames k i.history.order ++ l) (part_front d count c.frames more (let a = t.from_base in let b = t.to_released in omega arith)));
          tally = i.tally;
          cells = i.cells;
          words_are = ap (λ (z : ℕ). set words 0 z) new ∙ ap (λ (ws : List ℕ). set ws 0 (wrapped (p.consumed + count))) i.words_are;
          tally_is = i.tally_is;
          small = i.small;
          mets = i.mets;
          learnt = server_goes_on (server.Take count);
          flushed = i.flushed;
          flush_known = (λ placed. subst (λ (b : Bool). KnowsFlush k (p.consumed + count) p.rear_seen p.flushes p.flush_seen p.flush_at p.drop_to s.flush b false false) (sym unnoticed)
              (front_moves k _ _ _ _ _ _ _ _ _ _ (i.flush_known placed) (p.consumed + count) (fresh placed) (omega arith) (let a = t.to_released in let b = waits in omega arith)));
          client_knows = record {
            known = y.known;
            known_is = y.known_is;
            known_low = (let a = y.known_low in omega arith);
            known_room = y.known_room;
            stored_room = y.stored_room;
            cells_are = y.cells_are;
            small = y.small;
            pending = y.pending;
            live = (λ q low high. y.live q (omega arith) high);
          };
          server_knows = record { rear_is = v.rear_is; front_is = new; loaded_is = (λ n none _. take_none n none (drop (p.consumed + count - k.base) c.frames)) };
        }
