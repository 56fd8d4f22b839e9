-- An edit of the draft keeps the order.
use Rattle.std.proofs.Common.{◌≡◌, ◌≢◌, ℕ, ◌+◌, ◌<◌, ◌≤◌, ◌^◌, Bool, true, false, true≢false, is_some, MatchBool, sym, refl, ap, subst, ◌∙◌, List, length, length-set, Some, None, ⊎_elim, get_or-set_same, get_or-set_other, arith}
use Rattle.af_normal.proofs.Common.{FastTrack, Heard, IsStreamOf, Links, Made, Returning, ServerState, StreamNames, TrackKept, at_here, at_other, cases_eq, entered, is_home, is_out, known_by, lent_by, listed, must_enter, must_leave, no, no_fast_track, nothing_heard, scale_fits, setting_of, slice_set, slot_number, slot_of, slots, track_at}
use Rattle.af_normal.specs.Editing.{LetsGo, Lends, lets_go, lends}
use Rattle.af_normal.specs.Mixing.{stream_at}
use Rattle.af_normal.specs.Mutating.{EditsTrack, MayEnter, IsEditable}
use Rattle.af_normal.specs.Order.{AreThere, HasSizes, IsOpen}
use Rattle.af_normal.specs.State.{NormalState, setup_of, kept_of}
use Rattle.af_life.proofs.SoundEdits.{leaver_away, leaver_slot, leaver_carried, leaver_inside, sound_go, comer_slot, comer_home, comer_inside, comer_holds, sound_lend, apart}
use Rattle.af_normal.proofs.OrderOut.{out_moved, out_more}
use Rattle.af_normal.proofs.Basics.{some_there}

module _ (links : Links) (edits i : ℕ) (x : NormalState) (mutating : IsOpen links edits x) where
  abbrev k : ℕ
  k = slot_number (track_at x.tracks i)

  sizes_with : (t : TrackKept) (streams : ℕ) → streams ≡ length x.streams → HasSizes links (setup_of x) (length (slice_set x.tracks i t)) streams (length x.commands) x.pipe.pass.part.shape.frames
  sizes_with t streams e = let h = mutating.tied.sizes in record {
    frames = h.frames;
    normal = h.normal;
    few = (let l : length (slice_set x.tracks i t) ≡ length x.tracks = length-set x.tracks i t in let f = h.few in omega arith);
    settings = h.settings ∙ sym (length-set x.tracks i t);
    streams_are = e ∙ h.streams_are ∙ sym (length-set x.tracks i t);
    commands_are = h.commands_are ∙ sym (length-set x.tracks i t);
    blocks = subst (λ (n : ℕ). (n ≤ length links.streams.now) × (n ≤ length links.commands.now)) (sym (length-set x.tracks i t)) h.blocks;
    scales = h.scales;
    pipe_is = h.pipe_is;
  }

  module _ (leaves : must_leave (track_at x.tracks i) ≡ true) where
    abbrev gone : TrackKept
    gone = record (track_at x.tracks i) { holder = Returning }

    away : is_home (track_at x.tracks i).holder ≡ false
    away = leaver_away (kept_of x) mutating.tied.sound i leaves

    lt : i < length x.tracks
    lt = leaver_inside (kept_of x) mutating.tied.sound i leaves

    left_there : AreThere (slice_set x.tracks i (record (track_at x.tracks i) { holder = Returning })) x.streams
    left_there j lj = ⊎_elim
        (λ (e : j ≡ i). subst (λ (n : ℕ). is_some (stream_at x.streams n) ≡ is_home (track_at (slice_set x.tracks i gone) n).holder) (sym e)
        (mutating.tied.proxies.there i lt ∙ away ∙ sym (ap (λ (t : TrackKept). is_home t.holder) (at_here x.tracks i gone lt))))
        (λ (ne : j ≢ i). mutating.tied.proxies.there j (let l : length (slice_set x.tracks i gone) ≡ length x.tracks = length-set x.tracks i gone in omega arith) ∙ sym (ap (λ (t : TrackKept). is_home t.holder) (at_other x.tracks i gone j ne)))
        (cases_eq j i)

    go_open : IsOpen links (edits + 1) (record x { tracks = slice_set x.tracks i (record (track_at x.tracks i) { holder = Returning }); mutator = lets_go (slot_number (track_at x.tracks i)) x.mutator })
    go_open = record {
      tied = record {
        sound = sound_go (kept_of x) mutating.tied.sound i leaves;
        sizes = sizes_with gone (length x.streams) refl;
        proxies = record { there = left_there; streams_of = mutating.tied.proxies.streams_of; commands_of = mutating.tied.proxies.commands_of };
        out = out_moved (kept_of x) mutating.tied.sound x.mutator.out mutating.tied.out i gone refl lt away refl;
        linked = mutating.tied.linked;
      };
      generations = (λ (q : ℕ). let g : (slot_of x.mutator.draft q).generation ≤ edits = mutating.generations q in omega arith);
      changes = (let g = mutating.changes in omega arith);
      editing = mutating.editing;
    }

  module _ (enters : must_enter (track_at x.tracks i) ≡ true) (server : ServerState) where
    abbrev lent : TrackKept
    lent = lent_by (entered (setup_of x) i (kept_of x)) (known_by (listed server)) (track_at x.tracks i)

    lt_in : i < length x.tracks
    lt_in = comer_inside (kept_of x) mutating.tied.sound (setup_of x) i (known_by (listed server)) enters

    fine : (setting_of (setup_of x) i).scale ≤ 4096
    fine = scale_fits (setup_of x) i mutating.tied.sizes.scales (let l = lt_in in let e = mutating.tied.sizes.settings in omega arith)

    lent_there : AreThere (slice_set x.tracks i (lent_by (entered (setup_of x) i (kept_of x)) (known_by (listed server)) (track_at x.tracks i))) (slice_set x.streams i None)
    lent_there j lj = ⊎_elim
        (λ (e : j ≡ i). subst (λ (n : ℕ). is_some (stream_at (slice_set x.streams i None) n) ≡ is_home (track_at (slice_set x.tracks i lent) n).holder) (sym e)
        (ap is_some (get_or-set_same x.streams i None None (let l = lt_in in let w = mutating.tied.sizes.streams_are in omega arith)) ∙ sym (ap (λ (t : TrackKept). is_home t.holder) (at_here x.tracks i lent lt_in))))
        (λ (ne : j ≢ i). ap is_some (get_or-set_other x.streams i j None None ne)
        ∙ mutating.tied.proxies.there j (let l : length (slice_set x.tracks i lent) ≡ length x.tracks = length-set x.tracks i lent in omega arith)
        ∙ sym (ap (λ (t : TrackKept). is_home t.holder) (at_other x.tracks i lent j ne)))
        (cases_eq j i)

    of_others : (j : ℕ) (p : ServerState) → stream_at (slice_set x.streams i None) j ≡ Some p → IsStreamOf links.streams.now j p
    of_others j p is = ⊎_elim
        (λ (e : j ≡ i). no (ap is_some (sym (ap (stream_at (slice_set x.streams i None)) e ∙ get_or-set_same x.streams i None None (let l = lt_in in let w = mutating.tied.sizes.streams_are in omega arith)) ∙ is)))
        (λ (ne : j ≢ i). mutating.tied.proxies.streams_of j p (sym (get_or-set_other x.streams i j None None ne) ∙ is))
        (cases_eq j i)

    comer_low : (1 ≤ slot_number (track_at x.tracks i)) × (slot_number (track_at x.tracks i) < slots)
    comer_low = comer_slot (kept_of x) mutating.tied.sound (setup_of x) i (known_by (listed server)) enters

    raised : (q : ℕ) → (slot_of (entered (setup_of x) i (kept_of x)) q).generation ≤ edits + 1
    raised q = ⊎_elim
        (λ (e : q ≡ k). let is : (slot_of (entered (setup_of x) i (kept_of x)) q).generation ≡ (slot_of x.mutator.draft k).generation + 1 =
        ap (λ (n : ℕ). (slot_of (entered (setup_of x) i (kept_of x)) n).generation) e
        ∙ ap (λ (t : FastTrack). t.generation) (get_or-set_same x.mutator.draft.slots k _ no_fast_track (let w = mutating.tied.sound.state.whole in let l = comer_low.1 in omega arith)) in
        let g : (slot_of x.mutator.draft k).generation ≤ edits = mutating.generations k in omega arith)
        (λ (ne : q ≢ k). let is : (slot_of (entered (setup_of x) i (kept_of x)) q).generation ≡ (slot_of x.mutator.draft q).generation =
        ap (λ (t : FastTrack). t.generation) (get_or-set_other x.mutator.draft.slots k q _ no_fast_track ne) in
        let g : (slot_of x.mutator.draft q).generation ≤ edits = mutating.generations q in omega arith)
        (cases_eq q k)

    lend_open : IsOpen links (edits + 1) (record x { tracks = slice_set x.tracks i (lent_by (lends x i (slot_number (track_at x.tracks i)) server).draft (known_by (listed server)) (track_at x.tracks i)); streams = slice_set x.streams i None; mutator = lends x i (slot_number (track_at x.tracks i)) server })
    lend_open = record {
      tied = record {
        sound = sound_lend (kept_of x) mutating.tied.sound (setup_of x) i (known_by (listed server)) enters fine;
        sizes = sizes_with lent (length (slice_set x.streams i None)) (length-set x.streams i None);
        proxies = record { there = lent_there; streams_of = of_others; commands_of = mutating.tied.proxies.commands_of };
        out = out_more (kept_of x) mutating.tied.sound x.mutator.out mutating.tied.out i lent refl lt_in comer_low.1 refl;
        linked = mutating.tied.linked;
      };
      generations = raised;
      changes = (let g = mutating.changes in omega arith);
      editing = mutating.editing;
    }

  rests : IsOpen links (edits + 1) x
  rests = record {
    tied = mutating.tied;
    generations = (λ (q : ℕ). let g : (slot_of x.mutator.draft q).generation ≤ edits = mutating.generations q in omega arith);
    changes = (let g = mutating.changes in omega arith);
    editing = mutating.editing;
  }

  pub edit_keeps : (y : NormalState) → EditsTrack i x y → IsOpen links (edits + 1) y
  edit_keeps y e = by_leave (must_leave (track_at x.tracks i)) refl e
    where
      by_enter : (b : Bool) → must_enter (track_at x.tracks i) ≡ b → MatchBool b (Lends i x y) (y ≡ x) → IsOpen links (edits + 1) y
      by_enter true is l = subst (IsOpen links (edits + 1)) (sym l.2) (lend_open is l.0)
      by_enter false is l = subst (IsOpen links (edits + 1)) (sym l) rests

      by_leave : (b : Bool) → must_leave (track_at x.tracks i) ≡ b → MatchBool b (LetsGo i x y) (MatchBool (must_enter (track_at x.tracks i)) (Lends i x y) (y ≡ x)) → IsOpen links (edits + 1) y
      by_leave true is l = subst (IsOpen links (edits + 1)) (sym l) (go_open is)
      by_leave false is l = by_enter (must_enter (track_at x.tracks i)) refl l

  -- what an attach wants: the slot of a track that is to enter is free
  pub comer_free : must_enter (track_at x.tracks i) ≡ true → is_out x.mutator.out (slot_number (track_at x.tracks i)) ≡ false
  comer_free enters = by_out (is_out x.mutator.out k) refl
    where
      own : Heard
      own = nothing_heard

      low : (1 ≤ slot_number (track_at x.tracks i)) × (slot_number (track_at x.tracks i) < slots)
      low = comer_slot (kept_of x) mutating.tied.sound (setup_of x) i own enters

      by_out : (b : Bool) → is_out x.mutator.out k ≡ b → b ≡ false
      by_out false e = refl
      by_out true e = let whose = mutating.tied.out.at_slot k low.0 low.1 e in ⊎_elim
          (λ (same : whose.0 ≡ i). absurd (true≢false (sym (comer_home (kept_of x) mutating.tied.sound (setup_of x) i own enters) ∙ ap (λ (n : ℕ). is_home (track_at x.tracks n).holder) (sym same) ∙ whose.3)))
          (λ (ne : whose.0 ≢ i). absurd (apart (kept_of x) mutating.tied.sound i whose.0 ne (comer_holds (kept_of x) mutating.tied.sound (setup_of x) i own enters) whose.3 whose.2))
          (cases_eq whose.0 i)

  -- the track i may be edited
  pub editable : i < length x.tracks → edits < 2 ^ 62 → IsEditable i x
  editable inside few = record {
    leaves = (λ e. record { slot = leaver_slot (kept_of x) mutating.tied.sound i e; carried = leaver_carried (kept_of x) mutating.tied.sound i e });
    enters = may_enter;
    scale = scale_fits (setup_of x) i mutating.tied.sizes.scales (let e = mutating.tied.sizes.settings in omega arith);
    room = (let g = mutating.changes in omega arith);
  }
    where
      may_enter : must_enter (track_at x.tracks i) ≡ true → MayEnter i x
      may_enter e =
          let stream = some_there (stream_at x.streams i) (mutating.tied.proxies.there i inside ∙ comer_home (kept_of x) mutating.tied.sound (setup_of x) i nothing_heard e) in
          let of : IsStreamOf links.streams.now i stream.0 = mutating.tied.proxies.streams_of i stream.0 stream.1 in
          let names = mutating.tied.linked.names in record {
            slot = comer_slot (kept_of x) mutating.tied.sound (setup_of x) i nothing_heard e;
            free = comer_free e;
            stream = stream.0;
            is_home = stream.1;
            in_order = of.in_order;
            fits = (λ other key. let same : names.0 ≡ other = (let a : Some names.0 ≡ Some other = sym names.1 ∙ key in cc) in
                subst (λ (bs : List Made). IsStreamOf bs i stream.0) (sym names.2 ∙ ap (λ (n : StreamNames). n.blocks) same) of);
            room = (let g : (slot_of x.mutator.draft (slot_number (track_at x.tracks i))).generation ≤ edits = mutating.generations (slot_number (track_at x.tracks i)) in omega arith);
          }
