-- What comes home by a look at the acknowledgement, and that the order stays.
use Rattle.std.proofs.Common.{◌≡◌, ◌≢◌, ℕ, zero, suc, ◌<◌, ◌≤◌, ◌&&◌, not, Bool, true, false, if◌then◌else◌, true≢false, is_some, MatchBool, MatchOption, ◌⊎◌, sym, refl, ap, subst, ◌∙◌, inl, inr, List, length, map, Option, Some, None, ⊎_elim, length-set, get_or-set_same, get_or-set_other, arith}
use Rattle.af_normal.proofs.Common.{FastState, Home, InDraft, InSlot, IsStreamOf, Links, Made, ServerState, TrackKept, after_ack, and_none, and_true, at, at_here, at_other, away_holds, both_true, carries, cases_eq, comes_home, ext_get_or, get_or-map, inside, is_home, is_out, is_returning, length-map, never_true, new_track, no, none_and, returning_away, slice_set, slot_number, slot_of, slot_of_away, slots, some_same, track_at, welcomed}
use Rattle.af_normal.specs.Coming.{takes_back, has_back, Welcomes, WelcomesTo}
use Rattle.af_normal.specs.Mixing.{stream_at}
use Rattle.af_normal.specs.Order.{AreThere, IsTied}
use Rattle.af_normal.specs.State.{NormalState, kept_of}
use Rattle.af_normal.specs.Turning.{stream_fits}
use Rattle.af_life.proofs.SoundEdits.{sound_home, away_slot, apart}
use Rattle.af_normal.proofs.OrderOut.{out_same, out_less}

-- ## One track

-- The mixer after a look that saw the last push acknowledged
module _ (links : Links) (x : NormalState) (tied : IsTied links x) (held : InDraft stream_fits x.mutator) (clear : x.mutator.past.clear ≡ true) where
  abbrev Items : Type 0
  Items = List (Option ServerState)

  abbrev last : FastState
  last = x.mutator.past.last

  abbrev slot_at : ℕ → ℕ
  slot_at i = slot_number (track_at x.tracks i)

  -- the mixer with other tracks and proxies, and other items in hand and out
  abbrev state : List TrackKept → Items → Items → List Bool → NormalState
  state tracks streams returned out = record x { tracks = tracks; streams = streams; mutator = record x.mutator { returned = returned; out = out } }

  one_slot : (k : ℕ) → k < slots → InSlot x.mutator.past.clear (carries x.mutator.draft k) (carries last k) (carries x.mutator.past.before k) (slot_of x.mutator.draft k) (slot_of last k) (slot_of x.mutator.past.before k) (at x.mutator.pending k) (at x.mutator.returned k) (is_out x.mutator.out k)
  one_slot k lt = held.each k lt

  -- the item of a returning track is in hand exactly if the last state doesn't carry its slot
  in_hand : (i : ℕ) → is_returning (track_at x.tracks i).holder ≡ true → is_some (at x.mutator.returned (slot_at i)) ≡ not (carries last (slot_at i))
  in_hand i r = by_last (carries last (slot_at i)) refl
    where
      away : is_home (track_at x.tracks i).holder ≡ false
      away = returning_away (track_at x.tracks i).holder r

      by_last : (b : Bool) → carries last (slot_at i) ≡ b → is_some (at x.mutator.returned (slot_at i)) ≡ not b
      by_last true e = never_true (is_some (at x.mutator.returned (slot_at i))) (λ some. true≢false (sym e ∙ ((one_slot (slot_at i) (away_slot (kept_of x) tied.sound i away).1).rests some).1))
      by_last false e = (one_slot (slot_at i) (away_slot (kept_of x) tied.sound i away).1).found (tied.out.of_track i away) ((tied.sound.drafted i).returning r) e (inl clear)

  -- the proxy that comes is the track's own
  its_own : (i : ℕ) (s : ServerState) → is_returning (track_at x.tracks i).holder ≡ true → at x.mutator.returned (slot_at i) ≡ Some s → IsStreamOf links.streams.now i s
  its_own i s r is = let away = returning_away (track_at x.tracks i).holder r in
      let names = tied.linked.names in
      let of : IsStreamOf names.0.blocks (slot_of x.mutator.draft (slot_at i)).track s = held.fit_returned names.0 names.1 (slot_at i) s (away_slot (kept_of x) tied.sound i away).1 is in
      subst (λ (bs : List Made). IsStreamOf bs i s) names.2 (subst (λ (n : ℕ). IsStreamOf names.0.blocks n s) ((tied.sound.drafted i).own away).0 of)

  not_there : (o : Option ServerState) → is_some o ≡ false → o ≡ None
  not_there None e = refl
  not_there (Some s) e = absurd (true≢false e)

  -- a returning track has no proxy
  gone : (i : ℕ) → is_returning (track_at x.tracks i).holder ≡ true → is_some (stream_at x.streams i) ≡ false
  gone i r = let away = returning_away (track_at x.tracks i).holder r in
      tied.proxies.there i (inside x.tracks i (slot_of_away (track_at x.tracks i) (tied.sound.slotted i) away)) ∙ away

  -- the first i tracks have what comes to them
  record Came (i : ℕ) (tracks : List TrackKept) (streams returned : Items) (out : List Bool) : Type 0 where
    tied_is : IsTied links (state tracks streams returned out)
    long : length tracks ≡ length x.tracks
    done : (j : ℕ) → j < i → track_at tracks j ≡ welcomed last (track_at x.tracks j)
    left : (j : ℕ) → i ≤ j → track_at tracks j ≡ track_at x.tracks j
    hand : (j : ℕ) → i ≤ j → is_home (track_at x.tracks j).holder ≡ false → at returned (slot_at j) ≡ at x.mutator.returned (slot_at j)
    same : (j : ℕ) → (is_returning (track_at x.tracks j).holder ≡ false) ⊎ (i ≤ j) → stream_at streams j ≡ stream_at x.streams j
    brought : (j : ℕ) → j < i → is_returning (track_at x.tracks j).holder ≡ true → stream_at streams j ≡ at x.mutator.returned (slot_at j)

  abbrev Coming : ℕ → NormalState → Type 0
  Coming i z = (tracks : List TrackKept) × (streams : Items) × (returned : Items) × (out : List Bool) × (z ≡ state tracks streams returned out) × Came i tracks streams returned out

  taken : (b : Bool) (s t u : TrackKept) → b ≡ true → s ≡ t → s ≡ (if b then t else u)
  taken true s t u e f = f
  taken false s t u e f = no e

  passed : (b : Bool) (s t u : TrackKept) → b ≡ false → s ≡ u → s ≡ (if b then t else u)
  passed true s t u e f = absurd (true≢false e)
  passed false s t u e f = f

  -- a track that stays as it is
  unwelcomed : (s : TrackKept) → comes_home last s ≡ false → s ≡ welcomed last s
  unfolding welcomed
  unwelcomed s e = passed (comes_home last s) s _ s e refl

  come : (s : TrackKept) → comes_home last s ≡ true → record s { holder = Home } ≡ welcomed last s
  unfolding welcomed
  come s e = taken (comes_home last s) (record s { holder = Home }) _ s e refl

  module _ (i : ℕ) (tracks : List TrackKept) (streams returned : Items) (out : List Bool) (c : Came i tracks streams returned out) where
    here : track_at tracks i ≡ track_at x.tracks i
    here = c.left i (omega arith)

    abbrev k : ℕ
    k = slot_number (track_at tracks i)

    k_is : slot_number (track_at tracks i) ≡ slot_number (track_at x.tracks i)
    k_is = ap slot_number here

    further : (j : ℕ) → suc i ≤ j → i ≤ j
    further j le = omega arith

    sooner : (j : ℕ) → (is_returning (track_at x.tracks j).holder ≡ false) ⊎ (suc i ≤ j) → (is_returning (track_at x.tracks j).holder ≡ false) ⊎ (i ≤ j)
    sooner j (inl h) = inl h
    sooner j (inr le) = inr (omega arith)

    -- nothing changes but what was written as it was
    stays : (r : Items) (o : List Bool) → IsTied links (state tracks streams r o) → comes_home last (track_at x.tracks i) ≡ false → ((j : ℕ) → suc i ≤ j → is_home (track_at x.tracks j).holder ≡ false → at r (slot_at j) ≡ at returned (slot_at j))
        → (is_returning (track_at x.tracks i).holder ≡ true → at x.mutator.returned (slot_at i) ≡ None) → Came (suc i) tracks streams r o
    stays r o t e same none = record {
      tied_is = t;
      long = c.long;
      done = (λ j lt. ⊎_elim
          (λ (is : j ≡ i). subst (λ (n : ℕ). track_at tracks n ≡ welcomed last (track_at x.tracks n)) (sym is) (here ∙ unwelcomed (track_at x.tracks i) e))
          (λ (ne : j ≢ i). c.done j (omega arith))
          (cases_eq j i));
      left = (λ j le. c.left j (further j le));
      hand = (λ j le a. same j le a ∙ c.hand j (further j le) a);
      same = (λ j h. c.same j (sooner j h));
      brought = (λ j lj r. ⊎_elim
          (λ (is : j ≡ i). subst (λ (n : ℕ). stream_at streams n ≡ at x.mutator.returned (slot_at n)) (sym is)
          (let back : is_returning (track_at x.tracks i).holder ≡ true = ap (λ (n : ℕ). is_returning (track_at x.tracks n).holder) (sym is) ∙ r in
          c.same i (inr (omega arith)) ∙ not_there (stream_at x.streams i) (gone i back) ∙ sym (none back)))
          (λ (ne : j ≢ i). c.brought j (omega arith) r)
          (cases_eq j i));
    }

    passes : is_returning (track_at tracks i).holder ≡ false → Came (suc i) tracks streams returned out
    passes e = stays returned out c.tied_is (none_and (is_returning (track_at x.tracks i).holder) _ (sym (ap (λ (s : TrackKept). is_returning s.holder) here) ∙ e)) (λ j le a. refl)
        (λ back. absurd (true≢false (sym back ∙ sym (ap (λ (s : TrackKept). is_returning s.holder) here) ∙ e)))

    module _ (r : is_returning (track_at tracks i).holder ≡ true) where
      r_is : is_returning (track_at x.tracks i).holder ≡ true
      r_is = sym (ap (λ (s : TrackKept). is_returning s.holder) here) ∙ r

      away : is_home (track_at tracks i).holder ≡ false
      away = returning_away (track_at tracks i).holder r

      away_is : is_home (track_at x.tracks i).holder ≡ false
      away_is = returning_away (track_at x.tracks i).holder r_is

      high : slot_number (track_at tracks i) < slots
      high = (away_slot (kept_of (state tracks streams returned out)) c.tied_is.sound i away).1

      item_is : at returned (slot_number (track_at tracks i)) ≡ at x.mutator.returned (slot_at i)
      item_is = ap (at returned) k_is ∙ c.hand i (omega arith) away_is

      some_is : is_some (at returned (slot_number (track_at tracks i))) ≡ not (carries last (slot_at i))
      some_is = ap is_some item_is ∙ in_hand i r_is

      -- the items of the other tracks stay
      others : (o : Option ServerState) (j : ℕ) → suc i ≤ j → is_home (track_at x.tracks j).holder ≡ false → at (slice_set returned (slot_number (track_at tracks i)) o) (slot_at j) ≡ at returned (slot_at j)
      others o j le a = get_or-set_other returned (slot_number (track_at tracks i)) (slot_at j) o None
          (λ same. apart (kept_of x) tied.sound i j (λ e. omega arith) (away_holds (track_at x.tracks i) (tied.sound.slotted i) away_is) a (same ∙ k_is))

      abbrev off : Bool
      off = is_out out (slot_number (track_at tracks i)) && not (is_some (at returned (slot_number (track_at tracks i))))

      rests : at returned (slot_number (track_at tracks i)) ≡ None → Came (suc i) tracks streams (slice_set returned (slot_number (track_at tracks i)) None) (slice_set out (slot_number (track_at tracks i)) off)
      rests none = stays (slice_set returned k None) (slice_set out k off)
          (record {
            sound = c.tied_is.sound;
            sizes = c.tied_is.sizes;
            proxies = c.tied_is.proxies;
            out = out_same tracks out k off high (ap (λ (b : Bool). is_out out k && not b) (ap is_some none) ∙ and_true (is_out out k)) c.tied_is.out;
            linked = c.tied_is.linked;
          })
          (and_none (is_returning (track_at x.tracks i).holder) (not (carries last (slot_at i))) (sym some_is ∙ ap is_some none))
          (others None)
          (λ back. sym item_is ∙ none)

      module _ (server : ServerState) (is : at returned (slot_number (track_at tracks i)) ≡ Some server) where
        abbrev home : TrackKept
        home = record (track_at tracks i) { holder = Home }

        lt : i < length tracks
        lt = inside tracks i (slot_of_away (track_at tracks i) (c.tied_is.sound.slotted i) away)

        wide : i < length streams
        wide = let l : length streams ≡ length tracks = c.tied_is.sizes.streams_are in let a = lt in omega arith

        there : AreThere (slice_set tracks i home) (slice_set streams i (Some server))
        there j lj = ⊎_elim
            (λ (e : j ≡ i). subst (λ (n : ℕ). is_some (stream_at (slice_set streams i (Some server)) n) ≡ is_home (track_at (slice_set tracks i home) n).holder) (sym e)
            (ap is_some (get_or-set_same streams i (Some server) None wide) ∙ sym (ap (λ (s : TrackKept). is_home s.holder) (at_here tracks i home lt))))
            (λ (ne : j ≢ i). ap is_some (get_or-set_other streams i j (Some server) None ne)
            ∙ c.tied_is.proxies.there j (let l : length (slice_set tracks i home) ≡ length tracks = length-set tracks i home in omega arith)
            ∙ sym (ap (λ (s : TrackKept). is_home s.holder) (at_other tracks i home j ne)))
            (cases_eq j i)

        apart_from : (j : ℕ) → (is_returning (track_at x.tracks j).holder ≡ false) ⊎ (suc i ≤ j) → j ≢ i
        apart_from j (inl h) e = no (sym h ∙ ap (λ (n : ℕ). is_returning (track_at x.tracks n).holder) e ∙ r_is)
        apart_from j (inr le) e = omega arith

        streams_of : (j : ℕ) (s : ServerState) → stream_at (slice_set streams i (Some server)) j ≡ Some s → IsStreamOf links.streams.now j s
        streams_of j s at_j = ⊎_elim
            (λ (e : j ≡ i). let same : server ≡ s = some_same server s (sym (get_or-set_same streams i (Some server) None wide) ∙ ap (stream_at (slice_set streams i (Some server))) (sym e) ∙ at_j) in
            subst (λ (n : ℕ). IsStreamOf links.streams.now n s) (sym e) (its_own i s r_is (sym item_is ∙ is ∙ ap (λ (t : ServerState). Some t) same)))
            (λ (ne : j ≢ i). c.tied_is.proxies.streams_of j s (sym (get_or-set_other streams i j (Some server) None ne) ∙ at_j))
            (cases_eq j i)

        comes : Came (suc i) (slice_set tracks i home) (slice_set streams i (Some server)) (slice_set returned (slot_number (track_at tracks i)) None) (slice_set out (slot_number (track_at tracks i)) off)
        comes = record {
          tied_is = record {
            sound = sound_home (kept_of (state tracks streams returned out)) c.tied_is.sound i away;
            sizes = record {
              frames = c.tied_is.sizes.frames;
              normal = c.tied_is.sizes.normal;
              few = (let l : length (slice_set tracks i home) ≡ length tracks = length-set tracks i home in let f = c.tied_is.sizes.few in omega arith);
              settings = c.tied_is.sizes.settings ∙ sym (length-set tracks i home);
              streams_are = length-set streams i (Some server) ∙ c.tied_is.sizes.streams_are ∙ sym (length-set tracks i home);
              commands_are = c.tied_is.sizes.commands_are ∙ sym (length-set tracks i home);
              blocks = subst (λ (n : ℕ). (n ≤ length links.streams.now) × (n ≤ length links.commands.now)) (sym (length-set tracks i home)) c.tied_is.sizes.blocks;
              scales = c.tied_is.sizes.scales;
              pipe_is = c.tied_is.sizes.pipe_is;
            };
            proxies = record { there = there; streams_of = streams_of; commands_of = c.tied_is.proxies.commands_of };
            out = out_less (kept_of (state tracks streams returned out)) c.tied_is.sound out c.tied_is.out i home refl lt high away refl off (and_none (is_out out k) (not (is_some (at returned k))) (ap (λ (o : Option ServerState). not (is_some o)) is));
            linked = c.tied_is.linked;
          };
          long = length-set tracks i home ∙ c.long;
          done = (λ j lj. ⊎_elim
              (λ (e : j ≡ i). subst (λ (n : ℕ). track_at (slice_set tracks i home) n ≡ welcomed last (track_at x.tracks n)) (sym e)
              (at_here tracks i home lt ∙ ap (λ (s : TrackKept). record s { holder = Home }) here ∙ come (track_at x.tracks i) (both_true (is_returning (track_at x.tracks i).holder) (not (carries last (slot_at i))) r_is (sym some_is ∙ ap is_some is))))
              (λ (ne : j ≢ i). at_other tracks i home j ne ∙ c.done j (omega arith))
              (cases_eq j i));
          left = (λ j le. at_other tracks i home j (λ e. omega arith) ∙ c.left j (further j le));
          hand = (λ j le a. others None j le a ∙ c.hand j (further j le) a);
          same = (λ j h. get_or-set_other streams i j (Some server) None (apart_from j h) ∙ c.same j (sooner j h));
          brought = (λ j lj back. ⊎_elim
              (λ (e : j ≡ i). subst (λ (n : ℕ). stream_at (slice_set streams i (Some server)) n ≡ at x.mutator.returned (slot_at n)) (sym e) (get_or-set_same streams i (Some server) None wide ∙ sym is ∙ item_is))
              (λ (ne : j ≢ i). get_or-set_other streams i j (Some server) None ne ∙ c.brought j (omega arith) back)
              (cases_eq j i));
        }

    abbrev now : NormalState
    now = record (state tracks streams returned out) { mutator = takes_back (slot_number (track_at tracks i)) (state tracks streams returned out).mutator }

    abbrev Item : NormalState → Option ServerState → Type 0
    Item y o = MatchOption o (y ≡ now) (λ server. y ≡ has_back i server now)

    -- the welcome goes on by one track more
    one_more : (y : NormalState) → Welcomes i (state tracks streams returned out) y → Coming (suc i) y
    one_more y w = by_holder (is_returning (track_at tracks i).holder) refl w
      where
        by_item : is_returning (track_at tracks i).holder ≡ true → (o : Option ServerState) → at returned k ≡ o → Item y o → Coming (suc i) y
        by_item r None is e = (tracks, streams, slice_set returned k None, slice_set out k (is_out out k && not (is_some (at returned k))), e, rests r is)
        by_item r (Some server) is e = (slice_set tracks i (record (track_at tracks i) { holder = Home }), slice_set streams i (Some server), slice_set returned k None, slice_set out k (is_out out k && not (is_some (at returned k))), e, comes r server is)

        by_holder : (b : Bool) → is_returning (track_at tracks i).holder ≡ b → MatchBool b (Item y (at returned k)) (y ≡ state tracks streams returned out) → Coming (suc i) y
        by_holder true r v = by_item r (at returned k) refl v
        by_holder false r v = (tracks, streams, returned, out, v, passes r)

  -- all tracks come home that are due
  all_come : (n : ℕ) (y : NormalState) → WelcomesTo n x y → Coming n y
  all_come zero y w = (
    x.tracks,
    x.streams,
    x.mutator.returned,
    x.mutator.out,
    w,
    record {
      tied_is = tied;
      long = refl;
      done = (λ j lt. absurd (omega arith));
      left = (λ j le. refl);
      hand = (λ j le a. refl);
      same = (λ j h. refl);
      brought = (λ j lt back. absurd (omega arith));
    },
  )
  all_come (suc n) y w = let before : Coming n w.0 = all_come n w.0 w.1 in
      one_more n before.0 before.1 before.2 before.3 before.5 y (subst (λ (z : NormalState). Welcomes n z y) before.4 w.2)

  -- ## All tracks

  -- the tracks are those that the definition leaves
  tracks_are : (tracks : List TrackKept) (streams returned : Items) (out : List Bool) → Came (length x.tracks) tracks streams returned out → tracks ≡ map (welcomed last) x.tracks
  tracks_are tracks streams returned out c = ext_get_or new_track tracks (map (welcomed last) x.tracks) (c.long ∙ sym (length-map x.tracks (welcomed last)))
      (λ j lt. c.done j (let l = c.long in omega arith) ∙ sym (get_or-map (welcomed last) x.tracks j new_track new_track (let l = c.long in omega arith)))

  pub welcomed_kept : (y : NormalState) → WelcomesTo (length x.tracks) x y → kept_of y ≡ after_ack true (kept_of x)
  welcomed_kept y w = let c : Coming (length x.tracks) y = all_come (length x.tracks) y w in
      ap kept_of c.4 ∙ ap (λ (tracks : List TrackKept). record (kept_of x) { tracks = tracks }) (tracks_are c.0 c.1 c.2 c.3 c.5)

  pub welcomed_tied : (y : NormalState) → WelcomesTo (length x.tracks) x y → IsTied links y
  welcomed_tied y w = let c : Coming (length x.tracks) y = all_come (length x.tracks) y w in subst (IsTied links) (sym c.4) c.5.tied_is

  pub welcomed_same : (y : NormalState) → WelcomesTo (length x.tracks) x y → (y ≡ record x { tracks = y.tracks; streams = y.streams; mutator = y.mutator }) × (y.mutator.editing ≡ x.mutator.editing) × (y.mutator.past ≡ x.mutator.past)
  welcomed_same y w = let c : Coming (length x.tracks) y = all_come (length x.tracks) y w in
      (subst (λ (z : NormalState). z ≡ record x { tracks = z.tracks; streams = z.streams; mutator = z.mutator }) (sym c.4) refl, ap (λ (z : NormalState). z.mutator.editing) c.4, ap (λ (z : NormalState). z.mutator.past) c.4)

  -- each proxy is where it was, or came from hand
  pub record Brings (y : NormalState) : Type 0 where
    pub same : (j : ℕ) → is_returning (track_at x.tracks j).holder ≡ false → stream_at y.streams j ≡ stream_at x.streams j
    pub brought : (j : ℕ) → is_returning (track_at x.tracks j).holder ≡ true → stream_at y.streams j ≡ at x.mutator.returned (slot_number (track_at x.tracks j))
    pub pending : y.mutator.pending ≡ x.mutator.pending

  pub welcomed_brings : (y : NormalState) → WelcomesTo (length x.tracks) x y → Brings y
  welcomed_brings y w = let c : Coming (length x.tracks) y = all_come (length x.tracks) y w in record {
    same = (λ j e. ap (λ (z : NormalState). stream_at z.streams j) c.4 ∙ c.5.same j (inl e));
    brought = (λ j r. ap (λ (z : NormalState). stream_at z.streams j) c.4
        ∙ c.5.brought j (inside x.tracks j (slot_of_away (track_at x.tracks j) (tied.sound.slotted j) (returning_away (track_at x.tracks j).holder r))) r);
    pending = ap (λ (z : NormalState). z.mutator.pending) c.4;
  }
