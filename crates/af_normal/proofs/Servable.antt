-- What a turn that has begun in order may do next.
use Rattle.std.proofs.Common.{◌++◌, reverse, ⊎_elim, get_or-set_same, ◌≡◌, ◌≢◌, ℕ, zero, suc, ◌+◌, ◌<◌, ◌≤◌, ◌==◌, Bool, true, false, true≢false, is_some, MatchBool, List, [], length, slice_get, Option, Some, None, refl, sym, ap, subst, ◌∙◌, arith}
use Rattle.af_normal.proofs.Common.{HandSide, IsSmall, IsStreamOf, Links, NormalKept, Report, ServerState, Setup, asked, cases_eq, returning_away, server_made, slot_of_away, some_same, track_at}
use Rattle.af_normal.specs.AllMixed.{HasTakes}
use Rattle.af_normal.specs.Coming.{HaveSlots}
use Rattle.af_normal.specs.Mixing.{stream_at}
use Rattle.af_normal.specs.Order.{HasNoHands, HasSizes, HasTurns, HaveFewLooks, HaveHands, IsGoing, IsInOrder, IsTied, most_turns}
use Rattle.af_normal.specs.Ready.{AreOwn}
use Rattle.af_normal.specs.State.{NormalState, kept_of, setup_of}
use Rattle.af_normal.specs.TurnMade.{IsServable}
use Rattle.af_normal.specs.Turning.{Begins, HandsTo, Hands, HasHands, HasWhole, Learns, without_hand}
use Rattle.af_normal.proofs.Beginning.{HandsOf, hand_more, hands_same, hands_long, hands_other, takes_back, turns_back}
use Rattle.af_normal.proofs.Cases.{none_of_zero, some_of_other}

-- ## The tracks may be served

module _ (links : Links) (t : ℕ) (x : NormalState) (going : IsGoing links t x) where
  pub own_of : (i : ℕ) → i < length x.tracks → AreOwn links x.streams x.commands x.hands i
  own_of i lt = let sizes = going.tied.sizes in record {
    blocks = ((let b = sizes.blocks.1 in omega arith), (let b = sizes.blocks.0 in omega arith));
    there = ((let e = sizes.commands_are in omega arith), (let e = going.hands.whole in omega arith));
    command_is = going.tied.proxies.commands_of i;
    flag_is = going.hands.flags_of i;
    stream_is = going.tied.proxies.streams_of i;
  }

  pub servable : t < most_turns → (report : Report) (room : ℕ) (y : NormalState) → Learns report room x y → (i : ℕ) → i < length y.tracks → IsServable links i y
  servable few report room y l i lt =
      let same : y ≡ record x { reader = y.reader; pipe = y.pipe } = l.same in
      let tracks = ap (λ (z : NormalState). z.tracks) same in
      subst (IsServable links i) (sym same) (record {
        slot = (going.small.tracks i).slot;
        few = (let s = (going.small.tracks i).settled in omega arith);
        own = own_of i (let e = ap length tracks in omega arith);
      })

  pub slots_there : HaveSlots x.tracks
  slots_there i back = (going.tied.sound.slotted i).slot (slot_of_away (track_at x.tracks i) (going.tied.sound.slotted i) (returning_away (track_at x.tracks i).holder back))

-- ## The hands are there

-- what splitting off the first hands leaves
record Handed (links : Links) (n : ℕ) (x y : NormalState) : Type 0 where
  pub same : y ≡ record x { streams = y.streams; hands = y.hands }
  pub streams : length y.streams ≡ length x.streams
  pub count : length y.hands ≡ n
  pub hands : HandsOf links.streams.now y.hands
  pub of : (k : ℕ) (s : ServerState) → stream_at y.streams k ≡ Some s → IsStreamOf links.streams.now k s
  pub there : (k : ℕ) → is_some (stream_at y.streams k) ≡ is_some (stream_at x.streams k)
  pub later : (k : ℕ) → n ≤ k → stream_at y.streams k ≡ stream_at x.streams k

module _ (links : Links) (x : NormalState) (tied : IsTied links x) (none : x.hands ≡ []) (whole : (i : ℕ) → i < length x.tracks → HasWhole links.streams.now i x.streams) where
  whole_at : (i : ℕ) (y : NormalState) → Handed links i x y → i < length x.tracks → HasWhole links.streams.now i y.streams
  whole_at i y h lt = let w : HasWhole links.streams.now i x.streams = whole i lt in
      record { stream = w.stream; is_home = h.later i (omega arith) ∙ w.is_home; fits = w.fits; has_hand = w.has_hand }

  abbrev Of : List (Option ServerState) → ℕ → Type 0
  Of streams k = (s : ServerState) → stream_at streams k ≡ Some s → IsStreamOf links.streams.now k s

  handed : (n : ℕ) (y : NormalState) → n ≤ length x.tracks → HandsTo n x y → Handed links n x y
  handed zero y le h = subst (Handed links 0 x) (sym h) (record {
    same = refl;
    streams = refl;
    count = ap length none;
    hands = λ k flag at. absurd (none_some (sym (ap (λ (l : List HandSide). slice_get l k) none) ∙ at));
    of = tied.proxies.streams_of;
    there = λ k. refl;
    later = λ k le. refl;
  })
    where
      none_some : {A : Type 0} {a : A} → None ≡ Some a → ⊥
      none_some e = cc
  handed (suc n) y le h =
      let z : NormalState = h.0 in
      let before : Handed links n x z = handed n z (omega arith) h.1 in
      let one : Hands n z y = h.2 in
      let long = hands_long n z y one in
      let lt : n < length z.streams = (let s = before.streams in let e = tied.sizes.streams_are in omega arith) in
      let w : HasWhole links.streams.now n z.streams = whole_at n z before (omega arith) in
      let is : w.stream ≡ one.stream = some_same w.stream one.stream (sym w.is_home ∙ one.is_home) in
      let here : stream_at y.streams n ≡ Some (without_hand one.stream) = ap (λ (m : NormalState). stream_at m.streams n) one.leaves ∙ get_or-set_same z.streams n (Some (without_hand one.stream)) None lt in
      record {
        same = hands_same n z y one ∙ ap (λ (m : NormalState). record m { streams = y.streams; hands = y.hands }) before.same;
        streams = long.1 ∙ before.streams;
        count = (let c = before.count in let l = long.2 in omega arith);
        hands = hand_more links.streams.now n z y before.count w before.hands one;
        of = λ k. ⊎_elim
            (λ (e : k ≡ n). subst (Of y.streams) (sym e) (λ s at. subst (IsStreamOf links.streams.now n) (some_same (without_hand one.stream) s (sym here ∙ at))
            (record { made = w.fits.made ∙ ap (λ (m : ServerState). Some (server_made m.pass)) is; in_order = one.in_order })))
            (λ (ne : k ≢ n). λ s at. before.of k s (sym (hands_other n z y one k ne) ∙ at))
            (cases_eq k n);
        there = λ k. ⊎_elim
            (λ (e : k ≡ n). subst (λ (m : ℕ). is_some (stream_at y.streams m) ≡ is_some (stream_at x.streams m)) (sym e) (ap is_some here ∙ sym (ap is_some one.is_home) ∙ before.there n))
            (λ (ne : k ≢ n). ap is_some (hands_other n z y one k ne) ∙ before.there k)
            (cases_eq k n);
        later = λ k lt'. let ne : k ≢ n = omega arith in hands_other n z y one k ne ∙ before.later k (omega arith);
      }

  all : (y : NormalState) → HandsTo (length x.tracks) x y → Handed links (length x.tracks) x y
  all y h = handed (length x.tracks) y (omega arith) h

  pub have_hands : (y : NormalState) → HandsTo (length x.tracks) x y → HaveHands links.streams.now (length y.tracks) y.hands
  have_hands y h = record { whole = (all y h).count ∙ sym (ap (λ (z : NormalState). length z.tracks) (all y h).same); flags_of = (all y h).hands }

  pub handed_same : (y : NormalState) → HandsTo (length x.tracks) x y → y ≡ record x { streams = y.streams; hands = y.hands }
  handed_same y h = (all y h).same

  pub handed_tied : (y : NormalState) → HandsTo (length x.tracks) x y → IsTied links y
  handed_tied y h = let a : Handed links (length x.tracks) x y = all y h in subst (IsTied links) (sym a.same) (record {
    sound = tied.sound;
    sizes = subst (λ (n : ℕ). HasSizes links (setup_of x) (length x.tracks) n (length x.commands) x.pipe.pass.part.shape.frames) (sym a.streams) tied.sizes;
    proxies = record { there = λ k lt. a.there k ∙ tied.proxies.there k lt; streams_of = a.of; commands_of = tied.proxies.commands_of };
    out = tied.out;
    linked = tied.linked;
  })

-- ## A turn has begun

module _ (links : Links) (x b : NormalState) (order : IsInOrder links x) (begins : Begins x b) where
  begun_tied : IsTied links b
  begun_tied = subst (IsTied links) (sym begins.same) (record { sound = order.tied.sound; sizes = order.tied.sizes; proxies = order.tied.proxies; out = order.tied.out; linked = order.tied.linked })

  -- each stream proxy is home and still has its hand, if there are no hands yet
  pub whole_begun : b.hands ≡ [] → (i : ℕ) → i < length b.tracks → HasWhole links.streams.now i b.streams
  whole_begun none i lt = by_turns (x.turns) refl
    where
      same : b ≡ record x { entry = b.entry; spare_turns = b.spare_turns; spare_takes = b.spare_takes; turns = x.turns + 1 }
      same = begins.same

      within : i < length x.tracks
      within = (let e = ap (λ (z : NormalState). length z.tracks) same in omega arith)

      at_first : HasNoHands x → HasWhole links.streams.now i b.streams
      at_first h = by_stream (stream_at x.streams i) refl
        where
          by_stream : (o : Option ServerState) → stream_at x.streams i ≡ o → HasWhole links.streams.now i b.streams
          by_stream None e = absurd (true≢false (sym (h.home i) ∙ sym (order.tied.proxies.there i within) ∙ ap is_some e))
          by_stream (Some s) e = record {
            stream = s;
            is_home = ap (λ (z : NormalState). stream_at z.streams i) same ∙ e;
            fits = order.tied.proxies.streams_of i s e;
            has_hand = h.whole i s e;
          }

      by_turns : (n : ℕ) → x.turns ≡ n → HasWhole links.streams.now i b.streams
      by_turns zero e = at_first (order.none_yet e)
      by_turns (suc n) e =
          let some : 1 ≤ x.turns = omega (arith, e) in
          let whole : length x.hands ≡ length x.tracks = (order.hands some).whole in
          let empty : x.hands ≡ [] = sym (ap (λ (z : NormalState). z.hands) same) ∙ none in
          let zero_long : length x.hands ≡ 0 = ap length empty in
          let lt : i < length x.tracks = within in
          absurd (omega (arith, whole, zero_long, lt))

  -- the lists of the entry are empty, and what they had is spare
  pub record Emptied : Type 0 where
    pub turns : HasTurns (length b.tracks) b.entry.tracks b.spare_turns
    pub takes : HasTakes (asked (setup_of b)) (length b.tracks) b.entry.mixes b.spare_takes

  pub emptied : b.spare_turns ≡ record x.spare_turns { items = x.spare_turns.items ++ reverse x.entry.tracks.items } → b.spare_takes ≡ record x.spare_takes { items = x.spare_takes.items ++ reverse x.entry.mixes.items }
      → b.entry.tracks.room ≡ x.entry.tracks.room → b.entry.mixes.room ≡ x.entry.mixes.room → Emptied
  emptied turns takes turns_room takes_room =
      let tracks : length x.tracks ≡ length b.tracks = sym (ap (λ (z : NormalState). length z.tracks) begins.same) in
      let setup : setup_of x ≡ setup_of b = sym (ap setup_of begins.same) in
      record {
        turns = subst (λ (n : ℕ). HasTurns n b.entry.tracks b.spare_turns) tracks (turns_back (length x.tracks) x.entry.tracks x.spare_turns b.entry.tracks b.spare_turns order.turns begins.tracks turns_room turns);
        takes = subst (λ (c : Setup). HasTakes (asked c) (length b.tracks) b.entry.mixes b.spare_takes) setup
            (subst (λ (n : ℕ). HasTakes (asked (setup_of x)) n b.entry.mixes b.spare_takes) tracks (takes_back (asked (setup_of x)) (length x.tracks) x.entry.mixes x.spare_takes b.entry.mixes b.spare_takes order.takes begins.mixes takes_room takes));
      }

  abbrev Goes : NormalState → Type 0
  Goes y = IsGoing links x.turns y

  -- the mixer goes on with its hands
  with_hands : Emptied → (y : NormalState) → y ≡ record b { streams = y.streams; hands = y.hands } → IsTied links y → HaveHands links.streams.now (length y.tracks) y.hands → Goes y
  with_hands e y same tied hands =
      let b_is = begins.same in
      let kept : kept_of y ≡ kept_of x = ap kept_of same ∙ ap kept_of b_is in
      let setup : setup_of y ≡ setup_of x = ap setup_of same ∙ ap setup_of b_is in
      record {
        tied = tied;
        small = subst (λ (m : NormalKept). IsSmall x.turns (setup_of y) m) (sym kept) (subst (λ (c : Setup). IsSmall x.turns c (kept_of x)) (sym setup) order.small);
        looks = subst HaveFewLooks (sym (ap (λ (m : NormalKept). m.tracks) kept)) order.looks;
        hands = hands;
        turns_room = subst (λ (z : NormalState). HasTurns (length z.tracks) z.entry.tracks z.spare_turns) (sym same) e.turns;
        takes_room = subst (λ (z : NormalState). HasTakes (asked (setup_of z)) (length z.tracks) z.entry.mixes z.spare_takes) (sym same) e.takes;
        none = (ap (λ (z : NormalState). z.entry.tracks.items) same ∙ begins.tracks, ap (λ (z : NormalState). z.entry.mixes.items) same ∙ begins.mixes);
        idle = ap (λ (z : NormalState). z.mutator.editing) same ∙ ap (λ (z : NormalState). z.mutator.editing) b_is ∙ order.idle;
        next = ap (λ (z : NormalState). z.turns) same ∙ ap (λ (z : NormalState). z.turns) b_is;
      }

  pub going_begun : Emptied → (y : NormalState) → HasHands b y → Goes y
  going_begun e y h = by_hands (length b.hands == 0) refl h
    where
      by_turns : (n : ℕ) → x.turns ≡ n → 1 ≤ length b.hands → HaveHands links.streams.now (length b.tracks) b.hands
      by_turns zero t some = let none = ap length (order.none_yet t).none in let same = ap (λ (z : NormalState). length z.hands) begins.same in absurd (omega arith)
      by_turns (suc n) t some = subst (λ (z : NormalState). HaveHands links.streams.now (length z.tracks) z.hands) (sym begins.same)
          (let have = order.hands (omega arith) in record { whole = have.whole; flags_of = have.flags_of })

      by_hands : (t : Bool) → (length b.hands == 0) ≡ t → MatchBool t (HandsTo (length b.tracks) b y) (y ≡ b) → Goes y
      by_hands true is m = let none = none_of_zero b.hands is in
          with_hands e y (handed_same links b begun_tied none (whole_begun none) y m) (handed_tied links b begun_tied none (whole_begun none) y m) (have_hands links b begun_tied none (whole_begun none) y m)
      by_hands false is m = subst Goes (sym m) (with_hands e b refl begun_tied (by_turns x.turns refl (some_of_other b.hands is)))
