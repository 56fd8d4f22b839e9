-- How the slots of a mix begin with the pipe, and what they come to.
use Rattle.std.proofs.Common.{◌≡◌, ℕ, zero, suc, ◌+◌, ◌*◌, ◌≤◌, ◌<◌, true, false, true≢false, List, [], ◌++◌, length, length-set, length-take-le, map, take, Option, slice_index_or, refl, sym, ap, subst, ◌∙◌, append_assoc, append-nil, arith}
use Rattle.af_fast.proofs.Common.{CycleEntry, FastState, Frame, Mixes, Observes, OutSide, ServerState, SlotEntry, StreamNames, SubmixSlot, TrackSlot, absent, add-zero, at, carries, count_seen, entry_slot, frames_taken, get_or-replicate, is_mixed, length-append, mul-le-mul_left, mul-suc, mul_comm, packed_word, place_of, slot_filled, slot_kept, slots, taken_added, taken_before, taken_stay, with_slot}
use Rattle.af_fast.specs.Slots.{listed_at, found, IsMarked, LogsPipe, PlayedTo, PlaysSlots}
use Rattle.af_fast.proofs.SlotSteps.{place_within}

-- the first i slots took at most i times what was asked, if each took at most that
pub taken_few : (asked : ℕ) (entry : CycleEntry) (i : ℕ) → ((j : ℕ) → j < i → count_seen (entry_slot entry j).seen ≤ asked) → taken_before entry i ≤ asked * i
taken_few asked entry zero few = omega arith
taken_few asked entry (suc i) few =
    let before = taken_few asked entry i (λ j lt. few j (omega arith)) in
    let here = few i (omega arith) in
    let next : asked * suc i ≡ asked * i + asked = mul-suc asked i in
    omega (arith, before, here, next)

module _ (asked number : ℕ) (x : FastState) (o : Observes ServerState StreamNames) (p p' : OutSide) (frames first : List Frame) (marked : CycleEntry) (e : SlotEntry)
    (m : IsMarked number x marked) (q : LogsPipe asked p p' frames first e) where
  abbrev added : List Frame
  added = take (count_seen e.seen) q.buffer

  as_many : length added ≡ count_seen e.seen
  as_many = length-take-le (count_seen e.seen) q.buffer (omega (arith, q.long, q.plays.within))

  abbrev begun : CycleEntry
  begun = with_slot marked 0 e

  long : length marked.slots ≡ slots
  long = ap length m.absent_all

  slot_zero : entry_slot begun 0 ≡ e
  slot_zero = slot_filled marked 0 e (omega (arith, long))

  long_first : length first ≡ length frames + count_seen e.seen
  long_first = ap length q.grown ∙ length-append frames added ∙ ap (λ n. length frames + n) as_many

  none_yet : (j : ℕ) → 1 ≤ j → j < slots → entry_slot begun j ≡ absent
  none_yet j some lt = slot_kept marked 0 j e (λ same. omega (arith, same)) ∙ ap (λ (l : List SlotEntry). slice_index_or l j absent) m.absent_all ∙ get_or-replicate slots j absent absent lt

  only_zero : (P : ℕ → Type 0) → P 0 → (j : ℕ) → j < 1 → P j
  only_zero P at_zero zero lt = at_zero
  only_zero P at_zero (suc j) lt = absurd (omega arith)

  -- the slots are played up to slot 1, after the pipe was played
  pub begins : PlayedTo asked x (length frames) o o first first begun begun 1
  begins = record {
    whole = length-set marked.slots 0 e ∙ long;
    others = refl;
    same = refl;
    submix = (refl, refl);
    grown = [];
    grown_is = sym (append-nil first);
    total = (let here = ap (λ (s : SlotEntry). count_seen s.seen) slot_zero in omega (arith, long_first, here));
    placed = only_zero (λ j. (entry_slot begun j).first ≡ place_of (length frames + taken_before begun j) (entry_slot begun j).seen)
        (subst (λ (s : SlotEntry × ℕ). s.0.first ≡ place_of s.1 s.0.seen) (λ k. (sym slot_zero k, sym (add-zero (length frames)) k)) q.plays.place_is);
    inside = only_zero (λ j. (entry_slot begun j).first + count_seen (entry_slot begun j).seen ≤ length first)
        (subst (λ (s : SlotEntry). s.first + count_seen s.seen ≤ length first) (sym slot_zero) (omega (arith, q.plays.place_is, place_within (length frames) e.seen, long_first)));
    within = only_zero (λ j. count_seen (entry_slot begun j).seen ≤ asked) (subst (λ (s : SlotEntry). count_seen s.seen ≤ asked) (sym slot_zero) q.plays.within);
    tracks = (λ j some lt. absurd (omega arith));
    quiet = (λ j some lt. absurd (omega arith));
    rest = (λ j some lt. (refl, none_yet j some lt));
  }

  -- what the slots come to after the last one was played
  module _ (o' : Observes ServerState StreamNames) (final : List Frame) (entry : CycleEntry) (d : PlayedTo asked x (length frames) o o' first final begun entry slots) where
    not_zero : (i : ℕ) → carries x i ≡ true → 0 < i
    not_zero zero on = absurd (true≢false (sym on))
    not_zero (suc i) on = omega arith

    zero_is : entry_slot entry 0 ≡ e
    zero_is = d.submix.0 ∙ slot_zero

    all_grown : final ≡ frames ++ (added ++ d.grown)
    all_grown = d.grown_is ∙ ap (λ (fs : List Frame). fs ++ d.grown) q.grown ∙ append_assoc frames added d.grown

    piped_are : frames_taken final e ≡ added
    piped_are =
        ap (λ (fs : List Frame). frames_taken fs e) d.grown_is
        ∙ taken_stay first d.grown e (omega (arith, q.plays.place_is, place_within (length frames) e.seen, long_first))
        ∙ ap (λ (fs : List Frame). frames_taken fs e) q.grown
        ∙ taken_added frames added e as_many q.plays.place_is

    mixes_so : Mixes asked x (length frames) (found o p) (found o' p') entry
    mixes_so = record {
      whole = (d.whole, ap (λ (y : CycleEntry). length y.scales) d.others ∙ m.whole);
      submix = subst (λ (s : SlotEntry). SubmixSlot asked p.pass.part.events p'.pass.part.events s) (sym zero_is) q.plays.submix;
      tracks = (λ i lt on.
          let played = d.tracks i (not_zero i on) lt on in
          subst (λ (b : Option ServerState × Option ServerState). TrackSlot asked (listed_at b.0) (listed_at b.1).events (entry_slot entry i)) (λ k. (sym played.was k, sym played.is k)) played.plays);
      others = (λ i some lt off. (d.quiet i some lt off).1);
      placed = d.placed;
      scales = (λ i lt. ap (λ (y : CycleEntry). slice_index_or y.scales i 0) d.others ∙ m.scales i lt);
      mono = ap (λ (y : CycleEntry). y.mono) d.others ∙ m.mono;
    }

    others_so : (i : ℕ) → i < slots → carries x i ≡ false → at o'.items i ≡ at o.items i
    others_so zero lt off = d.submix.1
    others_so (suc i) lt off = (d.quiet (suc i) (omega arith) lt off).0

    pub ends : PlaysSlots asked number x o o' p p' frames final entry
    ends = record {
      state = ap (λ (y : CycleEntry). y.state) d.others ∙ m.state;
      mixed = ap (λ (y : CycleEntry). is_mixed y.cycle) d.others ∙ m.mixed;
      mixes = mixes_so;
      same = d.same;
      grown = (added ++ d.grown, all_grown);
      total = d.total;
      within = d.within;
      piped = q.plays.took ∙ ap (λ (fs : List Frame). p.pass.part.frames ++ map packed_word fs) (sym (ap (frames_taken final) zero_is ∙ piped_are));
      tracks = (λ i lt on. d.tracks i (not_zero i on) lt on);
      others = others_so;
    }

    pub few_more : length final ≤ length frames + asked * slots
    few_more = omega (arith, d.total, taken_few asked entry slots d.within)

-- there is room for one slot more
pub room_for : (asked place taken i room : ℕ) → taken ≤ asked * i → i < slots → place + slots * asked ≤ room → place + taken + asked ≤ room
room_for asked place taken i room few lt all =
    let next : asked * suc i ≡ asked * i + asked = mul-suc asked i in
    let most : asked * suc i ≤ asked * slots = mul-le-mul_left asked (omega arith) in
    let other : slots * asked ≡ asked * slots = mul_comm slots asked in
    omega (arith, few, next, most, other, all)
