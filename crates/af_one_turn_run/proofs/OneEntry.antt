-- An entry of the fast mixer is determined by what the stream blocks, the queue and the pipe tell.
use Rattle.std.proofs.Common.{◌≡◌, ◌⊎◌, inl, inr, ℕ, zero, suc, ◌+◌, ◌<◌, ◌&&◌, Bool, true, false, true≢false, if◌then◌else◌, is_some, map, List, [], ◌∷◌, ◌++◌, take, drop, length, All, Option, Some, None, refl, sym, ap, ◌∙◌, subst, arith, length-append}
use Rattle.af_one_turn_run.proofs.Common.{BlockTold, CarriesApart, CarriesWithin, CycleEntry, EntrySeen, FastState, Frame, IsFrame, Legal, LegalEntry, Listed, LooksBy, Marks, MatchOption, Mixes, PipeTold, Run, ServerEvent, Session, SlotEntry, TrackTold, absent, after, events_behind_look, append_cancel_left, carries, cases_eq, client_of, cold_done, count_seen, cycle_events, cycle_frames, cycle_of, drop-take, drop_at, each_at, entry_slot, ext_get_or, found_for, frames_before, front_of, is_mixed, kept, lawful_front, length-map, listed, look_at, look_events, mixed_track, no_track, packed_word, pipe_size, played, shows_slot, setup_of, slot_playing, slot_frames, slot_of, slots, start, state_for, state_known, state_of, still_entry, stream_of, submix_slot, taken_before, takes_shown, told_at, two, twos, with_mix, wrapped}
use Rattle.af_base.specs.declared.event.ServerEvent.TheVariants as server
use Rattle.af_base.specs.declared.log.Cycle.{Cycle}
use Rattle.af_base.specs.declared.seen.Seen.TheVariants as seen
use Rattle.af_model.specs.Order.{point_after as after_both}
use Rattle.af_model.specs.PipeHistory as piped
use Rattle.af_runs.proofs.Basics.{absent_at, shown_if}
use Rattle.af_judge.proofs.EntryLegal.{twos-more}
use Rattle.af_one_turn_run.proofs.Taking.{IsTakenOf}
use Rattle.af_one_turn_run.proofs.EntrySlots.{AreAlike, slot_found, slot_long, same_frames, same_slots}
use Rattle.af_one_turn_run.proofs.LegalFronts.{server_front}
use Rattle.af_one_turn_run.proofs.OneTakes.{bare_slot, SlotTold, one_slot}
use Rattle.af_one_turn_run.proofs.OneTurn.{IsBlockTold}
use Rattle.af_one_turn_run.proofs.Parts.{legal_parts}
use Rattle.af_one_turn_run.proofs.TakenWords.{words_told}

-- ## Fronts that lists tell

fourth_front : List ServerEvent → ℕ
fourth_front (a ∷ b ∷ c ∷ server.SawFront front ∷ es) = front
fourth_front _ = 0

second_front : List ServerEvent → ℕ
second_front (a ∷ server.SawFront front ∷ es) = front
second_front _ = 0

-- a look answers by any front that tells the same events
same_answer : (asked : ℕ) (s : Listed) (slot : SlotEntry) (f g : ℕ) → cycle_events asked s slot f ≡ cycle_events asked s slot g → LooksBy asked s slot f → LooksBy asked s slot g
unfolding fourth_front
same_answer asked s slot f g same by = (by.0, by_shut (kept s).shut same by.1)
  where
    by_shut : (o : Option (ℕ × ℕ)) → (let es : ℕ → List ServerEvent = λ front. server.SawGain slot.gains ∷ (if is_some o then [] else look_events slot.seen slot.flush slot.rear front) ++ events_behind_look asked (is_some o) slot.seen in es f ≡ es g)
        → MatchOption o (slot.seen ≡ look_at s.shape (kept s).flush asked slot.flush slot.rear f) (λ words. (slot.seen ≡ seen.Shut words.0 words.1) × (slot.flush ≡ (kept s).flush) × (slot.rear ≡ words.1))
        → MatchOption o (slot.seen ≡ look_at s.shape (kept s).flush asked slot.flush slot.rear g) (λ words. (slot.seen ≡ seen.Shut words.0 words.1) × (slot.flush ≡ (kept s).flush) × (slot.rear ≡ words.1))
    by_shut None is h = subst (λ (n : ℕ). slot.seen ≡ look_at s.shape (kept s).flush asked slot.flush slot.rear n) (ap fourth_front is) h
    by_shut (Some words) is h = h

still_none : (state : ℕ) (cycle : Cycle) (n : ℕ) → taken_before (still_entry state cycle) n ≡ 0
still_none state cycle zero = refl
still_none state cycle (suc n) =
    let before = still_none state cycle n in
    let here = ap (λ (z : SlotEntry). count_seen z.seen) (absent_at slots n) in
    omega (arith, before, here)

no_frames : (frames : List Frame) → length frames ≡ 0 → frames ≡ []
no_frames [] is = refl
no_frames (frame ∷ frames) is = absurd (let z : ⊥ = omega (arith, is) in z)

module _ (s : Session) (marks : Marks) (lawful : (n : ℕ) → marks.streams n ≡ true) (r : Run) (many : ℕ) (frames : ℕ → List ℕ) where
  abbrev asked : ℕ
  asked = cycle_frames s

  -- an entry that is told: legal, of its form, and after it all is told in a legal order, with the frames taken
  pub record IsEntryTold (e : EntrySeen) : Type 0 where
    pub legal : LegalEntry s marks r e
    pub long : length e.frames ≡ taken_before e.entry slots
    pub are : All IsFrame e.frames
    pub streams : (n : ℕ) → n < many → IsBlockTold (frames n) (told_at (with_mix s e r) n).stream
    pub pipe : Legal (piped.legal_in_pipe (pipe_size (setup_of s))) piped.next_in_pipe piped.start_of_pipe (with_mix s e r).pipe.told
    pub pipe_taken : (with_mix s e r).pipe.taken ≡ take (length (with_mix s e r).pipe.taken) r.pipe.put

  -- how all is told before the entry
  pub record IsBeforeEntry (x : FastState) : Type 0 where
    pub tracks : length r.tracks ≡ many
    pub apart : CarriesApart x
    pub within : CarriesWithin many x
    pub streams : (n : ℕ) → n < many → IsTakenOf (frames n) (told_at r n).stream

  -- ## A slot of the mask

  module _ (x : FastState) (h : IsBeforeEntry x) (e : EntrySeen) (t : IsEntryTold e) (state : state_for s r e.entry.state ≡ x) (mixed : is_mixed e.entry.cycle ≡ true) where
    abbrev block : ℕ → BlockTold
    block i = (told_at r (slot_of x i).track).stream

    mixes : Mixes asked x (frames_before r) (found_for r x) t.legal.after e.entry
    mixes = by_state (state_of r.states e.entry.state) refl
      where
        by_state : (o : Option FastState) → state_of r.states e.entry.state ≡ o → Mixes asked x (frames_before r) (found_for r x) t.legal.after e.entry
        by_state None is = absurd (true≢false (sym mixed ∙ (ap is_mixed t.legal.cycle.what ∙ ap (λ (o : Option FastState). is_mixed (cycle_of (cold_done r.states r.entries) o)) is)))
        by_state (Some y) is =
            let same : y ≡ x = sym (state_known s r e.entry.state y is) ∙ state in
            subst (λ (z : FastState). Mixes asked z (frames_before r) (found_for r x) t.legal.after e.entry) same
            (subst (λ (z : FastState). Mixes asked y (frames_before r) (found_for r z) t.legal.after e.entry) state (t.legal.cycle.mixes y is mixed))

    -- the look of a slot that the state carries answers by its server's own front
    slot_looks : (i : ℕ) → i < slots → carries x i ≡ true → LooksBy asked (listed (block i)) (entry_slot e.entry i) (lawful_front asked (listed (block i)) (entry_slot e.entry i))
    slot_looks i low carried =
        let k = listed (block i) in
        let slot = entry_slot e.entry i in
        let look = mixes.tracks i low carried in
        let own : (t.legal.after.servers i).events ≡ k.events ++ cycle_events asked k slot (lawful_front asked k slot) =
        subst (λ (z : FastState). carries z i ≡ true → marks.streams (slot_of z i).track ≡ true → (let k = listed (stream_of r z i) in (t.legal.after.servers i).events ≡ k.events ++ cycle_events asked k slot (lawful_front asked k slot))) state
        (t.legal.lawful mixed i low) carried (lawful (slot_of x i).track) in
        same_answer asked k slot look.front (lawful_front asked k slot) (append_cancel_left k.events _ _ (sym look.list ∙ own)) look.looks

    -- after the entry the block of a slot that the state carries has its events
    slot_plays : (i : ℕ) → i < slots → carries x i ≡ true → (told_at (with_mix s e r) (slot_of x i).track).stream ≡ played asked e i (block i)
    unfolding with_mix
    slot_plays i low carried =
        let n = (slot_of x i).track in
        let few : n < length r.tracks = (let m = h.tracks in let w = h.within i low carried in omega (arith, m, w)) in
        let here : shows_slot x e.entry i ≡ true = λ j. carried j && shown_if (entry_slot e.entry i).seen (slot_looks i low carried).0 j in
        let found : slot_playing x e.entry n ≡ Some i = slot_found x e.entry i h.apart low carried here in
        ap (λ (z : TrackTold). z.stream) (each_at (mixed_track s (state_for s r e.entry.state) e) 0 r.tracks n n no_track few (omega arith) ∙ ap (λ (z : FastState). mixed_track s z e n (told_at r n)) state)
        ∙ ap (λ (o : Option ℕ). (elim o as (λ o. TrackTold) [ None ↦ told_at r n | Some i ↦ record (told_at r n) { stream = played asked e i (told_at r n).stream } ]).stream) found

    -- a slot that the state carries is told
    slot_told : (i : ℕ) → i < slots → carries x i ≡ true → (let b = block i in SlotTold (frames (slot_of x i).track) b.shape.base asked (listed b) (after (start b.shape) b.told) (length (client_of b.told)) (entry_slot e.entry i) (map packed_word (slot_frames e i)))
    slot_told i low carried =
        let b = block i in
        let slot = entry_slot e.entry i in
        let n = (slot_of x i).track in
        let few : n < many = h.within i low carried in
        let is : IsBlockTold (frames n) (played asked e i b) = subst (IsBlockTold (frames n)) (slot_plays i low carried) (t.streams n few) in
        let events = cycle_events asked (listed b) slot (front_of asked (listed b) slot) in
        record {
          looks = slot_looks i low carried;
          sees = server_front (start b.shape) b.told events is.legal;
          words_are = words_told (frames n) b.shape b.told events b.taken (map packed_word (slot_frames e i)) (h.streams n few) is.taken;
        }

    -- ## The submix

    pipe_events : List ServerEvent
    pipe_events = let slot = entry_slot e.entry 0 in server.SawRear slot.rear ∷ server.SawFront (wrapped (length r.pipe.taken)) ∷ takes_shown slot.seen

    pipe_told : (with_mix s e r).pipe ≡ record r.pipe { told = r.pipe.told ++ map two pipe_events; taken = r.pipe.taken ++ map packed_word (slot_frames e 0) }
    unfolding with_mix pipe_events
    pipe_told = ap (λ (b : Bool). if b then record r.pipe { told = r.pipe.told ++ map two pipe_events; taken = r.pipe.taken ++ map packed_word (slot_frames e 0) } else r.pipe) mixed

    submix_so : bare_slot (entry_slot e.entry 0) ≡ submix_slot asked (wrapped (length r.pipe.taken)) (wrapped (after_both (piped.legal_in_pipe (pipe_size (setup_of s))) piped.next_in_pipe piped.start_of_pipe r.pipe.told).put) 0
    unfolding second_front pipe_events
    submix_so =
        let slot = entry_slot e.entry 0 in
        let m = mixes.submix in
        let front : m.front ≡ wrapped (length r.pipe.taken) =
        ap second_front (append_cancel_left (twos r.pipe.told) _ _ (sym m.list ∙ t.legal.pipe ∙ ap (λ (p : PipeTold). twos p.told) pipe_told ∙ twos-more r.pipe.told pipe_events)) in
        let rear : slot.rear ≡ wrapped (after_both (piped.legal_in_pipe (pipe_size (setup_of s))) piped.next_in_pipe piped.start_of_pipe r.pipe.told).put =
        (legal_parts (piped.legal_in_pipe (pipe_size (setup_of s))) piped.next_in_pipe piped.start_of_pipe r.pipe.told (map two pipe_events) (subst (λ (p : PipeTold). Legal (piped.legal_in_pipe (pipe_size (setup_of s))) piped.next_in_pipe piped.start_of_pipe p.told) pipe_told t.pipe)).1.0 in
        ap bare_slot m.shows ∙ (λ j. submix_slot asked (front j) (rear j) 0)

    submix_words : map packed_word (slot_frames e 0) ≡ take (count_seen (entry_slot e.entry 0).seen) (drop (length r.pipe.taken) r.pipe.put)
    submix_words =
        let ws = map packed_word (slot_frames e 0) in
        let taken = r.pipe.taken in
        let count = count_seen (entry_slot e.entry 0).seen in
        let long : length ws ≡ count = length-map (slot_frames e 0) packed_word ∙ slot_long e 0 (omega arith) t.long in
        let all : taken ++ ws ≡ take (length (taken ++ ws)) r.pipe.put = subst (λ (p : PipeTold). p.taken ≡ take (length p.taken) r.pipe.put) pipe_told t.pipe_taken in
        let many_words : length (taken ++ ws) ≡ length taken + count = length-append taken ws ∙ ap (λ n. length taken + n) long in
        sym (drop_at taken ws (length taken) refl) ∙ ap (drop (length taken)) (all ∙ ap (λ n. take n r.pipe.put) many_words) ∙ drop-take (length taken) count r.pipe.put

  -- ## Two entries

  module _ (x : FastState) (h : IsBeforeEntry x) (a b : EntrySeen) (t : IsEntryTold a) (u : IsEntryTold b) (states : a.entry.state ≡ b.entry.state) (state : state_for s r a.entry.state ≡ x) where
    state_b : state_for s r b.entry.state ≡ x
    state_b = ap (state_for s r) (sym states) ∙ state

    same_cycle : a.entry.cycle ≡ b.entry.cycle
    same_cycle = t.legal.cycle.what ∙ ap (λ k. cycle_of (cold_done r.states r.entries) (state_of r.states k)) states ∙ sym u.legal.cycle.what

    -- the slots of two mixes are alike
    module _ (mixed : is_mixed a.entry.cycle ≡ true) where
      mixed_b : is_mixed b.entry.cycle ≡ true
      mixed_b = ap is_mixed (sym same_cycle) ∙ mixed

      alike_at : (i : ℕ) → i < slots → (bare_slot (entry_slot a.entry i) ≡ bare_slot (entry_slot b.entry i)) × (map packed_word (slot_frames a i) ≡ map packed_word (slot_frames b i))
      alike_at i low = by_zero (cases_eq 0 i)
        where
          absent_alike : entry_slot a.entry i ≡ absent → entry_slot b.entry i ≡ absent → (bare_slot (entry_slot a.entry i) ≡ bare_slot (entry_slot b.entry i)) × (map packed_word (slot_frames a i) ≡ map packed_word (slot_frames b i))
          absent_alike none none_b =
              let nothing : (e : EntrySeen) → entry_slot e.entry i ≡ absent → map packed_word (slot_frames e i) ≡ [] = λ e is. ap (λ (z : SlotEntry). map packed_word (take (count_seen z.seen) (drop (taken_before e.entry i) e.frames))) is in
              (ap bare_slot (none ∙ sym none_b), nothing a none ∙ sym (nothing b none_b))

          by_carried : (0 ≡ i → ⊥) → (c : Bool) → carries x i ≡ c → (bare_slot (entry_slot a.entry i) ≡ bare_slot (entry_slot b.entry i)) × (map packed_word (slot_frames a i) ≡ map packed_word (slot_frames b i))
          by_carried some true is =
              let k = (told_at r (slot_of x i).track).stream in
              one_slot (frames (slot_of x i).track) k.shape.base asked (listed k) (after (start k.shape) k.told) (length (client_of k.told)) (entry_slot a.entry i) (entry_slot b.entry i) (map packed_word (slot_frames a i)) (map packed_word (slot_frames b i))
              (slot_told x h a t state mixed i low is) (slot_told x h b u state_b mixed_b i low is)
          by_carried some false is = absent_alike ((mixes x h a t state mixed).others i (omega (arith, some)) low is) ((mixes x h b u state_b mixed_b).others i (omega (arith, some)) low is)

          by_zero : (0 ≡ i) ⊎ (0 ≡ i → ⊥) → (bare_slot (entry_slot a.entry i) ≡ bare_slot (entry_slot b.entry i)) × (map packed_word (slot_frames a i) ≡ map packed_word (slot_frames b i))
          by_zero (inl zero_is) =
              let bare : bare_slot (entry_slot a.entry 0) ≡ bare_slot (entry_slot b.entry 0) = submix_so x h a t state mixed ∙ sym (submix_so x h b u state_b mixed_b) in
              subst (λ i. (bare_slot (entry_slot a.entry i) ≡ bare_slot (entry_slot b.entry i)) × (map packed_word (slot_frames a i) ≡ map packed_word (slot_frames b i))) zero_is
              (bare, submix_words x h a t state mixed ∙ ap (λ (z : SlotEntry). take (count_seen z.seen) (drop (length r.pipe.taken) r.pipe.put)) bare ∙ sym (submix_words x h b u state_b mixed_b))
          by_zero (inr some) = by_carried some (carries x i) refl

      alike : AreAlike a b
      alike = record { bare = λ i low. (alike_at i low).0; words = λ i low. (alike_at i low).1 }

      same_mix : a ≡ b
      same_mix =
          let m = mixes x h a t state mixed in
          let n = mixes x h b u state_b mixed_b in
          let slots_same = same_slots a b alike (frames_before r) m.whole.0 n.whole.0 m.placed n.placed in
          let frames_same = same_frames a b alike t.long u.long t.are u.are in
          let scales : a.entry.scales ≡ b.entry.scales = ext_get_or 0 a.entry.scales b.entry.scales (m.whole.1 ∙ sym n.whole.1)
          (λ i low. let few : i < slots = (let w = m.whole.1 in omega (arith, low, w)) in m.scales i few ∙ sym (n.scales i few)) in
          let mono : a.entry.mono ≡ b.entry.mono = m.mono ∙ sym n.mono in
          λ j. let e : EntrySeen = record { entry = record { state = states j; cycle = same_cycle j; slots = slots_same j; scales = scales j; mono = mono j }; frames = frames_same j } in e

    same_still : is_mixed a.entry.cycle ≡ false → a ≡ b
    same_still still =
        let entries : a.entry ≡ b.entry = t.legal.cycle.still still ∙ (λ j. still_entry (states j) (same_cycle j)) ∙ sym (u.legal.cycle.still (ap is_mixed (sym same_cycle) ∙ still)) in
        let none : (e : EntrySeen) → IsEntryTold e → e.entry ≡ still_entry e.entry.state e.entry.cycle → e.frames ≡ [] = λ e told is. no_frames e.frames (told.long ∙ ap (λ (z : CycleEntry). taken_before z slots) is ∙ still_none e.entry.state e.entry.cycle slots) in
        let frames_same = none a t (t.legal.cycle.still still) ∙ sym (none b u (u.legal.cycle.still (ap is_mixed (sym same_cycle) ∙ still))) in
        λ j. let e : EntrySeen = record { entry = entries j; frames = frames_same j } in e

    -- two entries that are told, of one state, are the same
    pub one_entry : a ≡ b
    one_entry = by_cycle (is_mixed a.entry.cycle) refl
      where
        by_cycle : (c : Bool) → is_mixed a.entry.cycle ≡ c → a ≡ b
        by_cycle true is = same_mix is
        by_cycle false is = same_still is
