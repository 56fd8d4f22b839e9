-- What a judge notes of a turn in the blocks of a track is what the turn told of them in the run.
use Rattle.std.proofs.Common.{◌≡◌, ◌⊎◌, ℕ, ◌+◌, ◌==◌, ◌&&◌, not, Bool, true, false, cond, if◌then◌else◌, is_some, fold, map, refl, sym, ap, ◌∙◌, subst, List, [], ◌∷◌, ◌++◌, length, Option, Some, None, inl, inr, nat_lt, eqb-true, append_assoc, append-nil, arith}
use Rattle.af_judge.proofs.Common.{AllByRecursion, BlockTold, CommandLook, Frame, Listed, ServerEvent, ServerKept, Shape, SlotEntry, TakeSeen, TracksRise, events_behind_look, ahead, all_command_events, as_slot, command_events, count_seen, cycle_events, did, flat_map, front_by_answer, front_of, fronts_by, hand_does, leaves_open, length-map, listed, look_events, own_front, packed_word, server_does, server_kept, server_list, shows_command, status_events, take_front, takes_from, took, words_taken}
use Rattle.af_base.specs.declared.event.HandEvent.TheVariants as hand
use Rattle.af_base.specs.declared.event.ServerEvent.TheVariants as server
use Rattle.af_judge.proofs.Basics.{nothing_from}
use Rattle.af_judge.specs.Blocks.{BlockJudged, IsBlockOf, commanded_told, listed_in, played_told}
use Rattle.af_judge.specs.NormalTold.{disabled_told, looks_told, shut_told, status_told}
use Rattle.af_judge.proofs.BlocksTold.{hand_told}
use Rattle.af_judge.proofs.NormalRight.{flags_same}
use Rattle.af_judge.proofs.StepsTold.{commanded_kept, flags_kept, played_kept, server_does-append, status_kept}

-- the server of a block is that of what is kept of it
same_server : (j : BlockJudged) (b : BlockTold) → IsBlockOf j b → listed_in j ≡ listed b
same_server j b h = ap (λ (k : Shape). record { shape = k; events = j.server }) h.shape ∙ ap (λ (es : List ServerEvent). record { shape = b.shape; events = es }) h.server

-- ## The looks at a command block

looks_kept : (looks : List CommandLook) (j : BlockJudged) (b : BlockTold) → IsBlockOf j b
    → IsBlockOf (looks_told looks j) (took (words_taken looks) (server_does (all_command_events (listed b) looks (fronts_by front_of (listed b) looks)) b))
looks_kept [] j b h = subst (λ (ws : List ℕ). IsBlockOf j (record b { taken = ws })) (sym (append-nil b.taken)) h
looks_kept (look ∷ looks) j b h =
    let s : Listed = listed b in
    let ws : List ℕ = (if shows_command look.seen then look.code ∷ look.argument ∷ [] else []) in
    let es : List ServerEvent = command_events s look (front_of 2 s (as_slot look)) in
    let one : IsBlockOf (commanded_told look j) (took ws (server_does es b)) = commanded_kept j b look h in
    let rest = looks_kept looks (commanded_told look j) (took ws (server_does es b)) one in
    let next : listed (took ws (server_does es b)) ≡ did s es =
    sym (same_server (commanded_told look j) (took ws (server_does es b)) one) ∙ ap (λ (x : Listed). did x (command_events x look (front_of 2 x (as_slot look)))) (same_server j b h) in
    let more : List ServerEvent = all_command_events (did s es) looks (fronts_by front_of (did s es) looks) in
    let here : IsBlockOf (looks_told looks (commanded_told look j)) (took (words_taken looks) (server_does more (took ws (server_does es b)))) =
    subst (λ (x : Listed). IsBlockOf (looks_told looks (commanded_told look j)) (took (words_taken looks) (server_does (all_command_events x looks (fronts_by front_of x looks)) (took ws (server_does es b))))) next rest in
    subst (IsBlockOf (looks_told looks (commanded_told look j)))
    (ap (λ (x : BlockTold). took (words_taken looks) (took ws x)) (sym (server_does-append es more b)) ∙ ap (λ (xs : List ℕ). record (server_does (es ++ more) b) { taken = xs }) (append_assoc b.taken ws (words_taken looks)))
    here

-- INVALID, and the status
shut_kept : (shut : Bool) (j : BlockJudged) (b : BlockTold) → IsBlockOf j b → IsBlockOf (shut_told shut j) (server_does (if shut then server.SetFlags 4 ∷ [] else []) b)
shut_kept true j b h = flags_kept j b 4 h
shut_kept false j b h = h

stored_kept : (status : Option ℕ) (j : BlockJudged) (b : BlockTold) → IsBlockOf j b → IsBlockOf (status_told status j) (server_does (status_events status) b)
stored_kept None j b h = h
stored_kept (Some word) j b h = status_kept j b word h

-- a command block is kept with all that a turn did to it
pub commands_kept : (looks : List CommandLook) (shut : Bool) (status : Option ℕ) (j : BlockJudged) (b : BlockTold) → IsBlockOf j b
    → IsBlockOf (status_told status (shut_told shut (looks_told looks j)))
    (took (words_taken looks) (server_does (all_command_events (listed b) looks (fronts_by front_of (listed b) looks) ++ (if shut then server.SetFlags 4 ∷ [] else []) ++ status_events status) b))
commands_kept looks shut status j b h =
    let es : List ServerEvent = all_command_events (listed b) looks (fronts_by front_of (listed b) looks) in
    let flags : List ServerEvent = (if shut then server.SetFlags 4 ∷ [] else []) in
    let told = stored_kept status _ _ (shut_kept shut _ _ (looks_kept looks j b h)) in
    subst (IsBlockOf (status_told status (shut_told shut (looks_told looks j))))
    (ap (took (words_taken looks)) (ap (server_does (status_events status)) (sym (server_does-append es flags b)) ∙ sym (server_does-append (es ++ flags) (status_events status) b)))
    told

-- ## The stream block

disabled_kept : (disabled : Bool) (j : BlockJudged) (b : BlockTold) → IsBlockOf j b → IsBlockOf (disabled_told disabled j) (hand_does (if disabled then hand.SetFlags 8 ∷ [] else []) b)
disabled_kept true j b h = hand_told j b (hand.SetFlags 8 ∷ []) h
disabled_kept false j b h = h

-- the events of a mix follow from what is kept
mix_same : (k : Shape) (xs ys : List ServerEvent) (asked : ℕ) (slot : SlotEntry) → server_kept k xs ≡ server_kept k ys
    → let s : Listed = record { shape = k; events = xs } in let t : Listed = record { shape = k; events = ys } in cycle_events asked s slot (front_of asked s slot) ≡ cycle_events asked t slot (front_of asked t slot)
mix_same k xs ys asked slot same = ap by_kept same
  where
    front : ServerKept → ℕ
    front a = if leaves_open k asked slot.seen && not (nat_lt k.frames (ahead (own_front k a) slot.rear)) then own_front k a else front_by_answer k slot

    by_kept : ServerKept → List ServerEvent
    by_kept a = let was_shut = is_some a.shut in
        server.SawGain slot.gains ∷ (if was_shut then [] else look_events slot.seen slot.flush slot.rear (front a)) ++ events_behind_look asked was_shut slot.seen

module _ (j : BlockJudged) (b : BlockTold) (h : IsBlockOf j b) (shut disabled : Bool) where
  -- the block after DISABLED and INVALID
  abbrev begun : BlockTold
  begun = server_does (if shut then server.SetFlags 4 ∷ [] else []) (hand_does (if disabled then hand.SetFlags 8 ∷ [] else []) b)

  begun_kept : IsBlockOf (shut_told shut (disabled_told disabled j)) begun
  begun_kept = shut_kept shut (disabled_told disabled j) (hand_does (if disabled then hand.SetFlags 8 ∷ [] else []) b) (disabled_kept disabled j b h)

  kept_still : server_kept b.shape (server_list begun) ≡ server_kept b.shape (server_list b)
  kept_still = ap (server_kept b.shape) (sym begun_kept.server) ∙ by_flags shut disabled ∙ ap (server_kept b.shape) h.server
    where
      by_flags : (c d : Bool) → server_kept b.shape (shut_told c (disabled_told d j)).server ≡ server_kept b.shape j.server
      by_flags true true = flags_same b.shape j.server 4
      by_flags true false = flags_same b.shape j.server 4
      by_flags false true = refl
      by_flags false false = refl

  -- what the turn told it, with these takes
  abbrev turned : ℕ → List TakeSeen → BlockTold
  turned asked takes = took (map packed_word (flat_map (λ (take : TakeSeen). take.frames) takes))
      (server_does ((if shut then server.SetFlags 4 ∷ [] else []) ++ flat_map (λ (take : TakeSeen). cycle_events asked (listed b) take.slot (take_front (front_of asked) (listed b) takes)) takes) (hand_does (if disabled then hand.SetFlags 8 ∷ [] else []) b))

  no_take : (asked : ℕ) → IsBlockOf (shut_told shut (disabled_told disabled j)) (turned asked [])
  no_take asked = subst (IsBlockOf (shut_told shut (disabled_told disabled j)))
      (ap (λ (ws : List ℕ). record begun { taken = ws }) (sym (append-nil b.taken))
      ∙ ap (λ (es : List ServerEvent). took [] (server_does es (hand_does (if disabled then hand.SetFlags 8 ∷ [] else []) b))) (sym (append-nil (if shut then server.SetFlags 4 ∷ [] else []))))
      begun_kept

  one_take : (asked : ℕ) (take : TakeSeen) → length take.frames ≡ count_seen take.slot.seen → IsBlockOf (played_told asked take.slot (map packed_word take.frames) (shut_told shut (disabled_told disabled j))) (turned asked (take ∷ []))
  one_take asked take whole =
      let words : List ℕ = map packed_word take.frames in
      let hs = hand_does (if disabled then hand.SetFlags 8 ∷ [] else []) b in
      let es : List ServerEvent = cycle_events asked (listed b) take.slot (front_of asked (listed b) take.slot) in
      let played = played_kept (shut_told shut (disabled_told disabled j)) begun asked take.slot words begun_kept (length-map take.frames packed_word ∙ whole) in
      subst (IsBlockOf (played_told asked take.slot words (shut_told shut (disabled_told disabled j))))
      (ap (λ (xs : List ServerEvent). took words (server_does xs begun)) (mix_same b.shape (server_list begun) (server_list b) asked take.slot kept_still)
      ∙ ap (took words) (sym (server_does-append (if shut then server.SetFlags 4 ∷ [] else []) es hs))
      ∙ ap (λ (xs : List ServerEvent). took words (server_does ((if shut then server.SetFlags 4 ∷ [] else []) ++ xs) hs)) (sym (append-nil es))
      ∙ ap (λ (fs : List Frame). took (map packed_word fs) (server_does ((if shut then server.SetFlags 4 ∷ [] else []) ++ (es ++ [])) hs)) (sym (append-nil take.frames)))
      played

-- ## At most one take is of a track

record Lonely (P : TakeSeen → Type 0) (takes : List TakeSeen) : Type 0 where
  take : TakeSeen
  is : takes ≡ take ∷ []
  holds : P take

lonely : (P : TakeSeen → Type 0) (low : ℕ) (takes : List TakeSeen) (i : ℕ) → TracksRise low takes → AllByRecursion P takes → (takes_from takes i ≡ []) ⊎ Lonely P (takes_from takes i)
lonely P low [] i rise all = inl refl
lonely P low (t ∷ takes) i rise all = by_case (t.track == i) refl (lonely P (t.track + 1) takes i rise.1 all.1)
  where
    by_case : (b : Bool) → (t.track == i) ≡ b → (takes_from takes i ≡ []) ⊎ Lonely P (takes_from takes i) → (cond b (t ∷ takes_from takes i) (takes_from takes i) ≡ []) ⊎ Lonely P (cond b (t ∷ takes_from takes i) (takes_from takes i))
    by_case true same rest =
        let e : t.track ≡ i = eqb-true t.track i same in
        inr (record { take = t; is = ap (λ (ts : List TakeSeen). t ∷ ts) (nothing_from (t.track + 1) takes i rise.1 (omega (arith, e))); holds = all.0 })
    by_case false other rest = rest

-- a stream block is kept with all that a turn did to it
pub stream_kept : (j : BlockJudged) (b : BlockTold) (h : IsBlockOf j b) (shut disabled : Bool) (asked : ℕ) (takes : List TakeSeen) (i : ℕ) → TracksRise 0 takes → AllByRecursion (λ (t : TakeSeen). length t.frames ≡ count_seen t.slot.seen) takes
    → IsBlockOf (fold (λ (x : BlockJudged) (t : TakeSeen). played_told asked t.slot (map packed_word t.frames) x) (shut_told shut (disabled_told disabled j)) (takes_from takes i)) (turned j b h shut disabled asked (takes_from takes i))
stream_kept j b h shut disabled asked takes i rise whole = by_takes (lonely (λ (t : TakeSeen). length t.frames ≡ count_seen t.slot.seen) 0 takes i rise whole)
  where
    F : List TakeSeen → BlockJudged
    F ts = fold (λ (x : BlockJudged) (t : TakeSeen). played_told asked t.slot (map packed_word t.frames) x) (shut_told shut (disabled_told disabled j)) ts

    by_takes : (takes_from takes i ≡ []) ⊎ Lonely (λ (t : TakeSeen). length t.frames ≡ count_seen t.slot.seen) (takes_from takes i) → IsBlockOf (F (takes_from takes i)) (turned j b h shut disabled asked (takes_from takes i))
    by_takes (inl none) = subst (λ (ts : List TakeSeen). IsBlockOf (F ts) (turned j b h shut disabled asked ts)) (sym none) (no_take j b h shut disabled asked)
    by_takes (inr one) = subst (λ (ts : List TakeSeen). IsBlockOf (F ts) (turned j b h shut disabled asked ts)) (sym one.is) (one_take j b h shut disabled asked one.take one.holds)
