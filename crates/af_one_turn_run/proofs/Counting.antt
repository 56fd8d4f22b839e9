-- As many frames are taken as the takes of a server's events say.
use Rattle.std.proofs.Common.{◌≡◌, ℕ, ◌+◌, ◌-◌, ◌<◌, ◌==◌, ◌&&◌, not, Bool, true, false, if◌then◌else◌, is_some, map, List, [], ◌∷◌, ◌++◌, length, All, refl, sym, ◌∙◌, arith, length-append}
use Rattle.af_one_turn_run.proofs.Common.{All-head, All-tail, BlockTold, EntrySeen, IsTake, Listed, NormalKept, Outside, Seen, ServerEvent, Setup, SlotEntry, TakeSeen, Turn, events_behind_look, asked as buffer, by_hand, by_server, count_seen, cycle_events, entry_slot, flat_map, front_of, going, hand_events_of, heard, invalid, is_found_shut, is_home, kept, learnt, length-map, listed, look_events, mix_events, packed_word, played, server_does, slot_frames, slots, stream_list, stream_turned, taken_before, takes_from, tally, took, track_at, track_in, tracks_at, told_more}
use Rattle.af_base.specs.declared.event.ServerEvent.TheVariants as server
use Rattle.af_base.specs.declared.seen.Seen.TheVariants as seen
use Rattle.af_one_turn_run.proofs.Growing.{takes_in, IsCounted, takes_more, hand_takes}
use Rattle.af_one_turn_run.proofs.EntrySlots.{slot_long}

-- how many frames the events of a server take
abbrev pub served_in : List ServerEvent → ℕ
served_in es = takes_in (map by_server es)

served_parts : (xs ys : List ServerEvent) → served_in (xs ++ ys) ≡ served_in xs + served_in ys
served_parts [] ys = omega arith
served_parts (x ∷ xs) ys = let r = served_parts xs ys in omega (arith, r)

-- a look takes nothing
look_takes : (v : Seen) (flush rear front : ℕ) → served_in (look_events v flush rear front) ≡ 0
look_takes seen.Absent flush rear front = refl
look_takes _ flush rear front = refl

tally_takes : (missing : ℕ) → served_in (tally missing) ≡ 0
tally_takes missing = by_none (missing == 0)
  where
    by_none : (b : Bool) → served_in (if b then [] else server.Tally missing ∷ server.SetFlags 1 ∷ []) ≡ 0
    by_none true = refl
    by_none false = refl

-- what follows takes what was shown
after_takes : (asked : ℕ) (shut : Bool) (v : Seen) → served_in (events_behind_look asked shut v) ≡ count_seen v
after_takes asked shut seen.Absent = refl
after_takes asked shut (seen.Frames count) = let t = tally_takes (asked - count) in omega (arith, t)
after_takes asked shut seen.Empty = tally_takes asked
after_takes asked shut (seen.Flushed dropped) = refl
after_takes asked true (seen.Shut front rear) = refl
after_takes asked false (seen.Shut front rear) = refl

pub cycle_takes : (asked : ℕ) (s : Listed) (slot : SlotEntry) (front : ℕ) → served_in (cycle_events asked s slot front) ≡ count_seen slot.seen
cycle_takes asked s slot front = by_shut (is_some (kept s).shut)
  where
    by_shut : (b : Bool) → served_in (server.SawGain slot.gains ∷ (if b then [] else look_events slot.seen slot.flush slot.rear front) ++ events_behind_look asked b slot.seen) ≡ count_seen slot.seen
    by_shut true = let a = after_takes asked true slot.seen in omega (arith, a)
    by_shut false =
        let p = served_parts (look_events slot.seen slot.flush slot.rear front) (events_behind_look asked false slot.seen) in
        let l = look_takes slot.seen slot.flush slot.rear front in
        let a = after_takes asked false slot.seen in
        omega (arith, p, l, a)

-- ## Blocks

-- a server that took so many words, by events that take so many
pub counted_served : (b : BlockTold) (es : List ServerEvent) (words : List ℕ) → length words ≡ served_in es → IsCounted b → IsCounted (took words (server_does es b))
counted_served b es words long counted = let n = length-append b.taken words in let m = takes_more b.told (map by_server es) in omega (arith, n, m, long, counted)

-- a block that was played in a slot stays counted
pub counted_played : (asked : ℕ) (e : EntrySeen) (i : ℕ) (b : BlockTold) → i < slots → length e.frames ≡ taken_before e.entry slots → IsCounted b → IsCounted (played asked e i b)
counted_played asked e i b low long counted =
    let slot = entry_slot e.entry i in
    let front = front_of asked (listed b) slot in
    counted_served b (cycle_events asked (listed b) slot front) (map packed_word (slot_frames e i)) (length-map (slot_frames e i) packed_word ∙ slot_long e i low long ∙ sym (cycle_takes asked (listed b) slot front)) counted

-- ## A turn

module _ (c : Setup) (o : Outside) (many : ℕ) where
  mixes_take : (i : ℕ) (front : ℕ) (takes : List TakeSeen) → All (IsTake many) takes → length (flat_map (λ (take : TakeSeen). take.frames) (takes_from takes i)) ≡ served_in (flat_map (λ (take : TakeSeen). cycle_events (buffer c) (o.streams i) take.slot front) (takes_from takes i))
  mixes_take i front [] all = refl
  mixes_take i front (t ∷ takes) all = by_track (t.track == i) (mixes_take i front takes (All-tail (IsTake many) t takes all))
    where
      by_track : (b : Bool) → length (flat_map (λ (take : TakeSeen). take.frames) (takes_from takes i)) ≡ served_in (flat_map (λ (take : TakeSeen). cycle_events (buffer c) (o.streams i) take.slot front) (takes_from takes i))
          → (let l : List TakeSeen = if b then t ∷ takes_from takes i else takes_from takes i in length (flat_map (λ (take : TakeSeen). take.frames) l) ≡ served_in (flat_map (λ (take : TakeSeen). cycle_events (buffer c) (o.streams i) take.slot front) l))
      by_track true rest =
          let n = length-append t.frames (flat_map (λ (take : TakeSeen). take.frames) (takes_from takes i)) in
          let p = served_parts (cycle_events (buffer c) (o.streams i) t.slot front) (flat_map (λ (take : TakeSeen). cycle_events (buffer c) (o.streams i) take.slot front) (takes_from takes i)) in
          let f = (All-head (IsTake many) t takes all).frames in
          let k = cycle_takes (buffer c) (o.streams i) t.slot front in
          omega (arith, n, p, f, k, rest)
      by_track false rest = rest

  pub counted_turn : (m : NormalKept) (e : Turn) (i : ℕ) (b : BlockTold) → All (IsTake many) e.mixes → IsCounted b → IsCounted (stream_turned c o m e i b)
  counted_turn m e i b all counted =
      counted_served (record b { told = told_more b.told (map by_hand (hand_events_of e i)) }) (stream_list c o e (tracks_at c (learnt o) m e i) i) (going e (map packed_word (flat_map (λ take. take.frames) (takes_from e.mixes i)))) (by_end e.ended)
      (let n = takes_more b.told (map by_hand (hand_events_of e i)) in let h = hand_takes (hand_events_of e i) in omega (arith, n, h, counted))
    where
      nothing : (home shut : Bool) → served_in (if home then (if shut then server.SetFlags 4 ∷ [] else []) else []) ≡ 0
      nothing true true = refl
      nothing true false = refl
      nothing false shut = refl

      by_end : (b : Bool) → length (if b then [] else map packed_word (flat_map (λ (take : TakeSeen). take.frames) (takes_from e.mixes i))) ≡ served_in (if b then [] else (if is_home (track_at (tracks_at c (learnt o) m e i) i).holder then invalid (learnt o) (track_in e i) (tracks_at c (learnt o) m e i) i else []) ++ mix_events c o e.mixes i)
      by_end true = refl
      by_end false =
          let l = length-map (flat_map (λ (take : TakeSeen). take.frames) (takes_from e.mixes i)) packed_word in
          let t = mixes_take i (o.stream_front i) e.mixes all in
          let p = served_parts (if is_home (track_at (tracks_at c (learnt o) m e i) i).holder then invalid (learnt o) (track_in e i) (tracks_at c (learnt o) m e i) i else []) (mix_events c o e.mixes i) in
          let s = track_at (tracks_at c (learnt o) m e i) i in
          let n = nothing (is_home s.holder) (not s.life.ended && is_found_shut (heard (learnt o) i s) (track_in e i).looks) in
          omega (arith, l, t, p, n)
