-- What the looks at the pipe see in a round: the front of a mix is the number of frames that the mixer took, and that of the normal mixer's turn the one that its room tells.
use Rattle.std.proofs.Common.{◌≡◌, ⊎_elim, ℕ, ◌+◌, ◌≤◌, if◌then◌else◌, map, drop, Bool, true, false, List, [], ◌∷◌, ◌++◌, length, length-append, append_assoc, refl, sym, ap, subst, ◌∙◌, arith}
use Rattle.af_play_law.proofs.Common.{ClientEvent, CycleEntry, EndsMet, Event, FastState, Frame, HasPipeHistory, MixerState, Mixes, OutSide, PipePoint, Seen, SeesTaken, ServerEvent, SessionState, Takes, TookCounted, point_after, cases_eq, count_seen, entry_slot, frames_taken, front_by_room, is_mixed, length-drop, length-map, length-take, min, ne_eqb, one, packed_word, place_of, releases_of, room_by, slots, taken-append, taken_before, takes_shown, two, twos}
use Rattle.af_base.specs.declared.event.ClientEvent.TheVariants as client
use Rattle.af_base.specs.declared.event.ServerEvent.TheVariants as server
use Rattle.af_base.specs.declared.seen.Seen.TheVariants as seen
use Rattle.af_base.specs.declared.log.SlotEntry.{SlotEntry}
use Rattle.af_base.specs.Log as log
use Rattle.af_fast.specs.Slots.{found}
use Rattle.af_model.specs.PipeHistory.{legal_in_pipe, next_in_pipe, start_of_pipe}
use Rattle.af_enough_law.proofs.SeenShared.{taken_more, taken_same}
use Rattle.af_one_turn_run.proofs.EntrySlots.{taken_rise}
use Rattle.af_told_law.proofs.TurnPipe.{front_told}

-- ## Beginnings

-- if each front seen in a list is the number of frames taken before, so it is in a beginning
pub seen_front : (n : ℕ) (xs ys : List ServerEvent) → SeesTaken n (xs ++ ys) → SeesTaken n xs
seen_front n [] ys s = tt
seen_front n (server.SawFront front ∷ xs) ys s = (s.0, seen_front n xs ys s.1)
seen_front n (server.Take count ∷ xs) ys s = seen_front (n + count) xs ys s
seen_front n (server.SawRear rear ∷ xs) ys s = seen_front n xs ys s
seen_front n (server.Learn count ∷ xs) ys s = seen_front n xs ys s
seen_front n (server.SawGain word ∷ xs) ys s = seen_front n xs ys s
seen_front n (server.SawFlush flush ∷ xs) ys s = seen_front n xs ys s
seen_front n (server.Drop to ∷ xs) ys s = seen_front n xs ys s
seen_front n (server.Tally missing ∷ xs) ys s = seen_front n xs ys s
seen_front n (server.SetFlags bits ∷ xs) ys s = seen_front n xs ys s
seen_front n (server.SetStatus word ∷ xs) ys s = seen_front n xs ys s

-- ## A mix

takes_count : (s : Seen) → frames_taken (takes_shown s) ≡ count_seen s
takes_count (seen.Frames count) = omega arith
takes_count _ = refl

-- the frames of the submix slot are as many as its look shows
module _ (frames : List Frame) (entry : CycleEntry) (place : ℕ) (first : (entry_slot entry 0).first ≡ place_of (place + taken_before entry 0) (entry_slot entry 0).seen) (total : length frames ≡ place + taken_before entry slots) where
  abbrev count : ℕ
  count = count_seen (entry_slot entry 0).seen

  long : length (log.frames_taken frames (entry_slot entry 0)) ≡ min count (length (drop (entry_slot entry 0).first frames))
  long = length-take count (drop (entry_slot entry 0).first frames)

  slot_long : length (log.frames_taken frames (entry_slot entry 0)) ≡ count
  slot_long = ⊎_elim
      (λ (none : count ≡ 0). (let l = long in omega (arith, none, l)))
      (λ (some : count ≡ 0 → ⊥).
      (let at_place : (entry_slot entry 0).first ≡ place + taken_before entry 0 = first ∙ ap (λ (b : Bool). if b then 0 else place + taken_before entry 0) (ne_eqb count 0 some) in
      let rest = length-drop (entry_slot entry 0).first frames in
      let up = taken_rise entry 1 slots (omega arith) in
      let l = long in
      omega (arith, at_place, rest, up, l, total)))
      (cases_eq count 0)

-- the frames that a mix took are counted again after it
pub took_mixed : (f g : MixerState) (x : FastState) (entry : CycleEntry) → Takes f g entry → (is_mixed entry.cycle ≡ true → Mixes f.frames x (length f.log.frames) (found f.observer f.pipe) (found g.observer g.pipe) entry) → TookCounted f → TookCounted g
took_mixed f g x entry takes mixes took = by_mixed (is_mixed entry.cycle) refl
  where
    by_mixed : (b : Bool) → is_mixed entry.cycle ≡ b → TookCounted g
    by_mixed false dry = ap (λ (o : OutSide). length o.pass.part.frames) (takes.still dry).1 ∙ took ∙ ap (λ (o : OutSide). frames_taken o.pass.part.events) (sym (takes.still dry).1)
    by_mixed true mixed =
        let m = mixes mixed in
        let slot : SlotEntry = entry_slot entry 0 in
        let more : List ServerEvent = server.SawRear slot.rear ∷ server.SawFront m.submix.front ∷ takes_shown slot.seen in
        let mine : List Frame = log.frames_taken g.log.frames slot in
        let frames = ap (λ (l : List ℕ). length l) (takes.piped mixed) in
        let sum = length-append f.pipe.pass.part.frames (map packed_word mine) in
        let words = length-map mine packed_word in
        let long = slot_long g.log.frames entry (length f.log.frames) (m.placed 0 (omega arith)) takes.total in
        let events = ap (λ (l : List ServerEvent). frames_taken l) m.submix.list in
        let counted = taken-append f.pipe.pass.part.events more in
        let shown = takes_count slot.seen in
        omega (arith, frames, sum, words, long, events, counted, shown, took)

-- ## A meeting

took_after : (size : ℕ) (p : PipePoint) (es : List (Event ClientEvent ServerEvent)) → (point_after (legal_in_pipe size) next_in_pipe p es).taken ≡ p.taken + frames_taken (twos es)
took_after size p [] = omega arith
took_after size p (one e ∷ es) = let rest = took_after size (next_in_pipe p (one e)) es in let now = taken_same p e in omega (arith, rest, now)
took_after size p (two e ∷ es) = let rest = took_after size (next_in_pipe p (two e)) es in let now = taken_more p e in omega (arith, rest, now)

-- in a history the frames taken are counted
pub took_met : (size : ℕ) (puts : List ClientEvent) (put : List ℕ) (takes : List ServerEvent) (taken : List ℕ) → HasPipeHistory size puts put takes taken → length taken ≡ frames_taken takes
took_met size puts put takes taken h =
    let all = took_after size start_of_pipe h.history.order in
    let is = h.taken_is in
    let list = ap (λ (l : List ServerEvent). frames_taken l) h.history.of_two in
    omega (arith, all, is, list)

-- in a round each mix saw the frames taken before
pub sees_in_round : (u z : SessionState) → EndsMet u.normal z.normal u.fast z.fast → (g : MixerState) (rest : List ServerEvent) → u.fast.pipe.pass.part.events ≡ g.pipe.pass.part.events ++ rest → SeesTaken 0 g.pipe.pass.part.events
sees_in_round u z ends g rest goes =
    let learns : List ServerEvent = server.Learn (length u.normal.pipe.pass.part.events) ∷ [] in
    seen_front 0 g.pipe.pass.part.events (rest ++ learns)
    (subst (λ (es : List ServerEvent). SeesTaken 0 es) (ap (λ (f : MixerState). f.pipe.pass.part.events) ends.fast ∙ ap (λ (es : List ServerEvent). es ++ learns) goes ∙ append_assoc g.pipe.pass.part.events rest learns) ends.histories.fronts)

-- ## A turn of the normal mixer

-- the room that the turn saw tells the front, also if frames were taken meanwhile
pub room_front : (size : ℕ) → size ≤ 65536 → (before puts : List ClientEvent) (front cells n count : ℕ) (put more taken : List ℕ) (takes : List ServerEvent) → puts ≡ before ++ client.SawFront front ∷ releases_of cells (length put) n → length more ≡ n
    → HasPipeHistory size (puts ++ client.Learn count ∷ []) (put ++ more) takes taken → front_by_room size (length put) (room_by size (length put) front) ≡ front
room_front size few before puts front cells n count put more taken takes is long h =
    front_told size few before front cells n count put more taken takes long
    (subst (λ (l : List ClientEvent). HasPipeHistory size l (put ++ more) takes taken) (ap (λ (l : List ClientEvent). l ++ client.Learn count ∷ []) is ∙ append_assoc before (client.SawFront front ∷ releases_of cells (length put) n) (client.Learn count ∷ [])) h)
