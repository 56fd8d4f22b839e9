-- What is kept of the pipe follows each step of a round, and each meeting is judged exactly if all turns were legal.
use Rattle.std.specs.Prelude.{if◌then◌else◌, ◌==◌, ◌↔◌}
use Rattle.std.proofs.Common.{◌≡◌, ℕ, suc, ◌+◌, ◌-◌, ◌%◌, ◌^◌, ◌≤◌, ◌&&◌, Bool, true, false, List, [], ◌∷◌, ◌++◌, fold, length, map, refl, sym, ap, ◌∙◌, subst, arith, append_assoc, append-nil, length-append}
use Rattle.af_judge.proofs.Common.{ClientEvent, EntrySeen, Frame, HasPipeHistory, HasPipeTold, IsPutList, IsTakeList, Legal, LegalTurnBy, Marks, NormalKept, PipeTold, PutKept, RoundSeen, Run, Seen, ServerEvent, Session, Setup, TakeSeen, TrackKept, Turn, TurnFound, point_after, after_edits, after_put, ahead, asked, count_seen, each_track, ends, entry_slot, eqb-true, fold-append, frames_taken, is_mixed, is_taking, learnt, leb-false, leb-true, length-map, length-map-range_with_len, list_all, list_all-append, may_put, met, mixed_frame, mixed_here, nat_le, new_run, nothing_put, one, ones, packed_word, pipe_cells, pipe_size, put_by as frames_put, releases_of, room_by, setup_of, slot_frames, take_of, takes_shown, tracks_due, two, twos, with_calls, with_ends, with_load, with_mix, with_poll, with_turn, wrapped}
use Rattle.af_base.specs.declared.event.ClientEvent.TheVariants as client
use Rattle.af_base.specs.declared.event.ServerEvent.TheVariants as server
use Rattle.af_base.specs.declared.seen.Seen.TheVariants as seen
use Rattle.af_judge.specs.FastKept.{pipe_played}
use Rattle.af_judge.specs.PipeKept.{AreEnds, HasPipeOrder, PipeKept, front_by_room, new_pipe, put_by, put_in, saw_front, taken_by, taken_in, with_look, with_meeting, with_put}
use Rattle.af_judge.specs.SharedTold.{PipeOf}
use Rattle.af_judge.proofs.Words.{pipe_noted}
use Rattle.af_judge.proofs.PipeExact.{pipe_exact}
use Rattle.af_judge.proofs.QueueSteps.{ones_met, ones_more, ones_stay, twos_met, twos_more, twos_stay}

-- ## The run

pub pipe_first : (s : Session) → PipeOf s (new_run s) (new_pipe (pipe_size (setup_of s)) (pipe_cells (setup_of s)))
pipe_first s = record { size = refl; cells = refl; puts = refl; takes = refl; put = refl; taken = refl }

pub pipe_called : (s : Session) (round : RoundSeen) (run : Run) (p : PipeKept) → PipeOf s run p → PipeOf s (with_calls round run) p
unfolding with_calls
pipe_called s round run p h = record { size = h.size; cells = h.cells; puts = h.puts; takes = h.takes; put = h.put; taken = h.taken }

pub pipe_polled : (s : Session) (k : ℕ) (run : Run) (p : PipeKept) → PipeOf s run p → PipeOf s (with_poll s k run) p
unfolding with_poll
pipe_polled s k run p h = record { size = h.size; cells = h.cells; puts = h.puts; takes = h.takes; put = h.put; taken = h.taken }

pub pipe_loaded : (s : Session) (e : Turn) (run : Run) (p : PipeKept) → PipeOf s run p → PipeOf s (with_load e run) p
unfolding with_load
pipe_loaded s e run p h = record { size = h.size; cells = h.cells; puts = h.puts; takes = h.takes; put = h.put; taken = h.taken }

pub pipe_ended : (s : Session) (run : Run) (p : PipeKept) → PipeOf s run p → PipeOf s (with_ends run) p
unfolding with_ends
pipe_ended s run p h = by_case run.normal.ended
  where
    by_case : (ended : Bool) → PipeOf s (if ended then each_track (λ track t. record t { client = ends t.client }) run else run) p
    by_case true = record { size = h.size; cells = h.cells; puts = h.puts; takes = h.takes; put = h.put; taken = h.taken }
    by_case false = h

-- what a mix tells of the pipe, if so many frames were taken
abbrev mix_told : EntrySeen → ℕ → List ServerEvent
mix_told e n = server.SawRear (entry_slot e.entry 0).rear ∷ server.SawFront (wrapped n) ∷ takes_shown (entry_slot e.entry 0).seen

abbrev mixed_by : EntrySeen → PipeTold → Bool → PipeTold
mixed_by e p mixed = if mixed then record p { told = p.told ++ map two (mix_told e (length p.taken)); taken = p.taken ++ map packed_word (slot_frames e 0) } else p

abbrev looked_by : List Frame → EntrySeen → PipeKept → Bool → PipeKept
looked_by frames e p mixed = if mixed then with_look (entry_slot e.entry 0).rear (entry_slot e.entry 0).seen (frames_taken frames (entry_slot e.entry 0)) p else p

-- an entry takes what it shows, if its frames stand in the log
pub pipe_mixed : (s : Session) (e : EntrySeen) (run : Run) (p : PipeKept) (frames : List Frame) → frames_taken frames (entry_slot e.entry 0) ≡ slot_frames e 0 → PipeOf s run p → PipeOf s (with_mix s e run) (pipe_played frames e.entry p)
unfolding with_mix
pipe_mixed s e run p frames stands h = record {
  size = by_size (is_mixed e.entry.cycle);
  cells = by_cells (is_mixed e.entry.cycle);
  puts = by_puts (is_mixed e.entry.cycle);
  takes = by_takes (is_mixed e.entry.cycle);
  put = by_put (is_mixed e.entry.cycle);
  taken = by_taken (is_mixed e.entry.cycle);
}
  where
    by_size : (mixed : Bool) → (looked_by frames e p mixed).size ≡ pipe_size (setup_of s)
    by_size true = h.size
    by_size false = h.size

    by_cells : (mixed : Bool) → (looked_by frames e p mixed).cells ≡ pipe_cells (setup_of s)
    by_cells true = h.cells
    by_cells false = h.cells

    by_puts : (mixed : Bool) → (looked_by frames e p mixed).puts ≡ ones (mixed_by e run.pipe mixed).told
    by_puts true = h.puts ∙ sym (ones_stay run.pipe.told (mix_told e (length run.pipe.taken)))
    by_puts false = h.puts

    by_takes : (mixed : Bool) → (looked_by frames e p mixed).takes ≡ twos (mixed_by e run.pipe mixed).told
    by_takes true = (λ j. h.takes j ++ mix_told e (length (h.taken j))) ∙ sym (twos_more run.pipe.told (mix_told e (length run.pipe.taken)))
    by_takes false = h.takes

    by_put : (mixed : Bool) → (looked_by frames e p mixed).put ≡ (mixed_by e run.pipe mixed).put
    by_put true = h.put
    by_put false = h.put

    by_taken : (mixed : Bool) → (looked_by frames e p mixed).taken ≡ (mixed_by e run.pipe mixed).taken
    by_taken true = λ j. h.taken j ++ map packed_word (stands j)
    by_taken false = h.taken

-- what a turn tells of the pipe, and leaves
abbrev put_told : Session → Turn → ℕ → ℕ → ℕ → List ClientEvent
put_told s e size cells put = client.SawFront (front_by_room size put e.room) ∷ releases_of cells put (length (frames_put (setup_of s) e.mixes))

abbrev noted_by : Session → Turn → PipeKept → Bool → PipeKept
noted_by s e p ended = if ended then p else with_put (frames_put (setup_of s) e.mixes) (saw_front (front_by_room p.size (length p.put) e.room) p)

-- a turn, by what was kept
pub pipe_turned : (s : Session) (f : TurnFound) (e : Turn) (run : Run) (p : PipeKept) → PipeOf s run p → PipeOf s (with_turn s f e run) (pipe_noted s e p)
unfolding with_turn
pipe_turned s f e run p h = record {
  size = by_end_size e.ended;
  cells = by_end_cells e.ended;
  puts = by_end_puts e.ended;
  takes = by_end_takes e.ended ∙ sym (twos_stay run.pipe.told _);
  put = by_end_put e.ended;
  taken = by_end_taken e.ended;
}
  where
    by_end_size : (ended : Bool) → (noted_by s e p ended).size ≡ pipe_size (setup_of s)
    by_end_size true = h.size
    by_end_size false = h.size

    by_end_cells : (ended : Bool) → (noted_by s e p ended).cells ≡ pipe_cells (setup_of s)
    by_end_cells true = h.cells
    by_end_cells false = h.cells

    by_end_takes : (ended : Bool) → (noted_by s e p ended).takes ≡ twos run.pipe.told
    by_end_takes true = h.takes
    by_end_takes false = h.takes

    by_end_taken : (ended : Bool) → (noted_by s e p ended).taken ≡ run.pipe.taken
    by_end_taken true = h.taken
    by_end_taken false = h.taken

    by_end_put : (ended : Bool) → (noted_by s e p ended).put ≡ run.pipe.put ++ (if ended then [] else map packed_word (frames_put (setup_of s) e.mixes))
    by_end_put true = h.put ∙ sym (append-nil run.pipe.put)
    by_end_put false = ap (λ l. l ++ map packed_word (frames_put (setup_of s) e.mixes)) h.put

    by_end_puts : (ended : Bool) → (noted_by s e p ended).puts ≡ ones (run.pipe.told ++ map one (if ended then [] else put_told s e (pipe_size (setup_of s)) (pipe_cells (setup_of s)) (length run.pipe.put)))
    by_end_puts true = h.puts ∙ ap (λ l. ones l) (sym (append-nil run.pipe.told))
    by_end_puts false =
        append_assoc p.puts (client.SawFront (front_by_room p.size (length p.put) e.room) ∷ []) (releases_of p.cells (length p.put) (length (frames_put (setup_of s) e.mixes)))
        ∙ ((λ j. h.puts j ++ put_told s e (h.size j) (h.cells j) (length (h.put j))) ∙ sym (ones_more run.pipe.told (put_told s e (pipe_size (setup_of s)) (pipe_cells (setup_of s)) (length run.pipe.put))))

pub pipe_met_so : (s : Session) (run : Run) (p : PipeKept) → PipeOf s run p → PipeOf s (met s run) (with_meeting p)
unfolding met
pipe_met_so s run p h = record {
  size = h.size;
  cells = h.cells;
  puts = (λ j. h.puts j ++ client.Learn (length (h.takes j)) ∷ []) ∙ sym (ones_met run.pipe.told (client.Learn (length (twos run.pipe.told))) (server.Learn (length (ones run.pipe.told))));
  takes = (λ j. h.takes j ++ server.Learn (length (h.puts j)) ∷ []) ∙ sym (twos_met run.pipe.told (client.Learn (length (twos run.pipe.told))) (server.Learn (length (ones run.pipe.told))));
  put = h.put;
  taken = h.taken;
}

-- ## The lists of the ends

fold_put : (n : ℕ) (es : List ClientEvent) → fold (λ (sofar : ℕ) (e : ClientEvent). sofar + put_by e) n es ≡ n + put_in es
fold_put n [] = (let e : n ≡ n + 0 = omega arith in e)
fold_put n (e ∷ es) = let a = fold_put (n + put_by e) es in let b = fold_put (0 + put_by e) es in omega (arith, a, b)

pub put-append : (es fs : List ClientEvent) → put_in (es ++ fs) ≡ put_in es + put_in fs
put-append es fs = fold-append (λ (sofar : ℕ) (e : ClientEvent). sofar + put_by e) 0 es fs ∙ fold_put (put_in es) fs

fold_taken : (n : ℕ) (es : List ServerEvent) → fold (λ (sofar : ℕ) (e : ServerEvent). sofar + taken_by e) n es ≡ n + taken_in es
fold_taken n [] = (let e : n ≡ n + 0 = omega arith in e)
fold_taken n (e ∷ es) = let a = fold_taken (n + taken_by e) es in let b = fold_taken (0 + taken_by e) es in omega (arith, a, b)

pub taken-append : (es fs : List ServerEvent) → taken_in (es ++ fs) ≡ taken_in es + taken_in fs
taken-append es fs = fold-append (λ (sofar : ℕ) (e : ServerEvent). sofar + taken_by e) 0 es fs ∙ fold_taken (taken_in es) fs

module _ {P E : Type 0} (legal : P → E → Type 0) (next : P → E → P) where
  legal_more : (p : P) (es fs : List E) → Legal legal next p es → Legal legal next (point_after legal next p es) fs → Legal legal next p (es ++ fs)
  legal_more p [] fs l k = k
  legal_more p (e ∷ es) fs l k = (l.0, legal_more (next p e) es fs l.1 k)

put_more : (k : PutKept) (e : ClientEvent) → (after_put k e).put ≡ k.put + put_by e
put_more k (client.Release count) = refl
put_more k _ = omega arith

put_after : (size : ℕ) (k : PutKept) (es : List ClientEvent) → (point_after (may_put size) after_put k es).put ≡ k.put + put_in es
put_after size k [] = omega arith
put_after size k (e ∷ es) = let a = put_after size (after_put k e) es in let b = put_more k e in let c = fold_put (0 + put_by e) es in omega (arith, a, b, c)

-- the ends of a pipe at which nothing was done
pub ends_first : (size cells : ℕ) → size ≤ 65536 → AreEnds (new_pipe size cells)
ends_first size cells small = record { small = small; puts = tt; takes = refl; put_is = refl; taken_is = refl }

-- a look that takes as many frames as it shows
shown_taken : (sight : Seen) → taken_in (takes_shown sight) ≡ count_seen sight
shown_taken (seen.Frames count) = omega arith
shown_taken _ = refl

shown_takes : (sight : Seen) → list_all is_taking (takes_shown sight) ≡ true
shown_takes (seen.Frames count) = refl
shown_takes _ = refl

takes_join : (es fs : List ServerEvent) → IsTakeList es → IsTakeList fs → IsTakeList (es ++ fs)
takes_join es fs a b = list_all-append is_taking es fs ∙ (λ j. a j && b j)

pub ends_look : (rear : ℕ) (shown : Seen) (frames : List Frame) (p : PipeKept) → length frames ≡ count_seen shown → AreEnds p → AreEnds (with_look rear shown frames p)
ends_look rear shown frames p long h =
    let events = server.SawRear rear ∷ server.SawFront (wrapped (length p.taken)) ∷ takes_shown shown in
    record {
      small = h.small;
      puts = h.puts;
      takes = takes_join p.takes events h.takes (shown_takes shown);
      put_is = h.put_is;
      taken_is =
          (let a = taken-append p.takes events in let b = shown_taken shown in let c = h.taken_is in let l = length-append p.taken (map packed_word frames) in let m = length-map frames packed_word in
          let d = fold_taken (0 + 0 + 0) (takes_shown shown) in omega (arith, a, b, c, l, m, d, long));
    }

-- an entry
pub ends_mixed : (frames : List Frame) (e : EntrySeen) (p : PipeKept) → length (frames_taken frames (entry_slot e.entry 0)) ≡ count_seen (entry_slot e.entry 0).seen → AreEnds p → AreEnds (pipe_played frames e.entry p)
ends_mixed frames e p long h = by_case (is_mixed e.entry.cycle)
  where
    by_case : (mixed : Bool) → AreEnds (if mixed then with_look (entry_slot e.entry 0).rear (entry_slot e.entry 0).seen (frames_taken frames (entry_slot e.entry 0)) p else p)
    by_case true = ends_look (entry_slot e.entry 0).rear (entry_slot e.entry 0).seen (frames_taken frames (entry_slot e.entry 0)) p long h
    by_case false = h

pub ends_met : (p : PipeKept) → AreEnds p → AreEnds (with_meeting p)
ends_met p h = record {
  small = h.small;
  puts = legal_more (may_put p.size) after_put nothing_put p.puts (client.Learn (length p.takes) ∷ []) h.puts (tt, tt);
  takes = takes_join p.takes (server.Learn (length p.puts) ∷ []) h.takes refl;
  put_is = (let a = put-append p.puts (client.Learn (length p.takes) ∷ []) in let b = h.put_is in omega (arith, a, b));
  taken_is = (let a = taken-append p.takes (server.Learn (length p.puts) ∷ []) in let b = h.taken_is in omega (arith, a, b));
}

-- ## The end that puts, in a turn

ahead_by : (put used n : ℕ) → used ≤ 65536 → n ≤ 65536 → ahead ((put + 2 ^ 32 - used) % 2 ^ 32) (wrapped (put + n)) ≡ used + n
ahead_by put used n small few = omega arith

module _ (size put room : ℕ) (small : size ≤ 65536) (low : room ≤ size) where
  room_at : (n : ℕ) → n ≤ room → room_by size (put + n) (front_by_room size put room) ≡ room - n
  room_at n few =
      let e = ahead_by put (size - room) n (omega (arith, small)) (omega (arith, small, low, few)) in omega (arith, e, low, few)

  released : (cells n : ℕ) (k : PutKept) → k.put ≡ put → n ≤ room → Legal (may_put size) after_put (record k { front = front_by_room size put room }) (releases_of cells put n) × (put_in (releases_of cells put n) ≡ n)
  released cells n k is few = by_none (n == 0) refl
    where
      left : ℕ
      left = cells - put % cells

      room_now : room_by size k.put (front_by_room size put room) ≡ room
      room_now = ap (λ m. room_by size m (front_by_room size put room)) (let e : k.put ≡ put + 0 = omega (arith, is) in e) ∙ (room_at 0 (omega arith) ∙ (let e : room - 0 ≡ room = omega arith in e))

      by_left : (fits : Bool) → nat_le n (cells - put % cells) ≡ fits
          → Legal (may_put size) after_put (record k { front = front_by_room size put room }) (if fits then client.Release n ∷ [] else client.Release (cells - put % cells) ∷ client.Release (n - (cells - put % cells)) ∷ [])
          × (put_in (if fits then client.Release n ∷ [] else client.Release (cells - put % cells) ∷ client.Release (n - (cells - put % cells)) ∷ []) ≡ n)
      by_left true e = ((let r = room_now in omega (arith, r, few), tt), omega arith)
      by_left false e =
          let over = leb-false n (cells - put % cells) e in
          let r = room_now in
          let there = room_at (cells - put % cells) (omega (arith, few, over)) in
          let same : k.put + (cells - put % cells) ≡ put + (cells - put % cells) = omega (arith, is) in
          let now = ap (λ m. room_by size m (front_by_room size put room)) same ∙ there in
          ((omega (arith, r, few, over), (omega (arith, now, few, over), tt)), omega (arith, over))

      by_none : (none : Bool) → (n == 0) ≡ none → (let es = (if none then [] else if nat_le n (cells - put % cells) then client.Release n ∷ [] else client.Release (cells - put % cells) ∷ client.Release (n - (cells - put % cells)) ∷ []) in Legal (may_put size) after_put (record k { front = front_by_room size put room }) es × (put_in es ≡ n))
      by_none true e = (tt, sym (eqb-true n 0 e))
      by_none false e = by_left (nat_le n (cells - put % cells)) refl

-- a turn that sees so much room, and puts no more
pub ends_put : (p : PipeKept) (room : ℕ) (frames : List Frame) → room ≤ p.size → length frames ≤ room → AreEnds p → AreEnds (with_put frames (saw_front (front_by_room p.size (length p.put) room) p))
ends_put p room frames low few h =
    let k = point_after (may_put p.size) after_put nothing_put p.puts in
    let put_is : k.put ≡ length p.put = put_after p.size nothing_put p.puts ∙ (let e = h.put_is in omega (arith, e)) in
    let more = released p.size (length p.put) room h.small low p.cells (length frames) k put_is few in
    let events = releases_of p.cells (length p.put) (length frames) in
    record {
      small = h.small;
      puts = subst (IsPutList p.size) (sym (append_assoc p.puts (client.SawFront (front_by_room p.size (length p.put) room) ∷ []) events))
          (legal_more (may_put p.size) after_put nothing_put p.puts (client.SawFront (front_by_room p.size (length p.put) room) ∷ events) h.puts (tt, more.0));
      takes = h.takes;
      put_is =
          (let a = put-append (p.puts ++ client.SawFront (front_by_room p.size (length p.put) room) ∷ []) events in let b = put-append p.puts (client.SawFront (front_by_room p.size (length p.put) room) ∷ []) in
          let c = h.put_is in let m = more.1 in let l = length-append p.put (map packed_word frames) in let w = length-map frames packed_word in omega (arith, a, b, c, m, l, w));
      taken_is = h.taken_is;
    }

-- what a legal turn puts
put_few : (c : Setup) (m : NormalKept) (room : ℕ) (takes : List TakeSeen) (tracks : List TrackKept) → map (λ (take : TakeSeen). take.track) takes ≡ tracks_due c room tracks → length (frames_put c takes) ≤ room
put_few c m room [] tracks due = omega arith
put_few c m room (take ∷ takes) tracks due = by_case (nat_le (asked c) room) refl
  where
    none : (x : ℕ) (xs : List ℕ) → x ∷ xs ≡ [] → ⊥
    none x xs e = let n : suc (length xs) ≡ 0 = ap (λ (l : List ℕ). length l) e in absurd (omega (arith, n))

    by_case : (fits : Bool) → nat_le (asked c) room ≡ fits → length (frames_put c (take ∷ takes)) ≤ room
    by_case true e = let l = length-map-range_with_len (mixed_frame (map (take_of c) (take ∷ takes))) 0 (asked c) in let le = leb-true (asked c) room e in omega (arith, l, le)
    by_case false e = absurd (none take.track (map (λ (t : TakeSeen). t.track) takes) (due ∙ ap (λ b. if b then mixed_here tracks else []) e))

pub ends_turned : (s : Session) (marks : Marks) (f : TurnFound) (m : NormalKept) (e : Turn) (p : PipeKept) → LegalTurnBy (setup_of s) marks f m e → p.size ≡ pipe_size (setup_of s) → AreEnds p → AreEnds (pipe_noted s e p)
ends_turned s marks f m e p legal size h = by_case e.ended refl
  where
    by_case : (ended : Bool) → e.ended ≡ ended → AreEnds (if ended then p else with_put (frames_put (setup_of s) e.mixes) (saw_front (front_by_room p.size (length p.put) e.room) p))
    by_case true is = h
    by_case false is =
        let on = legal.legal.goes_on is in
        let r = on.room in
        ends_put p e.room (frames_put (setup_of s) e.mixes) (omega (arith, r, size)) (put_few (setup_of s) m e.room e.mixes (after_edits (setup_of s) (learnt legal.outside) e m).tracks on.due) h

-- ## Meetings

-- the judge's answer is that of the run, if the lists are those of ends
pub pipe_judged : (s : Session) (run : Run) (p : PipeKept) → PipeOf s run p → AreEnds p → HasPipeOrder (with_meeting p) ↔ HasPipeTold (pipe_size (setup_of s)) (met s run).pipe
pipe_judged s run p h are =
    let point_after = pipe_met_so s run p h in
    let there = (met s run).pipe in
    subst (λ (x : PipeKept). HasPipeOrder (with_meeting p) ↔ HasPipeHistory x.size x.puts x.put x.takes x.taken)
    (λ j. record { size = point_after.size j; cells = p.cells; puts = point_after.puts j; put = point_after.put j; takes = point_after.takes j; taken = point_after.taken j })
    (pipe_exact (with_meeting p) (ends_met p are))
