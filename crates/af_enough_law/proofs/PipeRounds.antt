-- What a round does to the pipe.
use Rattle.std.proofs.Common.{◌≡◌, ◌⊎◌, inl, inr, ℕ, ◌+◌, ◌-◌, ◌*◌, ◌%◌, ◌≤◌, ◌<◌, ◌==◌, min, nat_le, if◌then◌else◌, is_some, Bool, true, false, true≢false, Option, Some, None, List, [], ◌∷◌, ◌++◌, map, length, take, refl, sym, ap, ◌∙◌, subst, arith, append_assoc, append-nil, length-append, eqb-true}
use Rattle.af_enough_law.proofs.Common.{ClientEvent, Cycle, EntrySeen, FastState, LegalEntries, LegalEntry, LegalRound, LegalTurnBy, Marks, MatchBool, MatchOption, PipeTold, RoundSeen, Run, ServerEvent, Session, Setup, SlotEntry, TakeSeen, Turn, TurnFound, after_round, after_turn, ahead, all_played, asked, before_turn, calls_pipe, cold_done, cycle_frames, cycle_of, early_count, early_of, ends_pipe, entry_slot, fast_ended, found_in, front_by_room, is_mixed, late_of, length-map-range_with_len, loaded_pipe, met, met_after, mixed_pipe, nat_tests, one, ones, pipe_cells, pipe_list, pipe_size, put_by, releases_of, setup_of, shown, state_of, take-append-drop, take-append-le, take-append_seam, take_of, takes_shown, turned, two, twos, with_calls, with_cycle, with_cycles, with_mix, with_poll, with_turn, wrapped, twos_more, ones_stay, ones_more, twos_stay, twos_met, ones_met}
use Rattle.af_base.specs.declared.event.ClientEvent.TheVariants as client
use Rattle.af_base.specs.declared.event.ServerEvent.TheVariants as server
use Rattle.af_base.specs.Mix.{mixed_frame}
use Rattle.af_enough_law.proofs.Basics.{asked_in-append, asked_is, put-append, taken-append}
use Rattle.af_enough_law.specs.Seen.{Stands, frames_put, frames_taken}
use Rattle.af_enough_law.proofs.FastWords.{AllMixed, MixesAll, asked_in}
use Rattle.af_enough_law.proofs.PipeFlows.{pipe_put, pipe_taken, in_pipe, KnowsPipe, put_in, PipeFlowed, RoomSeen}
use Rattle.af_enough_law.proofs.FastShows.{stands-more}
use Rattle.af_enough_law.proofs.PipeMoments.{History, pipe_look, pipe_low, pipe_words, pipe_room, pipe_room_most}

-- both lists of the pipe go on
record PipeGoes (p later : PipeTold) : Type 0 where
  puts : List ClientEvent
  put_list : ones later.told ≡ ones p.told ++ puts
  takes : List ServerEvent
  take_list : twos later.told ≡ twos p.told ++ takes

pipe_same : (p later : PipeTold) → later ≡ p → PipeGoes p later
pipe_same p later same = record { puts = []; put_list = ap (λ (x : PipeTold). ones x.told) same ∙ sym (append-nil (ones p.told)); takes = []; take_list = ap (λ (x : PipeTold). twos x.told) same ∙ sym (append-nil (twos p.told)) }

pipe_both : (a b c : PipeTold) → PipeGoes a b → PipeGoes b c → PipeGoes a c
pipe_both a b c f g = record {
  puts = f.puts ++ g.puts;
  put_list = g.put_list ∙ ap (λ l. l ++ g.puts) f.put_list ∙ append_assoc (ones a.told) f.puts g.puts;
  takes = f.takes ++ g.takes;
  take_list = g.take_list ∙ ap (λ l. l ++ g.takes) f.take_list ∙ append_assoc (twos a.told) f.takes g.takes;
}

-- ## Entries

mixed_goes : (b : Bool) (p q : PipeTold) (es : List ServerEvent) → q.told ≡ p.told ++ map two es → PipeGoes p (if b then q else p)
mixed_goes true p q es is = record { puts = []; put_list = ap ones is ∙ ones_stay p.told es ∙ sym (append-nil (ones p.told)); takes = es; take_list = ap twos is ∙ twos_more p.told es }
mixed_goes false p q es is = pipe_same p p refl

cycle_pipe : (s : Session) (run : Run) (e : EntrySeen) → (with_cycle s run e).pipe ≡ mixed_pipe e run.pipe
unfolding with_poll with_mix
cycle_pipe s run e = refl

cycle_goes : (s : Session) (run : Run) (e : EntrySeen) → PipeGoes run.pipe (with_cycle s run e).pipe
cycle_goes s run e = subst (PipeGoes run.pipe) (sym (cycle_pipe s run e)) (mixed_goes (is_mixed e.entry.cycle) run.pipe _ (server.SawRear (entry_slot e.entry 0).rear ∷ server.SawFront (wrapped (length run.pipe.taken)) ∷ takes_shown (entry_slot e.entry 0).seen) refl)

cycles_go : (s : Session) (es : List EntrySeen) (run : Run) → PipeGoes run.pipe (with_cycles s es run).pipe
cycles_go s [] run = pipe_same run.pipe run.pipe refl
cycles_go s (e ∷ es) run = pipe_both run.pipe (with_cycle s run e).pipe (with_cycles s es (with_cycle s run e)).pipe (cycle_goes s run e) (cycles_go s es (with_cycle s run e))

-- nothing is put by entries
mixed_puts : (b : Bool) (p q : PipeTold) → ones q.told ≡ ones p.told → q.put ≡ p.put → (ones (if b then q else p).told ≡ ones p.told) × ((if b then q else p).put ≡ p.put)
mixed_puts true p q is same = (is, same)
mixed_puts false p q is same = (refl, refl)

cycle_puts : (s : Session) (run : Run) (e : EntrySeen) → (ones (with_cycle s run e).pipe.told ≡ ones run.pipe.told) × ((with_cycle s run e).pipe.put ≡ run.pipe.put)
cycle_puts s run e = subst (λ (p : PipeTold). (ones p.told ≡ ones run.pipe.told) × (p.put ≡ run.pipe.put)) (sym (cycle_pipe s run e)) (mixed_puts (is_mixed e.entry.cycle) run.pipe _ (ones_stay run.pipe.told (server.SawRear (entry_slot e.entry 0).rear ∷ server.SawFront (wrapped (length run.pipe.taken)) ∷ takes_shown (entry_slot e.entry 0).seen)) refl)

cycles_puts : (s : Session) (es : List EntrySeen) (run : Run) → (ones (with_cycles s es run).pipe.told ≡ ones run.pipe.told) × ((with_cycles s es run).pipe.put ≡ run.pipe.put)
cycles_puts s [] run = (refl, refl)
cycles_puts s (e ∷ es) run = let rest = cycles_puts s es (with_cycle s run e) in let now = cycle_puts s run e in (rest.0 ∙ now.0, rest.1 ∙ now.1)

-- a mix has a state
mixed_state : (cycle : Cycle) (done : ℕ) (o : Option FastState) → cycle ≡ cycle_of done o → is_mixed cycle ≡ true → (x : FastState) × (o ≡ Some x)
mixed_state cycle done None is mixed = absurd (true≢false (sym mixed ∙ ap is_mixed is))
mixed_state cycle done (Some x) is mixed = (x, refl)

-- what a mix does to the pipe
record PipeMix (s : Session) (run : Run) (e : EntrySeen) : Type 0 where
  front : ℕ
  takes : List ServerEvent
  are : takes ≡ takes_shown (shown (min (cycle_frames s) (ahead front (entry_slot e.entry 0).rear)))
  list : twos (with_cycle s run e).pipe.told ≡ twos run.pipe.told ++ server.SawRear (entry_slot e.entry 0).rear ∷ server.SawFront front ∷ takes

pipe_mix : (s : Session) (marks : Marks) (run : Run) (e : EntrySeen) → LegalEntry s marks (with_poll s e.entry.state run) e → is_mixed e.entry.cycle ≡ true → PipeMix s run e
unfolding with_poll
pipe_mix s marks run e legal mixed =
    let some = mixed_state e.entry.cycle (cold_done run.states run.entries) (state_of run.states e.entry.state) legal.cycle.what mixed in
    let mixes = legal.cycle.mixes some.0 some.1 mixed in
    let sub = mixes.submix in
    record {
      front = sub.front;
      takes = takes_shown (entry_slot e.entry 0).seen;
      are = ap (λ (x : SlotEntry). takes_shown x.seen) sub.shows;
      list = sym legal.pipe ∙ sub.list;
    }

-- what some mixes take
pub record PipeTook (asked known before after : ℕ) : Type 0 where
  pub grows : before ≤ after
  pub reaches : (before + asked ≤ after) ⊎ (known ≤ after)

took_both : (a b k x y z : ℕ) → PipeTook a k x y → PipeTook b k y z → PipeTook (a + b) k x z
took_both a b k x y z f g = record { grows = (let p = f.grows in let q = g.grows in omega arith); reaches = by f.reaches g.reaches }
  where
    by : (x + a ≤ y) ⊎ (k ≤ y) → (y + b ≤ z) ⊎ (k ≤ z) → (x + (a + b) ≤ z) ⊎ (k ≤ z)
    by (inl p) (inl q) = inl (omega (arith, p, q))
    by p (inr q) = inr q
    by (inr p) (inl q) = inr (let r = g.grows in omega (arith, p, r))

module _ (s : Session) (marks : Marks) (size : ℕ) (few : size ≤ 65536) (puts : List ClientEvent) (all : List ServerEvent) (h : History size puts all) (n : ℕ) where
  pub pipe_entries : (es : List EntrySeen) (run : Run) (rest : List ServerEvent) → LegalEntries s marks run es → AllMixed es → all ≡ twos (with_cycles s es run).pipe.told ++ rest → Stands (server.Learn n) (twos run.pipe.told)
      → PipeTook (asked_in (cycle_frames s) es) (frames_put (take n puts)) (pipe_taken run) (pipe_taken (with_cycles s es run))
  pipe_entries [] run rest legal mixed whole learnt = record { grows = omega arith; reaches = inl (omega arith) }
  pipe_entries (e ∷ es) run rest legal mixed whole learnt =
      let next = with_cycle s run e in
      let mix = pipe_mix s marks run e legal.0 mixed.0 in
      let goes = cycles_go s es next in
      let words : List ServerEvent = server.SawRear (entry_slot e.entry 0).rear ∷ server.SawFront mix.front ∷ mix.takes in
      let whole' : all ≡ twos next.pipe.told ++ (goes.takes ++ rest) = whole ∙ ap (λ l. l ++ rest) goes.take_list ∙ append_assoc (twos next.pipe.told) goes.takes rest in
      let look = pipe_look size few puts all (twos run.pipe.told) (cycle_frames s) (entry_slot e.entry 0).rear mix.front mix.takes (goes.takes ++ rest) h mix.are (whole' ∙ ap (λ l. l ++ (goes.takes ++ rest)) mix.list) n learnt in
      let first : PipeTook (cycle_frames s) (frames_put (take n puts)) (pipe_taken run) (pipe_taken next) =
      subst (λ (l : List ServerEvent). PipeTook (cycle_frames s) (frames_put (take n puts)) (pipe_taken run) (frames_taken l)) (sym mix.list) (record { grows = look.0; reaches = look.1 }) in
      let later = pipe_entries es next rest legal.1 mixed.1 whole (subst (Stands (server.Learn n)) (sym mix.list) (stands-more (server.Learn n) (twos run.pipe.told) words learnt)) in
      took_both (cycle_frames s) (asked_in (cycle_frames s) es) (frames_put (take n puts)) (pipe_taken run) (pipe_taken next) (pipe_taken (with_cycles s es next)) first later

-- ## The turn

releases_put : (cells put n : ℕ) → frames_put (releases_of cells put n) ≡ n
releases_put cells put n = by (n == 0) refl
  where
    by_left : (b : Bool) → nat_le n (cells - put % cells) ≡ b → frames_put (if b then client.Release n ∷ [] else client.Release (cells - put % cells) ∷ client.Release (n - (cells - put % cells)) ∷ []) ≡ n
    by_left true is = omega arith
    by_left false is = let l : cells - put % cells < n = grind (arith, nat_tests, is) in omega (arith, l)

    by : (b : Bool) → (n == 0) ≡ b → frames_put (if b then [] else if nat_le n (cells - put % cells) then client.Release n ∷ [] else client.Release (cells - put % cells) ∷ client.Release (n - (cells - put % cells)) ∷ []) ≡ n
    by true is = sym (eqb-true n 0 is)
    by false is = by_left (nat_le n (cells - put % cells)) refl

list_put : (c : Setup) (cells put : ℕ) (e : Turn) → frames_put (pipe_list c cells put e) ≡ (if e.ended then 0 else length (put_by c e.mixes))
list_put c cells put e = by e.ended
  where
    front : ℕ
    front = front_by_room (pipe_size c) put e.room

    by : (b : Bool) → frames_put (if b then [] else client.SawFront front ∷ releases_of cells put (length (put_by c e.mixes))) ≡ (if b then 0 else length (put_by c e.mixes))
    by true = refl
    by false = let r = releases_put cells put (length (put_by c e.mixes)) in omega (arith, r)

-- the putting end's list after a turn
record TurnPuts (s : Session) (run later : Run) (o : Option Turn) : Type 0 where
  puts : List ClientEvent
  list : ones later.pipe.told ≡ ones run.pipe.told ++ puts
  sum : frames_put puts ≡ put_in s o
  same : twos later.pipe.told ≡ twos run.pipe.told

turn_puts : (s : Session) (f : TurnFound) (e : Turn) (run : Run) → TurnPuts s run (with_turn s f e run) (Some e)
unfolding with_turn
turn_puts s f e run =
    let es : List ClientEvent = pipe_list (setup_of s) (pipe_cells (setup_of s)) (length run.pipe.put) e in
    record { puts = es; list = ones_more run.pipe.told es; sum = list_put (setup_of s) (pipe_cells (setup_of s)) (length run.pipe.put) e; same = twos_stay run.pipe.told es }

turned_puts : (s : Session) (found : Turn → TurnFound) (o : Option Turn) (run : Run) → TurnPuts s run (turned s found o run) o
turned_puts s found None run = record { puts = []; list = sym (append-nil (ones run.pipe.told)); sum = refl; same = refl }
turned_puts s found (Some e) run = turn_puts s (found e) e run

met_pipe : (s : Session) (run : Run) → (met s run).pipe.told ≡ run.pipe.told ++ one (client.Learn (length (twos run.pipe.told))) ∷ two (server.Learn (length (ones run.pipe.told))) ∷ []
unfolding met
met_pipe s run = refl

-- ## The round

-- the pipe by the steps of a round
record PipeOver (s : Session) (run : Run) (round : RoundSeen) : Type 0 where
  early_puts : ones (before_turn s run round).pipe.told ≡ ones run.pipe.told
  turn : TurnPuts s (before_turn s run round) (after_turn s run round) round.turn
  late_puts : ones (all_played s run round).pipe.told ≡ ones (after_turn s run round).pipe.told
  late_takes : twos (all_played s run round).pipe.told ≡ twos (with_cycles s (late_of run round) (after_turn s run round)).pipe.told
  met_puts : ones (met_after s run round).pipe.told ≡ ones (all_played s run round).pipe.told ++ client.Learn (length (twos (all_played s run round).pipe.told)) ∷ []
  met_takes : twos (met_after s run round).pipe.told ≡ twos (all_played s run round).pipe.told ++ server.Learn (length (ones (all_played s run round).pipe.told)) ∷ []
  whole : (after_round s run round).pipe ≡ (met_after s run round).pipe

pipe_over : (s : Session) (run : Run) (round : RoundSeen) → PipeOver s run round
pipe_over s run round =
    let late : Run = with_cycles s (late_of run round) (after_turn s run round) in
    let all : Run = all_played s run round in
    record {
      early_puts = (cycles_puts s (early_of run round) (with_calls round run)).0 ∙ ap (λ (p : PipeTold). ones p.told) (calls_pipe round run);
      turn = turned_puts s (found_in s run round) round.turn (before_turn s run round);
      late_puts = ap (λ (p : PipeTold). ones p.told) (loaded_pipe round.turn late) ∙ (cycles_puts s (late_of run round) (after_turn s run round)).0;
      late_takes = ap (λ (p : PipeTold). twos p.told) (loaded_pipe round.turn late);
      met_puts = ap ones (met_pipe s all) ∙ ones_met all.pipe.told (client.Learn (length (twos all.pipe.told))) (server.Learn (length (ones all.pipe.told)));
      met_takes = ap twos (met_pipe s all) ∙ twos_met all.pipe.told (client.Learn (length (twos all.pipe.told))) (server.Learn (length (ones all.pipe.told)));
      whole = ends_pipe (met_after s run round);
    }

-- the sums of the pipe by the steps
record PipeSums (s : Session) (run : Run) (round : RoundSeen) : Type 0 where
  put : pipe_put (after_round s run round) ≡ pipe_put run + put_in s round.turn
  early : pipe_taken run ≤ pipe_taken (before_turn s run round)
  turn : pipe_taken (after_turn s run round) ≡ pipe_taken (before_turn s run round)
  late : pipe_taken (after_turn s run round) ≤ pipe_taken (with_cycles s (late_of run round) (after_turn s run round))
  end : pipe_taken (after_round s run round) ≡ pipe_taken (with_cycles s (late_of run round) (after_turn s run round))

goes_low : (p q : PipeTold) → PipeGoes p q → frames_taken (twos p.told) ≤ frames_taken (twos q.told)
goes_low p q g = let a = ap frames_taken g.take_list in let b = taken-append (twos p.told) g.takes in omega arith

pipe_sums : (s : Session) (run : Run) (round : RoundSeen) → PipeSums s run round
pipe_sums s run round =
    let o = pipe_over s run round in
    let all : Run = all_played s run round in
    let a = ap (λ (p : PipeTold). frames_put (ones p.told)) o.whole in
    let b = ap frames_put o.met_puts in
    let b' = put-append (ones all.pipe.told) (client.Learn (length (twos all.pipe.told)) ∷ []) in
    let c = ap frames_put o.late_puts in
    let d = ap frames_put o.turn.list in
    let d' = put-append (ones (before_turn s run round).pipe.told) o.turn.puts in
    let e = ap frames_put o.early_puts in
    let sum = o.turn.sum in
    let f = ap (λ (p : PipeTold). frames_taken (twos p.told)) o.whole in
    let g = ap frames_taken o.met_takes in
    let g' = taken-append (twos all.pipe.told) (server.Learn (length (ones all.pipe.told)) ∷ []) in
    let i = ap frames_taken o.late_takes in
    record {
      put = omega arith;
      early = subst (λ (p : PipeTold). frames_taken (twos p.told) ≤ pipe_taken (before_turn s run round)) (calls_pipe round run) (goes_low (with_calls round run).pipe (before_turn s run round).pipe (cycles_go s (early_of run round) (with_calls round run)));
      turn = ap frames_taken o.turn.same;
      late = goes_low (after_turn s run round).pipe (with_cycles s (late_of run round) (after_turn s run round)).pipe (cycles_go s (late_of run round) (after_turn s run round));
      end = omega arith;
    }

mixed-split : (xs ys : List EntrySeen) → AllMixed (xs ++ ys) → AllMixed xs × AllMixed ys
mixed-split [] ys h = (tt, h)
mixed-split (x ∷ xs) ys h = let r = mixed-split xs ys h.1 in ((h.0, r.0), r.1)

-- a mixer that makes 16 entries hasn't ended
legal_parts : (b : Bool) (A B C : Type 0) (entries : List EntrySeen) → MatchBool b (entries ≡ []) (A × B × C) → length entries ≡ 16 → B × C
legal_parts true A B C entries none count = let e : length entries ≡ 0 = ap length none in absurd (let z : ⊥ = omega (arith, e, count) in z)
legal_parts false A B C entries h count = (h.1, h.2)

total : (left f a b k t0 t1 t2 t3 : ℕ) → t0 ≤ t1 → t2 ≡ t1 → PipeTook a k t0 t1 → PipeTook b k t2 t3 → f ≡ a + b → left ≡ k - t0 → min left f + t0 ≤ t3
total left f a b k t0 t1 t2 t3 low same early late is left_is =
    by (took_both a b k t0 t1 t3 early (subst (λ x. PipeTook b k x t3) same late)).reaches (took_both a b k t0 t1 t3 early (subst (λ x. PipeTook b k x t3) same late)).grows
  where
    by : (t0 + (a + b) ≤ t3) ⊎ (k ≤ t3) → t0 ≤ t3 → min left f + t0 ≤ t3
    by (inl x) g = omega (arith, x, is, g)
    by (inr x) g = omega (arith, x, left_is, g)

pub pipe_flowed : (cut : Bool) (s : Session) (marks : Marks) (run : Run) (round : RoundSeen) → LegalRound cut s marks run round → KnowsPipe run → pipe_size (setup_of s) ≤ 65536 → PipeFlowed s run round
pipe_flowed cut s marks run round legal knows few =
    let o = pipe_over s run round in
    let sums = pipe_sums s run round in
    let history = legal.histories.shared.pipe.history in
    let low = pipe_low (pipe_size (setup_of s)) (ones (met_after s run round).pipe.told) (twos (met_after s run round).pipe.told) history in
    let a = ap (λ (p : PipeTold). frames_put (ones p.told)) o.whole in
    let b = ap (λ (p : PipeTold). frames_taken (twos p.told)) o.whole in
    let e1 = sums.early in let e2 = sums.turn in let e3 = sums.late in let e4 = sums.end in
    record {
      put = sums.put;
      within = (let c = low.0 in omega arith);
      grows = omega arith;
      taken = λ mixes.
          let parts = legal_parts (fast_ended run) _ _ _ round.entries legal.turns.fast mixes.count in
          let cut_is : early_of run round ++ late_of run round ≡ round.entries = take-append-drop (early_count run round) round.entries in
          let mixed = mixed-split (early_of run round) (late_of run round) (subst AllMixed (sym cut_is) mixes.mixed) in
          let late_run : Run = with_cycles s (late_of run round) (after_turn s run round) in
          let puts : List ClientEvent = ones (met_after s run round).pipe.told in
          let all : List ServerEvent = twos (met_after s run round).pipe.told in
          let learns : List ServerEvent = server.Learn (length (ones (all_played s run round).pipe.told)) ∷ [] in
          let goes = cycles_go s (late_of run round) (after_turn s run round) in
          let whole_late : all ≡ twos late_run.pipe.told ++ learns = o.met_takes ∙ ap (λ l. l ++ learns) o.late_takes in
          let whole_early : all ≡ twos (before_turn s run round).pipe.told ++ (goes.takes ++ learns) =
          whole_late ∙ ap (λ l. l ++ learns) (goes.take_list ∙ ap (λ l. l ++ goes.takes) o.turn.same) ∙ append_assoc (twos (before_turn s run round).pipe.told) goes.takes learns in
          let first = cycles_go s (early_of run round) (with_calls round run) in
          let learnt0 = subst (λ (p : PipeTold). Stands (server.Learn knows.puts) (twos p.told)) (sym (calls_pipe round run)) knows.puts_learnt in
          let learnt1 = subst (Stands (server.Learn knows.puts)) (sym (o.turn.same ∙ first.take_list)) (stands-more (server.Learn knows.puts) (twos (with_calls round run).pipe.told) first.takes learnt0) in
          let early = pipe_entries s marks (pipe_size (setup_of s)) few puts all history knows.puts (early_of run round) (with_calls round run) (goes.takes ++ learns) parts.0 mixed.0 whole_early learnt0 in
          let late = pipe_entries s marks (pipe_size (setup_of s)) few puts all history knows.puts (late_of run round) (after_turn s run round) learns parts.1 mixed.1 whole_late learnt1 in
          let start : pipe_taken (with_calls round run) ≡ pipe_taken run = ap (λ (p : PipeTold). frames_taken (twos p.told)) (calls_pipe round run) in
          let grown : puts ≡ ones run.pipe.told ++ (o.turn.puts ++ client.Learn (length (twos (all_played s run round).pipe.told)) ∷ []) =
          o.met_puts ∙ ap (λ l. l ++ client.Learn (length (twos (all_played s run round).pipe.told)) ∷ []) (o.late_puts ∙ o.turn.list ∙ ap (λ l. l ++ o.turn.puts) o.early_puts) ∙ append_assoc (ones run.pipe.told) o.turn.puts (client.Learn (length (twos (all_played s run round).pipe.told)) ∷ []) in
          let known : frames_put (take knows.puts puts) ≡ pipe_put run =
          ap (λ l. frames_put (take knows.puts l)) grown ∙ ap frames_put (take-append-le knows.puts (ones run.pipe.told) (o.turn.puts ++ client.Learn (length (twos (all_played s run round).pipe.told)) ∷ []) knows.puts_within) ∙ knows.puts_all in
          let asked_all : 16 * cycle_frames s ≡ asked_in (cycle_frames s) (early_of run round) + asked_in (cycle_frames s) (late_of run round) =
          ap (λ m. m * cycle_frames s) (sym mixes.count) ∙ sym (asked_is (cycle_frames s) round.entries) ∙ ap (asked_in (cycle_frames s)) (sym cut_is) ∙ asked_in-append (cycle_frames s) (early_of run round) (late_of run round) in
          let g = early.grows in
          let sum = total (in_pipe run) (16 * cycle_frames s) (asked_in (cycle_frames s) (early_of run round)) (asked_in (cycle_frames s) (late_of run round)) (frames_put (take knows.puts puts))
          (pipe_taken (with_calls round run)) (pipe_taken (before_turn s run round)) (pipe_taken (after_turn s run round)) (pipe_taken late_run) g sums.turn early late asked_all (omega arith) in
          omega arith;
    }

-- ## What is known after a round

knows_by : (run : Run) (cs : List ClientEvent) (ss : List ServerEvent) → ones run.pipe.told ≡ cs ++ client.Learn (length ss) ∷ [] → twos run.pipe.told ≡ ss ++ server.Learn (length cs) ∷ [] → length run.pipe.put ≡ pipe_put run → KnowsPipe run
knows_by run cs ss puts takes words = record {
  puts = length cs;
  puts_learnt = record { before = ss; behind = []; whole = takes };
  puts_within = (let a = ap length puts in let b = length-append cs (client.Learn (length ss) ∷ []) in omega arith);
  puts_all =
      ap (λ l. frames_put (take (length cs) l)) puts ∙ ap frames_put (take-append_seam cs (client.Learn (length ss) ∷ []))
      ∙ (let a = put-append cs (client.Learn (length ss) ∷ []) in let e : frames_put cs ≡ frames_put (cs ++ client.Learn (length ss) ∷ []) = omega arith in e) ∙ ap frames_put (sym puts);
  takes = length ss;
  takes_learnt = record { before = cs; behind = []; whole = puts };
  takes_within = (let a = ap length takes in let b = length-append ss (server.Learn (length cs) ∷ []) in omega arith);
  takes_all =
      ap (λ l. frames_taken (take (length ss) l)) takes ∙ ap frames_taken (take-append_seam ss (server.Learn (length cs) ∷ []))
      ∙ (let a = taken-append ss (server.Learn (length cs) ∷ []) in let e : frames_taken ss ≡ frames_taken (ss ++ server.Learn (length cs) ∷ []) = omega arith in e) ∙ ap frames_taken (sym takes);
  words = words;
}

-- each end knows what the other did
pub knows_pipe : (cut : Bool) (s : Session) (marks : Marks) (run : Run) (round : RoundSeen) → LegalRound cut s marks run round → KnowsPipe (after_round s run round)
knows_pipe cut s marks run round legal =
    let o = pipe_over s run round in
    let h = legal.histories.shared.pipe in
    let words = pipe_words (pipe_size (setup_of s)) (ones (met_after s run round).pipe.told) (met_after s run round).pipe.put (twos (met_after s run round).pipe.told) (met_after s run round).pipe.taken h in
    knows_by (after_round s run round) (ones (all_played s run round).pipe.told) (twos (all_played s run round).pipe.told)
    (ap (λ (p : PipeTold). ones p.told) o.whole ∙ o.met_puts) (ap (λ (p : PipeTold). twos p.told) o.whole ∙ o.met_takes)
    (ap (λ (p : PipeTold). length p.put) o.whole ∙ words ∙ ap (λ (p : PipeTold). frames_put (ones p.told)) (sym o.whole))

-- ## The room

turn_list : (s : Session) (f : TurnFound) (e : Turn) (run : Run) → e.ended ≡ false
    → ones (with_turn s f e run).pipe.told ≡ ones run.pipe.told ++ client.SawFront (front_by_room (pipe_size (setup_of s)) (length run.pipe.put) e.room) ∷ releases_of (pipe_cells (setup_of s)) (length run.pipe.put) (length (put_by (setup_of s) e.mixes))
unfolding with_turn
turn_list s f e run going =
    ones_more run.pipe.told (pipe_list (setup_of s) (pipe_cells (setup_of s)) (length run.pipe.put) e)
    ∙ ap (λ (b : Bool). ones run.pipe.told ++ (if b then [] else client.SawFront (front_by_room (pipe_size (setup_of s)) (length run.pipe.put) e.room) ∷ releases_of (pipe_cells (setup_of s)) (length run.pipe.put) (length (put_by (setup_of s) e.mixes)))) going

-- a turn that goes on sees no more room than the pipe has
turn_low : (s : Session) (marks : Marks) (found : Turn → TurnFound) (run : Run) (o : Option Turn) (e : Turn) → MatchBool run.normal.ended (o ≡ None) (MatchOption o ⊥ (λ e. LegalTurnBy (setup_of s) marks (found e) run.normal e))
    → o ≡ Some e → e.ended ≡ false → e.room ≤ pipe_size (setup_of s)
turn_low s marks found run o e legal is going = by run.normal.ended legal
  where
    of_turn : LegalTurnBy (setup_of s) marks (found e) run.normal e → e.room ≤ pipe_size (setup_of s)
    of_turn l = let goes = l.legal.goes_on going in goes.room

    some : (o : Option Turn) → o ≡ Some e → MatchOption o ⊥ (λ e. LegalTurnBy (setup_of s) marks (found e) run.normal e) → e.room ≤ pipe_size (setup_of s)
    some o is l = of_turn (subst (λ (x : Option Turn). MatchOption x ⊥ (λ e. LegalTurnBy (setup_of s) marks (found e) run.normal e)) is l)

    by : (b : Bool) → MatchBool b (o ≡ None) (MatchOption o ⊥ (λ e. LegalTurnBy (setup_of s) marks (found e) run.normal e)) → e.room ≤ pipe_size (setup_of s)
    by true none = absurd (true≢false (ap is_some (sym is ∙ none)))
    by false l = some o is l

pipe_goes : (s : Session) (run : Run) (round : RoundSeen) → PipeGoes run.pipe (met_after s run round).pipe
pipe_goes s run round =
    let o = pipe_over s run round in
    let called : Run = with_calls round run in
    let before : Run = before_turn s run round in
    let turn : Run = after_turn s run round in
    let late : Run = with_cycles s (late_of run round) turn in
    let all : Run = all_played s run round in
    let to_turn : PipeGoes before.pipe turn.pipe = record { puts = o.turn.puts; put_list = o.turn.list; takes = []; take_list = o.turn.same ∙ sym (append-nil (twos before.pipe.told)) } in
    let to_met : PipeGoes all.pipe (met_after s run round).pipe = record { puts = client.Learn (length (twos all.pipe.told)) ∷ []; put_list = o.met_puts; takes = server.Learn (length (ones all.pipe.told)) ∷ []; take_list = o.met_takes } in
    let first = pipe_both run.pipe called.pipe before.pipe (pipe_same run.pipe called.pipe (calls_pipe round run)) (cycles_go s (early_of run round) called) in
    let second = pipe_both turn.pipe late.pipe all.pipe (cycles_go s (late_of run round) turn) (pipe_same late.pipe all.pipe (loaded_pipe round.turn late)) in
    pipe_both run.pipe before.pipe (met_after s run round).pipe first (pipe_both before.pipe turn.pipe (met_after s run round).pipe to_turn (pipe_both turn.pipe all.pipe (met_after s run round).pipe second to_met))

room_both : (cut : Bool) (s : Session) (marks : Marks) (run : Run) (round : RoundSeen) (e : Turn) → LegalRound cut s marks run round → KnowsPipe run → pipe_size (setup_of s) ≤ 65536 → pipe_taken run ≤ pipe_put run → round.turn ≡ Some e → e.ended ≡ false → RoomSeen s run e × (e.room + pipe_put run ≤ pipe_size (setup_of s) + frames_taken (twos (met_after s run round).pipe.told))
room_both cut s marks run round e legal knows few low_run is going =
    let o = pipe_over s run round in
    let size : ℕ = pipe_size (setup_of s) in
    let before : Run = before_turn s run round in
    let found = found_in s run round in
    let history = legal.histories.shared.pipe.history in
    let low = turn_low s marks found run round.turn e legal.turns.normal is going in
    let n : ℕ = length before.pipe.put in
    let more : List ClientEvent = releases_of (pipe_cells (setup_of s)) n (length (put_by (setup_of s) e.mixes)) in
    let learns : List ClientEvent = client.Learn (length (twos (all_played s run round).pipe.told)) ∷ [] in
    let saw : ClientEvent = client.SawFront (front_by_room size n e.room) in
    let turn : ones (after_turn s run round).pipe.told ≡ ones run.pipe.told ++ saw ∷ more =
    ap (λ (x : Option Turn). ones (turned s found x before).pipe.told) is ∙ turn_list s (found e) e before going ∙ ap (λ l. l ++ saw ∷ more) o.early_puts in
    let whole : ones (met_after s run round).pipe.told ≡ ones run.pipe.told ++ saw ∷ (more ++ learns) =
    o.met_puts ∙ ap (λ l. l ++ learns) (o.late_puts ∙ turn) ∙ append_assoc (ones run.pipe.told) (saw ∷ more) learns in
    let put_same : n ≡ pipe_put run = ap length ((cycles_puts s (early_of run round) (with_calls round run)).1) ∙ ap (λ (p : PipeTold). length p.put) (calls_pipe round run) ∙ knows.words in
    let goes = pipe_goes s run round in
    let known : frames_taken (take knows.takes (twos (met_after s run round).pipe.told)) ≡ pipe_taken run =
    ap (λ l. frames_taken (take knows.takes l)) goes.take_list ∙ ap frames_taken (take-append-le knows.takes (twos run.pipe.told) goes.takes knows.takes_within) ∙ knows.takes_all in
    let room = pipe_room size few (ones (met_after s run round).pipe.told) (twos (met_after s run round).pipe.told) (ones run.pipe.told) n e.room (more ++ learns) history put_same low whole knows.takes knows.takes_learnt in
    let most = pipe_room_most size few (ones (met_after s run round).pipe.told) (twos (met_after s run round).pipe.told) (ones run.pipe.told) n e.room (more ++ learns) history put_same low whole in
    (record { least = omega arith; most = low }, omega (arith, most, put_same))

pub room_of_turn : (cut : Bool) (s : Session) (marks : Marks) (run : Run) (round : RoundSeen) (e : Turn) → LegalRound cut s marks run round → KnowsPipe run → pipe_size (setup_of s) ≤ 65536 → pipe_taken run ≤ pipe_put run → round.turn ≡ Some e → e.ended ≡ false → RoomSeen s run e
room_of_turn cut s marks run round e legal knows few low_run is going = (room_both cut s marks run round e legal knows few low_run is going).0

-- if a turn sees the whole room, all that was put before its round is taken by the end of it
pub whole_room : (cut : Bool) (s : Session) (marks : Marks) (run : Run) (round : RoundSeen) (e : Turn) → LegalRound cut s marks run round → KnowsPipe run → pipe_size (setup_of s) ≤ 65536 → pipe_taken run ≤ pipe_put run → round.turn ≡ Some e → e.ended ≡ false
    → e.room ≡ pipe_size (setup_of s) → pipe_put run ≤ pipe_taken (after_round s run round)
whole_room cut s marks run round e legal knows few low_run is going room =
    let o = pipe_over s run round in
    let a = ap (λ (p : PipeTold). frames_taken (twos p.told)) o.whole in
    let b = (room_both cut s marks run round e legal knows few low_run is going).1 in
    omega (arith, a, b, room)

-- Two buffers are enough room: if no more than two lie in the pipe before a round that mixes, no more do after it
pub two_buffers : (s : Session) (run : Run) (round : RoundSeen) → PipeFlowed s run round → MixesAll round → asked (setup_of s) ≤ 16 * cycle_frames s → put_in s round.turn ≤ asked (setup_of s) → in_pipe run ≤ 2 * asked (setup_of s)
    → in_pipe (after_round s run round) ≤ 2 * asked (setup_of s)
two_buffers s run round flowed mixes wide buffer low =
    let put = flowed.put in let taken = flowed.taken mixes in
    fits (in_pipe run) (16 * cycle_frames s) (asked (setup_of s)) (pipe_put run) (pipe_taken run) (put_in s round.turn) (pipe_put (after_round s run round)) (pipe_taken (after_round s run round)) refl wide buffer low put taken
  where
    fits : (left f q p t n p' t' : ℕ) → left ≡ p - t → q ≤ f → n ≤ q → left ≤ 2 * q → p' ≡ p + n → min left f + t ≤ t' → p' - t' ≤ 2 * q
    fits left f q p t n p' t' is wide buffer low put taken = omega (arith, is, wide, buffer, low, put, taken)

-- a turn puts no more than a buffer
pub puts_buffer : (s : Session) (o : Option Turn) → put_in s o ≤ asked (setup_of s)
puts_buffer s None = omega arith
puts_buffer s (Some e) = by e.ended
  where
    long : (takes : List TakeSeen) → length (put_by (setup_of s) takes) ≤ asked (setup_of s)
    long [] = omega arith
    long (t ∷ takes) = let l = length-map-range_with_len (mixed_frame (map (take_of (setup_of s)) (t ∷ takes))) 0 (asked (setup_of s)) in omega (arith, l)

    by : (b : Bool) → (if b then 0 else length (put_by (setup_of s) e.mixes)) ≤ asked (setup_of s)
    by true = omega arith
    by false = long e.mixes

-- ## After any round

-- no more was taken than put, and no more lies in the pipe than it may hold
pub pipe_within : (cut : Bool) (s : Session) (marks : Marks) (run : Run) (round : RoundSeen) → LegalRound cut s marks run round
    → (pipe_taken (after_round s run round) ≤ pipe_put (after_round s run round)) × (in_pipe (after_round s run round) ≤ pipe_size (setup_of s))
pipe_within cut s marks run round legal =
    let o = pipe_over s run round in
    let low = pipe_low (pipe_size (setup_of s)) (ones (met_after s run round).pipe.told) (twos (met_after s run round).pipe.told) legal.histories.shared.pipe.history in
    let a = ap (λ (p : PipeTold). frames_put (ones p.told)) o.whole in
    let b = ap (λ (p : PipeTold). frames_taken (twos p.told)) o.whole in
    let c = low.0 in let d = low.1 in
    (omega arith, omega arith)

-- a round puts what its turn mixed, and takes nothing back
pub pipe_puts : (s : Session) (run : Run) (round : RoundSeen) → (pipe_put (after_round s run round) ≡ pipe_put run + put_in s round.turn) × (pipe_taken run ≤ pipe_taken (after_round s run round))
pipe_puts s run round =
    let sums = pipe_sums s run round in
    let a = sums.early in let b = sums.turn in let c = sums.late in let d = sums.end in
    (sums.put, omega arith)
