-- The entries of a fast turn are determined by what is told at its end.
use Rattle.std.proofs.Common.{◌≡◌, ◌⊎◌, inl, inr, ℕ, ◌+◌, ◌<◌, ◌≤◌, ◌==◌, Bool, true, false, true≢false, if◌then◌else◌, fold, map, List, [], ◌∷◌, ◌++◌, take, length, All, Some, None, refl, sym, ap, ◌∙◌, subst, arith, length-append}
use Rattle.af_one_turn_run.proofs.Common.{AreMixedBut, CarriesWithin, ClientEvent, EntrySeen, Event, FastState, IsFastTurn, IsFrame, IsQueueAsTold, Item, Legal, LegalAlone, LegalEntry, Marks, PipeTold, QueuePoint, QueueTold, Run, RunKept, SameNormal, ServerEvent, Session, cycle_alone, cycle_frames, fits_of, initial, is_mixed, items_of, kept_beside, met, pipe_met, pipe_size, poll_events, setup_of, slots, state_among, state_at, state_for, take-take, take_at, taken_before, told_at, track_count, two, with_mix, with_poll}
use Rattle.af_model.specs.declared.states.ObserverEvent.TheVariants as observer
use Rattle.af_model.specs.Order.{point_after as after_both}
use Rattle.af_model.specs.PipeHistory as piped
use Rattle.af_model.specs.StateQueue as queued
use Rattle.af_judge.proofs.Words.{CarriesFit}
use Rattle.af_one_turn_run.proofs.Growing.{IsCounted, told_before}
use Rattle.af_one_turn_run.proofs.OneEntry.{IsEntryTold, IsBeforeEntry, one_entry}
use Rattle.af_one_turn_run.proofs.OneTurn.{IsBlockTold}
use Rattle.af_one_turn_run.proofs.Parts.{legal_parts}
use Rattle.af_one_turn_run.proofs.RunFollows.{GoesOn, Follows, follows_not, follows_then, poll_follows, met_follows, mix_follows, cycle_follows}

-- ## Forms

-- each entry has as many frames as its slots took, each of two samples
abbrev pub AreForms : List EntrySeen → Type 0
AreForms [] = Unit {0}
AreForms (e ∷ entries) = (length e.frames ≡ taken_before e.entry slots) × All IsFrame e.frames × AreForms entries

pub cycles_follow : (s : Session) (run : Run) (entries : List EntrySeen) → AreForms entries → Follows run (fold (cycle_alone s) run entries)
cycles_follow s run [] forms = follows_not run
cycles_follow s run (e ∷ entries) forms = follows_then run (cycle_alone s run e) (fold (cycle_alone s) run (e ∷ entries)) (cycle_follows s run e forms.0) (cycles_follow s (cycle_alone s run e) entries forms.2)

-- ## What a cycle leaves alone

pub cycle_normal : (s : Session) (run : Run) (e : EntrySeen) → SameNormal run (cycle_alone s run e)
unfolding with_poll with_mix met
cycle_normal s run e = record { normal = refl; states = refl }

either_put : (b : Bool) (p : PipeTold) (told : List (Event ClientEvent ServerEvent)) (taken : List ℕ) → (if b then record p { told = told; taken = taken } else p).put ≡ p.put
either_put true p told taken = refl
either_put false p told taken = refl

pub cycle_put : (s : Session) (run : Run) (e : EntrySeen) → (cycle_alone s run e).pipe.put ≡ run.pipe.put
unfolding with_poll with_mix met
cycle_put s run e = either_put (is_mixed e.entry.cycle) (pipe_met run.pipe) _ _

met_put : (s : Session) (k : ℕ) (run : Run) → (met s (with_poll s k run)).pipe.put ≡ run.pipe.put
unfolding with_poll met
met_put s k run = refl

met_states : (s : Session) (k : ℕ) (run : Run) → SameNormal run (met s (with_poll s k run))
unfolding with_poll met
met_states s k run = record { normal = refl; states = refl }

-- ## Which state is found

module _ (s : Session) where
  abbrev queue_start : QueuePoint Item
  queue_start = queued.start_of_queue (initial (cycle_frames s))

  abbrev pushed_in : QueueTold → ℕ
  pushed_in told = (after_both queued.legal queued.next queue_start told).mutator.pushed

  poll_sees : (q : QueuePoint Item) (states : List FastState) (c k : ℕ) → Legal queued.legal queued.next q (map two (poll_events (cycle_frames s) states c k)) → k ≡ q.mutator.pushed
  poll_sees q states c k l = by_same (k == c) l
    where
      by_same : (b : Bool) → Legal queued.legal queued.next q (map two (let x = state_at (cycle_frames s) states k in let y = state_at (cycle_frames s) states c in if b then observer.SawNext k None [] ∷ [] else observer.SawNext k (Some x) (items_of x y) ∷ observer.Ack k (items_of y x) ∷ []))
          → k ≡ q.mutator.pushed
      by_same true l = l.0.0
      by_same false l = l.0.0

  cycle_sees : (run : Run) (e : EntrySeen) → IsQueueAsTold (cycle_frames s) (cycle_alone s run e).queue → e.entry.state ≡ pushed_in run.queue
  unfolding with_poll with_mix met
  cycle_sees run e l =
      let polled = run.queue ++ map two (poll_events (cycle_frames s) run.states run.current e.entry.state) in
      let first = (legal_parts queued.legal queued.next queue_start polled _ l).0 in
      poll_sees (after_both queued.legal queued.next queue_start run.queue) run.states run.current e.entry.state (legal_parts queued.legal queued.next queue_start run.queue (map two (poll_events (cycle_frames s) run.states run.current e.entry.state)) first).1

-- ## All entries

-- what is told at the end of the cycles, into whose pipe these frames were put before
pub record CyclesTold (s : Session) (many : ℕ) (frames : ℕ → List ℕ) (put : List ℕ) (last : Run) : Type 0 where
  pub streams : (n : ℕ) → n < many → IsBlockTold (frames n) (told_at last n).stream
  pub queue : IsQueueAsTold (cycle_frames s) last.queue
  pub pipe : Legal (piped.legal_in_pipe (pipe_size (setup_of s))) piped.next_in_pipe piped.start_of_pipe last.pipe.told
  pub taken : last.pipe.taken ≡ take (length last.pipe.taken) put

-- a run before some cycles
pub record CyclesReady (s : Session) (many : ℕ) (put : List ℕ) (run : Run) : Type 0 where
  pub tracks : length run.tracks ≡ many
  pub count : many ≡ track_count s
  pub kept : RunKept s run
  pub counted : (n : ℕ) → n < many → IsCounted (told_at run n).stream
  pub put_is : run.pipe.put ≡ put

begin_of : (xs ys put : List ℕ) → GoesOn xs ys → ys ≡ take (length ys) put → xs ≡ take (length xs) put
begin_of xs ys put g is =
    let long = length-append xs g.0 in
    let all = ap length g.1 in
    sym (take_at xs g.0 (length xs) refl) ∙ ap (take (length xs)) (sym g.1 ∙ is) ∙ take-take (length xs) (length ys) put (omega (arith, long, all))

-- what is told at the end of the cycles was told before
pub told_earlier : (s : Session) (many : ℕ) (frames : ℕ → List ℕ) (put : List ℕ) (run last : Run) → length run.tracks ≡ many → ((n : ℕ) → n < many → IsCounted (told_at run n).stream) → Follows run last → CyclesTold s many frames put last → CyclesTold s many frames put run
told_earlier s many frames put run last tracks counted f t = record {
  streams = λ n low. (let few : n < length run.tracks = omega (arith, low, tracks) in told_before (frames n) (told_at run n).stream (told_at last n).stream (f.streams n few) (counted n low) (f.counted n few (counted n low)) (t.streams n low));
  queue = (legal_parts queued.legal queued.next (queued.start_of_queue (initial (cycle_frames s))) run.queue f.queue.0 (subst (IsQueueAsTold (cycle_frames s)) f.queue.1 t.queue)).0;
  pipe = (legal_parts (piped.legal_in_pipe (pipe_size (setup_of s))) piped.next_in_pipe piped.start_of_pipe run.pipe.told f.pipe.0 (subst (Legal (piped.legal_in_pipe (pipe_size (setup_of s))) piped.next_in_pipe piped.start_of_pipe) f.pipe.1 t.pipe)).0;
  taken = begin_of run.pipe.taken last.pipe.taken put f.taken t.taken;
}

module _ (s : Session) (marks : Marks) (lawful : (n : ℕ) → marks.streams n ≡ true) (many : ℕ) (frames : ℕ → List ℕ) (put : List ℕ) where
  abbrev found : Run → ℕ → Run
  found run k = met s (with_poll s k run)

  -- a cycle that is told keeps all ready
  cycle_ready : (run : Run) (e : EntrySeen) → length e.frames ≡ taken_before e.entry slots → CyclesReady s many put run → CyclesReady s many put (cycle_alone s run e)
  cycle_ready run e long h = let f = cycle_follows s run e long in record {
    tracks = f.long ∙ h.tracks;
    count = h.count;
    kept = kept_beside s run (cycle_alone s run e) (cycle_normal s run e) h.kept;
    counted = λ n low. f.counted n (let t = h.tracks in omega (arith, t, low)) (h.counted n low);
    put_is = cycle_put s run e ∙ h.put_is;
  }

  found_follows : (run : Run) (k : ℕ) → Follows run (found run k)
  found_follows run k = follows_then run (with_poll s k run) (found run k) (poll_follows s k run) (met_follows s (with_poll s k run))

  entry_told : (run : Run) (e : EntrySeen) → length e.frames ≡ taken_before e.entry slots → All IsFrame e.frames → CyclesReady s many put run → LegalEntry s marks (found run e.entry.state) e → CyclesTold s many frames put (cycle_alone s run e)
      → IsEntryTold s marks lawful (found run e.entry.state) many frames e
  entry_told run e long are h legal t = record {
    legal = legal;
    long = long;
    are = are;
    streams = t.streams;
    pipe = t.pipe;
    pipe_taken = t.taken ∙ ap (take (length (cycle_alone s run e).pipe.taken)) (sym (met_put s e.entry.state run ∙ h.put_is));
  }

  before_entry : (run : Run) (e : EntrySeen) → length e.frames ≡ taken_before e.entry slots → CyclesReady s many put run → CyclesTold s many frames put (cycle_alone s run e) → IsBeforeEntry s marks lawful (found run e.entry.state) many frames (state_for s (found run e.entry.state) e.entry.state)
  before_entry run e long h t =
      let r = found run e.entry.state in
      let f = found_follows run e.entry.state in
      let kept = kept_beside s run r (met_states s e.entry.state run) h.kept in
      let fits = fits_of s r kept in
      let fit : CarriesFit s (state_for s r e.entry.state) = state_among s (CarriesFit s) r e.entry.state fits.pushed fits.draft in
      let tracks = f.long ∙ h.tracks in
      let counted : (n : ℕ) → n < many → IsCounted (told_at r n).stream = λ n low. f.counted n (let t = h.tracks in omega (arith, t, low)) (h.counted n low) in
      let earlier = told_earlier s many frames put r (cycle_alone s run e) tracks counted (mix_follows s e r long) t in
      record {
        tracks = tracks;
        apart = fit.apart;
        within = subst (λ m. CarriesWithin m (state_for s r e.entry.state)) (sym h.count) fit.within;
        streams = λ n low. (earlier.streams n low).taken;
      }

  one_cycle : (run : Run) (a b : EntrySeen) → length a.frames ≡ taken_before a.entry slots → All IsFrame a.frames → length b.frames ≡ taken_before b.entry slots → All IsFrame b.frames → CyclesReady s many put run
      → LegalEntry s marks (found run a.entry.state) a → LegalEntry s marks (found run b.entry.state) b → CyclesTold s many frames put (cycle_alone s run a) → CyclesTold s many frames put (cycle_alone s run b) → a ≡ b
  one_cycle run a b long are long_b are_b h legal legal_b t u =
      let states : a.entry.state ≡ b.entry.state = cycle_sees s run a t.queue ∙ sym (cycle_sees s run b u.queue) in
      let r = found run a.entry.state in
      one_entry s marks lawful r many frames (state_for s r a.entry.state) (before_entry run a long h t) a b (entry_told run a long are h legal t)
      (subst (λ k. IsEntryTold s marks lawful (found run k) many frames b) (sym states) (entry_told run b long_b are_b h legal_b u)) states refl

  -- how a list of cycles may end: as many as were to be made, or by one that doesn't mix
  abbrev EndsSo : ℕ → ℕ → (EntrySeen → Type 0) → Type 0
  EndsSo total cycles Last = (e : EntrySeen) → Last e → (total ≡ cycles) ⊎ (is_mixed e.entry.cycle ≡ false)

  no_longer : (cycles done n : ℕ) (mixes : Bool) → (done + 1 ≡ cycles) ⊎ (mixes ≡ false) → done + (n + 2) ≤ cycles → mixes ≡ true → ⊥
  no_longer cycles done n mixes (inl full) few mixed = omega (arith, full, few)
  no_longer cycles done n mixes (inr still) few mixed = true≢false (sym mixed ∙ still)

  one_entries : (cycles total others_total done : ℕ) (Last OtherLast : EntrySeen → Type 0) → EndsSo total cycles Last → EndsSo others_total cycles OtherLast → total ≤ cycles → others_total ≤ cycles → (run : Run) (entries others : List EntrySeen)
      → done + length entries ≡ total → done + length others ≡ others_total → AreMixedBut Last entries → AreMixedBut OtherLast others → AreForms entries → AreForms others → CyclesReady s many put run
      → LegalAlone s marks run entries → LegalAlone s marks run others → CyclesTold s many frames put (fold (cycle_alone s) run entries) → CyclesTold s many frames put (fold (cycle_alone s) run others) → entries ≡ others
  one_entries cycles total others_total done Last OtherLast ends ends_others few few_others run [] others n m mixed mixed_others forms forms_others h legal legal_others t u = absurd mixed
  one_entries cycles total others_total done Last OtherLast ends ends_others few few_others run (a ∷ entries) [] n m mixed mixed_others forms forms_others h legal legal_others t u = absurd mixed_others
  one_entries cycles total others_total done Last OtherLast ends ends_others few few_others run (a ∷ entries) (b ∷ others) n m mixed mixed_others forms forms_others h legal legal_others t u =
      let ready_a = cycle_ready run a forms.0 h in
      let ready_b = cycle_ready run b forms_others.0 h in
      let told_a = told_earlier s many frames put (cycle_alone s run a) (fold (cycle_alone s) run (a ∷ entries)) ready_a.tracks ready_a.counted (cycles_follow s (cycle_alone s run a) entries forms.2) t in
      let told_b = told_earlier s many frames put (cycle_alone s run b) (fold (cycle_alone s) run (b ∷ others)) ready_b.tracks ready_b.counted (cycles_follow s (cycle_alone s run b) others forms_others.2) u in
      let first : a ≡ b = one_cycle run a b forms.0 forms.1 forms_others.0 forms_others.1 h legal.0 legal_others.0 told_a told_b in
      (λ j. first j ∷ by_rest entries others n m mixed mixed_others first
      (λ mixed mixed_others. one_entries cycles total others_total (done + 1) Last OtherLast ends ends_others few few_others (cycle_alone s run a) entries others (omega (arith, n)) (omega (arith, m)) mixed mixed_others forms.2 forms_others.2 ready_a
      legal.1 (subst (λ z. LegalAlone s marks (cycle_alone s run z) others) (sym first) legal_others.1) t (subst (λ z. CyclesTold s many frames put (fold (cycle_alone s) (cycle_alone s run z) others)) (sym first) u)) j)
    where
      by_rest : (entries others : List EntrySeen) → done + length (a ∷ entries) ≡ total → done + length (b ∷ others) ≡ others_total → AreMixedBut Last (a ∷ entries) → AreMixedBut OtherLast (b ∷ others) → a ≡ b → (AreMixedBut Last entries → AreMixedBut OtherLast others → entries ≡ others) → entries ≡ others
      by_rest [] [] n m mixed mixed_others first more = refl
      by_rest [] (c ∷ others) n m mixed mixed_others first more =
          absurd (no_longer cycles done (length others) (is_mixed a.entry.cycle) (last (ends a mixed)) (let f = few_others in omega (arith, m, f)) (ap (λ (z : EntrySeen). is_mixed z.entry.cycle) first ∙ mixed_others.0))
        where
          last : (total ≡ cycles) ⊎ (is_mixed a.entry.cycle ≡ false) → (done + 1 ≡ cycles) ⊎ (is_mixed a.entry.cycle ≡ false)
          last (inl full) = inl (omega (arith, full, n))
          last (inr still) = inr still
      by_rest (c ∷ entries) [] n m mixed mixed_others first more =
          absurd (no_longer cycles done (length entries) (is_mixed b.entry.cycle) (last (ends_others b mixed_others)) (let f = few in omega (arith, n, f)) (ap (λ (z : EntrySeen). is_mixed z.entry.cycle) (sym first) ∙ mixed.0))
        where
          last : (others_total ≡ cycles) ⊎ (is_mixed b.entry.cycle ≡ false) → (done + 1 ≡ cycles) ⊎ (is_mixed b.entry.cycle ≡ false)
          last (inl full) = inl (omega (arith, full, m))
          last (inr still) = inr still
      by_rest (c ∷ entries) (d ∷ others) n m mixed mixed_others first more = more mixed.1 mixed_others.1

  -- the entries of two fast turns are the same
  pub one_fast : (cycles : ℕ) (run : Run) (entries others : List EntrySeen) → IsFastTurn cycles false entries → IsFastTurn cycles false others → AreForms entries → AreForms others → CyclesReady s many put run
      → LegalAlone s marks run entries → LegalAlone s marks run others → CyclesTold s many frames put (fold (cycle_alone s) run entries) → CyclesTold s many frames put (fold (cycle_alone s) run others) → entries ≡ others
  one_fast cycles run entries others fast fast_others forms forms_others h legal legal_others t u =
      one_entries cycles (length entries) (length others) 0 (λ last. (length entries ≡ cycles) ⊎ (is_mixed last.entry.cycle ≡ false) ⊎ (false ≡ true)) (λ last. (length others ≡ cycles) ⊎ (is_mixed last.entry.cycle ≡ false) ⊎ (false ≡ true))
      (λ e l. ends_so (length entries ≡ cycles) e l) (λ e l. ends_so (length others ≡ cycles) e l) fast.0 fast_others.0 run entries others (omega arith) (omega arith) fast.1 fast_others.1 forms forms_others h legal legal_others t u
    where
      ends_so : (Full : Type 0) (e : EntrySeen) → Full ⊎ (is_mixed e.entry.cycle ≡ false) ⊎ (false ≡ true) → Full ⊎ (is_mixed e.entry.cycle ≡ false)
      ends_so Full e (inl full) = inl full
      ends_so Full e (inr (inl still)) = inr still
      ends_so Full e (inr (inr never)) = absurd (true≢false (sym never))
