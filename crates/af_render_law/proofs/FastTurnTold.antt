-- The cycles of a fast turn, one after the other, are told, if the meetings after the turn show what the servers saw in the last one.
use Rattle.std.proofs.Common.{◌≡◌, ℕ, zero, suc, ◌+◌, ◌≤◌, Bool, true, false, true≢false, fold, take, drop, List, [], ◌∷◌, ◌++◌, length, append-nil, append_assoc, refl, sym, ap, ◌∙◌, subst, arith}
use Rattle.af_render_law.proofs.Common.{AreSmall, AreTogether, AreTurn, Cycle, CycleEntry, EntrySeen, Frame, IsCycle, IsFastTurn, IsMarkedRun, LegalAlone, Links, Marks, Met, MixesAreTold, Run, SeesOwn, Session, SessionState, WritesCycle, adds, cycle_alone, drop-append_seam, entries_seen, entry_told, frames_grow, frames_more, is_mixed, is_over, meetings_show, mixed_entry, one_more, still_room, still_runs, taken, taken_by, taken_long}
use Rattle.af_render_law.proofs.OwnKept.{ToldBy}
use Rattle.af_render_law.proofs.IdlePoll.{IsBetween, idle_meetings_show}
use Rattle.af_render_law.proofs.FastCycle.{cycle_legal, cycle_tame, cycle_told, next_between, next_caught, next_small}
use Rattle.af_told_law.proofs.FastGrows.{goes_on}

-- what a log has past some frames that it begins with
past_first : (frames first rest : List Frame) → frames ≡ first ++ rest → drop (length first) frames ≡ rest
past_first frames first rest is = ap (drop (length first)) is ∙ drop-append_seam first rest

first_of : (first rest : List Frame) → take (length first) (first ++ rest) ≡ first
first_of [] rest = refl
first_of (f ∷ first) rest = ap (λ (fs : List Frame). f ∷ fs) (first_of first rest)

-- ## After the turn t, and the meetings that lead to z

module _ (links : Links) (t z : SessionState) (together : AreTogether links t) (still : AreTogether links z) (meets : Met t z) where
  -- the next meetings show what the servers saw up to here: those of the next cycle, or those after the turn
  next_show : (left : ℕ) (x : SessionState) (bytes : List ℕ) → IsFastTurn left x bytes t → IsBetween x → x.fast.observer.past.number ≡ x.normal.mutator.past.number → AreSmall x → x.fast.exited ≡ false → length x.fast.log.entries + left ≤ x.fast.cycles → SeesOwn x
  next_show zero x bytes turn between caught small runs room =
      meetings_show links x z small (subst (AreTogether links) turn.1 together) still between.state (subst (λ (y : SessionState). Met y z) turn.1 meets)
  next_show (suc left) x bytes turn between caught small runs room =
      let c = turn.4.cycle in
      idle_meetings_show c.together.links x c.polled c.met c.together.turned c.together.met c.adopts (goes_on x.fast runs (omega (arith, room))) c.meets between caught small

  module _ (s : Session) (marks : Marks) (mixes : MixesAreTold s) where
    -- the entries that the turn added from x on, with their frames in the log that it left
    pub record TurnTold (left : ℕ) (run : Run) (x : SessionState) : Type 0 where
      pub entries : List CycleEntry
      pub added : t.fast.log.entries ≡ x.fast.log.entries ++ entries
      pub are : AreTurn mixed_entry left entries
      pub legal : LegalAlone s marks run (entries_seen (drop (length x.fast.log.frames) t.fast.log.frames) entries)
      pub told : ToldBy s (fold (cycle_alone s) run (entries_seen (drop (length x.fast.log.frames) t.fast.log.frames) entries)) t
      pub between : IsBetween t

    module _ (left : ℕ) (run : Run) (x next : SessionState) (answer : Cycle) (bytes : List ℕ) (w : WritesCycle x answer bytes next) (h : ToldBy s run x) (between : IsBetween x) (tame : IsMarkedRun marks run) (on : is_over x.fast ≡ false) (own : SeesOwn next) where
      abbrev c : IsCycle x w.before answer next w.after
      c = w.cycle

      abbrev e : CycleEntry
      e = (adds x next w.before w.after answer c on).0

      abbrev more : List Frame
      more = taken x next w.before w.after answer c on

      abbrev seen : EntrySeen
      seen = entry_told next.fast.log.frames (length x.fast.log.frames) e

      -- the frames of the first entry are those that it took
      long_taken : length more ≡ taken_by e
      unfolding taken_by
      long_taken = taken_long x next w.before w.after answer c on

      module _ (rest : List Frame) (grows : t.fast.log.frames ≡ next.fast.log.frames ++ rest) where
        whole : t.fast.log.frames ≡ x.fast.log.frames ++ (more ++ rest)
        whole = grows ∙ ap (λ (fs : List Frame). fs ++ rest) (frames_more x next w.before w.after answer c on) ∙ append_assoc x.fast.log.frames more rest

        head_frames : take (taken_by e) (drop (length x.fast.log.frames) t.fast.log.frames) ≡ seen.frames
        head_frames =
            ap (take (taken_by e)) (past_first t.fast.log.frames x.fast.log.frames (more ++ rest) whole)
            ∙ ap (λ (n : ℕ). take n (more ++ rest)) (sym long_taken) ∙ first_of more rest
            ∙ sym (first_of more []) ∙ ap (take (length more)) (append-nil more)
            ∙ ap (λ (n : ℕ). take n more) long_taken
            ∙ ap (take (taken_by e)) (sym (past_first next.fast.log.frames x.fast.log.frames more (frames_more x next w.before w.after answer c on)))

        tail_frames : drop (taken_by e) (drop (length x.fast.log.frames) t.fast.log.frames) ≡ drop (length next.fast.log.frames) t.fast.log.frames
        tail_frames =
            ap (drop (taken_by e)) (past_first t.fast.log.frames x.fast.log.frames (more ++ rest) whole)
            ∙ ap (λ (n : ℕ). drop n (more ++ rest)) (sym long_taken) ∙ drop-append_seam more rest
            ∙ sym (past_first t.fast.log.frames next.fast.log.frames rest grows)

        seen_first : (es : List CycleEntry) → seen ∷ entries_seen (drop (length next.fast.log.frames) t.fast.log.frames) es ≡ entries_seen (drop (length x.fast.log.frames) t.fast.log.frames) (e ∷ es)
        seen_first es = λ j. record { entry = e; frames = sym head_frames j } ∷ entries_seen (sym tail_frames j) es

        -- a cycle is told with the rest of the turn
        one_and : (es : List CycleEntry) → t.fast.log.entries ≡ next.fast.log.entries ++ es → AreTurn mixed_entry (suc left) (e ∷ es) → LegalAlone s marks (cycle_alone s run seen) (entries_seen (drop (length next.fast.log.frames) t.fast.log.frames) es)
            → ToldBy s (fold (cycle_alone s) (cycle_alone s run seen) (entries_seen (drop (length next.fast.log.frames) t.fast.log.frames) es)) t → IsBetween t → TurnTold (suc left) run x
        one_and es added are legal told_t between_t = record {
          entries = e ∷ es;
          added = added ∙ ap (λ (l : List CycleEntry). l ++ es) (one_more x next w.before w.after answer c on) ∙ append_assoc x.fast.log.entries (e ∷ []) es;
          are = are;
          legal = subst (LegalAlone s marks run) (seen_first es) (cycle_legal s run x next w.before w.after answer c h between marks tame on mixes own, legal);
          told = subst (λ (l : List EntrySeen). ToldBy s (fold (cycle_alone s) run l) t) (seen_first es) told_t;
          between = between_t;
        }

      -- the turn is told if it goes on after the cycle
      goes_told : is_mixed answer ≡ true → (rest : List Frame) → t.fast.log.frames ≡ next.fast.log.frames ++ rest → TurnTold left (cycle_alone s run seen) next → TurnTold (suc left) run x
      goes_told is rest grows told = one_and rest grows told.entries told.added
          ((λ _. told.are), (λ dry. absurd (true≢false (sym is ∙ ap is_mixed (adds x next w.before w.after answer c on).1 ∙ dry)))) told.legal told.told told.between

      -- the turn is told if the cycle was its last one
      ends_told : is_mixed answer ≡ false → t ≡ next → TurnTold (suc left) run x
      ends_told is over =
          one_and [] (ap (λ (y : SessionState). y.fast.log.frames) over ∙ sym (append-nil next.fast.log.frames)) [] (ap (λ (y : SessionState). y.fast.log.entries) over ∙ sym (append-nil next.fast.log.entries))
          ((λ mixed. absurd (true≢false (sym mixed ∙ sym (ap is_mixed (adds x next w.before w.after answer c on).1) ∙ is))), (λ _. refl)) tt
          (subst (ToldBy s (cycle_alone s run seen)) (sym over) (cycle_told s run x next w.before w.after answer c h between marks tame on mixes own))
          (subst IsBetween (sym over) (next_between s run x next w.before w.after answer c h between marks tame on))

    -- a cycle, and what follows it
    module _ (left : ℕ) (run : Run) (x next : SessionState) (answer : Cycle) (front back : List ℕ) (w : WritesCycle x answer front next) (h : ToldBy s run x) (between : IsBetween x) (tame : IsMarkedRun marks run) (runs : x.fast.exited ≡ false) (room : length x.fast.log.entries + suc left ≤ x.fast.cycles) where
      on : is_over x.fast ≡ false
      on = goes_on x.fast runs (omega (arith, room))

      between_next : IsBetween next
      between_next = next_between s run x next w.before w.after answer w.cycle h between marks tame on

      caught_next : next.fast.observer.past.number ≡ next.normal.mutator.past.number
      caught_next = next_caught s run x next w.before w.after answer w.cycle h between marks tame on

      small_next : AreSmall next
      small_next = next_small s run x next w.before w.after answer w.cycle h between marks tame on

      by_mix : (b : Bool) → is_mixed answer ≡ b → (is_mixed answer ≡ true → IsFastTurn left next back t) → (is_mixed answer ≡ false → t ≡ next)
          → ((now : Run) → IsFastTurn left next back t → ToldBy s now next → IsMarkedRun marks now → next.fast.exited ≡ false → length next.fast.log.entries + left ≤ next.fast.cycles → TurnTold left now next) → TurnTold (suc left) run x
      by_mix true is goes stops rest =
          let runs' = still_runs x next w.before w.after answer w.cycle on is in
          let room' = still_room x next w.before w.after answer w.cycle on left room in
          let own = next_show left next back (goes is) between_next caught_next small_next runs' room' in
          let grows = frames_grow left next back t (goes is) runs' room' in
          goes_told left run x next answer front w h between tame on own is grows.0 grows.1
          (rest _ (goes is) (cycle_told s run x next w.before w.after answer w.cycle h between marks tame on mixes own) (cycle_tame s run x next w.before w.after answer w.cycle h between marks tame on mixes own) runs' room')
      by_mix false is goes stops rest =
          let over = stops is in
          let own : SeesOwn next = meetings_show links next z small_next (subst (AreTogether links) over together) still between_next.state (subst (λ (y : SessionState). Met y z) over meets) in
          ends_told left run x next answer front w h between tame on own is over

    -- the turn is told from x on
    pub turn_told : (left : ℕ) (run : Run) (x : SessionState) (bytes : List ℕ) → IsFastTurn left x bytes t → ToldBy s run x → IsBetween x → IsMarkedRun marks run → x.fast.exited ≡ false → length x.fast.log.entries + left ≤ x.fast.cycles → TurnTold left run x
    turn_told zero run x bytes turn h between tame runs room = record {
      entries = [];
      added = ap (λ (y : SessionState). y.fast.log.entries) turn.1 ∙ sym (append-nil x.fast.log.entries);
      are = refl;
      legal = tt;
      told = subst (ToldBy s run) (sym turn.1) h;
      between = subst IsBetween (sym turn.1) between;
    }
    turn_told (suc left) run x bytes turn h between tame runs room =
        by_mix left run x turn.1 turn.0 turn.2 turn.3 turn.4 h between tame runs room (is_mixed turn.0) refl turn.6 (λ dry. (turn.7 dry).1)
        (λ now more told_now tame_now runs_now room_now. turn_told left now turn.1 turn.3 more told_now (between_next left run x turn.1 turn.0 turn.2 turn.3 turn.4 h between tame runs room) tame_now runs_now room_now)
