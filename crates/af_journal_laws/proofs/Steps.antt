-- What holds of a track through each step of a run: its client keeps to its calls and its file, its servers drop by flushes alone, the frames taken are those recorded; and if the proxies of one of its blocks aren't shut after the step, they weren't before it, and the step spared the block.
use Rattle.std.proofs.Common.{◌≡◌, ℕ, ◌<◌, ◌≤◌, not, Bool, true, false, if◌then◌else◌, List, [], ◌++◌, map, length, Option, Some, None, refl, sym, ap, ◌∙◌, subst, append-nil, append_assoc, arith}
use Rattle.af_journal_laws.proofs.Common.{AreSpelled, ClientCall, EntrySeen, FastState, IsFit, IsTrim, IsUnshut, LegalClientTurn, LegalEntry, LegalTurnBy, LooksBy, Marks, NormalKept, Outside, RoundSeen, Run, Session, TrackStands, TrackTold, TracksRise, Turn, TurnFound, called_in_turn, calls_in, cycle_frames, each_at, each_long, each_track, ends, entry_slot, file_words, fit_called, is_poke_on, is_shut, is_spared_by, is_spared_in_turn, list_any, listed, loaded, met, met_at, met_many, mixed_track, no_track, none_corrupt_on, outside_of, played, recorded_by, recorded_by_turn, setup_of, shape_met, sides_mixed, sides_of, sides_turned, slot_playing, slot_frames, stands_called, stands_ended, stands_met, stands_mixed, stands_turned, state_for, taken_met, takes_part, told_at, told_each, track_met, track_spelled, trim_called, trim_ended, trim_met, trim_mixed, trim_turned, turned_track, unshut_called, unshut_ended, unshut_met, unshut_mixed, unshut_turned, with_calls, with_ends, with_load, with_mix, with_poll, with_turn}
use Rattle.af_base.specs.Sample.{packed_word}
use Rattle.af_audit.proofs.RunStands.{entry_looks}

-- ## What a step keeps

-- a track goes from what it was to what it is after a step, in which these words were taken of its stream block; `Spared` holds if its block is unshut in the end
pub record TrackGoes (commands : Bool) (s : Session) (n : ℕ) (t u : TrackTold) (words : List ℕ) (Spared : Type 0) : Type 0 where
  pub fit : IsFit s n (sides_of t) → IsFit s n (sides_of u)
  pub trim : IsTrim commands t → IsTrim commands u
  pub stands : commands ≡ false → TrackStands (file_words s n) t → TrackStands (file_words s n) u
  pub taken : u.stream.taken ≡ t.stream.taken ++ words
  pub unshut : IsTrim commands t → IsUnshut commands u → IsUnshut commands t × Spared

-- the track of a number goes through a step from one run to another, in which these words were taken of its stream block
pub record Goes (commands : Bool) (s : Session) (n : ℕ) (a b : Run) (words : List ℕ) (Spared : Type 0) : Type 0 where
  pub there : n < length b.tracks
  pub track : TrackGoes commands s n (told_at a n) (told_at b n) words Spared

module _ (commands : Bool) (s : Session) (n : ℕ) where
  -- a step that does nothing leaves the track as it was
  pub track_same : (t : TrackTold) → TrackGoes commands s n t t [] (Unit {0})
  track_same t = record { fit = λ h. h; trim = λ h. h; stands = λ off h. h; taken = sym (append-nil t.stream.taken); unshut = λ h fine. (fine, tt) }

  pub goes_same : (a b : Run) → n < length b.tracks → told_at b n ≡ told_at a n → Goes commands s n a b [] (Unit {0})
  goes_same a b low same = record { there = low; track = subst (λ (t : TrackTold). TrackGoes commands s n (told_at a n) t [] (Unit {0})) (sym same) (track_same (told_at a n)) }

  -- a step that changes the track to another one goes as the change does
  pub goes_by : (a b : Run) (u : TrackTold) (words : List ℕ) (S : Type 0) → n < length b.tracks → told_at b n ≡ u → TrackGoes commands s n (told_at a n) u words S → Goes commands s n a b words S
  goes_by a b u words S low is goes = record { there = low; track = subst (λ (t : TrackTold). TrackGoes commands s n (told_at a n) t words S) (sym is) goes }

  -- two steps one after the other take the words of both and spare what both spare
  track_both : (t u v : TrackTold) (xs ys : List ℕ) (S R : Type 0) → TrackGoes commands s n t u xs S → TrackGoes commands s n u v ys R → TrackGoes commands s n t v (xs ++ ys) (S × R)
  track_both t u v xs ys S R f g = record {
    fit = λ h. g.fit (f.fit h);
    trim = λ h. g.trim (f.trim h);
    stands = λ off h. g.stands off (f.stands off h);
    taken = g.taken ∙ ap (λ l. l ++ ys) f.taken ∙ append_assoc t.stream.taken xs ys;
    unshut = λ h fine. (let two = g.unshut (f.trim h) fine in let one = f.unshut h two.0 in (one.0, (one.1, two.1)));
  }

  pub goes_both : (a b c : Run) (xs ys : List ℕ) (S R : Type 0) → Goes commands s n a b xs S → Goes commands s n b c ys R → Goes commands s n a c (xs ++ ys) (S × R)
  goes_both a b c xs ys S R f g = record { there = g.there; track = track_both (told_at a n) (told_at b n) (told_at c n) xs ys S R f.track g.track }

  -- a step takes other words and spares another claim, if the words are the same and its claim means the other one
  pub goes_as : (a b : Run) (xs ys : List ℕ) (S R : Type 0) → xs ≡ ys → (S → R) → Goes commands s n a b xs S → Goes commands s n a b ys R
  goes_as a b xs ys S R same f h = record {
    there = h.there;
    track = (let g = h.track in record {
      fit = g.fit;
      trim = g.trim;
      stands = g.stands;
      taken = g.taken ∙ ap (λ l. (told_at a n).stream.taken ++ l) same;
      unshut = λ t fine. (let one = g.unshut t fine in (one.0, f one.1));
    });
  }

  -- a step that is followed by one that takes nothing and spares nothing goes as it did
  pub goes_then : (a b c : Run) (xs : List ℕ) (S : Type 0) → Goes commands s n a b xs S → Goes commands s n b c [] (Unit {0}) → Goes commands s n a c xs S
  goes_then a b c xs S f g = goes_as a c (xs ++ []) xs (S × Unit {0}) S (append-nil xs) (λ both. both.0) (goes_both a b c xs [] S (Unit {0}) f g)

-- ## The steps

module _ (commands : Bool) (s : Session) (n : ℕ) where
  -- the calls of the track's client
  pub track_called : (calls : List ClientCall) (t : TrackTold) → list_any (is_poke_on commands) calls ≡ false → LegalClientTurn (sides_of t) calls → TrackGoes commands s n t (called_in_turn calls t) [] (none_corrupt_on commands calls ≡ true)
  track_called calls t calm legal = record {
    fit = fit_called s n t calls legal;
    trim = trim_called commands calls t (λ on. subst (λ (b : Bool). list_any (is_poke_on b) calls ≡ false) on calm);
    stands = λ off. stands_called (file_words s n) calls t (subst (λ (b : Bool). list_any (is_poke_on b) calls ≡ false) off calm);
    taken = sym (append-nil t.stream.taken);
    unshut = λ h fine. unshut_called commands calls t legal fine;
  }

  pub goes_called : (round : RoundSeen) (run : Run) → n < length run.tracks → list_any (is_poke_on commands) (calls_in round n) ≡ false → LegalClientTurn (sides_of (told_at run n)) (calls_in round n)
      → Goes commands s n run (with_calls round run) [] (none_corrupt_on commands (calls_in round n) ≡ true)
  unfolding with_calls
  goes_called round run low calm legal =
      let change = λ (track : ℕ) (t : TrackTold). called_in_turn (calls_in round track) t in
      goes_by commands s n run (with_calls round run) _ _ _ (let m = each_long change 0 run.tracks in omega (arith, m, low)) (told_each change run n low) (track_called (calls_in round n) (told_at run n) calm legal)

  -- a mix, of one track
  track_mixed : (x : FastState) (e : EntrySeen) (t : TrackTold) → ((i : ℕ) → slot_playing x e.entry n ≡ Some i → (front : ℕ) × LooksBy (cycle_frames s) (listed t.stream) (entry_slot e.entry i) front)
      → TrackGoes commands s n t (mixed_track s x e n t) (elim (slot_playing x e.entry n) as (λ o. List ℕ) [ None ↦ [] | Some i ↦ map packed_word (slot_frames e i) ])
      (commands ≡ false → elim (slot_playing x e.entry n) as (λ o. Bool) [ None ↦ true | Some i ↦ not (is_shut (entry_slot e.entry i).seen) ] ≡ true)
  track_mixed x e t looks = record {
    fit = subst (IsFit s n) (sym (sides_mixed s x e n t));
    trim = trim_mixed commands s x e n t;
    stands = λ off. stands_mixed (file_words s n) s x e n t looks;
    taken = by_slot (slot_playing x e.entry n);
    unshut = λ h fine. unshut_mixed commands s x e n t looks fine;
  }
    where
      by_slot : (o : Option ℕ) → (elim o as (λ o. TrackTold) [ None ↦ t | Some i ↦ record t { stream = played (cycle_frames s) e i t.stream } ]).stream.taken ≡ t.stream.taken ++ (elim o as (λ o. List ℕ) [ None ↦ [] | Some i ↦ map packed_word (slot_frames e i) ])
      by_slot None = sym (append-nil t.stream.taken)
      by_slot (Some i) = refl

  -- a mix, in a run
  pub goes_mixed : (marks : Marks) (run : Run) (e : EntrySeen) → n < length run.tracks → LegalEntry s marks run e → Goes commands s n run (with_mix s e run) (recorded_by s run e n) (commands ≡ false → is_spared_by s run e n ≡ true)
  unfolding with_mix
  goes_mixed marks run e low legal =
      let x : FastState = state_for s run e.entry.state in
      goes_by commands s n run (with_mix s e run) (mixed_track s x e n (told_at run n)) _ _ (let m = each_long (mixed_track s x e) 0 run.tracks in omega (arith, m, low)) (told_each (mixed_track s x e) run n low)
      (track_mixed x e (told_at run n) (entry_looks s marks run e legal n))

  -- a poll, in a run
  pub goes_polled : (k : ℕ) (run : Run) → n < length run.tracks → Goes commands s n run (with_poll s k run) [] (Unit {0})
  unfolding with_poll
  goes_polled k run low = goes_same commands s n run (with_poll s k run) low refl

  -- the turn of the normal mixer, in a run
  pub goes_turned : (marks : Marks) (f : TurnFound) (e : Turn) (m : NormalKept) (run : Run) → n < length run.tracks → f.streams n ≡ (told_at run n).stream → f.commands n ≡ (told_at run n).commands → run.normal ≡ m → TracksRise 0 e.mixes
      → LegalTurnBy (setup_of s) marks f m e → Goes commands s n run (with_turn s f e run) (recorded_by_turn (Some e) n) (is_spared_in_turn commands e n ≡ true)
  unfolding with_turn
  goes_turned marks f e m run low streams sent same rise legal =
      let c = setup_of s in
      let o = outside_of c f e in
      let t : TrackTold = told_at run n in
      let before : TrackTold = record t { stream = f.streams n; commands = f.commands n } in
      let is : before ≡ t = λ i. record t { stream = streams i; commands = sent i } in
      let told : told_at (with_turn s f e run) n ≡ turned_track c o m e n before =
      each_at (turned_track c o run.normal e) 0 run.tracks n n no_track low (omega arith)
      ∙ (λ i. turned_track c o (same i) e n (sym is i)) in
      goes_by commands s n run (with_turn s f e run) (turned_track c o m e n before) _ _ (let m = each_long (turned_track c o run.normal e) 0 run.tracks in omega (arith, m, low)) told
      (record {
        fit = λ h. subst (IsFit s n) (sym (sides_turned c o m e n before)) (subst (λ (u : TrackTold). IsFit s n (sides_of u)) (sym is) h);
        trim = λ h. trim_turned c f m e legal.outside n legal.found rise legal.legal t commands (subst (IsTrim commands) (sym is) h);
        stands = λ off h. stands_turned (file_words s n) c legal.outside o m e n before (ap (λ (y : Outside). y.streams) legal.found) refl rise legal.legal (subst (TrackStands (file_words s n)) (sym is) h);
        taken = ap (λ (u : TrackTold). u.stream.taken ++ recorded_by_turn (Some e) n) is;
        unshut = λ h fine. (let one = unshut_turned c f m e legal.outside n legal.found rise legal.legal t commands (subst (IsTrim commands) (sym is) h) fine in (subst (IsUnshut commands) is one.0, one.1));
      })

  -- the load of a report, in a run
  pub goes_loaded : (o : Option Turn) (run : Run) → n < length run.tracks → Goes commands s n run (loaded o run) [] (Unit {0})
  unfolding with_load
  goes_loaded None run low = goes_same commands s n run run low refl
  goes_loaded (Some e) run low = goes_same commands s n run (with_load e run) low refl

  pub goes_met : (run : Run) → n < length run.tracks → Goes commands s n run (met s run) [] (Unit {0})
  goes_met run low =
      let t : TrackTold = told_at run n in
      let part = takes_part s run n in
      let u : TrackTold = track_met s run n t in
      goes_by commands s n run (met s run) u [] (Unit {0}) (let m = met_many s run in omega (arith, m, low)) (met_at s run n low) (record {
        fit = λ h. record {
          file = h.file;
          spelled = subst (λ (b : TrackTold). AreSpelled (sides_of b)) (met_at s run n low) (track_spelled s run n low h.spelled);
          stream = subst (λ k. k.frames ≤ 65536) (sym (shape_met part run.handed t.stream)) h.stream;
          commands = h.commands;
        };
        trim = trim_met commands part run.handed t;
        stands = λ off. stands_met (file_words s n) part run.handed t;
        taken = taken_met s n part run.handed t.stream ∙ sym (append-nil t.stream.taken);
        unshut = λ h fine. (unshut_met commands part run.handed t fine, tt);
      })

  -- the clients' ends, in a run
  pub goes_ended : (run : Run) → n < length run.tracks → Goes commands s n run (with_ends run) [] (Unit {0})
  unfolding with_ends
  goes_ended run low = by_end run.normal.ended
    where
      by_end : (b : Bool) → Goes commands s n run (if b then each_track (λ track t. record t { client = ends t.client }) run else run) [] (Unit {0})
      by_end true =
          let t : TrackTold = told_at run n in
          goes_by commands s n run (each_track (λ track t. record t { client = ends t.client }) run) (record t { client = ends t.client }) [] (Unit {0})
          (let m = each_long (λ track t. record t { client = ends t.client }) 0 run.tracks in omega (arith, m, low))
          (told_each (λ track t. record t { client = ends t.client }) run n low) (record {
            fit = λ h. record { file = h.file; spelled = record { stream = h.spelled.stream; commands = h.spelled.commands }; stream = h.stream; commands = h.commands };
            trim = trim_ended commands t;
            stands = λ off. stands_ended (file_words s n) t;
            taken = sym (append-nil t.stream.taken);
            unshut = λ h fine. (unshut_ended commands t fine, tt);
          })
      by_end false = goes_same commands s n run run low refl
