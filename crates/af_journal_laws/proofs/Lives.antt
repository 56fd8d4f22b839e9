-- If both blocks of a track are spared and no turn hears that one was shut, no step sets INVALID or stores a status that says 15; and if its client sees neither by the end, no call showed it that its track was shut.
use Rattle.std.proofs.Common.{◌≡◌, ℕ, ◌<◌, Bool, true, false, if◌then◌else◌, List, [], length, Option, Some, None, refl, sym, ◌∙◌, subst, arith}
use Rattle.af_journal_laws.proofs.Common.{EntrySeen, FastState, IsTrim, IsUnshut, LegalClientTurn, LegalEntry, LegalTurnBy, Marks, NormalKept, RoundSeen, Run, Session, TrackTold, TracksRise, Turn, TurnFound, called_in_turn, calls_in, each_at, each_track, ends, heard, is_poke_on, is_spared_by, is_spared_in_turn, learnt, list_any, loaded, met, met_at, mixed_track, no_track, outside_of, setup_of, sides_mixed, sides_of, sides_turned, state_for, takes_part, told_at, told_each, track_at, track_met, tracks_at, turned_track, with_calls, with_ends, with_load, with_mix, with_poll, with_turn}
use Rattle.af_journal_laws.specs.Alive.{none_dead}
use Rattle.af_journal_laws.proofs.CallsAlive.{IsValid}
use Rattle.af_journal_laws.proofs.Steps.{Goes, goes_called, goes_ended, goes_met, goes_mixed, goes_same, goes_turned}
use Rattle.af_journal_laws.proofs.TrackAlive.{IsCalm, alive_called, alive_met, calm_called, calm_met, calm_mixed, calm_turned}

-- a turn hears no server of the track's stream block that was shut
abbrev pub IsHeardOpen : Session → ℕ → NormalKept → TurnFound → Turn → Type 0
IsHeardOpen s n m f e = let c = setup_of s in let k = learnt (outside_of c f e) in (heard k n (track_at (tracks_at c k m e n) n)).known.shut ≡ false

-- From one run to another the track is kept trim. If the proxies of its stream block aren't shut in the second, they aren't in the first, and nobody set INVALID on a block or stored 15; and if its client's lists show neither in the second, they don't in the first, and `Alive` holds
pub record Lives (n : ℕ) (a b : Run) (Alive : Type 0) : Type 0 where
  pub there : n < length b.tracks
  pub trim : IsTrim false (told_at a n) → IsTrim false (told_at b n)
  pub unshut : IsTrim false (told_at a n) → IsUnshut false (told_at b n) → IsUnshut false (told_at a n)
  pub calm : IsTrim false (told_at a n) → IsUnshut false (told_at b n) → IsCalm (told_at a n) → IsCalm (told_at b n)
  pub valid : IsValid (sides_of (told_at b n)) → IsValid (sides_of (told_at a n)) × Alive

-- a track that lives through two steps lives through both of them
pub lives_both : (n : ℕ) (a b c : Run) (A B : Type 0) → Lives n a b A → Lives n b c B → Lives n a c (A × B)
lives_both n a b c A B f g = record {
  there = g.there;
  trim = λ h. g.trim (f.trim h);
  unshut = λ h fine. f.unshut h (g.unshut (f.trim h) fine);
  calm = λ h fine calm. g.calm (f.trim h) fine (f.calm h (g.unshut (f.trim h) fine) calm);
  valid = λ fine. (let two = g.valid fine in let one = f.valid two.0 in (one.0, (one.1, two.1)));
}

-- a track lives with another claim, if its claim means the other one
pub lives_as : (n : ℕ) (a b : Run) (A B : Type 0) → (A → B) → Lives n a b A → Lives n a b B
lives_as n a b A B f h = record { there = h.there; trim = h.trim; unshut = h.unshut; calm = h.calm; valid = λ fine. (let one = h.valid fine in (one.0, f one.1)) }

-- a track lives through a step and one after it in which nothing was called
pub lives_then : (n : ℕ) (a b c : Run) (A : Type 0) → Lives n a b A → Lives n b c (Unit {0}) → Lives n a c A
lives_then n a b c A f g = lives_as n a c (A × Unit {0}) A (λ both. both.0) (lives_both n a b c A (Unit {0}) f g)

module _ (s : Session) (n : ℕ) where
  -- a track lives through a step that changes it to another one, if it stays calm
  pub lives_by : (a b : Run) (t : TrackTold) (words : List ℕ) (S A : Type 0) → Goes false s n a b words S → told_at b n ≡ t → (IsUnshut false (told_at a n) → S → IsCalm (told_at a n) → IsCalm t)
      → (IsValid (sides_of t) → IsValid (sides_of (told_at a n)) × A) → Lives n a b A
  lives_by a b t words S A goes is calm valid = record {
    there = goes.there;
    trim = goes.track.trim;
    unshut = λ h fine. (goes.track.unshut h fine).0;
    calm = λ h fine was. (let one = goes.track.unshut h fine in subst IsCalm (sym is) (calm one.0 one.1 was));
    valid = λ fine. valid (subst (λ (u : TrackTold). IsValid (sides_of u)) is fine);
  }

  -- a track lives through a step that leaves it as it was
  pub lives_same : (a b : Run) → n < length b.tracks → told_at b n ≡ told_at a n → Lives n a b (Unit {0})
  lives_same a b low same = lives_by a b (told_at a n) [] (Unit {0}) (Unit {0}) (goes_same false s n a b low same) same (λ unshut spared calm. calm) (λ fine. (fine, tt))

  -- ## The steps

  pub lives_called : (round : RoundSeen) (run : Run) → n < length run.tracks → list_any (is_poke_on false) (calls_in round n) ≡ false → LegalClientTurn (sides_of (told_at run n)) (calls_in round n) → Lives n run (with_calls round run) (none_dead (calls_in round n) ≡ true)
  unfolding with_calls
  lives_called round run low still legal =
      lives_by run (with_calls round run) (called_in_turn (calls_in round n) (told_at run n)) [] _ _ (goes_called false s n round run low still legal) (told_each (λ track t. called_in_turn (calls_in round track) t) run n low)
      (λ unshut spared calm. calm_called (calls_in round n) (told_at run n) calm) (alive_called (calls_in round n) (told_at run n) legal)

  pub lives_polled : (k : ℕ) (run : Run) → n < length run.tracks → Lives n run (with_poll s k run) (Unit {0})
  unfolding with_poll
  lives_polled k run low = lives_same run (with_poll s k run) low refl

  pub lives_mixed : (marks : Marks) (run : Run) (e : EntrySeen) → n < length run.tracks → LegalEntry s marks run e → Lives n run (with_mix s e run) (Unit {0})
  unfolding with_mix
  lives_mixed marks run e low legal =
      let x : FastState = state_for s run e.entry.state in
      lives_by run (with_mix s e run) (mixed_track s x e n (told_at run n)) _ (false ≡ false → is_spared_by s run e n ≡ true) (Unit {0}) (goes_mixed false s n marks run e low legal) (told_each (mixed_track s x e) run n low)
      (λ unshut spared calm. calm_mixed s x e n (told_at run n) (spared refl) calm) (λ fine. (subst IsValid (sides_mixed s x e n (told_at run n)) fine, tt))

  pub lives_turned : (marks : Marks) (f : TurnFound) (e : Turn) (m : NormalKept) (run : Run) → n < length run.tracks → f.streams n ≡ (told_at run n).stream → f.commands n ≡ (told_at run n).commands → run.normal ≡ m → TracksRise 0 e.mixes
      → LegalTurnBy (setup_of s) marks f m e → IsHeardOpen s n m f e → is_spared_in_turn true e n ≡ true → Lives n run (with_turn s f e run) (Unit {0})
  unfolding with_turn
  lives_turned marks f e m run low streams sent same rise legal open_so spared =
      let c = setup_of s in
      let o = outside_of c f e in
      let t : TrackTold = told_at run n in
      let before : TrackTold = record t { stream = f.streams n; commands = f.commands n } in
      let is : before ≡ t = λ i. record t { stream = streams i; commands = sent i } in
      let told : told_at (with_turn s f e run) n ≡ turned_track c o m e n before =
      each_at (turned_track c o run.normal e) 0 run.tracks n n no_track low (omega arith)
      ∙ (λ i. turned_track c o (same i) e n (sym is i)) in
      lives_by run (with_turn s f e run) (turned_track c o m e n before) _ _ (Unit {0}) (goes_turned false s n marks f e m run low streams sent same rise legal) told
      (λ unshut own calm. calm_turned c f m e legal.outside n legal.found legal.legal before open_so spared own (subst IsCalm (sym is) calm))
      (λ fine. (subst (λ (u : TrackTold). IsValid (sides_of u)) is (subst IsValid (sides_turned c o m e n before) fine), tt))

  pub lives_loaded : (o : Option Turn) (run : Run) → n < length run.tracks → Lives n run (loaded o run) (Unit {0})
  unfolding with_load
  lives_loaded None run low = lives_same run run low refl
  lives_loaded (Some e) run low = lives_same run (with_load e run) low refl

  pub lives_met : (run : Run) → n < length run.tracks → Lives n run (met s run) (Unit {0})
  lives_met run low =
      lives_by run (met s run) (track_met s run n (told_at run n)) [] (Unit {0}) (Unit {0}) (goes_met false s n run low) (met_at s run n low)
      (λ unshut spared calm. calm_met (takes_part s run n) run.handed (told_at run n) calm) (λ fine. (alive_met (takes_part s run n) run.handed (told_at run n) fine, tt))

  pub lives_ended : (run : Run) → n < length run.tracks → Lives n run (with_ends run) (Unit {0})
  unfolding with_ends
  lives_ended run low = by_end run.normal.ended (goes_ended false s n run low)
    where
      by_end : (b : Bool) → (let r : Run = if b then each_track (λ track t. record t { client = ends t.client }) run else run in Goes false s n run r [] (Unit {0}) → Lives n run r (Unit {0}))
      by_end true goes =
          lives_by run (each_track (λ track t. record t { client = ends t.client }) run) (record (told_at run n) { client = ends (told_at run n).client }) [] (Unit {0}) (Unit {0}) goes (told_each (λ track t. record t { client = ends t.client }) run n low)
          (λ unshut spared calm. record { stream = calm.stream; commands = calm.commands }) (λ fine. (fine, tt))
      by_end false goes = lives_same run run low refl
