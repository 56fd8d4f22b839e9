-- If no client flushes, a legal round leaves a stream block's server calm and open.
use Rattle.std.proofs.Common.{◌≡◌, ◌⊎◌, inl, inr, ℕ, zero, suc, ◌+◌, ◌<◌, ◌==◌, ◌&&◌, ◌||◌, not, if◌then◌else◌, nat_le, Bool, true, false, true≢false, Option, Some, None, MatchBool, MatchOption, List, [], ◌∷◌, ◌++◌, length, map, filter, take, drop, refl, sym, ap, ◌∙◌, subst, arith, append-nil, eqb-true, is_some, get_or}
use Rattle.af_enough_law.proofs.Common.{AllByRecursion, BlockTold, ClientEvent, CommandLook, EntrySeen, GoesOn, IsFastTurn, Learnt, LegalEntries, LegalRound, LegalTake, LegalTurnBy, Listed, LooksBy, Marks, NormalKept, Outside, RoundSeen, Run, ServerEvent, ServerKept, Session, Setup, Shape, TakeSeen, TrackKept, TrackSeen, TrackTold, Turn, TurnFound, after_edits, after_round, after_turn, asked as buffer, before_turn, cycle_events, each_at, early_count, early_of, fast_ended, fills, flat_map, fold-append, found_in, front_of, hand_does, heard, heard_at_home, heard_by, heard_elsewhere, invalid, is_found_shut, is_home, is_mixed_here, is_shut, kept, late_of, learnt, list_any, listed, met_after, mix_events, mixed_here, most_round_cycles, outside_of, range_with_len, server_begins, server_keeps, server_kept, server_list, setup_of, slot_reported, stream_list, stream_turned, take_front, takes_from, told_at, track_at, track_in, tracks_at, turned, turned_track, with_calls, with_cycles, with_turn}
use Rattle.af_base.specs.declared.event.ServerEvent.TheVariants as server
use Rattle.af_enough_law.proofs.Basics.{before_normal}
use Rattle.af_life.specs.TurnEvents.{hand_events_of}
use Rattle.af_enough_law.proofs.Courses.{none_shut}
use Rattle.af_enough_law.proofs.FastFlows.{Later}
use Rattle.af_enough_law.proofs.FastRounds.{Quiet, over}
use Rattle.af_enough_law.proofs.RunTracks.{calls_long as calls_length, cycles_long}
use Rattle.af_enough_law.proofs.FastShows.{Setting}
use Rattle.af_enough_law.proofs.FastSteps.{server_does-server, hand_does-server}
use Rattle.af_enough_law.proofs.StreamCalm.{IsQuiet, LiesIn, lies_earlier, look_quiet, calm_join, entries_quiet}

-- ## The take of a track

-- there is no take of the track, or one that holds so much
pub record OnlyTake (P : TakeSeen → Type 0) (takes : List TakeSeen) (i : ℕ) : Type 0 where
  pub take_seen : TakeSeen
  pub is : takes_from takes i ≡ take_seen ∷ []
  pub at : take_seen.track ≡ i
  pub holds : P take_seen

first_or : ℕ → List ℕ → ℕ
first_or d xs = get_or xs 0 d

tail_numbers : List ℕ → List ℕ
tail_numbers [] = []
tail_numbers (x ∷ xs) = xs

abbrev due_in : (ℕ → Bool) → ℕ → ℕ → List ℕ
due_in p a n = filter p (range_with_len a n)

module _ (p : ℕ → Bool) (i : ℕ) where
  none_low : (a n : ℕ) (takes : List TakeSeen) → map (λ take. take.track) takes ≡ due_in p a n → i < a → takes_from takes i ≡ []
  unfolding tail_numbers first_or
  none_low a n [] is low = refl
  none_low a zero (t ∷ takes) is low = absurd (let e = ap length is in omega arith)
  none_low a (suc n) (t ∷ takes) is low = by (p a) is (λ e. none_low (a + 1) n takes e (omega arith)) (λ e. none_low (a + 1) n (t ∷ takes) e (omega arith))
    where
      by : (b : Bool) → map (λ (take : TakeSeen). take.track) (t ∷ takes) ≡ (if b then a ∷ due_in p (a + 1) n else due_in p (a + 1) n) → (map (λ (take : TakeSeen). take.track) takes ≡ due_in p (a + 1) n → takes_from takes i ≡ [])
          → (map (λ (take : TakeSeen). take.track) (t ∷ takes) ≡ due_in p (a + 1) n → takes_from (t ∷ takes) i ≡ []) → takes_from (t ∷ takes) i ≡ []
      by true e after rest =
          let at : t.track ≡ a = ap (first_or 0) e in
          let other : (t.track == i) ≡ false = search (arith, at, low) in
          ap (λ (b : Bool). if b then t ∷ takes_from takes i else takes_from takes i) other ∙ after (ap tail_numbers e)
      by false e after rest = rest e

  module _ (P : TakeSeen → Type 0) where
    pub only_take : (a n : ℕ) (takes : List TakeSeen) → map (λ take. take.track) takes ≡ due_in p a n → AllByRecursion P takes → (takes_from takes i ≡ []) ⊎ OnlyTake P takes i
    unfolding tail_numbers first_or
    only_take a n [] is all = inl refl
    only_take a zero (t ∷ takes) is all = absurd (let e = ap length is in omega arith)
    only_take a (suc n) (t ∷ takes) is all = by (p a) is (λ e. only_take (a + 1) n takes e all.1) (λ e. only_take (a + 1) n (t ∷ takes) e all)
      where
        by_track : (b : Bool) → (t.track == i) ≡ b → t.track ≡ a → map (λ (take : TakeSeen). take.track) takes ≡ due_in p (a + 1) n → (takes_from takes i ≡ []) ⊎ OnlyTake P takes i → (takes_from (t ∷ takes) i ≡ []) ⊎ OnlyTake P (t ∷ takes) i
        by_track true same at e later =
            let here : t.track ≡ i = eqb-true t.track i same in
            inr (record { take_seen = t; is = ap (λ (b : Bool). if b then t ∷ takes_from takes i else takes_from takes i) same ∙ ap (λ (ts : List TakeSeen). t ∷ ts) (none_low (a + 1) n takes e (omega arith)); at = here; holds = all.0 })
        by_track false other at e (inl none) = inl (ap (λ (b : Bool). if b then t ∷ takes_from takes i else takes_from takes i) other ∙ none)
        by_track false other at e (inr one) = inr (record { take_seen = one.take_seen; is = ap (λ (b : Bool). if b then t ∷ takes_from takes i else takes_from takes i) other ∙ one.is; at = one.at; holds = one.holds })

        by : (b : Bool) → map (λ (take : TakeSeen). take.track) (t ∷ takes) ≡ (if b then a ∷ due_in p (a + 1) n else due_in p (a + 1) n) → (map (λ (take : TakeSeen). take.track) takes ≡ due_in p (a + 1) n → (takes_from takes i ≡ []) ⊎ OnlyTake P takes i)
            → (map (λ (take : TakeSeen). take.track) (t ∷ takes) ≡ due_in p (a + 1) n → (takes_from (t ∷ takes) i ≡ []) ⊎ OnlyTake P (t ∷ takes) i) → (takes_from (t ∷ takes) i ≡ []) ⊎ OnlyTake P (t ∷ takes) i
        by true e after rest = by_track (t.track == i) refl (ap (first_or 0) e) (ap tail_numbers e) (after (ap tail_numbers e))
        by false e after rest = rest e

-- a legal turn takes from a track at most once
pub track_takes : (c : Setup) (o : Outside) (m : NormalKept) (e : Turn) (i : ℕ) → GoesOn c o m e → (takes_from e.mixes i ≡ []) ⊎ OnlyTake (LegalTake c o) e.mixes i
track_takes c o m e i goes = by (nat_le (buffer c) e.room) goes.due
  where
    by : (b : Bool) → map (λ (take : TakeSeen). take.track) e.mixes ≡ (if b then mixed_here (after_edits c (learnt o) e m).tracks else []) → (takes_from e.mixes i ≡ []) ⊎ OnlyTake (LegalTake c o) e.mixes i
    by true due = let tracks : List TrackKept = (after_edits c (learnt o) e m).tracks in only_take (λ j. is_mixed_here (track_at tracks j)) i (LegalTake c o) 0 (length tracks) e.mixes due goes.takes
    by false due = only_take (λ j. false) i (LegalTake c o) 0 0 e.mixes due goes.takes

-- ## The turn

-- what a turn at a proxy adds that is home: INVALID if it is found shut
pub none_any : (looks : List CommandLook) → none_shut looks ≡ true → list_any (λ look. is_shut look.seen) looks ≡ false
none_any [] h = refl
none_any (look ∷ looks) h = by (is_shut look.seen) h (λ e. none_any looks e)
  where
    by : (b : Bool) → (not b && none_shut looks) ≡ true → (none_shut looks ≡ true → list_any (λ (look : CommandLook). is_shut look.seen) looks ≡ false) → (b || list_any (λ (look : CommandLook). is_shut look.seen) looks) ≡ false
    by true e later = absurd (true≢false (sym e))
    by false e later = later e

-- a proxy that is home is heard of as open if it is
pub home_open : (k : Learnt) (i : ℕ) (s : TrackKept) → is_home s.holder ≡ true → (k.own i).known.shut ≡ false → (heard k i s).known.shut ≡ false
unfolding heard_by
home_open k i s home unshut = ap (λ (b : Bool). (if b then heard_at_home (k.own i) s else heard_elsewhere (slot_reported k s) s).known.shut) home ∙ unshut

pub never_invalid : (k : Learnt) (seen : TrackSeen) (tracks : List TrackKept) (i : ℕ) → (heard k i (track_at tracks i)).known.shut ≡ false → none_shut seen.looks ≡ true → invalid k seen tracks i ≡ []
never_invalid k seen tracks i unshut looks = by (track_at tracks i).life.ended (is_found_shut (heard k i (track_at tracks i)) seen.looks) (λ j. unshut j || none_any seen.looks looks j)
  where
    by : (ended found : Bool) → found ≡ false → (if not ended && found then server.SetFlags 4 ∷ [] else []) ≡ []
    by true found is = refl
    by false true is = absurd (true≢false is)
    by false false is = refl

module _ (s : Session) (marks : Marks) (track : ℕ) (k : Shape) (cs : List ClientEvent) (all : List ServerEvent) (h : Setting k cs all) where
  -- the mix of a turn leaves the server calm and open
  mix_quiet : (c : Setup) (f : TurnFound) (e : Turn) (before : List ServerEvent) (rest : List ServerEvent) (o : Outside) (same : o.streams track ≡ listed (f.streams track)) → let x : Listed = record { shape = k; events = before } in
      listed (f.streams track) ≡ x → (takes_from e.mixes track ≡ []) ⊎ OnlyTake (LegalTake c o) e.mixes track → all ≡ (before ++ mix_events c (outside_of c f e) e.mixes track) ++ rest → IsQuiet k before
      → IsQuiet k (before ++ mix_events c (outside_of c f e) e.mixes track)
  mix_quiet c f e before rest o same here (inl none) whole quiet =
      let nothing : mix_events c (outside_of c f e) e.mixes track ≡ [] = ap (flat_map (λ (take : TakeSeen). cycle_events (buffer c) ((outside_of c f e).streams track) take.slot ((outside_of c f e).stream_front track))) none in
      subst (IsQuiet k) (sym (ap (λ (es : List ServerEvent). before ++ es) nothing ∙ append-nil before)) quiet
  mix_quiet c f e before rest o same here (inr one) whole quiet =
      let x : Listed = record { shape = k; events = before } in
      let take : TakeSeen = one.take_seen in
      let events : List ServerEvent = cycle_events (buffer c) x take.slot (front_of (buffer c) x take.slot) in
      let made : mix_events c (outside_of c f e) e.mixes track ≡ events =
      ap (λ (ts : List TakeSeen). flat_map (λ (take : TakeSeen). cycle_events (buffer c) (listed (f.streams track)) take.slot (take_front (front_of (buffer c)) (listed (f.streams track)) ts)) ts) one.is
      ∙ ap (λ (y : Listed). cycle_events (buffer c) y take.slot (front_of (buffer c) y take.slot) ++ []) here ∙ append-nil events in
      let at : o.streams take.track ≡ x = ap o.streams one.at ∙ same ∙ here in
      let looks : LooksBy (buffer c) x take.slot (o.stream_front take.track) = subst (λ (y : Listed). LooksBy (buffer c) y take.slot (o.stream_front take.track)) at one.holds.looks in
      subst (λ (es : List ServerEvent). IsQuiet k (before ++ es)) (sym made)
      (look_quiet k cs all h (buffer c) before take.slot (o.stream_front take.track) rest looks (whole ∙ ap (λ (es : List ServerEvent). (before ++ es) ++ rest) made) quiet)

  -- what is known of a stream's server that is open
  pub known_open : (b : BlockTold) → b.shape ≡ k → IsQuiet k (server_list b) → is_some (kept (listed b)).shut ≡ false
  known_open b shape quiet = ap is_some (ap (λ (j : Shape). (server_kept j (server_list b)).shut) shape ∙ quiet.unshut)

  added_quiet : (ended home : Bool) (invalids mixed before rest : List ServerEvent) → (home ≡ true → invalids ≡ []) → (ended ≡ false → all ≡ (before ++ mixed) ++ rest → IsQuiet k (before ++ mixed))
      → all ≡ (before ++ (if ended then [] else (if home then invalids else []) ++ mixed)) ++ rest → IsQuiet k before → IsQuiet k (before ++ (if ended then [] else (if home then invalids else []) ++ mixed))
  added_quiet true home invalids mixed before rest none one whole quiet = subst (IsQuiet k) (sym (append-nil before)) quiet
  added_quiet false false invalids mixed before rest none one whole quiet = one refl whole
  added_quiet false true invalids mixed before rest none one whole quiet =
      let same : before ++ (invalids ++ mixed) ≡ before ++ mixed = ap (λ (es : List ServerEvent). before ++ (es ++ mixed)) (none refl) in
      subst (IsQuiet k) (sym same) (one refl (whole ∙ ap (λ (es : List ServerEvent). es ++ rest) same))

  turn_quiet : (run : Run) (round : RoundSeen) (e : Turn) → track < length run.tracks → round.turn ≡ Some e → LegalTurnBy (setup_of s) marks (found_in s run round e) run.normal e → none_shut (track_in e track).looks ≡ true
      → track < length (before_turn s run round).tracks → LiesIn k cs all h (told_at (with_turn s (found_in s run round e) e (before_turn s run round)) track).stream
      → Later (told_at (before_turn s run round) track).stream (told_at (with_turn s (found_in s run round e) e (before_turn s run round)) track).stream
      → IsQuiet k (server_list (told_at (before_turn s run round) track).stream) → IsQuiet k (server_list (told_at (with_turn s (found_in s run round e) e (before_turn s run round)) track).stream)
  unfolding with_turn
  turn_quiet run round e low is legal open_is there lies later quiet =
      let c : Setup = setup_of s in
      let f : TurnFound = found_in s run round e in
      let o : Outside = outside_of c f e in
      let now : Run = before_turn s run round in
      let b : BlockTold = (told_at now track).stream in
      let after : BlockTold = (told_at (with_turn s f e now) track).stream in
      let tracks : List TrackKept = tracks_at c (learnt o) run.normal e track in
      let events : List ServerEvent = stream_list c o e tracks track in
      let turned_is : after ≡ stream_turned c o run.normal e track b =
      ap (λ (t : TrackTold). t.stream) (each_at (turned_track c o now.normal e) 0 now.tracks track track _ there (omega arith)) ∙ ap (λ (m : NormalKept). stream_turned c o m e track b) (before_normal s run round) in
      let list : server_list after ≡ server_list b ++ events = ap server_list turned_is ∙ server_does-server events (hand_does (hand_events_of e track) b) ∙ ap (λ l. l ++ events) (hand_does-server (hand_events_of e track) b) in
      let shape : b.shape ≡ k = sym later.shape ∙ lies.shape in
      let x : Listed = record { shape = k; events = server_list b } in
      let same : listed b ≡ x = λ j. record { shape = shape j; events = server_list b } in
      subst (IsQuiet k) (sym list) (added_quiet e.ended (is_home (track_at tracks track).holder) (invalid (learnt o) (track_in e track) tracks track) (mix_events c o e.mixes track) (server_list b) lies.rest
      (λ home. never_invalid (learnt o) (track_in e track) tracks track (home_open (learnt o) track (track_at tracks track) home (known_open b shape quiet)) open_is)
      (λ runs whole. mix_quiet c f e (server_list b) lies.rest legal.outside (ap (λ (y : Outside). y.streams track) legal.found) same (track_takes c legal.outside run.normal e track (legal.legal.goes_on runs)) whole quiet)
      (lies.whole ∙ ap (λ l. l ++ lies.rest) list) quiet)

  pub quiet_only : (b later : BlockTold) → Quiet b later → IsQuiet k (server_list b) → IsQuiet k (server_list later)
  quiet_only b later q quiet = by q.is_later.events q.rests q.is_later.server
    where
      by : (events : List ServerEvent) → (events ≡ []) ⊎ ((n : ℕ) × (events ≡ server.Learn n ∷ [])) → server_list later ≡ server_list b ++ events → IsQuiet k (server_list later)
      by events (inl none) is = subst (IsQuiet k) (sym (is ∙ ap (λ (es : List ServerEvent). server_list b ++ es) none ∙ append-nil (server_list b))) quiet
      by events (inr one) is = subst (IsQuiet k) (sym (is ∙ ap (λ (es : List ServerEvent). server_list b ++ es) one.1)) (record {
        calm = calm_join (server_list b) (server.Learn one.0 ∷ []) quiet.calm refl;
        unshut = ap (λ (y : ServerKept). y.shut) (fold-append (server_keeps k) (server_begins k) (server_list b) (server.Learn one.0 ∷ [])) ∙ quiet.unshut;
      })

  pub turned_quiet : (run : Run) (round : RoundSeen) → track < length run.tracks → MatchBool run.normal.ended (round.turn ≡ None) (MatchOption round.turn ⊥ (λ e. LegalTurnBy (setup_of s) marks (found_in s run round e) run.normal e))
      → ((e : Turn) → round.turn ≡ Some e → none_shut (track_in e track).looks ≡ true) → track < length (before_turn s run round).tracks → LiesIn k cs all h (told_at (after_turn s run round) track).stream
      → Later (told_at (before_turn s run round) track).stream (told_at (after_turn s run round) track).stream
      → IsQuiet k (server_list (told_at (before_turn s run round) track).stream) → IsQuiet k (server_list (told_at (after_turn s run round) track).stream)
  turned_quiet run round low legal open_is there lies later quiet = by round.turn refl lies later
    where
      ended_none : (b : Bool) (e : Turn) → round.turn ≡ Some e → MatchBool b (round.turn ≡ None) (MatchOption round.turn ⊥ (λ e. LegalTurnBy (setup_of s) marks (found_in s run round e) run.normal e)) → LegalTurnBy (setup_of s) marks (found_in s run round e) run.normal e
      ended_none true e is none = absurd (true≢false (sym (ap is_some is) ∙ ap is_some none))
      ended_none false e is m = subst (λ (o : Option Turn). MatchOption o ⊥ (λ e. LegalTurnBy (setup_of s) marks (found_in s run round e) run.normal e)) is m

      by : (o : Option Turn) → round.turn ≡ o → LiesIn k cs all h (told_at (turned s (found_in s run round) o (before_turn s run round)) track).stream → Later (told_at (before_turn s run round) track).stream (told_at (turned s (found_in s run round) o (before_turn s run round)) track).stream
          → IsQuiet k (server_list (told_at (turned s (found_in s run round) round.turn (before_turn s run round)) track).stream)
      by None is l f = subst (λ (o : Option Turn). IsQuiet k (server_list (told_at (turned s (found_in s run round) o (before_turn s run round)) track).stream)) (sym is) quiet
      by (Some e) is l f = subst (λ (o : Option Turn). IsQuiet k (server_list (told_at (turned s (found_in s run round) o (before_turn s run round)) track).stream)) (sym is)
          (turn_quiet run round e low is (ended_none run.normal.ended e is legal) (open_is e is) there l f quiet)

no_entries : (n : ℕ) → (take {A = EntrySeen} n [] ≡ []) × (drop {A = EntrySeen} n [] ≡ [])
no_entries zero = (refl, refl)
no_entries (suc n) = (refl, refl)

-- the entries of a legal round are legal before and after its turn
pub legal_parts : (cut : Bool) (s : Session) (marks : Marks) (run : Run) (round : RoundSeen) → LegalRound cut s marks run round
    → LegalEntries s marks (with_calls round run) (early_of run round) × LegalEntries s marks (after_turn s run round) (late_of run round)
legal_parts cut s marks run round legal = by (fast_ended run) legal.turns.fast
  where
    by : (b : Bool) → MatchBool b (round.entries ≡ []) (IsFastTurn most_round_cycles (cut && fills s run round) round.entries × LegalEntries s marks (with_calls round run) (early_of run round) × LegalEntries s marks (after_turn s run round) (late_of run round))
        → LegalEntries s marks (with_calls round run) (early_of run round) × LegalEntries s marks (after_turn s run round) (late_of run round)
    by true none =
        let n : ℕ = early_count run round in (
          subst (LegalEntries s marks (with_calls round run)) (sym (ap (take n) none ∙ (no_entries n).0)) tt,
          subst (LegalEntries s marks (after_turn s run round)) (sym (ap (drop n) none ∙ (no_entries n).1)) tt,
        )
    by false all = (all.1, all.2)

-- lists that lie in a history after a round lay in it all along
pub record LieThrough (s : Session) (run : Run) (round : RoundSeen) (track : ℕ) (k : Shape) (cs : List ClientEvent) (all : List ServerEvent) (h : Setting k cs all) : Type 0 where
  pub met : LiesIn k cs all h (told_at (met_after s run round) track).stream
  pub late : LiesIn k cs all h (told_at (with_cycles s (late_of run round) (after_turn s run round)) track).stream
  pub turned : LiesIn k cs all h (told_at (after_turn s run round) track).stream
  pub early : LiesIn k cs all h (told_at (before_turn s run round) track).stream
  pub called : LiesIn k cs all h (told_at (with_calls round run) track).stream

pub lie_through : (s : Session) (run : Run) (round : RoundSeen) (track : ℕ) → track < length run.tracks → (k : Shape) (cs : List ClientEvent) (all : List ServerEvent) (h : Setting k cs all) → LiesIn k cs all h (told_at (after_round s run round) track).stream → LieThrough s run round track k cs all h
lie_through s run round track low k cs all h lies =
    let o = over s run round track low in
    let met = subst (LiesIn k cs all h) o.whole lies in
    let late = lies_earlier k cs all h (told_at (with_cycles s (late_of run round) (after_turn s run round)) track).stream (told_at (met_after s run round) track).stream o.meeting.is_later met in
    let turned = lies_earlier k cs all h (told_at (after_turn s run round) track).stream (told_at (with_cycles s (late_of run round) (after_turn s run round)) track).stream o.late late in
    let early = lies_earlier k cs all h (told_at (before_turn s run round) track).stream (told_at (after_turn s run round) track).stream o.turn turned in
    record { met = met; late = late; turned = turned; early = early; called = lies_earlier k cs all h (told_at (with_calls round run) track).stream (told_at (before_turn s run round) track).stream o.early early }

-- A legal round leaves the server of a stream block calm and open, if its lists lie in a history of a client that never flushes, and if no look finds the command block shut
pub round_quiet : (cut : Bool) (s : Session) (marks : Marks) (run : Run) (round : RoundSeen) (track : ℕ) → track < length run.tracks → LegalRound cut s marks run round → ((e : Turn) → round.turn ≡ Some e → none_shut (track_in e track).looks ≡ true)
    → (k : Shape) (cs : List ClientEvent) (all : List ServerEvent) (h : Setting k cs all) → LiesIn k cs all h (told_at (after_round s run round) track).stream
    → IsQuiet k (server_list (told_at run track).stream) → IsQuiet k (server_list (told_at (after_round s run round) track).stream)
round_quiet cut s marks run round track low legal open_is k cs all h lies_then quiet =
    let o = over s run round track low in
    let parts = legal_parts cut s marks run round legal in
    let late : Run = with_cycles s (late_of run round) (after_turn s run round) in
    let lies = lie_through s run round track low k cs all h lies_then in
    let b = calls_length round run in
    let c = cycles_long s (early_of run round) (with_calls round run) in
    let called = quiet_only s marks track k cs all h (told_at run track).stream (told_at (with_calls round run) track).stream o.calls quiet in
    let early = entries_quiet s marks track k cs all h (early_of run round) (with_calls round run) o.first parts.0 lies.early called in
    let turned = turned_quiet s marks track k cs all h run round low legal.turns.normal open_is (omega (arith, b, c, low)) lies.turned o.turn early in
    let done = entries_quiet s marks track k cs all h (late_of run round) (after_turn s run round) o.last parts.1 lies.late turned in
    subst (λ (x : BlockTold). IsQuiet k (server_list x)) (sym o.whole) (quiet_only s marks track k cs all h (told_at late track).stream (told_at (met_after s run round) track).stream o.meeting done)
