-- What holds of a track and of the normal mixer through the legal rounds of a run.
use Rattle.std.proofs.Common.{◌≡◌, inl, inr, ℕ, ◌<◌, ◌==◌, ◌&&◌, ◌||◌, Bool, true, false, if◌then◌else◌, List, [], ◌∷◌, length, All, Option, Some, None, refl, sym, ap, ◌∙◌, subst, eqb-true, arith}
use Rattle.af_audit.proofs.Common.{All-head, All-tail, BlockTold, CycleEntry, EntrySeen, FastState, HasBlockHistory, IsRound, IsTurn, LegalEntries, LegalEntry, LegalRound, LegalRounds, LegalTurnBy, LooksBy, Marks, MatchOption, NormalKept, Outside, RoundSeen, Run, Session, SlotEntry, TrackTold, TracksRise, Turn, TurnFound, absent, after_round, after_turn, all_played, before_turn, both, calls_in, carries, cycle_beside, cycle_frames, cycle_of, each_at, each_long, each_track, early_of, ends, entry_slot, fast_ended, file_words, fills, found_in, get_or-replicate, observer_holds, is_home, is_mixed, is_poke_on, is_shown, is_tame, late_of, list_any, listed, loaded, met, met_after, met_at, met_many, mixed_track, neither, no, no_track, outside_of, shows_slot, plays_track, run_from, setup_of, slot_playing, slot_of, slots, state_for, state_known, state_of, still_entry, takes_part, told_at, told_each, track_at, track_count, turned, turned_track, with_calls, with_cycle, with_cycles, with_ends, with_load, with_mix, with_poll, with_turn}
use Rattle.af_audit.proofs.CallsFollow.{calls_long, told_called}
use Rattle.af_audit.proofs.MixerEnds.{EndsHome}
use Rattle.af_audit.proofs.MixerRounds.{round_ends}
use Rattle.af_audit.proofs.EntryParts.{legal_parts}
use Rattle.af_audit.proofs.MixerTurns.{before_normal, turn_legal}
use Rattle.af_audit.proofs.TrackStands.{TrackStands, stands_called, stands_ended, stands_met, stands_mixed, stands_turned}
use Rattle.af_audit.proofs.FirstFound.{found_at}

-- ## The look of an entry at a track

module _ (s : Session) (marks : Marks) (r : Run) (e : EntrySeen) (legal : LegalEntry s marks r e) (n i : ℕ) where
  abbrev pub x : FastState
  x = state_for s r e.entry.state

  -- the look answers by some front
  abbrev pub Looks : Type 0
  Looks = (front : ℕ) × LooksBy (cycle_frames s) (listed (told_at r n).stream) (entry_slot e.entry i) front

  not_still : i < slots → e.entry ≡ still_entry e.entry.state e.entry.cycle → is_shown (entry_slot e.entry i).seen ≡ true → ⊥
  not_still low is shown =
      let none : entry_slot e.entry i ≡ absent = ap (λ (y : CycleEntry). entry_slot y i) is ∙ get_or-replicate slots i absent absent low in
      no (sym (ap (λ (slot : SlotEntry). is_shown slot.seen) none) ∙ shown)

  slot_looks : i < slots → carries x i ≡ true → is_shown (entry_slot e.entry i).seen ≡ true → (slot_of x i).track ≡ n → Looks
  slot_looks low carried shown of_track = by_mixed (is_mixed e.entry.cycle) refl
    where
      by_state : (o : Option FastState) → state_of r.states e.entry.state ≡ o → is_mixed e.entry.cycle ≡ true → Looks
      by_state None is mixed = no (sym (ap is_mixed (legal.cycle.what ∙ ap (cycle_of _) is)) ∙ mixed)
      by_state (Some y) is mixed =
          let same : x ≡ y = state_known s r e.entry.state y is in
          let slot = (legal.cycle.mixes y is mixed).tracks i low (subst (λ (z : FastState). carries z i ≡ true) same carried) in
          (slot.front, subst (λ (t : ℕ). LooksBy (cycle_frames s) (listed (told_at r t).stream) (entry_slot e.entry i) slot.front) of_track slot.looks)

      by_mixed : (b : Bool) → is_mixed e.entry.cycle ≡ b → Looks
      by_mixed true is = by_state (state_of r.states e.entry.state) refl is
      by_mixed false is = absurd (not_still low (legal.cycle.still is) shown)

  pub entry_looks : slot_playing x e.entry n ≡ Some i → Looks
  entry_looks found =
      let at = found_at (plays_track x e.entry n) 0 slots i found in
      let here = both (shows_slot x e.entry i) ((slot_of x i).track == n) at.holds in
      let plays_it = both (carries x i) (is_shown (entry_slot e.entry i).seen) here.0 in
      slot_looks (let h = at.high in omega (arith, h)) plays_it.0 plays_it.1 (eqb-true (slot_of x i).track n here.1)

-- ## The steps of a round

-- what holds of the track of a number
pub record StandsAt (s : Session) (n : ℕ) (run : Run) : Type 0 where
  pub there : n < length run.tracks
  pub track : TrackStands (file_words s n) (told_at run n)

module _ (s : Session) (marks : Marks) (n : ℕ) where
  stands_cycle : (run : Run) (e : EntrySeen) → LegalEntry s marks (with_poll s e.entry.state run) e → StandsAt s n run → StandsAt s n (with_cycle s run e)
  unfolding with_mix with_poll
  stands_cycle run e legal h =
      let r : Run = with_poll s e.entry.state run in
      let x = state_for s r e.entry.state in
      record {
        there = (let b = cycle_beside s run e in let m = b.many in let t = h.there in omega (arith, m, t));
        track = subst (TrackStands (file_words s n)) (sym (told_each (mixed_track s x e) r n h.there)) (stands_mixed (file_words s n) s x e n (told_at r n) (entry_looks s marks r e legal n) h.track);
      }

  stands_cycles : (es : List EntrySeen) (run : Run) → LegalEntries s marks run es → StandsAt s n run → StandsAt s n (with_cycles s es run)
  stands_cycles [] run legal h = h
  stands_cycles (e ∷ es) run legal h = stands_cycles es (with_cycle s run e) legal.1 (stands_cycle run e legal.0 h)

  stands_turn : (f : TurnFound) (e : Turn) (m : NormalKept) (run : Run) → f.streams n ≡ (told_at run n).stream → run.normal ≡ m → TracksRise 0 e.mixes → LegalTurnBy (setup_of s) marks f m e → StandsAt s n run → StandsAt s n (with_turn s f e run)
  unfolding with_turn
  stands_turn f e m run found same rise legal h =
      let c = setup_of s in
      let o = outside_of c f e in record {
        there = (let m = each_long (turned_track c o run.normal e) 0 run.tracks in let t = h.there in omega (arith, m, t));
        track = subst (TrackStands (file_words s n)) (sym (each_at (turned_track c o run.normal e) 0 run.tracks n n no_track h.there (omega arith)))
            (subst (λ (k : NormalKept). TrackStands (file_words s n) (turned_track c o k e n (told_at run n))) (sym same)
            (stands_turned (file_words s n) c legal.outside o m e n (told_at run n) (ap (λ (y : Outside). y.streams) legal.found) (ap listed found) rise legal.legal h.track));
      }

  stands_loaded : (o : Option Turn) (run : Run) → StandsAt s n run → StandsAt s n (loaded o run)
  unfolding with_load
  stands_loaded None run h = h
  stands_loaded (Some e) run h = record { there = h.there; track = h.track }

  stands_met_all : (run : Run) → StandsAt s n run → StandsAt s n (met s run)
  stands_met_all run h = record {
    there = (let m = met_many s run in let t = h.there in omega (arith, m, t));
    track = subst (TrackStands (file_words s n)) (sym (met_at s run n h.there)) (stands_met (file_words s n) (takes_part s run n) run.handed (told_at run n) h.track);
  }

  stands_ends : (run : Run) → StandsAt s n run → StandsAt s n (with_ends run)
  unfolding with_ends
  stands_ends run h = by_end run.normal.ended
    where
      by_end : (b : Bool) → StandsAt s n (if b then each_track (λ track t. record t { client = ends t.client }) run else run)
      by_end true = record {
        there = (let m = each_long (λ track t. record t { client = ends t.client }) 0 run.tracks in let t = h.there in omega (arith, m, t));
        track = subst (TrackStands (file_words s n)) (sym (told_each (λ track t. record t { client = ends t.client }) run n h.there)) (stands_ended (file_words s n) (told_at run n) h.track);
      }
      by_end false = h

-- ## What is kept of a run

-- once the stream proxy of a track is home, its stream block has a history if no poke was recorded
abbrev pub HasHistoryAtHome : ℕ → Run → Type 0
HasHistoryAtHome n run = is_home (track_at run.normal.tracks n).holder ≡ true → is_tame (told_at run n).stream ≡ true → HasBlockHistory (told_at run n).stream

-- what holds of a run: of the track, of the normal mixer and of the history
pub record RunStands (s : Session) (n : ℕ) (run : Run) : Type 0 where
  pub stands : StandsAt s n run
  pub mixer : EndsHome run.normal
  pub history : HasHistoryAtHome n run

-- ## A round

module _ (cut : Bool) (s : Session) (marks : Marks) (run : Run) (round : RoundSeen) (tracks n : ℕ) (form : IsRound tracks round) (legal : LegalRound cut s marks run round) where
  abbrev pub start : Run
  start = with_calls round run

  -- the entries of the round are legal
  pub fast_parts : LegalEntries s marks start (early_of run round) × LegalEntries s marks (after_turn s run round) (late_of run round)
  fast_parts = legal_parts (fast_ended run) (cut && fills s run round) s marks run round legal.turns.fast

  pub rises : (e : Turn) → round.turn ≡ Some e → TracksRise 0 e.mixes
  rises e is = by_form (subst (λ (o : Option Turn). MatchOption o (Unit {0}) (IsTurn tracks)) is form.turn)
    where
      by_form : IsTurn tracks e → TracksRise 0 e.mixes
      by_form (inl ended) = subst (λ (t : Turn). TracksRise 0 t.mixes) (sym ended) tt
      by_form (inr open_turn) = open_turn.rise

  -- ## The track

  stands_turned_if : (o : Option Turn) → round.turn ≡ o → StandsAt s n (before_turn s run round) → StandsAt s n (turned s (found_in s run round) o (before_turn s run round))
  stands_turned_if None is h = h
  stands_turned_if (Some e) is h = stands_turn s marks n (found_in s run round e) e run.normal (before_turn s run round) refl (before_normal s run round) (rises e is) (turn_legal cut s marks run round legal e is) h

  stands_met_after : list_any (is_poke_on false) (calls_in round n) ≡ false → StandsAt s n run → StandsAt s n (met_after s run round)
  stands_met_after calm h =
      let called : StandsAt s n start = record {
        there = (let m = calls_long round run in let t = h.there in omega (arith, m, t));
        track = subst (TrackStands (file_words s n)) (sym (told_called round run n h.there)) (stands_called (file_words s n) (calls_in round n) (told_at run n) calm h.track);
      } in
      let early = stands_cycles s marks n (early_of run round) start fast_parts.0 called in
      let late = stands_cycles s marks n (late_of run round) (after_turn s run round) fast_parts.1 (stands_turned_if round.turn refl early) in
      stands_met_all s marks n (all_played s run round) (stands_loaded s marks n round.turn (with_cycles s (late_of run round) (after_turn s run round)) late)

  -- ## The history

  history_ends : (r : Run) → n < length r.tracks → HasHistoryAtHome n r → HasHistoryAtHome n (with_ends r)
  unfolding with_ends
  history_ends r low h = by_end r.normal.ended
    where
      by_end : (b : Bool) → HasHistoryAtHome n (if b then each_track (λ track t. record t { client = ends t.client }) r else r)
      by_end true = λ home. subst (λ (b : BlockTold). is_tame b ≡ true → HasBlockHistory b) (sym (ap (λ (t : TrackTold). t.stream) (told_each (λ track t. record t { client = ends t.client }) r n low))) (h home)
      by_end false = h

  or_left : (a b : Bool) → a ≡ true → (a || b) ≡ true
  or_left true b e = refl
  or_left false b e = no e

  history_round : n < track_count s → StandsAt s n (met_after s run round) → HasHistoryAtHome n (after_round s run round)
  history_round low stands = history_ends (met_after s run round) stands.there
      (λ home. (legal.histories.blocks n low).stream (or_left (is_home (track_at (met_after s run round).normal.tracks n).holder) (observer_holds s (met_after s run round) n) home))

  -- a legal round keeps all that holds of a run
  pub round_stands : n < track_count s → list_any (is_poke_on false) (calls_in round n) ≡ false → RunStands s n run → RunStands s n (after_round s run round)
  round_stands low calm h =
      let met_so = stands_met_after calm h.stands in
      record { stands = stands_ends s marks n (met_after s run round) met_so; mixer = round_ends cut s marks run round legal h.mixer; history = history_round low met_so }

-- ## All rounds

-- legal rounds without a poke on the track's stream block keep all that holds of a run
pub rounds_stand : (cut : Bool) (s : Session) (marks : Marks) (tracks n : ℕ) (rounds : List RoundSeen) (run : Run) → n < track_count s → All (IsRound tracks) rounds → LegalRounds cut s marks run rounds
    → list_any (λ round. list_any (is_poke_on false) (calls_in round n)) rounds ≡ false → RunStands s n run → RunStands s n (run_from s run rounds)
rounds_stand cut s marks tracks n [] run low forms legal calm h = h
rounds_stand cut s marks tracks n (round ∷ rounds) run low forms legal calm h =
    let two = neither (list_any (is_poke_on false) (calls_in round n)) (list_any (λ round. list_any (is_poke_on false) (calls_in round n)) rounds) calm in
    rounds_stand cut s marks tracks n rounds (after_round s run round) low (All-tail (IsRound tracks) round rounds forms) legal.1 two.1
    (round_stands cut s marks run round tracks n (All-head (IsRound tracks) round rounds forms) legal.0 low two.0 h)
