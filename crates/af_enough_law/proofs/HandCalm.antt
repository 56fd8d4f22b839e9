-- The hand of a stream block stays calm in a round whose turn doesn't disable the track.
use Rattle.std.proofs.Common.{◌≡◌, ℕ, ◌<◌, if◌then◌else◌, Bool, true, false, true≢false, Option, Some, None, List, [], ◌∷◌, ◌++◌, length, drop, refl, ap, ◌∙◌}
use Rattle.af_enough_law.proofs.Common.{BlockTold, EntrySeen, HandEvent, NormalKept, RoundSeen, Run, Session, TrackTold, Turn, TurnFound, after_calls, after_round, after_turn, all_played, both_first, both_right, both_true, called_in_turn, calls_in, client-hand, client_list, cycle_events, cycle_frames, early_of, entry_slot, found_in, front_of, hand_does, hand_list, late_of, learnt, listed, mixed_track, outside_of, played, setup_of, sides_of, slot_playing, state_for, stream_list, stream_met, takes_part, told_at, track_in, tracks_at, with_calls, with_cycle, with_poll}
use Rattle.af_base.specs.declared.event.HandEvent.TheVariants as hand
use Rattle.af_life.specs.TurnEvents.{hand_events_of as disables}
use Rattle.af_enough_law.proofs.Calm.{is_hand_calm, are_hands_calm}
use Rattle.af_enough_law.proofs.RunTracks.{mixed_by, turned_by, played_track, round_blocks, met_track}
use Rattle.af_enough_law.proofs.MoreTold.{hand-hand, server-hand}

pub hands_join : (xs ys : List HandEvent) → are_hands_calm xs ≡ true → are_hands_calm ys ≡ true → are_hands_calm (xs ++ ys) ≡ true
hands_join [] ys a b = b
hands_join (x ∷ xs) ys a b = both_true (is_hand_calm x) (are_hands_calm (xs ++ ys)) (both_first (is_hand_calm x) (are_hands_calm xs) a) (hands_join xs ys (both_right (is_hand_calm x) (are_hands_calm xs) a) b)

abbrev Calm : BlockTold → Type 0
Calm b = are_hands_calm (hand_list b) ≡ true

disables_not : (e : Turn) (i : ℕ) → (track_in e i).disabled ≡ false → are_hands_calm (disables e i) ≡ true
disables_not e i not = by e.ended (track_in e i).disabled not
  where
    by : (ended disabled : Bool) → disabled ≡ false → are_hands_calm (if ended then [] else (if disabled then hand.SetFlags 8 ∷ [] else [])) ≡ true
    by true disabled is = refl
    by false true is = absurd (true≢false is)
    by false false is = refl

met_hands : (there hands : Bool) (b : BlockTold) → Calm b → Calm (stream_met there hands b)
met_hands true true b h = hands_join (hand_list b) (hand.Met _ ∷ []) h refl
met_hands true false b h = h
met_hands false true b h = hands_join (hand_list b) (hand.Met _ ∷ []) h refl
met_hands false false b h = h

module _ (s : Session) where
  mixed_once : (e : EntrySeen) (t : TrackTold) (o : Option ℕ) → let u : TrackTold = elim o as (λ o. TrackTold) [ None ↦ t | Some i ↦ record t { stream = played (cycle_frames s) e i t.stream } ] in hand_list u.stream ≡ hand_list t.stream
  mixed_once e t None = refl
  mixed_once e t (Some i) = server-hand t.stream.told (cycle_events (cycle_frames s) (listed t.stream) (entry_slot e.entry i) (front_of (cycle_frames s) (listed t.stream) (entry_slot e.entry i)))

  mixed_hands : (run : Run) (es : List EntrySeen) (i : ℕ) (t : TrackTold) → hand_list (mixed_by s run es i t).stream ≡ hand_list t.stream
  unfolding mixed_by
  mixed_hands run [] i t = refl
  mixed_hands run (e ∷ es) i t = let x = state_for s (with_poll s e.entry.state run) e.entry.state in
      mixed_hands (with_cycle s run e) es i (mixed_track s x e i t) ∙ mixed_once e t (slot_playing x e.entry i)

  turned_hands : (found : Turn → TurnFound) (o : Option Turn) (m : NormalKept) (i : ℕ) (t : TrackTold) → ((e : Turn) → o ≡ Some e → (track_in e i).disabled ≡ false) → Calm t.stream → Calm (turned_by s found o m i t).stream
  unfolding turned_by
  turned_hands found None m i t able h = h
  turned_hands found (Some e) m i t able h =
      let o = outside_of (setup_of s) (found e) e in
      let events = stream_list (setup_of s) o e (tracks_at (setup_of s) (learnt o) m e i) i in
      ap are_hands_calm (server-hand (hand_does (disables e i) t.stream).told events ∙ hand-hand t.stream.told (disables e i)) ∙ hands_join (hand_list t.stream) (disables e i) h (disables_not e i (able e refl))

  -- the hand of a stream block after a round
  pub round_hands : (run : Run) (round : RoundSeen) (i : ℕ) → i < length run.tracks → ((e : Turn) → round.turn ≡ Some e → (track_in e i).disabled ≡ false)
      → are_hands_calm (hand_list (told_at run i).stream) ≡ true → are_hands_calm (hand_list (told_at (after_round s run round) i).stream) ≡ true
  unfolding played_track
  round_hands run round i lt able calm =
      let t = told_at run i in
      let c = called_in_turn (calls_in round i) t in
      let early = mixed_by s (with_calls round run) (early_of run round) i c in
      let turned = turned_by s (found_in s run round) round.turn run.normal i early in
      let all = played_track s run round i t in
      let first : Calm c.stream = ap are_hands_calm (client-hand t.stream.told (drop (length (client_list t.stream)) (after_calls (sides_of t) (calls_in round i)).stream.events)) ∙ calm in
      let second : Calm early.stream = ap are_hands_calm (mixed_hands (with_calls round run) (early_of run round) i c) ∙ first in
      let third : Calm turned.stream = turned_hands (found_in s run round) round.turn run.normal i early able second in
      let last : Calm all.stream = ap are_hands_calm (mixed_hands (after_turn s run round) (late_of run round) i turned) ∙ third in
      ap (λ (b : BlockTold). are_hands_calm (hand_list b)) ((round_blocks s run round i lt).0 ∙ ap (λ (x : TrackTold). x.stream) (met_track s run round i lt))
      ∙ met_hands (takes_part s (all_played s run round) i) (all_played s run round).handed all.stream last
