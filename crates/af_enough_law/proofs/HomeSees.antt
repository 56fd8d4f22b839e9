-- A turn's look at a track without a slot is all that a round takes of it.
use Rattle.std.proofs.Common.{◌≡◌, ◌⊎◌, inl, inr, ℕ, ◌+◌, ◌≤◌, true, false, List, [], ◌∷◌, ◌++◌, length, ap, ◌∙◌, arith}
use Rattle.af_enough_law.proofs.Common.{BlockTold, LegalRound, Marks, RoundSeen, Run, ServerEvent, Session, TrackTold, after_round, after_turn, calls_states, client_list, count_seen, early_of, fast_ended, is_mixed_here, is_within, late_of, met_after, server_list, told_at, track_at, track_in, with_calls, with_cycles}
use Rattle.af_base.specs.declared.event.ServerEvent.TheVariants as server
use Rattle.af_enough_law.proofs.Basics.{taken-append}
use Rattle.af_enough_law.proofs.Courses.{none_shut}
use Rattle.af_enough_law.proofs.FastWords.{AllStates, KnowsReleased, KnowsStates}
use Rattle.af_enough_law.proofs.NearWords.{buffer_of}
use Rattle.af_enough_law.proofs.NormalRounds.{TurnMade}
use Rattle.af_enough_law.specs.Seen.{frames_put, frames_taken}
use Rattle.af_enough_law.proofs.CalmTracks.{CalmTrack, CalmTurn}
use Rattle.af_enough_law.proofs.FastMixes.{early_states, late_states}
use Rattle.af_enough_law.proofs.FastPolls.{parts_use}
use Rattle.af_enough_law.proofs.FastRounds.{Quiet, over}
use Rattle.af_enough_law.proofs.RunTracks.{calls_long as calls_length}
use Rattle.af_enough_law.proofs.HomeKept.{HomeSeen}
use Rattle.af_enough_law.proofs.HomeStill.{HasNone, entries_still}
use Rattle.af_enough_law.proofs.HomeTakes.{HomeLook, home_look}

quiet_taken : (b later : BlockTold) → Quiet b later → frames_taken (server_list later) ≡ frames_taken (server_list b)
quiet_taken b later q = by q.is_later.events q.rests q.is_later.server
  where
    by : (events : List ServerEvent) → (events ≡ []) ⊎ ((n : ℕ) × (events ≡ server.Learn n ∷ [])) → server_list later ≡ server_list b ++ events → frames_taken (server_list later) ≡ frames_taken (server_list b)
    by events (inl none) is = let a = ap frames_taken (is ∙ ap (λ (es : List ServerEvent). server_list b ++ es) none) in let c = taken-append (server_list b) [] in omega (arith, a, c)
    by events (inr one) is = let a = ap frames_taken (is ∙ ap (λ (es : List ServerEvent). server_list b ++ es) one.1) in let c = taken-append (server_list b) (server.Learn one.0 ∷ []) in omega (arith, a, c)

module _ (s : Session) (marks : Marks) (run : Run) (round : RoundSeen) (i : ℕ) (t : TurnMade s marks run round) (turn : CalmTurn s marks run round i t) (legal : LegalRound false s marks run round)
    (known_stream known_commands : List ServerEvent) (calm : CalmTrack run i known_stream known_commands) (able : (track_in t.turn i).disabled ≡ false) (open_looks : none_shut (track_in t.turn i).looks ≡ true) (knows : KnowsReleased (told_at run i).stream)
    (going : fast_ended run ≡ false) (states : KnowsStates s run) (none : AllStates run (after_round s run round) (HasNone i)) where
  pub home_sees : buffer_of s ≤ t.turn.room → is_mixed_here (track_at (after_round s run round).normal.tracks i) ≡ true → HomeSeen s marks run round i t
  home_sees room here =
      let look : HomeLook false s marks run round i t turn legal known_stream known_commands calm able open_looks knows = home_look false s marks run round i t turn legal known_stream known_commands calm able open_looks knows (is_within (buffer_of s) t.turn.room room) here in
      let v = over s run round i turn.low in
      let uses = parts_use s marks run round legal going states in
      let first = early_states s run round in
      let last = late_states s run round in
      let long = calls_length round run in
      let early = ap (λ (x : TrackTold). frames_taken (server_list x.stream)) (entries_still s i run (after_round s run round) none (length run.states) (early_of run round) (with_calls round run) first.more v.first first.whole calls_high uses.early) in
      let late = ap (λ (x : TrackTold). frames_taken (server_list x.stream)) (entries_still s i run (after_round s run round) none (length (after_turn s run round).states) (late_of run round) (after_turn s run round) last.more v.last last.whole (omega arith) uses.late) in
      let called = quiet_taken (told_at run i).stream (told_at (with_calls round run) i).stream v.calls in
      let meeting = quiet_taken (told_at (with_cycles s (late_of run round) (after_turn s run round)) i).stream (told_at (met_after s run round) i).stream v.meeting in
      let whole = ap (λ (b : BlockTold). frames_taken (server_list b)) v.whole in
      let taken = look.taken in
      let reaches = look.reaches in
      record {
        mix = look.mix;
        is = look.is;
        shows = look.shows;
        reaches = elim reaches as (λ _. (count_seen look.mix.slot.seen ≡ buffer_of s) ⊎ (frames_put (client_list (told_at run i).stream) ≤ frames_taken (server_list (told_at run i).stream) + count_seen look.mix.slot.seen)) [
          | inl full ↦ inl full
          | inr most ↦ inr (omega (arith, most, early, called))
        ];
        all = omega (arith, whole, meeting, late, taken, early, called);
      }
    where
      calls_high : length run.states ≤ length (with_calls round run).states
      calls_high = let a = ap length (calls_states round run) in omega (arith, a)
