-- Runs whose lawful blocks weren't poked so far, through all that is no client's call; what they tell is small.
use Rattle.std.proofs.Common.{◌≡◌, ℕ, ◌≤◌, Bool, true, false, slice_get, Some, refl, sym, ap, ◌∙◌, subst, arith}
use Rattle.af_told_law.proofs.Common.{EntrySeen, Marks, PartyState, Run, Session, SessionState, Shape, Track, TrackTold, both_lawful, client_of, cycle_events, entry_slot, front_of, is_lawful, listed, shape_met, slice_get_within, stream_met, told_at, with_mix, with_poll, IsQuietlyKept, met_keeps, mix_keeps, poll_keeps, server-client, hand-client, command_list, stream_list, tracks_at, learnt, hand_events_of, hand_does}
use Rattle.af_runs.specs.Runs as run_of
use Rattle.af_told_law.specs.Sizes.{IsSmallRun, IsTrackSmall}
use Rattle.af_told_law.proofs.MeetsShow.{AreSmall}
use Rattle.af_told_law.specs.Marked.{IsMarkedRun, IsTrackMarked}
use Rattle.af_told_law.specs.Tells.{Tells}
use Rattle.af_told_law.specs.Deeds.{Deeds}

stream_lawful : (p q : Bool) (t : TrackTold) → is_lawful (client_of t.stream.told) ≡ true → is_lawful (client_of (stream_met p q t.stream).told) ≡ true
stream_lawful true true t h = both_lawful (client_of t.stream.told) _ h refl
stream_lawful true false t h = both_lawful (client_of t.stream.told) _ h refl
stream_lawful false true t h = h
stream_lawful false false t h = h

-- a lawful block is poked by its client alone
pub marked_kept : (marks : Marks) → IsQuietlyKept (IsTrackMarked marks)
marked_kept marks = record {
  slot_plays = λ asked e slot n t h. record {
    stream = (λ on. ap is_lawful (server-client t.stream.told (cycle_events asked (listed t.stream) (entry_slot e.entry slot) (front_of asked (listed t.stream) (entry_slot e.entry slot)))) ∙ h.stream on);
    commands = h.commands;
    few = h.few;
  };
  turns = λ c o m e n t h. record {
    stream = (λ on. ap is_lawful (server-client (hand_does (hand_events_of e n) t.stream).told (stream_list c o e (tracks_at c (learnt o) m e n) n) ∙ hand-client t.stream.told (hand_events_of e n)) ∙ h.stream on);
    commands = (λ on. ap is_lawful (server-client t.commands.told (command_list c o e (tracks_at c (learnt o) m e n) n)) ∙ h.commands on);
    few = h.few;
  };
  all_meet = λ part handed n t h. record {
    stream = (λ on. stream_lawful part handed t (h.stream on));
    commands = (λ on. both_lawful (client_of t.commands.told) _ (h.commands on) refl);
    few = (subst (λ (k : Shape). k.frames ≤ 65536) (sym (shape_met part handed t.stream)) h.few.0, h.few.1);
  };
  client_ends = λ n t h. record { stream = h.stream; commands = h.commands; few = h.few };
}

pub met_marked : (marks : Marks) (s : Session) (run : Run) → IsMarkedRun marks run → IsMarkedRun marks (run_of.met s run)
met_marked marks s = met_keeps (IsTrackMarked marks) (marked_kept marks) s

pub poll_marked : (marks : Marks) (s : Session) (k : ℕ) (run : Run) → IsMarkedRun marks run → IsMarkedRun marks (with_poll s k run)
poll_marked marks s k = poll_keeps (IsTrackMarked marks) (marked_kept marks) s k

pub mix_marked : (marks : Marks) (s : Session) (e : EntrySeen) (run : Run) → IsMarkedRun marks run → IsMarkedRun marks (with_mix s e run)
mix_marked marks s e = mix_keeps (IsTrackMarked marks) (marked_kept marks) s e

-- ## What is told

module _ (s : Session) (run : Run) {d : Deeds} (y : SessionState) (h : Tells s run d y) (small : IsSmallRun run) where
  at_track : (i : ℕ) (p : PartyState) → slice_get y.clients i ≡ Some p → IsTrackSmall (told_at run i)
  at_track i p is = small i (let w = slice_get_within y.clients i p is in let a = h.count.0 in let b = h.count.1 in omega (arith, w, a, b))

  -- each block is small
  pub small_told : AreSmall y
  small_told = record {
    streams = (λ i p is. subst (λ (t : Track). t.stream.shape.frames ≤ 65536) (h.tracks i p is).client (at_track i p is).0);
    commands = (λ i p is. subst (λ (t : Track). t.commands.shape.frames ≤ 65536) (h.tracks i p is).client (at_track i p is).1);
  }
