-- A track whose client is of a plain kind stays so, through its client's turns and through legal rounds.
use Rattle.std.proofs.Common.{◌≡◌, ℕ, ◌<◌, Bool, true, false, List, [], ◌∷◌, length, refl, sym, ap, ◌∙◌, subst, arith}
use Rattle.af_enough_law.proofs.Common.{BlockTold, ClientCall, ClientEvent, LegalClientTurn, LegalRound, LegalRounds, Marks, Op, RoundSeen, Run, Session, TrackTold, after_round, called_in_turn, calls_in, client_list, command_list, cycle_events, entry_slot, front_of, hand-client, hand_does, learnt, listed, run_from, server-client, server_list, sides_called, sides_of, stream_list, stream_met, told_at, track_count, tracks_at, Want}
use Rattle.af_base.specs.declared.event.ClientEvent.TheVariants as client
use Rattle.af_life.specs.TurnEvents.{hand_events_of}
use Rattle.af_enough_law.proofs.PlainClients.{IsKind, IsPlainTrack, turn_plain}
use Rattle.af_enough_law.proofs.RunTracks.{round_long}
use Rattle.af_enough_law.proofs.TracksKept.{IsQuietlyKept, only_at, round_keeps}

module _ (W : Want → Bool) (O : Op → Bool) (E : List ClientEvent → Bool) (k : IsKind W O E) where
  -- a track as it is told, whose client is plain, and whose client's events are
  abbrev pub IsPlainTold : TrackTold → Type 0
  IsPlainTold t = IsPlainTrack W O E (sides_of t)

  stream_met_plain : (part handed : Bool) (b : BlockTold) → E (client_list b) ≡ true → E (client_list (stream_met part handed b)) ≡ true
  stream_met_plain true true b h = k.append (client_list b) (client.Learn (length (server_list b)) ∷ []) h (k.learn _)
  stream_met_plain true false b h = k.append (client_list b) (client.Learn (length (server_list b)) ∷ []) h (k.learn _)
  stream_met_plain false true b h = h
  stream_met_plain false false b h = h

  -- the servers and the hand add nothing to a client's list, and a meeting its mark
  pub plain_kept : IsQuietlyKept (λ n. IsPlainTold)
  plain_kept = record {
    slot_plays = λ asked e slot n t h. record {
      client = h.client;
      stream = ap E (server-client t.stream.told (cycle_events asked (listed t.stream) (entry_slot e.entry slot) (front_of asked (listed t.stream) (entry_slot e.entry slot)))) ∙ h.stream;
      commands = h.commands;
    };
    turns = λ c o m e n t h. record {
      client = h.client;
      stream = ap E (server-client (hand_does (hand_events_of e n) t.stream).told (stream_list c o e (tracks_at c (learnt o) m e n) n) ∙ hand-client t.stream.told (hand_events_of e n)) ∙ h.stream;
      commands = ap E (server-client t.commands.told (command_list c o e (tracks_at c (learnt o) m e n) n)) ∙ h.commands;
    };
    all_meet = λ part handed n t h. record {
      client = h.client;
      stream = stream_met_plain part handed t.stream h.stream;
      commands = k.append (client_list t.commands) (client.Learn (length (server_list t.commands)) ∷ []) h.commands (k.learn _);
    };
    client_ends = λ n t h. record { client = record { due = h.client.due; ops = h.client.ops }; stream = h.stream; commands = h.commands };
  }

  -- a legal turn of its client leaves a track plain
  pub called_plain : (t : TrackTold) (calls : List ClientCall) → IsPlainTold t → LegalClientTurn (sides_of t) calls → IsPlainTold (called_in_turn calls t)
  called_plain t calls h legal = subst (IsPlainTrack W O E) (sym (sides_called t calls)) (turn_plain W O E k (sides_of t) calls h legal)

  module _ (s : Session) (cut : Bool) (marks : Marks) where
    -- a legal round leaves it plain
    pub round_plain : (run : Run) (round : RoundSeen) (i : ℕ) → i < length run.tracks → i < track_count s → LegalRound cut s marks run round → IsPlainTold (told_at run i) → IsPlainTold (told_at (after_round s run round) i)
    round_plain run round i low there legal h =
        round_keeps (λ n t. n ≡ i → IsPlainTold t) (only_at IsPlainTold i plain_kept) s run round
        (λ n few is here. called_plain (told_at run n) (calls_in round n) (is here) (legal.turns.clients n (subst (λ (j : ℕ). j < track_count s) (sym here) there)))
        (λ n few here. subst (λ (j : ℕ). IsPlainTold (told_at run j)) (sym here) h)
        i (let long = round_long s run round in omega (arith, long, low)) refl

    -- and so do legal rounds
    pub rounds_plain : (run : Run) (rounds : List RoundSeen) (i : ℕ) → i < length run.tracks → i < track_count s → LegalRounds cut s marks run rounds → IsPlainTold (told_at run i) → IsPlainTold (told_at (run_from s run rounds) i)
    rounds_plain run [] i low there legal h = h
    rounds_plain run (round ∷ rounds) i low there legal h =
        rounds_plain (after_round s run round) rounds i (let long = round_long s run round in omega (arith, long, low)) there legal.1 (round_plain run round i low there legal.0 h)
