-- A cut run at work: one track, of whose three frames two fit its block, and one cycle, which idles. The normal mixer looks before the client's OPEN is there.
use Rattle.std.specs.Prelude.{◌≡◌, ◌<◌, ◌∷◌}
use Rattle.std.proofs.Common.{arith, lit<, subst, sym, true≢false, inl, inr}
use Rattle.af_runs.proofs.Common.{All, CommandLook, EntrySeen, Frame, JournalData, List, None, Outside, RoundSeen, ScriptData, Some, TrackSeen, Turn, [], after_look, cells_of, edited, false, length, mutated, next_command, no_report, one, ordered, pos, refl, still_entry, suc, taken_by, true, two, welcomed, zero, ℕ}
use Rattle.std.proofs.lemmas.List.Elements.{All-nil, All-cons, All-from_recursion}
use Rattle.af_base.specs.declared.event.ClientCall.TheVariants as call
use Rattle.af_base.specs.declared.event.ClientEvent.TheVariants as client
use Rattle.af_base.specs.declared.event.ServerEvent.TheVariants as server
use Rattle.af_base.specs.declared.event.HandEvent.TheVariants as hand
use Rattle.af_base.specs.declared.log.Cycle.TheVariants as cycle
use Rattle.af_base.specs.declared.seen.Seen.TheVariants as seen
use Rattle.af_base.specs.declared.state.Push.TheVariants as pushing
use Rattle.af_base.specs.Sample.{IsFrame}
use Rattle.af_life.specs.Heard.{heard_by, noted, settled_at}
use Rattle.af_life.specs.Reports.{by_report, told_by_report}
use Rattle.af_life.specs.Serves.{after_part, served, status_word}
use Rattle.af_life.specs.Turn.{GoesOn, LegalTurn, turn_after}
use Rattle.af_model.specs.History.{Moment, by_client, by_server, by_hand}
use Rattle.af_model.specs.JournalForm.{IsJournal, IsRound, IsCommandLook, IsTake}
use Rattle.af_model.specs.Numbers.{FitsCall, FitsEntry, FitsLook, FitsRound, FitsTake, FitsTrack, FitsTurn, HasRanges}
use Rattle.af_model.proofs.NumbersFit.{still_fits}
use Rattle.af_model.specs.declared.states.MutatorEvent.TheVariants as mutator
use Rattle.af_model.specs.declared.states.ObserverEvent.TheVariants as observer
use Rattle.af_model.specs.declared.newest.ReaderEvent.TheVariants as reads
use Rattle.af_model.specs.declared.newest.WriterEvent.TheVariants as writes
use Rattle.af_script.specs.declared.op.Op.TheVariants as op
use Rattle.af_runs.specs.Blocks.{HasBlockHistory, listed}
use Rattle.af_runs.specs.Found.{outside_of, outside_with}
use Rattle.af_runs.specs.LegalRuns.{IsCutRun, marks_of, session_of, run_of, HasLegalRounds}
use Rattle.af_runs.specs.Rounds.{LegalEntry, LegalRound, LegalFastTurn, LegalNormalTurn, TrackHistories, SharedHistories, found_in, met_after, all_played}
use Rattle.af_runs.specs.Runs.{Run, new_run, told_at, sides_of, state_for, stream_of, last_report, with_calls, with_poll, with_mix, with_turn, with_load, met, with_ends, all_ended}
use Rattle.af_runs.specs.ClientTurns.{LegalClientTurn}
use Rattle.af_runs.specs.Sessions.{Session, setup_of}
use Rattle.af_runs.specs.Fronts.{lawful_front}

abbrev script : ScriptData
script = record { version = 1; frames = 1; normal = 1; cycles = 1; tracks = record { fast = true; frames = 2; mono = false; base = 0; scale = 4096; file = []; ops = op.OpenTrack ∷ op.Write 3 ∷ op.Remove ∷ [] } ∷ []; turns = [] }

abbrev frame : ℕ → Frame
frame n = record { left = pos n; right = pos n }

abbrev files : List (List Frame)
files = (frame 1 ∷ frame 2 ∷ frame 3 ∷ []) ∷ []

abbrev look : CommandLook
look = record { flush = 0; rear = 0; seen = seen.Empty; code = 0; argument = 0 }

abbrev seen_of_track : TrackSeen
seen_of_track = record { looks = look ∷ []; status = None; disabled = false }

abbrev turn : Turn
turn = record { ended = false; room = 4; ack = true; cycle = 0; tracks = seen_of_track ∷ []; push = pushing.Clean; mixes = [] }

abbrev entry : EntrySeen
entry = record { entry = still_entry 0 cycle.Idle; frames = [] }

abbrev round : RoundSeen
round = record { calls = (call.Sent 0 1 0 ∷ call.Put 0 2 ∷ call.Full 0 ∷ []) ∷ []; turn = Some turn; entries = entry ∷ [] }

abbrev journal : JournalData
journal = record { tracks = 1; rounds = round ∷ [] }

abbrev session : Session
session = session_of script files

abbrev start : Run
start = new_run session

-- what holds of the only one
only : (P : ℕ → Type 0) → P 0 → (i : ℕ) → i < 1 → P i
only P p i h = let e : 0 ≡ i = omega (arith, h) in subst P e p

-- ## The form

abbrev HasCommandLooks : TrackSeen → Type 0
HasCommandLooks t = All IsCommandLook t.looks

-- the numbers of the calls
calls_fit : All FitsCall (call.Sent 0 1 0 ∷ call.Put 0 2 ∷ call.Full 0 ∷ [])
calls_fit = All-from_recursion FitsCall (call.Sent 0 1 0 ∷ call.Put 0 2 ∷ call.Full 0 ∷ []) ((lit< tt, (lit< tt, (lit< tt, tt))), ((lit< tt, (lit< tt, tt)), ((lit< tt, tt), tt)))

-- those of the turn
turn_fits : FitsTurn turn
turn_fits = record {
  room = lit< tt;
  cycle = lit< tt;
  tracks = All-cons FitsTrack seen_of_track [] (record { looks = All-cons FitsLook look [] (lit< tt, (lit< tt, (lit< tt, (lit< tt, tt)))) (All-nil FitsLook); status = tt }) (All-nil FitsTrack);
  push = tt;
  takes = All-nil FitsTake;
}

-- all of them
numbers : HasRanges journal
numbers = record {
  tracks = lit< tt;
  rounds = All-cons FitsRound round [] (
    (All-cons (λ calls. All FitsCall calls) (call.Sent 0 1 0 ∷ call.Put 0 2 ∷ call.Full 0 ∷ []) [] calls_fit (All-nil (λ calls. All FitsCall calls)), turn_fits),
    All-cons (λ (e : EntrySeen). FitsEntry e.entry) entry [] (still_fits 0 cycle.Idle (lit< tt)) (All-nil (λ (e : EntrySeen). FitsEntry e.entry)),
  ) (All-nil FitsRound);
}

form : IsJournal journal
unfolding taken_by
form = record {
  rounds = All-cons (IsRound 1) round [] (record {
    calls = refl;
    turn = inr (record {
      open_is = refl;
      each = refl;
      looks = All-cons HasCommandLooks seen_of_track [] (All-cons IsCommandLook look [] (tt, inr (refl, refl)) (All-nil IsCommandLook)) (All-nil HasCommandLooks);
      takes = All-nil (IsTake 1);
      rise = tt;
    });
  }) (All-nil (IsRound 1));
  entries = (record { kept = refl; mixes = λ mixed. absurd (true≢false (sym mixed)); still = λ mixed. refl }, refl, All-nil IsFrame, tt);
  numbers = numbers;
}

-- ## The turns

client_turn : LegalClientTurn (sides_of (told_at start 0)) (call.Sent 0 1 0 ∷ call.Put 0 2 ∷ call.Full 0 ∷ [])
unfolding cells_of
client_turn = (omega arith, _, refl, (refl, (refl, omega arith)), (omega arith, _, refl, (refl, ((refl, omega arith), omega arith, refl)), (omega arith, _, refl, (refl, (refl, refl)), inr refl)))

-- what the turn sees beside its entry
abbrev outside : Outside
outside = outside_of (setup_of session) (found_in session start round turn) turn

turn_goes_on : GoesOn (setup_of session) outside start.normal turn
unfolding cells_of with_calls with_poll with_mix served after_part status_word heard_by noted settled_at after_look by_report told_by_report mutated edited ordered next_command welcomed
turn_goes_on = record {
  ack = λ none. absurd (true≢false none);
  report = refl;
  room = omega arith;
  whole = refl;
  tracks = only _ (record { looks = refl; disabled = refl; status = refl });
  looks = only _ ((tt, refl), (refl, refl), tt);
  push = refl;
  due = refl;
  takes = tt;
}

turn_legal : LegalTurn (setup_of session) outside start.normal turn
turn_legal = record { ends = refl; still = λ none. absurd (true≢false (sym none)); goes_on = λ going. turn_goes_on }

-- no front is open
same_fronts : (track : ℕ) → outside.command_fronts track ≡ (outside_with lawful_front (setup_of session) (found_in session start round turn) turn).command_fronts track
unfolding cells_of with_calls with_poll with_mix
same_fronts zero = refl
same_fronts (suc track) = refl

normal_turn : LegalNormalTurn session (marks_of journal.rounds) start round
normal_turn = record { outside = outside; found = refl; streams = λ track mark. refl; commands = λ track mark. same_fronts track; legal = turn_legal }

-- what the entry finds, in a run in which it has polled
abbrev polled : Run
polled = with_poll session 0 (with_calls round start)

entry_legal : LegalEntry session (marks_of journal.rounds) polled entry
unfolding cells_of with_calls with_poll with_mix taken_by
entry_legal = record {
  after = record {
    pipe = [];
    servers = λ i. listed (stream_of polled (state_for session polled 0) i);
  };
  cycle = record {
    follows = (omega arith, omega arith);
    pushed = omega arith;
    runs = refl;
    what = refl;
    still = λ still. refl;
    mixes = λ x none mixed. absurd (true≢false (sym mixed));
  };
  pipe = refl;
  lawful = λ mixed i low carried mark. absurd (true≢false (sym mixed));
}

fast_turn : LegalFastTurn true session (marks_of journal.rounds) start round
fast_turn = ((omega arith, inr (inl refl)), (entry_legal, tt), tt)

-- ## The histories

abbrev after : Run
after = met_after session start round

-- the stream block: the client's calls and the meetings, as they are told
abbrev stream_order : List Moment
stream_order = by_hand (hand.Met 6) ∷ by_server (server.Learn 5) ∷ by_client (client.Learn 0) ∷ by_client (client.SawFront 0) ∷ by_client (client.SawFlags 0) ∷ by_client (client.Release 2) ∷ by_client (client.SawFront 0) ∷ by_client (client.SawFlags 0) ∷ []

stream_history : HasBlockHistory (told_at after 0).stream
unfolding cells_of with_calls with_poll with_mix with_turn with_load met with_ends served after_part status_word heard_by noted settled_at after_look by_report told_by_report mutated edited ordered next_command welcomed turn_after taken_by
stream_history = record {
  order = stream_order;
  legal = ((omega arith, omega arith), (omega arith, (omega arith, (refl, (refl, (tt, (refl, (refl, tt))))))));
  client_is = refl;
  server_is = refl;
  hand_is = refl;
  released_is = refl;
  taken_is = refl;
}

-- the command block: the look comes before the command, though it is told after it
abbrev command_order : List Moment
command_order = by_server (server.Learn 3) ∷ by_client (client.Learn 3) ∷ by_client (client.Release 2) ∷ by_client (client.SawFront 0) ∷ by_client (client.SawFlags 0) ∷ by_server (server.SawFront 0) ∷ by_server (server.SawRear 0) ∷ by_server (server.SawFlush 0) ∷ []

command_history : HasBlockHistory (told_at after 0).commands
unfolding cells_of with_calls with_poll with_mix with_turn with_load met served after_part status_word heard_by noted settled_at after_look by_report told_by_report mutated edited ordered next_command welcomed turn_after taken_by
command_history = record {
  order = command_order;
  legal = (omega arith, (omega arith, (tt, (refl, (refl, (refl, (refl, (refl, tt))))))));
  client_is = refl;
  server_is = refl;
  hand_is = refl;
  released_is = refl;
  taken_is = refl;
}

shared : SharedHistories session after
unfolding cells_of with_calls with_poll with_mix with_turn with_load met served after_part status_word heard_by noted settled_at after_look by_report told_by_report mutated edited ordered next_command welcomed turn_after taken_by
shared = record {
  queue = record {
    order = two (observer.SawNext 0 None []) ∷ one (mutator.SawAck 0 []) ∷ one (mutator.Learn 1) ∷ two (observer.Learn 1) ∷ [];
    is_legal = ((refl, refl, refl, refl), ((refl, refl), (omega arith, ((omega arith, refl), tt))));
    of_one = refl;
    of_two = refl;
  };
  report = record {
    order = two (reads.Load 0 no_report) ∷ one (writes.Store (last_report (all_played session start round).reports)) ∷ one (writes.Learn 1) ∷ two (reads.Learn 1) ∷ [];
    is_legal = ((refl, refl), (tt, (omega arith, (omega arith, tt))));
    of_one = refl;
    of_two = refl;
  };
  pipe = record {
    history = record {
      order = one (client.SawFront 0) ∷ one (client.Learn 0) ∷ two (server.Learn 1) ∷ [];
      is_legal = ((refl, refl), (omega arith, (omega arith, tt)));
      of_one = refl;
      of_two = refl;
    };
    put_is = refl;
    taken_is = refl;
    begins = refl;
  };
}

-- ## The run

round_legal : LegalRound true session (marks_of journal.rounds) start round
round_legal = record {
  follows = record { going = refl; room = omega arith; within = omega arith };
  turns = record { clients = only _ client_turn; normal = normal_turn; fast = fast_turn };
  histories = record { blocks = only (TrackHistories session after) (record { stream = λ took_part tame. stream_history; commands = λ took_part tame. command_history }); shared = shared };
}

so_far : HasLegalRounds true script files journal
so_far = record { tracks = refl; form = form; rounds = (round_legal, tt) }

log_full : length (run_of script files journal).entries ≡ 1
unfolding cells_of with_calls with_poll with_mix with_turn with_load met with_ends served after_part status_word heard_by noted settled_at after_look by_report told_by_report mutated edited ordered next_command welcomed turn_after taken_by
log_full = refl

still_going : all_ended session (run_of script files journal) ≡ false
unfolding cells_of with_calls with_poll with_mix with_turn with_load met with_ends served after_part status_word heard_by noted settled_at after_look by_report told_by_report mutated edited ordered next_command welcomed turn_after taken_by
still_going = refl

pub is_cut_run : IsCutRun script files journal
is_cut_run = record { rounds = so_far; full = log_full; going = still_going }
