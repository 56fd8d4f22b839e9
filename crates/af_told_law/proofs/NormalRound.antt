-- A turn of the normal mixer that hadn't ended, of which it is known what it found and what was shown of it, is a step of the run but for the load of the report, and the queue is known again.
use Rattle.std.proofs.Common.{Bool, List, Option, Some, [], ap, arith, false, fold, if◌then◌else◌, is_some, length, map, not, refl, slice_get, subst, suc, sym, true, true≢false, zero, ℕ, ◌&&◌, ◌+◌, ◌<◌, ◌∙◌, ◌∷◌, ◌≡◌, ◌≤◌}
use Rattle.af_told_law.proofs.Common.{AreTogether, HandSide, IsLegal, IsSound, Item, Learnt, LegalTurnBy, Links, Marks, Moment, NormalKept, NormalState, Outside, PartyState, Run, SawAck, Session, SessionState, Setup, TrackTold, Turn, TurnFound, TurnMade, after_edits, after_push, after_takes, answer_of, by_hand, command_list, cycle_frames, each_at, each_long, hand-client, hand_events_of, is_pushed, items_of, kept_of, learnt, mutator_list, no_track, number_seen, outside_of, pipe_cells, push_list, server-client as server_client, setup_of as mixer_setup, sides_of, slice_get_within, stream_list, told_at, track_count, tracks_at, turn_after, turn_of, turned_track, with_turn}
use Rattle.af_runs.specs.Sessions.{setup_of}
use Rattle.af_told_law.specs.Between.{StandsBefore}
use Rattle.af_told_law.specs.NormalLaws.{PartsTold, TurnShown, did_by, track_turned}
use Rattle.af_told_law.proofs.Places.{StreamsGo, StreamsStay}
use Rattle.af_told_law.specs.QueueTurned.{QueueKnown}
use Rattle.af_told_law.proofs.TurnQueue.{MutatorGoes}
use Rattle.af_told_law.specs.Tells.{Tells, TellsTrack}
use Rattle.af_told_law.proofs.LegalAlike.{mutator_list_same}
use Rattle.af_told_law.proofs.NormalFound.{turn_alike}
use Rattle.af_told_law.proofs.NormalGoes.{turn_leaves}
use Rattle.af_told_law.proofs.NormalShared.{fast_turned, known_turned, normal_turned, shared_turned}
use Rattle.af_told_law.proofs.TurnAlike.{after_edits_same, learn_alike}
use Rattle.af_told_law.proofs.TurnHomes.{normal_legal}
use Rattle.af_told_law.proofs.TurnTracks.{turned_kept}
use Rattle.af_told_law.proofs.LoadTold.{track_apart}
use Rattle.af_told_law.specs.Deeds.{Deeds, SawOwnBy}

module _ (s : Session) (run : Run) {d : Deeds} (x : SessionState) (n : NormalState) (links : Links) (o : Outside) (f : TurnFound) (told : Tells s run d x) (before : AreTogether links x) (after : AreTogether links (record x { normal = n })) (legal : IsLegal o x.normal n)
    (made : TurnMade (answer_of (turn_of n.entry)) x.normal n) (seen : TurnShown s run x n o f) (stands : StandsBefore x)
    (known : QueueKnown (cycle_frames s) run x.normal) (lives : x.normal.ended ≡ false) (cells : x.normal.pipe.pass.part.shape.cells ≡ pipe_cells (setup_of s)) (parts : PartsTold s run d x n o f legal) where
  abbrev e : Turn
  e = turn_of n.entry

  abbrev p : Outside
  p = outside_of (setup_of s) f e

  abbrev c : Setup
  c = mixer_setup x.normal

  abbrev m : NormalKept
  m = kept_of x.normal

  abbrev then_run : Run
  then_run = with_turn s f e run

  leaves : (e.ended ≡ false → StreamsGo o x.normal n e) × (e.ended ≡ true → StreamsStay o x.normal n e)
  leaves = turn_leaves links o x.normal n before.normal legal made

  -- the turn is legal by marks on whose blocks each front seen up to its end is a server's own
  pub legal_now : (marks : Marks) → SawOwnBy marks run (did_by o x n d) → LegalTurnBy (setup_of s) marks f run.normal e
  legal_now = normal_legal links s run x n o told before legal f seen.finds (λ runs. (seen.hears runs, parts.comers runs))

  -- ## What the run has

  -- what was kept is sound, as the run has it
  sound : IsSound run.normal.tracks run.normal.draft
  sound = subst (λ (k : NormalKept). IsSound k.tracks k.draft) told.normal.kept before.normal.tied.sound

  edits_same : e.ended ≡ false → after_edits c (learnt o) e m ≡ after_edits c (learnt p) e m
  edits_same runs = let alike = turn_alike links s run x n o told before legal runs f seen.finds (seen.hears runs) (parts.comers runs) in
      subst (λ (k : NormalKept). after_edits c (learnt o) e k ≡ after_edits c (learnt p) e k) (sym told.normal.kept) (after_edits_same c (learnt o) (learnt p) run.normal e sound (learn_alike run.normal e o p alike))

  lists_same : (back again sent : List (Option Item)) → mutator_list c (learnt o) m e back again sent ≡ mutator_list c (learnt p) m e back again sent
  lists_same back again sent = by_end e.ended refl
    where
      ended_list : (k : Learnt) → e.ended ≡ true → mutator_list c k m e back again sent ≡ (if m.ended then [] else SawAck (number_seen m e.ack) back ∷ [])
      ended_list k over = ap (λ (b : Bool). if m.ended then [] else SawAck (number_seen m e.ack) back ∷ (if b then [] else push_list (after_edits c k e m) e.push again sent)) over

      by_end : (b : Bool) → e.ended ≡ b → mutator_list c (learnt o) m e back again sent ≡ mutator_list c (learnt p) m e back again sent
      by_end true over = ended_list (learnt o) over ∙ sym (ended_list (learnt p) over)
      by_end false runs = subst (λ (k : NormalKept). mutator_list c (learnt o) k e back again sent ≡ mutator_list c (learnt p) k e back again sent) (sym told.normal.kept)
          (mutator_list_same c run.normal e o p sound (turn_alike links s run x n o told before legal runs f seen.finds (seen.hears runs) (parts.comers runs)) back again sent)

  -- what the turn did at its end of the queue
  abbrev Pushed : Type 0
  Pushed = (n.mutator.past.number ≡ x.normal.mutator.past.number + 1) × (n.mutator.past.last ≡ (after_edits c (learnt o) e m).draft)

  abbrev Rested : Type 0
  Rested = (n.mutator.past.number ≡ x.normal.mutator.past.number) × (n.mutator.past.last ≡ x.normal.mutator.past.last)

  record AtTheQueue : Type 0 where
    goes : MutatorGoes o x.normal n e
    first : n.mutator.past.first ≡ x.normal.mutator.past.first
    shown : is_pushed e.push ≡ true → Pushed
    rested : is_pushed e.push ≡ false → Rested

  queue_by : (b : Bool) → e.ended ≡ b → AtTheQueue
  queue_by false runs = let g = leaves.0 runs in record {
    goes = record { back = g.back; again = g.again; sent = g.sent; list = g.mutator; marks_back = g.marks_back; marks_again = g.marks_again; marks_sent = g.marks_sent; older = g.queue.older; shown = (λ is. let h = g.queue.shown is in (h.2, h.3)); still = (λ is. let h = g.queue.still is in (h.2, h.3)) };
    first = g.queue.first;
    shown = (λ is. let h = g.queue.shown is in (h.0, h.1));
    rested = (λ is. let h = g.queue.still is in (h.0, h.1));
  }
  queue_by true over =
      let g = leaves.1 over in
      let is = legal.legal.still over in
      let ack : e.ack ≡ true = ap (λ (t : Turn). t.ack) is in
      let none : is_pushed e.push ≡ false = ap (λ (t : Turn). is_pushed t.push) is in
      record {
        goes = record {
          back = g.back;
          again = [];
          sent = [];
          list = g.mutator;
          marks_back = g.marks_back lives ∙ ap (λ (b : Bool). if b && not x.normal.mutator.past.clear then items_of x.normal.mutator.past.before x.normal.mutator.past.last else []) (sym ack);
          marks_again = ap (λ (b : Bool). if b && not e.ack then items_of x.normal.mutator.past.before x.normal.mutator.past.last else []) (sym none);
          marks_sent = (λ pushes. absurd (true≢false (sym pushes ∙ none)));
          older = (λ unseen. absurd (true≢false (sym ack ∙ unseen)));
          shown = (λ pushes. absurd (true≢false (sym pushes ∙ none)));
          still = (λ rests. (g.still.2, (g.clear lives).0 ∙ sym ack));
        };
        first = g.first;
        shown = (λ pushes. absurd (true≢false (sym pushes ∙ none)));
        rested = (λ rests. (g.still.0, g.still.1));
      }

  at_queue : AtTheQueue
  at_queue = queue_by e.ended refl

  -- ## What is kept

  kept_now : kept_of n ≡ turn_after (setup_of s) (learnt p) run.normal e
  unfolding turn_after
  kept_now = by_end e.ended refl
    where
      ended_kept : (k : Learnt) (d : Setup) (q : NormalKept) → e.ended ≡ true → turn_after d k q e ≡ record q { ended = true }
      ended_kept k d q over = ap (λ (b : Bool). if b then record q { ended = true } else after_takes d e.mixes (after_push e.push (after_edits d k e q))) over

      by_end : (b : Bool) → e.ended ≡ b → kept_of n ≡ turn_after (setup_of s) (learnt p) run.normal e
      by_end false runs = turned_kept links s run x n o told before legal runs f seen.finds (seen.hears runs) (parts.comers runs)
      by_end true over = legal.leaves ∙ ended_kept (learnt o) c m over ∙ ap (λ (q : NormalKept). record q { ended = true }) told.normal.kept ∙ sym (ended_kept (learnt p) (setup_of s) run.normal over)

  -- each track has a hand after a turn
  hands_now : (turns : n.turns ≡ x.normal.turns + 1) (i : ℕ) → i < track_count s → is_some (slice_get n.hands i) ≡ true
  hands_now turns i low =
      let hands = after.normal.hands (omega (arith, turns)) in
      let long : i < length n.hands = (let a = hands.whole in let b = after.count in let d = told.count.1 in omega (arith, low, a, b, d)) in
      there n.hands i long
    where
      there : (hs : List HandSide) (j : ℕ) → j < length hs → is_some (slice_get hs j) ≡ true
      there [] j low = absurd (omega arith)
      there (h ∷ hs) zero low = refl
      there (h ∷ hs) (suc j) low = there hs j (omega arith)

  -- ## The tracks

  pub then_long : length then_run.tracks ≡ length run.tracks
  unfolding with_turn
  then_long = each_long (turned_track (setup_of s) p run.normal e) 0 run.tracks

  pub then_at : (i : ℕ) → i < length run.tracks → told_at then_run i ≡ track_turned s f run e i
  unfolding with_turn
  then_at i low = each_at (turned_track (setup_of s) p run.normal e) 0 run.tracks i i no_track low (omega arith)

  pub sides_same : (i : ℕ) → sides_of (track_turned s f run e i) ≡ sides_of (told_at run i)
  sides_same i = λ j. record {
    file = (told_at run i).file;
    client = (told_at run i).client;
    stream = record { shape = (told_at run i).stream.shape; events = (server_client (fold (λ (sofar : List Moment) (one : Moment). one ∷ sofar) (told_at run i).stream.told (map by_hand (hand_events_of e i))) (stream_list (setup_of s) p e (tracks_at (setup_of s) (learnt p) run.normal e i) i) ∙ hand-client (told_at run i).stream.told (hand_events_of e i)) j; released = (told_at run i).stream.released };
    commands = record { shape = (told_at run i).commands.shape; events = server_client (told_at run i).commands.told (command_list (setup_of s) p e (tracks_at (setup_of s) (learnt p) run.normal e i) i) j; released = (told_at run i).commands.released };
  }

  track_told : (i : ℕ) (q : PartyState) → slice_get x.clients i ≡ Some q → TellsTrack s n x.fast (did_by o x n d) i (track_turned s f run e i) q
  track_told i q is =
      let low : i < track_count s = (let w = slice_get_within x.clients i q is in let d = told.count.1 in omega (arith, w, d)) in
      record {
        client = sides_same i ∙ (told.tracks i q is).client;
        stream = parts.streams i low;
        commands = (λ t at. parts.commands i t low at);
        did = parts.did i low;
      }

  -- ## The whole turn

  few_polled : x.fast.observer.past.number ≤ length run.states
  few_polled = let few = stands.step.few in let number = told.normal.number in omega (arith, few, number)

  pub tells_turned : (turns : n.turns ≡ x.normal.turns + 1) → Tells s then_run (did_by o x n d) (record x { normal = record n { reader = x.normal.reader } })
  tells_turned turns =
      let q = at_queue in record {
        count = (then_long ∙ told.count.0, told.count.1);
        tracks = (λ i r is. let low : i < length run.tracks = (let w = slice_get_within x.clients i r is in let a = told.count.0 in let d = told.count.1 in omega (arith, w, a, d)) in
            track_apart s n x.normal.reader x.fast (did_by o x n d) i (told_at then_run i) r (subst (λ (t : TrackTold). TellsTrack s n x.fast (did_by o x n d) i t r) (sym (then_at i low)) (track_told i r is)));
        shared = shared_turned s run x n o f told legal seen.front known lives cells q.goes q.first q.shown q.rested edits_same lists_same;
        normal = normal_turned s run x n o f told legal seen.front known lives cells q.goes q.first q.shown q.rested edits_same lists_same kept_now (hands_now turns);
        fast = fast_turned s run x n o f told legal seen.front known lives cells q.goes q.first q.shown q.rested edits_same lists_same few_polled;
      }

  pub known_now : QueueKnown (cycle_frames s) then_run n
  known_now = let q = at_queue in known_turned s run x n o f told legal seen.front known lives cells q.goes q.first q.shown q.rested edits_same lists_same
