-- A turn of the normal mixer is determined by what the blocks, the queue, the report and the pipe tell.
use Rattle.std.proofs.Common.{◌≡◌, ℕ, ◌+◌, ◌%◌, ◌^◌, ◌<◌, ◌&&◌, ◌||◌, max, min, Bool, true, false, map, List, [], ◌∷◌, ◌++◌, length, All, refl, sym, ap, ◌∙◌, subst, arith}
use Rattle.af_one_turn_run.proofs.Common.{All-head, All-tail, AllByRecursion, BlockTold, GoesOn, IsOpenTurn, IsQueueAsTold, IsReportAsTold, IsTake, Item, Learnt, Legal, LegalPush, LegalTake, LegalTrack, LegalTurn, Load, LooksBy, NormalKept, QueuePoint, Run, Session, Setup, TakeSeen, TrackKept, TrackPoint, TrackSeen, Turn, TurnFound, after, after_ack, after_edits, asked, client_of, commands_turned, cycle_frames, ends_now, found_before, front_by_room, going, hand_events_of, initial, commands_exit, known_by, lawful_front, learnt, listed, most_round_cycles, mutated, no_report, number_seen, outside_of, outside_with, pipe_size, pipe_turned, queue_turned, report_of, served_to, setup_of, start, stream_turned, take_front, told_at, track_in, tracks_at, tracks_due, two, and_false}
use Rattle.af_model.specs.NewestValue as newest
use Rattle.af_model.specs.Order.{point_after as after_both}
use Rattle.af_model.specs.PipeHistory as piped
use Rattle.af_model.specs.StateQueue as queued
use Rattle.af_one_turn_run.proofs.Taking.{IsTakenOf, HasFrames}
use Rattle.af_one_turn_run.proofs.Told.{IsToldLegally}
use Rattle.af_one_turn_run.proofs.OneLooks.{AreTold}
use Rattle.af_one_turn_run.proofs.OneShared.{PushSees, ack_seen, push_seen, one_push, report_seen, room_seen, one_room}
use Rattle.af_one_turn_run.proofs.OneTakes.{handed, played_from, before_play, IsTakeTold, take_told, one_mixes}
use Rattle.af_one_turn_run.proofs.OneTracks.{one_track, one_list, looks_told}
use Rattle.af_one_turn_run.proofs.Parts.{legal_parts}

-- a block is told legally, and took the frames that its order tells
pub record IsBlockTold (frames : List ℕ) (b : BlockTold) : Type 0 where
  pub legal : IsToldLegally b
  pub taken : IsTakenOf frames b

module _ (s : Session) (run : Run) (many : ℕ) (frames : ℕ → List ℕ) where
  abbrev c : Setup
  c = setup_of s

  abbrev m : NormalKept
  m = run.normal

  -- what the turn finds
  abbrev pub found : Turn → TurnFound
  found e = found_before s run [] e

  -- a turn that is told: legal by what it found, of its form, and after it all is told in a legal order
  pub record IsTurnTold (e : Turn) : Type 0 where
    pub legal : LegalTurn c (outside_with lawful_front c (found e) e) m e
    pub form : e.ended ≡ false → IsOpenTurn many e
    pub streams : (i : ℕ) → i < many → IsBlockTold (frames i) (stream_turned c (outside_of c (found e) e) m e i (told_at run i).stream)
    pub commands : (i : ℕ) → i < many → IsBlockTold (told_at run i).commands.released (commands_turned c (outside_of c (found e) e) m e i (told_at run i).commands)
    pub queue : IsQueueAsTold (cycle_frames s) (queue_turned (cycle_frames s) c (outside_of c (found e) e) m e run.states run.queue)
    pub report : IsReportAsTold (run.report ++ map two (going e (Load e.cycle (report_of run.reports e.cycle) ∷ [])))
    pub pipe : Legal (piped.legal_in_pipe (pipe_size c)) piped.next_in_pipe piped.start_of_pipe (pipe_turned c e run.pipe).told

  -- how all is told before the turn
  pub record IsBeforeTurn : Type 0 where
    pub runs : m.ended ≡ false
    pub tracks : length m.tracks ≡ many
    pub small : pipe_size c < 2 ^ 32
    pub streams : (i : ℕ) → i < many → IsTakenOf (frames i) (told_at run i).stream
    pub commands : (i : ℕ) → i < many → (let b = (told_at run i).commands in IsTakenOf b.released b × HasFrames b.released b.shape.base (after (start b.shape) b.told))

  module _ (h : IsBeforeTurn) where
    abbrev queue_point : QueuePoint Item
    queue_point = after_both queued.legal queued.next (queued.start_of_queue (initial (cycle_frames s))) run.queue

    -- ## The acknowledgement, and whether the turn ended

    acked : (e : Turn) → IsTurnTold e → number_seen m e.ack ≡ queue_point.observer.acked
    acked e t = ack_seen queue_point c (learnt (outside_of c (found e) e)) m e _ _ _ h.runs (legal_parts queued.legal queued.next (queued.start_of_queue (initial (cycle_frames s))) run.queue _ t.queue).1

    ack_low : (e : Turn) → IsTurnTold e → e.ack ≡ false → 0 < m.pushed
    ack_low e t none = (t.legal.goes_on (t.legal.ends ∙ (λ i. h.runs i || (commands_exit m.last && none i)) ∙ and_false (commands_exit m.last))).ack none

    same_ack : (a b : Turn) → IsTurnTold a → IsTurnTold b → a.ack ≡ b.ack
    same_ack a b t u = by_acks a.ack b.ack (acked a t ∙ sym (acked b u)) (ack_low a t) (ack_low b u)
      where
        by_acks : (x y : Bool) → number_seen m x ≡ number_seen m y → (x ≡ false → 0 < m.pushed) → (y ≡ false → 0 < m.pushed) → x ≡ y
        by_acks true true same low low_b = refl
        by_acks false false same low low_b = refl
        by_acks true false same low low_b = absurd (let z : ⊥ = (let l = low_b refl in omega (arith, same, l)) in z)
        by_acks false true same low low_b = absurd (let z : ⊥ = (let l = low refl in omega (arith, same, l)) in z)

    same_ended : (a b : Turn) → IsTurnTold a → IsTurnTold b → a.ended ≡ b.ended
    same_ended a b t u = t.legal.ends ∙ ap (ends_now m) (same_ack a b t u) ∙ sym u.legal.ends

    -- ## A turn that goes on

    abbrev learnt_at : ℕ → Learnt
    learnt_at n = record { report = report_of run.reports (min (max (length run.entries) n) (length run.entries + most_round_cycles)); own = λ i. known_by (listed (told_at run i).stream) }

    same_cycle : (a b : Turn) → IsTurnTold a → IsTurnTold b → a.ended ≡ false → b.ended ≡ false → a.cycle ≡ b.cycle
    same_cycle a b t u goes goes_b = cycle_of a t goes ∙ sym (cycle_of b u goes_b)
      where
        cycle_of : (e : Turn) → IsTurnTold e → e.ended ≡ false → e.cycle ≡ (after_both newest.legal_value newest.next_value (newest.start_value no_report) run.report).number
        cycle_of e t goes = report_seen e (after_both newest.legal_value newest.next_value (newest.start_value no_report) run.report) (report_of run.reports e.cycle) goes (legal_parts newest.legal_value newest.next_value (newest.start_value no_report) run.report _ t.report).1

    same_room : (a b : Turn) → IsTurnTold a → IsTurnTold b → a.ended ≡ false → b.ended ≡ false → a.room ≡ b.room
    same_room a b t u goes goes_b = one_room (pipe_size c) (length run.pipe.put) a.room b.room h.small (t.legal.goes_on goes).room (u.legal.goes_on goes_b).room (front_of_pipe a t goes ∙ sym (front_of_pipe b u goes_b))
      where
        front_of_pipe : (e : Turn) → IsTurnTold e → e.ended ≡ false → front_by_room (pipe_size c) (length run.pipe.put) e.room ≡ (after_both (piped.legal_in_pipe (pipe_size c)) piped.next_in_pipe piped.start_of_pipe run.pipe.told).taken % 2 ^ 32
        front_of_pipe e t goes = room_seen e (after_both (piped.legal_in_pipe (pipe_size c)) piped.next_in_pipe piped.start_of_pipe run.pipe.told) c _ (length run.pipe.put) goes (legal_parts (piped.legal_in_pipe (pipe_size c)) piped.next_in_pipe piped.start_of_pipe run.pipe.told _ t.pipe).1

    -- ## The tracks

    told_looks : (e : Turn) → IsTurnTold e → e.ended ≡ false → (i : ℕ) → i < many → (let b = (told_at run i).commands in AreTold b.released b.shape.base (listed b) (after (start b.shape) b.told) (length (client_of b.told)) (track_in e i).looks)
    told_looks e t goes i low =
        looks_told (told_at run i).commands.released c (found e) e (tracks_at c (learnt_at e.cycle) m e i) i goes ((t.legal.goes_on goes).looks i (let n = h.tracks in omega (arith, low, n))) (h.commands i low).0 (t.commands i low).legal (t.commands i low).taken

    module _ (a b : Turn) (t : IsTurnTold a) (u : IsTurnTold b) (goes : a.ended ≡ false) (goes_b : b.ended ≡ false) where
      abbrev k : Learnt
      k = learnt_at a.cycle

      abbrev tracks : List TrackKept
      tracks = (after_ack a.ack m).tracks

      goes_a : GoesOn c (outside_with lawful_front c (found a) a) m a
      goes_a = t.legal.goes_on goes

      other_goes : GoesOn c (outside_with lawful_front c (found b) b) m b
      other_goes = u.legal.goes_on goes_b

      other_track : (i : ℕ) → i < many → LegalTrack c k (track_in b i) (served_to c k b.tracks tracks i) i
      other_track i low = subst (λ (z : ℕ × Bool). LegalTrack c (learnt_at z.0) (track_in b i) (served_to c (learnt_at z.0) b.tracks (after_ack z.1 m).tracks i) i) (λ j. (sym (same_cycle a b t u goes goes_b) j, sym (same_ack a b t u) j)) (other_goes.tracks i (let n = h.tracks in omega (arith, low, n)))

      same_tracks : a.tracks ≡ b.tracks
      same_tracks = one_list c k tracks a.tracks b.tracks (goes_a.whole ∙ sym other_goes.whole)
          (λ i low same. let few : i < many = (let w = goes_a.whole in let n = h.tracks in omega (arith, low, w, n)) in
          let b0 = (told_at run i).commands in
          one_track b0.released b0.shape.base (listed b0) (after (start b0.shape) b0.told) (length (client_of b0.told)) (h.commands i few).1 c k (served_to c k a.tracks tracks i) i (track_in a i) (track_in b i)
          (goes_a.tracks i (let n = h.tracks in omega (arith, few, n))) (told_looks a t goes i few) (subst (λ l. LegalTrack c k (track_in b i) l i) (sym same) (other_track i few)) (told_looks b u goes_b i few))

      -- ## The push

      abbrev edits_at : ℕ → ℕ → Bool → List TrackSeen → NormalKept
      edits_at n room ack seen = let x = after_ack ack m in mutated c (learnt_at n) room (record x { tracks = served_to c (learnt_at n) seen x.tracks (length x.tracks) })

      same_edits : after_edits c (learnt_at a.cycle) a m ≡ after_edits c (learnt_at b.cycle) b m
      same_edits = λ j. edits_at (same_cycle a b t u goes goes_b j) (same_room a b t u goes goes_b j) (same_ack a b t u j) (same_tracks j)

      push_at : (e : Turn) → IsTurnTold e → e.ended ≡ false → PushSees queue_point.observer.acked (after_edits c (learnt_at e.cycle) e m) e.push
      push_at e t goes = push_seen queue_point c (learnt (outside_of c (found e) e)) m e _ _ _ h.runs goes (legal_parts queued.legal queued.next (queued.start_of_queue (initial (cycle_frames s))) run.queue _ t.queue).1

      same_push : a.push ≡ b.push
      same_push = one_push queue_point.observer.acked (after_edits c (learnt_at a.cycle) a m) a.push b.push goes_a.push (push_at a t goes)
          (subst (λ x. LegalPush x b.push) (sym same_edits) other_goes.push) (subst (λ x. PushSees queue_point.observer.acked x b.push) (sym same_edits) (push_at b u goes_b))

    -- ## The takes

    -- where a stream block stands when its track is mixed
    abbrev play_point : Turn → ℕ → TrackPoint
    play_point e i = played_from (told_at run i).stream (hand_events_of e i) (before_play (learnt_at e.cycle) e (tracks_at c (learnt_at e.cycle) m e i) i)

    abbrev play_count : Turn → ℕ → ℕ
    play_count e i = length (client_of (handed (told_at run i).stream (hand_events_of e i)))

    -- the takes are told, if the blocks stand as the turn e leaves them
    abbrev TakesTold : Turn → List TakeSeen → List TakeSeen → Type 0
    TakesTold e all takes = AllByRecursion (IsTakeTold frames (λ i. (told_at run i).stream.shape.base) (asked c) (λ i. listed (told_at run i).stream) (play_point e) (play_count e) all) takes

    takes_told : (e : Turn) → IsTurnTold e → e.ended ≡ false → (takes : List TakeSeen) → AllByRecursion (LegalTake c (outside_with lawful_front c (found e) e)) takes → All (IsTake many) takes → TakesTold e e.mixes takes
    takes_told e t goes [] legal form = tt
    takes_told e t goes (take ∷ takes) legal form =
        let is = All-head (IsTake many) take takes form in
        let i = take.track in
        let b = (told_at run i).stream in (
          record {
            first = legal.0.place;
            are = is.samples;
            told = λ one. take_told (frames i) c (found e) m e take i goes one
                (subst (λ (l : List TakeSeen). LooksBy (asked c) (listed b) take.slot (take_front (lawful_front (asked c)) (listed b) l)) one legal.0.looks)
                (h.streams i is.track) (t.streams i is.track).legal (t.streams i is.track).taken;
          },
          takes_told e t goes takes legal.1 (All-tail (IsTake many) take takes form),
        )

    same_mixes : (a b : Turn) → IsTurnTold a → IsTurnTold b → a.ended ≡ false → b.ended ≡ false → a.mixes ≡ b.mixes
    same_mixes a b t u goes goes_b =
        let ga = t.legal.goes_on goes in
        let gb = u.legal.goes_on goes_b in
        let mid : Bool × Bool × ℕ × List TrackSeen → Turn = λ z. record b { ended = z.0; ack = z.1; cycle = z.2; tracks = z.3 } in
        let told_b : TakesTold a b.mixes b.mixes = subst (λ (z : Bool × Bool × ℕ × List TrackSeen). TakesTold (mid z) b.mixes b.mixes)
        (λ j. (sym (same_ended a b t u) j, sym (same_ack a b t u) j, sym (same_cycle a b t u goes goes_b) j, sym (same_tracks a b t u goes goes_b) j)) (takes_told b u goes_b b.mixes gb.takes (u.form goes_b).takes) in
        one_mixes frames (λ i. (told_at run i).stream.shape.base) (asked c) (λ i. listed (told_at run i).stream) (play_point a) (play_count a) a.mixes b.mixes (t.form goes).rise (u.form goes_b).rise
        (ga.due ∙ (λ j. tracks_due c (same_room a b t u goes goes_b j) (same_edits a b t u goes goes_b j).tracks) ∙ sym gb.due)
        (takes_told a t goes a.mixes ga.takes (t.form goes).takes) told_b

    -- ## The turn

    -- two turns that are told are the same
    pub one_turn : (a b : Turn) → IsTurnTold a → IsTurnTold b → a ≡ b
    one_turn a b t u = by_end a.ended refl
      where
        by_end : (x : Bool) → a.ended ≡ x → a ≡ b
        by_end true is = t.legal.still is ∙ sym (u.legal.still (sym (same_ended a b t u) ∙ is))
        by_end false is =
            let is_b = sym (same_ended a b t u) ∙ is in
            λ j. let e : Turn = record { ended = same_ended a b t u j; room = same_room a b t u is is_b j; ack = same_ack a b t u j; cycle = same_cycle a b t u is is_b j; tracks = same_tracks a b t u is is_b j; push = same_push a b t u is is_b j; mixes = same_mixes a b t u is is_b j } in e
