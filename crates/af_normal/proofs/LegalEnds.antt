-- The lists of the report's reader, of the pipe and of the mutator grow by what the entry of a turn says, and all is joined.
use Rattle.std.proofs.Common.{◌≡◌, ℕ, zero, suc, ◌+◌, ◌<◌, ◌*◌, ◌==◌, ◌&&◌, not, Bool, true, false, if◌then◌else◌, true≢false, is_some, inl, sym, refl, ap, subst, ◌∙◌, List, [], ◌∷◌, ◌++◌, append_assoc, append-nil, length, map, Option, Some, eq-eqb, ne_eqb, arith}
use Rattle.af_normal.proofs.Common.{Busy, Clean, Frame, InSide, Learnt, Links, Load, Mutates, NormalKept, Push, Pushed, Pushes as Past, Report, SeesIt, ServerEvent, ServerState, Setup, StreamNames, TakeSeen, TrackKept, Turn, WasAcked, WasPushed, after_edits, asked, at, code_of, commands_exit, cycle_events, draft_commanded as with_command, flat_map, is_home, most_tracks, must_enter, mutator_list, none_and, nothing_heard, number_seen, packed_word, pipe_size, push_list, put_by, releases_of, room_by, served_to, shows, slice_get, slot_number, slot_of_away, slots, stream_list, takes_from, track_at, tracks_at}
use Rattle.af_base.specs.declared.event.ClientEvent.TheVariants as client
use Rattle.af_cblk.specs.declared.view.ClientPart.{ClientPart}
use Rattle.af_model.specs.declared.states.MutatorEvent.{MutatorEvent}
use Rattle.af_model.specs.declared.states.MutatorEvent.TheVariants as mutator
use Rattle.af_normal.specs.LegalTurned.{in_queue, home_stream, served_tracks, GoesOnFrom, Grows, IsLegal}
use Rattle.af_normal.specs.Mixing.{stream_at}
use Rattle.af_normal.specs.Mutating.{Pushes, begun, finished, due_command}
use Rattle.af_normal.specs.Order.{IsTied}
use Rattle.af_normal.specs.State.{NormalState, setup_of, kept_of}
use Rattle.af_normal.specs.TurnMade.{mixing_of}
use Rattle.af_normal.specs.Turning.{listed_at}
use Rattle.af_normal.proofs.LegalGrows.{recalls, Invalid, served_grow, commands_grow, commands_whole, hands_grow, streams_grow, commands_l, home_same, y_same, q_same}
use Rattle.af_normal.proofs.LegalMade.{IsMade, going_l, done, mix, told, tells, outside, c, k, turns, p_tied, setup_of_p, setup_of_l, p_same, z_same, kept_l, kept_z, turn_legal, turn_kept}
use Rattle.af_normal.proofs.OrderStages.{Added, acked_list}
use Rattle.af_normal.proofs.OrderTurn.{edited_mutated, served_mutator, served_tied, served_open}
use Rattle.af_normal.proofs.LegalLent.{Lent, all_lent}
use Rattle.af_life.proofs.SoundEdits.{comer_inside, comer_home}
use Rattle.af_normal.proofs.Basics.{some_there}

-- ## The push

module _ (push : Push) (x y : NormalState) (w : Pushes push x y) where
  abbrev Items : Type 0
  Items = List (Option ServerState)

  abbrev Grew : Push → Type 0
  Grew p = (again : Items) × (sent : Items) × (y.mutator.past.events ≡ x.mutator.past.events ++ push_list (kept_of x) p again sent) × (in_queue p sent y.mutator.pending ≡ x.mutator.pending)

  shown : (number n : ℕ) → number ≡ x.mutator.past.number + 1 → x.mutator.past.number ≡ n
      → (x.mutator.past.number ≡ 0 → (y.mutator ≡ shows x.mutator) × (w.after ≡ w.before + 1))
      → (0 < x.mutator.past.number → (v : Mutates ServerState StreamNames) × SeesIt x.mutator v × (y.mutator ≡ shows v) × (w.after ≡ w.before + 2))
      → Grew (Pushed number)
  shown number zero is first begins later = (
    [],
    x.mutator.pending,
    ap (λ (m : Mutates ServerState StreamNames). m.past.events) (begins first).0
        ∙ ap (λ (n : ℕ). x.mutator.past.events ++ mutator.Push n x.mutator.draft x.mutator.pending ∷ []) (sym is)
        ∙ ap (λ (b : Bool). x.mutator.past.events ++ ((if b then [] else mutator.SawAck x.mutator.past.number [] ∷ []) ++ mutator.Push number x.mutator.draft x.mutator.pending ∷ [])) (sym (eq-eqb x.mutator.past.number 0 first)),
    refl,
  )
  shown number (suc n) is more begins later = let l = later (omega arith) in (
    l.1.0,
    x.mutator.pending,
    ap (λ (m : Mutates ServerState StreamNames). m.past.events) l.2
        ∙ ap (λ (v : Mutates ServerState StreamNames). v.past.events ++ mutator.Push (v.past.number + 1) v.draft v.pending ∷ []) l.1.1
        ∙ append_assoc x.mutator.past.events (mutator.SawAck x.mutator.past.number l.1.0 ∷ []) (mutator.Push (x.mutator.past.number + 1) x.mutator.draft x.mutator.pending ∷ [])
        ∙ ap (λ (m : ℕ). x.mutator.past.events ++ (mutator.SawAck x.mutator.past.number l.1.0 ∷ mutator.Push m x.mutator.draft x.mutator.pending ∷ [])) (sym is)
        ∙ ap (λ (b : Bool). x.mutator.past.events ++ ((if b then [] else mutator.SawAck x.mutator.past.number l.1.0 ∷ []) ++ mutator.Push number x.mutator.draft x.mutator.pending ∷ [])) (sym (ne_eqb x.mutator.past.number 0 (λ e. omega arith))),
    refl,
  )

  by_answer : (p : Push) → WasPushed x.mutator p y.mutator w.before w.after → Grew p
  by_answer Clean d = ([], [], ap (λ (m : Mutates ServerState StreamNames). m.past.events) d.1 ∙ sym (append-nil x.mutator.past.events), ap (λ (m : Mutates ServerState StreamNames). m.pending) d.1)
  by_answer (Pushed number) d = shown number x.mutator.past.number d.1 refl d.2 d.3
  by_answer (Busy seen expected) d = (
    [],
    [],
    ap (λ (m : Mutates ServerState StreamNames). m.past.events) d.3.2.2 ∙ ap (λ (n : ℕ). x.mutator.past.events ++ mutator.SawAck n [] ∷ []) (let a : d.3.0 + 1 ≡ x.mutator.past.number = d.3.2.1 in omega arith),
    ap (λ (m : Mutates ServerState StreamNames). m.pending) d.3.2.2,
  )

  pub push_grows : Grew push
  push_grows = by_answer push w.pushed

module _ (links : Links) (t : ℕ) (x : NormalState) (ack : Bool) (report : Report) (room : ℕ) (push : Push) (y : NormalState) (made : IsMade links t x ack report room push y) where
  abbrev home : NormalState
  home = made.goes_on.home

  abbrev l : NormalState
  l = made.goes_on.rest.learnt

  abbrev s : NormalState
  s = made.goes_on.rest.served

  abbrev z : NormalState
  z = made.goes_on.rest.edited

  abbrev p : NormalState
  p = made.goes_on.rest.pushed

  abbrev q : NormalState
  q = made.goes_on.rest.played

  abbrev cs : Setup
  cs = c links t x ack report room push y made

  abbrev ks : Learnt
  ks = k links t x ack report room push y made

  abbrev e : Turn
  e = told links t x ack report room push y made

  -- ## The mutator

  past_z : z.mutator.past ≡ home.mutator.past
  past_z = (edited_mutated links t l (going_l links t x ack report room push y made) report s made.goes_on.rest.serves made.own room z made.goes_on.rest.edits).past
      ∙ ap (λ (m : Mutates ServerState StreamNames). m.past) (served_mutator links t l (going_l links t x ack report room push y made) report s made.goes_on.rest.serves)
      ∙ ap (λ (w : NormalState). w.mutator.past) made.goes_on.rest.learns.same

  mutator_y : y.mutator ≡ p.mutator
  mutator_y = ap (λ (w : NormalState). w.mutator) (y_same links t x ack report room push y made) ∙ ap (λ (w : NormalState). w.mutator) (q_same links t x ack report room push y made)

  going_is : (b : Bool) (events : List (MutatorEvent ServerState)) → b ≡ false → events ≡ (if b then [] else events)
  going_is true events f = absurd (true≢false f)
  going_is false events f = refl

  -- what the look at the acknowledgement and the push brought and took
  acks : Added links ack x home made.going.tied made.goes_on.sees ack
  acks = acked_list links ack x home made.going.tied made.goes_on.sees

  pushed : Grew push z p made.goes_on.rest.pushes push
  pushed = push_grows push z p made.goes_on.rest.pushes

  mutator_grows : x.ended ≡ false → y.mutator.past.events ≡ x.mutator.past.events ++ mutator_list cs ks (kept_of x) e acks.0 pushed.0 pushed.1
  mutator_grows lives =
      let looks : MutatorEvent ServerState = mutator.SawAck (number_seen (kept_of x) ack) acks.0 in
      ap (λ (m : Mutates ServerState StreamNames). m.past.events) mutator_y ∙ pushed.2
      ∙ ap (λ (past : Past ServerState StreamNames). past.events ++ push_list (kept_of z) push pushed.0 pushed.1) past_z
      ∙ ap (λ (es : List (MutatorEvent ServerState)). es ++ push_list (kept_of z) push pushed.0 pushed.1) acks.1
      ∙ append_assoc x.mutator.past.events (looks ∷ []) (push_list (kept_of z) push pushed.0 pushed.1)
      ∙ ap (λ (m : NormalKept). x.mutator.past.events ++ looks ∷ push_list m push pushed.0 pushed.1) (kept_z links t x ack report room push y made)
      ∙ ap (λ (es : List (MutatorEvent ServerState)). x.mutator.past.events ++ es) (going_is x.ended (looks ∷ push_list (after_edits cs ks e (kept_of x)) push pushed.0 pushed.1) lives)

  -- ## The stream proxies that were home, and those that were lent

  home_is : (i : ℕ) → listed_at (stream_at l.streams i) ≡ listed_at (home_stream ack (kept_of x) acks.0 x i)
  home_is i = ap (λ (w : NormalState). listed_at (stream_at w.streams i)) made.goes_on.rest.learns.same ∙ ap listed_at (acks.3 i)

  pending_seen : (b : Bool) (m m' : Mutates ServerState StreamNames) → WasAcked m b m' → m'.pending ≡ m.pending
  pending_seen true m m' w = ap (λ (n : Mutates ServerState StreamNames). n.pending) w.1
  pending_seen false m m' w = ap (λ (n : Mutates ServerState StreamNames). n.pending) w.1.2

  -- there is a place for each slot
  wide : length s.mutator.pending ≡ slots
  wide = ap (λ (m : Mutates ServerState StreamNames). length m.pending) (served_mutator links t l (going_l links t x ack report room push y made) report s made.goes_on.rest.serves)
      ∙ ap (λ (w : NormalState). length w.mutator.pending) made.goes_on.rest.learns.same ∙ ap (λ (items : List (Option ServerState)). length items) acks.4
      ∙ sym (ap (λ (items : List (Option ServerState)). length items) (pending_seen ack x.mutator made.goes_on.sees.mutator made.goes_on.sees.acked)) ∙ made.goes_on.sees.held.lengths.0

  abbrev ed : NormalState
  ed = made.goes_on.rest.edits.edited

  waiting : Lent links (most_tracks * t) (record s { mutator = begun s.mutator }) (served_open links t l (going_l links t x ack report room push y made) report s made.goes_on.rest.serves made.own) wide (length s.tracks) made.goes_on.rest.edits.edited
  waiting = all_lent links (most_tracks * t) (record s { mutator = begun s.mutator }) (served_open links t l (going_l links t x ack report room push y made) report s made.goes_on.rest.serves made.own) wide (length s.tracks) made.goes_on.rest.edits.edited made.goes_on.rest.edits.tracks

  -- neither the command nor the end of the mutation moves an item
  pending_z : z.mutator.pending ≡ made.goes_on.rest.edits.edited.mutator.pending
  pending_z = ap (λ (w : NormalState). w.mutator.pending) made.goes_on.rest.edits.leaves ∙ by_same (code_of (due_command room ed) == code_of ed.mutator.draft.command)
    where
      by_same : (b : Bool) → (finished (if b then made.goes_on.rest.edits.edited.mutator else record made.goes_on.rest.edits.edited.mutator { draft = with_command (due_command room made.goes_on.rest.edits.edited) made.goes_on.rest.edits.edited.mutator.draft; edited = true })).pending ≡ made.goes_on.rest.edits.edited.mutator.pending
      by_same true = refl
      by_same false = refl

  tracks_p : p.tracks ≡ made.goes_on.rest.edits.edited.tracks
  tracks_p = ap (λ (w : NormalState). w.tracks) (p_same links t x ack report room push y made) ∙ ap (λ (w : NormalState). w.tracks) made.goes_on.rest.edits.leaves

  tracks_s : s.tracks ≡ served_tracks cs ks (kept_of x) e
  tracks_s = (done links t x ack report room push y made).tracks ∙ ap (λ (m : NormalKept). served_to cs ks (turns links t x ack report room push y made) m.tracks (length m.tracks)) (kept_l links t x ack report room push y made)

  lent_grow : (i : ℕ) → must_enter (track_at (served_tracks cs ks (kept_of x) e) i) ≡ true
      → (v : ServerState) × (at (in_queue push pushed.1 y.mutator.pending) (slot_number (track_at (served_tracks cs ks (kept_of x) e) i)) ≡ Some v) × GoesOnFrom (listed_at (stream_at l.streams i)) (stream_list cs (outside links t x ack report room push y made) e (tracks_at cs ks (kept_of x) e i) i) v
  lent_grow i due =
      let enters : must_enter (track_at s.tracks i) ≡ true = ap (λ (ts : List TrackKept). must_enter (track_at ts i)) tracks_s ∙ due in
      let tied : IsTied links s = served_tied links t l (going_l links t x ack report room push y made) report s made.goes_on.rest.serves made.own in
      let lt : i < length s.tracks = comer_inside (kept_of s) tied.sound (setup_of s) i nothing_heard enters in
      let there = some_there (stream_at s.streams i) (tied.proxies.there i lt ∙ comer_home (kept_of s) tied.sound (setup_of s) i nothing_heard enters) in
      let away = waiting.away i lt enters in
      let p_is : IsTied links p = p_tied links t x ack report room push y made in
      let away_p : is_home (track_at p.tracks i).holder ≡ false = ap (λ (ts : List TrackKept). is_home (track_at ts i).holder) tracks_p ∙ away.1 in
      let none : takes_from (mixing_of q).takes i ≡ [] = (mix links t x ack report room push y made).1.unmixed i (none_and (not (is_some (track_at p.tracks i).slot)) _ (ap not (slot_of_away (track_at p.tracks i) (p_is.sound.slotted i) away_p))) in
      let before = served_grow links t x ack report room push y made i there.0 there.1 in (
        there.0,
        ap (λ (k : ℕ). at (in_queue push pushed.1 y.mutator.pending) k) (ap (λ (ts : List TrackKept). slot_number (track_at ts i)) (sym tracks_s))
            ∙ ap (λ (m : Mutates ServerState StreamNames). at (in_queue push pushed.1 m.pending) (slot_number (track_at s.tracks i))) mutator_y
            ∙ ap (λ (items : List (Option ServerState)). at items (slot_number (track_at s.tracks i))) (pushed.3 ∙ pending_z)
            ∙ waiting.waits i lt enters ∙ there.1,
        (
          before.0 ∙ ap (λ (es : List ServerEvent). (listed_at (stream_at l.streams i)).events ++ es)
              (sym (append-nil (Invalid links t x ack report room push y made i)) ∙ ap (λ (takes : List TakeSeen). Invalid links t x ack report room push y made i ++ flat_map (λ take. cycle_events (asked cs) (listed_at (stream_at l.streams i)) take.slot ((mix links t x ack report room push y made).0 i)) takes) (sym none)),
          before.1,
        ),
      )

  -- ## The report and the pipe

  reader_grows : (n : ℕ) × (y.reader.events ≡ x.reader.events ++ Load n report ∷ [])
  reader_grows = (
    made.goes_on.rest.learns.number,
    ap (λ (w : NormalState). w.reader.events) (y_same links t x ack report room push y made) ∙ ap (λ (w : NormalState). w.reader.events) (q_same links t x ack report room push y made)
        ∙ ap (λ (w : NormalState). w.reader.events) (p_same links t x ack report room push y made) ∙ ap (λ (w : NormalState). w.reader.events) (z_same links t x ack report room push y made)
        ∙ ap (λ (w : NormalState). w.reader.events) made.goes_on.rest.serves.same ∙ made.goes_on.rest.learns.loaded
        ∙ ap (λ (w : NormalState). w.reader.events ++ Load made.goes_on.rest.learns.number report ∷ []) (home_same links t x ack report room push y made),
  )

  pipe_p : p.pipe ≡ l.pipe
  pipe_p = ap (λ (w : NormalState). w.pipe) (p_same links t x ack report room push y made) ∙ ap (λ (w : NormalState). w.pipe) (z_same links t x ack report room push y made) ∙ ap (λ (w : NormalState). w.pipe) made.goes_on.rest.serves.same

  pipe_home : home.pipe ≡ x.pipe
  pipe_home = ap (λ (w : NormalState). w.pipe) (home_same links t x ack report room push y made)

  abbrev put : List Frame
  put = put_by cs (mixing_of q).takes

  put_is : put_by (setup_of p) (mixing_of q).takes ≡ put_by cs (mixing_of q).takes
  put_is = ap (λ (d : Setup). put_by d (mixing_of q).takes) (setup_of_p links t x ack report room push y made)

  front : ℕ
  front = l.pipe.pass.part.front

  -- the part of the pipe once the room was seen
  part_l : l.pipe.pass.part ≡ record x.pipe.pass.part { events = x.pipe.pass.part.events ++ client.SawFront l.pipe.pass.part.front ∷ []; front = l.pipe.pass.part.front }
  part_l = made.goes_on.rest.learns.front ∙ ap (λ (pipe : InSide). record pipe.pass.part { events = pipe.pass.part.events ++ client.SawFront l.pipe.pass.part.front ∷ []; front = l.pipe.pass.part.front }) pipe_home

  part_y : y.pipe ≡ q.pipe
  part_y = ap (λ (w : NormalState). w.pipe) (y_same links t x ack report room push y made)

  pipe_events : y.pipe.pass.part.events ≡ x.pipe.pass.part.events ++ client.SawFront l.pipe.pass.part.front ∷ releases_of x.pipe.pass.part.shape.cells (length x.pipe.pass.part.frames) (length (put_by cs (mixing_of q).takes))
  pipe_events = ap (λ (pipe : InSide). pipe.pass.part.events) part_y ∙ ap (λ (part : ClientPart). part.events) made.goes_on.rest.plays.put
      ∙ ap (λ (frames : List Frame). p.pipe.pass.part.events ++ releases_of p.pipe.pass.part.shape.cells (length p.pipe.pass.part.frames) (length frames)) put_is
      ∙ ap (λ (pipe : InSide). pipe.pass.part.events ++ releases_of pipe.pass.part.shape.cells (length pipe.pass.part.frames) (length put)) pipe_p
      ∙ ap (λ (part : ClientPart). part.events ++ releases_of part.shape.cells (length part.frames) (length put)) part_l
      ∙ append_assoc x.pipe.pass.part.events (client.SawFront l.pipe.pass.part.front ∷ []) (releases_of x.pipe.pass.part.shape.cells (length x.pipe.pass.part.frames) (length put))

  pipe_frames : y.pipe.pass.part.frames ≡ x.pipe.pass.part.frames ++ map packed_word (put_by cs (mixing_of q).takes)
  pipe_frames = ap (λ (pipe : InSide). pipe.pass.part.frames) part_y ∙ ap (λ (part : ClientPart). part.frames) made.goes_on.rest.plays.put
      ∙ ap (λ (frames : List Frame). p.pipe.pass.part.frames ++ map packed_word frames) put_is
      ∙ ap (λ (pipe : InSide). pipe.pass.part.frames ++ map packed_word put) pipe_p
      ∙ ap (λ (part : ClientPart). part.frames ++ map packed_word put) part_l

  pipe_room : room ≡ room_by (pipe_size cs) (length x.pipe.pass.part.frames) l.pipe.pass.part.front
  pipe_room = made.goes_on.rest.learns.room_is.0
      ∙ ap (λ (n : ℕ). room_by n (length l.pipe.pass.part.frames) l.pipe.pass.part.front) (going_l links t x ack report room push y made).tied.sizes.pipe_is
      ∙ ap (λ (part : ClientPart). room_by (pipe_size cs) (length part.frames) l.pipe.pass.part.front) part_l

  -- ## All is joined

  grows_told : x.ended ≡ false → Grows cs (kept_of x) (outside links t x ack report room push y made) e x y
  grows_told lives = record {
    commands = commands_grow links t x ack report room push y made;
    whole = commands_whole links t x ack report room push y made;
    hands = hands_grow links t x ack report room push y made;
    recalled = (λ f. recalls links t x ack report room push y made);
    streams = streams_grow links t x ack report room push y made;
    reader = reader_grows;
    pipe = (l.pipe.pass.part.front, pipe_events, inl pipe_room, pipe_frames);
    back = acks.0;
    again = pushed.0;
    sent = pushed.1;
    mutator = mutator_grows lives;
    home = (λ f. home_is);
    lent = (λ f. lent_grow);
  }

  -- the turn was legal, left what the definition says, and the lists grew by it
  pub made_legally : x.ended ≡ false → (commands_exit x.mutator.past.last && ack) ≡ false → IsLegal (outside links t x ack report room push y made) x y
  made_legally lives no_exit = record {
    commands = (λ i r is. ap (λ (rs : List ServerState). listed_at (slice_get rs i)) (commands_l links t x ack report room push y made) ∙ ap listed_at is);
    setup = ap setup_of made.goes_on.rest.leaves ∙ ap setup_of made.goes_on.rest.plays.same ∙ setup_of_p links t x ack report room push y made ∙ setup_of_l links t x ack report room push y made;
    legal = turn_legal links t x ack report room push y made lives no_exit;
    leaves = turn_kept links t x ack report room push y made lives no_exit;
    lists = subst (λ (d : Setup × Turn). Grows d.0 (kept_of x) (outside links t x ack report room push y made) d.1 x y) (λ i. (setup_of_l links t x ack report room push y made i, sym (tells links t x ack report room push y made) i)) (grows_told lives);
  }
