-- Where each stream proxy lies after a turn that goes on, by what the turn tells.
use Rattle.af_told_law.specs.Tells.{mutated_by}
use Rattle.std.proofs.Common.{◌≡◌, ℕ, ◌+◌, ◌-◌, ◌<◌, ◌==◌, ◌&&◌, not, ◌⊎◌, Bool, true, false, true≢false, if◌then◌else◌, refl, sym, ap, subst, ◌∙◌, List, [], ◌∷◌, ◌++◌, append_assoc, append-nil, length, map, flat_map, Option, Some, None, eq-eqb, ne_eqb, arith, is_some}
use Rattle.af_told_law.proofs.Common.{AreOf, Begins, BegunBy, Busy, Clean, FastState, GoesOnBy, Grows, HasHands, IsTied, Links, Listed, Load, Mutates, MutatorEvent, MutatorPoint, NormalKept, NormalState, Outside, Push, Pushed, Pushes as Past, Report, ServerEvent, ServerPart, ServerState, StreamNames, TakeSeen, TrackKept, Turn, acked_list, after_edits, append_cancel_left, asked, at, carries, cycle_events, home_stream, in_hand, in_queue, is_home, is_pushed, is_returning, items_of, kept_of, known_by, learnt, learnt_by, listed_at, map-append, marked, mix_events, must_enter, mutated, mutator_list, number_seen, packed_word, push_list, same_Some, served_to, served_tracks, setup_of, slot_number, slots, stay_put, stream_at, takes_from, track_at, tracks_at, words_of}
use Rattle.af_model.specs.declared.states.MutatorEvent.TheVariants as mutator
use Rattle.af_server.specs.Slot.{listed}
use Rattle.af_normal.specs.Order.{IsInOrder}
use Rattle.af_told_law.proofs.Places.{ComesFrom, IsLentBy, QueueGoes, SlotsStand, StaysAway, StreamsGo, enters_by, events_by, rests_by, slot_in, words_by}
use Rattle.af_told_law.proofs.Basics.{went}
use Rattle.af_told_law.proofs.AckPlaces.{Acked, first_look}
use Rattle.af_told_law.proofs.HandedTurn as begin
use Rattle.af_told_law.proofs.PollTold.{marks_are, marks_so}
use Rattle.af_told_law.proofs.PushPlaces.{PutOn, is_busy}
use Rattle.af_told_law.proofs.QueueTold.{clear_told, shown_told, still_told}
use Rattle.af_told_law.proofs.TurnPlaces as place
use Rattle.af_told_law.proofs.TurnSteps as step

-- ## Lists

words_are : (takes : List TakeSeen) → words_of takes ≡ map packed_word (flat_map (λ take. take.frames) takes)
words_are [] = refl
words_are (take ∷ takes) = ap (λ (ws : List ℕ). map packed_word take.frames ++ ws) (words_are takes) ∙ sym (map-append packed_word take.frames (flat_map (λ take. take.frames) takes))

one_load : (n m : ℕ) (a b : Report) → Load n a ∷ [] ≡ Load m b ∷ [] → a ≡ b
one_load n m a b e = cc

-- two pushes with equal lists send the same items
same_sent : (push : Push) (m : NormalKept) (a b s t pending : List (Option ServerState)) → push_list m push a s ≡ push_list m push b t → in_queue push s pending ≡ in_queue push t pending
same_sent Clean m a b s t pending e = refl
same_sent (Busy seen expected) m a b s t pending e = refl
same_sent (Pushed number) m a b s t pending e = by_first (m.pushed == 0) e
  where
    by_first : (c : Bool) → (if c then [] else mutator.SawAck m.pushed a ∷ []) ++ mutator.Push number m.draft s ∷ [] ≡ (if c then [] else mutator.SawAck m.pushed b ∷ []) ++ mutator.Push number m.draft t ∷ [] → s ≡ t
    by_first true f = cc
    by_first false f = cc

going_is : (b : Bool) (events : List (MutatorEvent ServerState)) → b ≡ false → events ≡ (if b then [] else events)
going_is true events f = absurd (true≢false f)
going_is false events f = refl

if_false : (b : Bool) (es : List ServerEvent) → b ≡ false → (if b then es else []) ≡ []
if_false true es e = absurd (true≢false e)
if_false false es e = refl

module _ (links : Links) (x b h : NormalState) (order : IsInOrder links x) (begins : Begins x b) (hands : HasHands b h)
    (ack : Bool) (report : Report) (room : ℕ) (push : Push) (y : NormalState) (by : GoesOnBy ack report room push h y) (lives : x.ended ≡ false) where
  abbrev Items : Type 0
  Items = List (Option ServerState)

  pub tied : IsTied links h
  tied = (begin.tied links x b h order begins hands).0

  pub enough : length h.hands ≡ length h.tracks
  enough = (begin.tied links x b h order begins hands).1

  pub empty : (h.entry.tracks.items ≡ []) × (h.entry.mixes.items ≡ [])
  empty = begin.empty links x b h order begins hands

  handed : BegunBy x h
  handed = begin.handed links x b h order begins hands

  abbrev l : NormalState
  l = by.rest.learnt

  abbrev s : NormalState
  s = by.rest.served

  abbrev z : NormalState
  z = by.rest.edited

  abbrev told : Turn
  told = step.told links h tied enough empty ack report room push y by

  abbrev back : Items
  back = step.back links h tied enough empty ack report room push y by

  abbrev again : Items
  again = (place.put links h tied enough empty ack report room push y by).0

  abbrev sent : Items
  sent = (place.put links h tied enough empty ack report room push y by).1

  put : PutOn push z by.rest.pushed again sent
  put = (place.put links h tied enough empty ack report room push y by).2

  -- what is kept is as before
  kept_h : kept_of h ≡ kept_of x
  kept_h = ap kept_of handed.same

  mutator_h : h.mutator ≡ x.mutator
  mutator_h = ap (λ (w : NormalState). w.mutator) handed.same

  setup_is : setup_of l ≡ setup_of x
  setup_is = step.setup_l links h tied enough empty ack report room push y by ∙ ap setup_of handed.same

  -- the lists of the proxies that are home in the turn are those of before
  listed_h : (i : ℕ) → listed_at (home_stream ack (kept_of h) back h i) ≡ listed_at (home_stream ack (kept_of x) back x i)
  listed_h i = ap (λ (m : NormalKept). listed_at (home_stream ack m back h i)) kept_h ∙ by_case (ack && is_returning (track_at x.tracks i).holder)
    where
      by_case : (d : Bool) → listed_at (if d then in_hand back h.mutator.returned (slot_number (track_at x.tracks i)) else stream_at h.streams i)
          ≡ listed_at (if d then in_hand back x.mutator.returned (slot_number (track_at x.tracks i)) else stream_at x.streams i)
      by_case true = ap (λ (m : Mutates ServerState StreamNames). listed_at (in_hand back m.returned (slot_number (track_at x.tracks i)))) mutator_h
      by_case false = handed.lists i

  listed_l : (i : ℕ) → listed_at (stream_at l.streams i) ≡ listed_at (home_stream ack (kept_of x) back x i)
  listed_l i = ap listed_at (step.streams_l links h tied enough empty ack report room push y by i) ∙ listed_h i

  -- the look and the push, with what came and went by them
  events_y : y.mutator.past.events ≡ x.mutator.past.events ++ mutator.SawAck (number_seen (kept_of x) ack) back ∷ push_list (kept_of z) push again sent
  events_y = ap (λ (m : Mutates ServerState StreamNames). m.past.events) (place.mutator_y links h tied enough empty ack report room push y by)
      ∙ put.events
      ∙ ap (λ (p : Past ServerState StreamNames). p.events ++ push_list (kept_of z) push again sent) (place.past_z links h tied enough empty ack report room push y by)
      ∙ ap (λ (es : List (MutatorEvent ServerState)). es ++ push_list (kept_of z) push again sent) (acked_list links ack h by.home tied by.sees).1
      ∙ append_assoc h.mutator.past.events (mutator.SawAck (number_seen (kept_of h) ack) back ∷ []) (push_list (kept_of z) push again sent)
      ∙ (λ j. (mutator_h j).past.events ++ mutator.SawAck (number_seen (kept_h j) ack) back ∷ push_list (kept_of z) push again sent)

  -- ## What the turn saw

  module _ (o : Outside) (grows : Grows (setup_of x) (kept_of x) o told x y) where
    report_is : o.report ≡ report
    report_is = one_load grows.reader.0 by.rest.learns.number o.report report
        (append_cancel_left x.reader.events _ _ (sym grows.reader.1 ∙ reader_y))
      where
        reader_y : y.reader.events ≡ x.reader.events ++ Load by.rest.learns.number report ∷ []
        reader_y = ap (λ (w : NormalState). w.reader.events) by.rest.leaves ∙ ap (λ (w : NormalState). w.reader.events) by.rest.plays.same ∙ ap (λ (w : NormalState). w.reader.events) by.rest.pushes.same
            ∙ ap (λ (w : NormalState). w.reader.events) (step.mutated_z links h tied enough empty ack report room push y by).same ∙ ap (λ (w : NormalState). w.reader.events) by.rest.serves.same ∙ by.rest.learns.loaded
            ∙ ap (λ (w : NormalState). w.reader.events ++ Load by.rest.learns.number report ∷ []) (step.home_same links h tied enough empty ack report room push y by)
            ∙ ap (λ (w : NormalState). w.reader.events ++ Load by.rest.learns.number report ∷ []) handed.same

    looks_are : (back ≡ grows.back) × (push_list (kept_of z) push again sent ≡ push_list (after_edits (setup_of x) (learnt o) told (kept_of x)) push grows.again grows.sent)
    looks_are = first_look (number_seen (kept_of x) ack) back grows.back _ _ (append_cancel_left x.mutator.past.events _ _ (sym events_y ∙ grows.mutator
        ∙ ap (λ (es : List (MutatorEvent ServerState)). x.mutator.past.events ++ es) (sym (going_is x.ended _ lives))))

    streams_are : (i : ℕ) → o.streams i ≡ listed_at (home_stream ack (kept_of x) back x i)
    streams_are i = grows.home refl i ∙ ap (λ (items : Items). listed_at (home_stream ack (kept_of x) items x i)) (sym looks_are.0)

    learnt_is : learnt_by report l.streams ≡ learnt o
    learnt_is = λ j. record { report = sym report_is j; own = λ i. known_by ((listed_l i ∙ sym (streams_are i)) j) }

    kept_z : kept_of z ≡ after_edits (setup_of x) (learnt o) told (kept_of x)
    kept_z = step.kept_z links h tied enough empty ack report room push y by ∙ (λ j. after_edits (setup_is j) (learnt_is j) told (kept_h j))

    -- the tracks when the track i is served, and when all are
    tracks_l : (i : ℕ) → served_to (setup_of l) (learnt_by report l.streams) told.tracks l.tracks i ≡ tracks_at (setup_of x) (learnt o) (kept_of x) told i
    tracks_l i = ap (λ (m : NormalKept). served_to (setup_of l) (learnt_by report l.streams) told.tracks m.tracks i) (step.kept_l links h tied enough empty ack report room push y by)
        ∙ (λ j. tracks_at (setup_is j) (learnt_is j) (kept_h j) told i)

    tracks_s : s.tracks ≡ served_tracks (setup_of x) (learnt o) (kept_of x) told
    tracks_s = (step.done links h tied enough empty ack report room push y by).tracks
        ∙ ap (λ (m : NormalKept). served_to (setup_of l) (learnt_by report l.streams) told.tracks m.tracks (length m.tracks)) (step.kept_l links h tied enough empty ack report room push y by)
        ∙ (λ j. served_tracks (setup_is j) (learnt_is j) (kept_h j) told)

    mutator_is : y.mutator.past.events ≡ x.mutator.past.events ++ mutator_list (setup_of x) (learnt o) (kept_of x) told back again sent
    mutator_is = events_y ∙ ap (λ (m : NormalKept). x.mutator.past.events ++ mutator.SawAck (number_seen (kept_of x) ack) back ∷ push_list m push again sent) kept_z
        ∙ ap (λ (es : List (MutatorEvent ServerState)). x.mutator.past.events ++ es) (going_is x.ended _ lives)

    -- ## A proxy that is home

    comes_by : (i : ℕ) (t r : ServerState) → home_stream ack (kept_of h) back h i ≡ Some r
        → (t.pass.part.events ≡ (o.streams i).events ++ events_by o x told i) × (t.pass.part.shape ≡ (o.streams i).shape)
        → t.pass.part.frames ≡ r.pass.part.frames ++ words_by told i → ComesFrom o back x told i t
    comes_by i t r was list took =
        let p = begin.home_parts links x b h order begins hands ack back i r was in
        let lists : o.streams i ≡ listed p.0 = streams_are i ∙ ap listed_at p.1 in record {
          before = p.0;
          was = p.1;
          does = record {
            list = list.0 ∙ ap (λ (d : Listed). d.events ++ events_by o x told i) lists;
            took = took ∙ ap (λ (part : ServerPart). part.frames ++ words_by told i) p.2;
            shape = list.1 ∙ ap (λ (d : Listed). d.shape) lists;
          };
        }

    home_comes : (i : ℕ) (t : ServerState) → stream_at y.streams i ≡ Some t → ComesFrom o back x told i t
    home_comes i t is = let c = step.home_takes links h tied enough empty ack report room push y by (place.wide_p links h tied enough empty ack report room push y by) i t is in
        comes_by i t c.0 c.1 (grows.streams i t is) (c.2 ∙ ap (λ (ws : List ℕ). c.0.pass.part.frames ++ ws) (words_are (takes_from told.mixes i)))

    none_by : (i : ℕ) → takes_from told.mixes i ≡ [] → words_by told i ≡ []
    none_by i e = ap (λ (takes : List TakeSeen). map packed_word (flat_map (λ take. take.frames) takes)) e

    -- ## A proxy that was lent

    lent_so : (i : ℕ) → enters_by o x told i → IsLentBy o back sent x y told i
    lent_so i due =
        let enters : must_enter (track_at s.tracks i) ≡ true = ap (λ (ts : List TrackKept). must_enter (track_at ts i)) tracks_s ∙ due in
        let item = place.lent_item links h tied enough empty ack report room push y by i enters in
        let free = place.free links h tied enough empty ack report room push y by i enters in
        let slot : slot_number (track_at s.tracks i) ≡ slot_in y i = sym (place.track_y links h tied enough empty ack report room push y by i).1 in
        let g = grows.lent refl i due in
        let same : g.0 ≡ item.0 = same_Some g.0 item.0 (sym g.1
        ∙ ap (λ (items : Items). at items (slot_number (track_at (served_tracks (setup_of x) (learnt o) (kept_of x) told) i)))
        (sym (same_sent push (after_edits (setup_of x) (learnt o) told (kept_of x)) again grows.again sent grows.sent y.mutator.pending (ap (λ (m : NormalKept). push_list m push again sent) (sym kept_z) ∙ looks_are.1)))
        ∙ ap (λ (ts : List TrackKept). at (in_queue push sent y.mutator.pending) (slot_number (track_at ts i))) (sym tracks_s) ∙ item.2) in record {
          away = place.lent_away links h tied enough empty ack report room push y by i enters;
          item = item.0;
          waits = ap (at (in_queue push sent y.mutator.pending)) (sym slot) ∙ item.2;
          comes = comes_by i item.0 item.1 item.3
              (subst (λ (t : ServerState). (t.pass.part.events ≡ (o.streams i).events ++ events_by o x told i) × (t.pass.part.shape ≡ (o.streams i).shape)) same g.2)
              (item.4 ∙ sym (append-nil item.1.pass.part.frames) ∙ ap (λ (ws : List ℕ). item.1.pass.part.frames ++ ws) (sym (none_by i (place.lent_untaken links h tied enough empty ack report room push y by i enters))));
          returned = ap (at y.mutator.returned) (sym slot) ∙ place.lent_rests links h tied enough empty ack report room push y by i enters;
          last = ap (λ (m : Mutates ServerState StreamNames). carries m.past.last (slot_in y i)) (sym mutator_h) ∙ ap (carries h.mutator.past.last) (sym slot) ∙ free.0;
          before = (λ e. ap (λ (m : Mutates ServerState StreamNames). carries m.past.before (slot_in y i)) (sym mutator_h) ∙ ap (carries h.mutator.past.before) (sym slot) ∙ free.1 e);
        }

    -- ## A proxy that stays away

    away_so : (i : ℕ) → is_home (track_at y.tracks i).holder ≡ false → rests_by o x told i → StaysAway o back again sent x y told i
    away_so i away due =
        let rests : must_enter (track_at s.tracks i) ≡ false = ap (λ (ts : List TrackKept). must_enter (track_at ts i)) tracks_s ∙ due in
        let untaken = place.away_untaken links h tied enough empty ack report room push y by i away rests in record {
          away = ap (λ (m : NormalKept). is_home (track_at m.tracks i).holder) (sym kept_h) ∙ place.away_x links h tied enough empty ack report room push y by i away rests;
          slot = ap (λ (m : NormalKept). slot_number (track_at m.tracks i)) (sym kept_h) ∙ place.slot_x links h tied enough empty ack report room push y by i away rests;
          quiet = ap (λ (es : List ServerEvent). es ++ mix_events (setup_of x) o told.mixes i) (if_false (is_home (track_at (tracks_at (setup_of x) (learnt o) (kept_of x) told i) i).holder) _ (held i away rests))
              ∙ ap (λ (takes : List TakeSeen). flat_map (λ take. cycle_events (asked (setup_of x)) (o.streams i) take.slot (o.stream_front i)) takes) untaken;
          takes = none_by i untaken;
          pending = (λ t e. ap (λ (m : Mutates ServerState StreamNames). at m.pending (slot_in y i)) (sym mutator_h) ∙ place.away_pending links h tied enough empty ack report room push y by i away rests t e);
          returned = (λ t e. subst (λ (m : Mutates ServerState StreamNames). ((at m.returned (slot_in y i) ≡ Some t) × (at back (slot_in y i) ≡ None)) ⊎ (at m.pending (slot_in y i) ≡ Some t) ⊎ (at back (slot_in y i) ≡ Some t) ⊎ (at again (slot_in y i) ≡ Some t)) mutator_h
              (place.away_returned links h tied enough empty ack report room push y by i away rests t e));
          went = (λ is t e. ap (λ (m : Mutates ServerState StreamNames). at m.pending (slot_in y i)) (sym mutator_h) ∙ place.away_sent links h tied enough empty ack report room push y by i away rests is t e);
        }
      where
        held : (i : ℕ) (away : is_home (track_at y.tracks i).holder ≡ false) (rests : must_enter (track_at s.tracks i) ≡ false) → is_home (track_at (tracks_at (setup_of x) (learnt o) (kept_of x) told i) i).holder ≡ false
        held i away rests = ap (λ (ts : List TrackKept). is_home (track_at ts i).holder) (sym (tracks_l i))
            ∙ ap is_home (stay_put (setup_of l) (learnt_by report l.streams) told.tracks l.mutator.draft l.tracks (step.tied_l links h tied enough empty ack report room push y by).sound i i).0
            ∙ place.away_l links h tied enough empty ack report room push y by i away rests

    -- ## The queue

    past_home : by.home.mutator.past ≡ record x.mutator.past { clear = ack; events = by.home.mutator.past.events }
    past_home = (place.acked links h tied enough empty ack report room push y by).past ∙ ap (λ (m : Mutates ServerState StreamNames). record m.past { clear = ack; events = by.home.mutator.past.events }) mutator_h

    past_z : z.mutator.past ≡ record x.mutator.past { clear = ack; events = by.home.mutator.past.events }
    past_z = place.past_z links h tied enough empty ack report room push y by ∙ past_home

    past_y : y.mutator.past ≡ by.rest.pushed.mutator.past
    past_y = ap (λ (m : Mutates ServerState StreamNames). m.past) (place.mutator_y links h tied enough empty ack report room push y by)

    first_y : y.mutator.past.first ≡ x.mutator.past.first
    first_y = ap (λ (p : Past ServerState StreamNames). p.first) past_y ∙ put.first ∙ ap (λ (p : Past ServerState StreamNames). p.first) past_z

    older_x : ack ≡ false → x.mutator.past.clear ≡ false
    older_x e = ap (λ (m : Mutates ServerState StreamNames). m.past.clear) (sym mutator_h) ∙ (place.acked links h tied enough empty ack report room push y by).older e

    told_y : mutated_by y ≡ mutated x.mutator.past.first (x.mutator.past.events ++ mutator.SawAck (number_seen (kept_of x) ack) back ∷ push_list (kept_of z) push again sent)
    told_y = λ j. mutated (first_y j) (events_y j)

    -- the look saw the last number if it says so, as there is a push before if it doesn't
    saw_number : (ack ≡ false → 0 < x.mutator.past.number) → (mutated_by x).pushed ≡ x.mutator.past.number → (d : Bool) → ack ≡ d → (number_seen (kept_of x) d == (mutated_by x).pushed) ≡ d
    saw_number some number true e = eq-eqb x.mutator.past.number (mutated_by x).pushed (sym number)
    saw_number some number false e = let l = some e in ne_eqb (x.mutator.past.number - 1) (mutated_by x).pushed (λ f. let n : x.mutator.past.number - 1 ≡ x.mutator.past.number = f ∙ number in omega arith)

    busy_number : (ack ≡ false → 0 < x.mutator.past.number) → (mutated_by x).pushed ≡ x.mutator.past.number → is_busy push ≡ true → (z.mutator.past.number - 1 == (mutated_by x).pushed) ≡ ack
    busy_number some number is =
        let off : ack ≡ false = ap (λ (p : Past ServerState StreamNames). p.clear) (sym past_z) ∙ put.older is in
        let same : z.mutator.past.number ≡ x.mutator.past.number = ap (λ (p : Past ServerState StreamNames). p.number) past_z in
        let l = some off in
        ne_eqb (z.mutator.past.number - 1) (mutated_by x).pushed (λ f. let n : z.mutator.past.number - 1 ≡ x.mutator.past.number = f ∙ number in omega arith) ∙ sym off

    queue_so : (ack ≡ false → 0 < x.mutator.past.number) → QueueGoes o sent x y told
    queue_so some = record {
      first = first_y;
      older = older_x;
      none = (λ is k. ap (λ (m : Mutates ServerState StreamNames). at m.pending k) (place.mutator_y links h tied enough empty ack report room push y by) ∙ put.none is k);
      shown = (λ is. (
        ap (λ (p : Past ServerState StreamNames). p.number) (past_y ∙ put.shown is) ∙ ap (λ (p : Past ServerState StreamNames). p.number + 1) past_z,
        ap (λ (p : Past ServerState StreamNames). p.last) (past_y ∙ put.shown is) ∙ ap (λ (m : NormalKept). m.draft) kept_z,
        ap (λ (p : Past ServerState StreamNames). p.before) (past_y ∙ put.shown is) ∙ ap (λ (p : Past ServerState StreamNames). p.last) past_z,
        ap (λ (p : Past ServerState StreamNames). p.clear) (past_y ∙ put.shown is),
      ));
      still = (λ is. (
        ap (λ (p : Past ServerState StreamNames). p.number) (past_y ∙ put.still is) ∙ ap (λ (p : Past ServerState StreamNames). p.number) past_z,
        ap (λ (p : Past ServerState StreamNames). p.last) (past_y ∙ put.still is) ∙ ap (λ (p : Past ServerState StreamNames). p.last) past_z,
        ap (λ (p : Past ServerState StreamNames). p.before) (past_y ∙ put.still is) ∙ ap (λ (p : Past ServerState StreamNames). p.before) past_z,
        ap (λ (p : Past ServerState StreamNames). p.clear) (past_y ∙ put.still is) ∙ ap (λ (p : Past ServerState StreamNames). p.clear) past_z,
      ));
      sent_items = (λ is. let t = shown_told x.mutator.past.first x.mutator.past.events (number_seen (kept_of x) ack) back again sent (kept_of z) push is in
          (ap (λ (p : MutatorPoint ServerState). p.items) told_y ∙ t.0, ap (λ (p : MutatorPoint ServerState). p.clear) told_y ∙ t.1));
      same_items = (λ is. ap (λ (p : MutatorPoint ServerState). p.items) told_y ∙ still_told x.mutator.past.first x.mutator.past.events (number_seen (kept_of x) ack) back again sent (kept_of z) push is);
      same_clear = (λ is number. ap (λ (p : MutatorPoint ServerState). p.clear) told_y ∙ clear_told x.mutator.past.first x.mutator.past.events (number_seen (kept_of x) ack) back again sent (kept_of z) push ack is
          (saw_number some number ack refl) (busy_number some number));
    }

    -- ## The slots that have items

    marks_back : (d : Bool) → (ack && not x.mutator.past.clear) ≡ d → marked back ≡ (if d then items_of x.mutator.past.before x.mutator.past.last else [])
    marks_back true is = marks_are x.mutator.past.before x.mutator.past.last back
        (subst (λ (m : Mutates ServerState StreamNames). (ack && not m.past.clear) ≡ true → AreOf m.past.before m.past.last back) mutator_h (place.acked links h tied enough empty ack report room push y by).brings is)
    marks_back false is = ap (λ (items : List (Option ServerState)). marked items)
        (subst (λ (m : Mutates ServerState StreamNames). (ack && not m.past.clear) ≡ false → back ≡ []) mutator_h (place.acked links h tied enough empty ack report room push y by).none is)

    marks_again : (ack ≡ false → 0 < x.mutator.past.number) → (c d : Bool) → is_pushed push ≡ c → ack ≡ d → marked again ≡ (if c && not d then items_of x.mutator.past.before x.mutator.past.last else [])
    marks_again some true false is off = marks_are x.mutator.past.before x.mutator.past.last again
        (subst (λ (p : Past ServerState StreamNames). is_pushed push ≡ true → 0 < p.number → p.clear ≡ false → AreOf p.before p.last again) past_z put.brings is (some off) off)
    marks_again some true true is on = ap (λ (items : List (Option ServerState)). marked items) (subst (λ (p : Past ServerState StreamNames). p.clear ≡ true → again ≡ []) past_z put.clear on)
    marks_again some false d is on = ap (λ (items : List (Option ServerState)). marked items) (put.unpushed is)

    marks_sent : is_pushed push ≡ true → marked sent ≡ items_of y.mutator.past.last x.mutator.past.last
    marks_sent is =
        let items : sent ≡ z.mutator.pending = sym (went push sent by.rest.pushed.mutator.pending is) ∙ put.queue in
        let last : y.mutator.past.last ≡ z.mutator.draft = ap (λ (p : Past ServerState StreamNames). p.last) (past_y ∙ put.shown is) in
        ap (λ (is : List (Option ServerState)). marked is) items
        ∙ marks_so z.mutator.draft x.mutator.past.last z.mutator.pending (place.wide_z links h tied enough empty ack report room push y by)
        (λ k low. place.pends_z links h tied enough empty ack report room push y by k low ∙ ap (λ (m : Mutates ServerState StreamNames). carries z.mutator.draft k && not (carries m.past.last k)) mutator_h)
        ∙ ap (λ (d : FastState). items_of d x.mutator.past.last) (sym last)

    -- ## What stood at the slots

    acked_x : Acked ack x.mutator by.home.mutator back
    acked_x = subst (λ (m : Mutates ServerState StreamNames). Acked ack m by.home.mutator back) mutator_h (place.acked links h tied enough empty ack report room push y by)

    again_pushed : (k : ℕ) → is_some (at again k) ≡ true → (b : Bool) → is_pushed push ≡ b → is_pushed push ≡ true
    again_pushed k some true is = is
    again_pushed k some false is = absurd (true≢false (sym some ∙ ap (λ (items : List (Option ServerState)). is_some (at items k)) (put.unpushed is)))

    stands_so : SlotsStand back again x told
    stands_so = record {
      rests = acked_x.rests;
      comes = acked_x.comes;
      waits = acked_x.waits;
      still = acked_x.still;
      there = acked_x.there;
      brings = (λ k low some. let of = put.again_of k low some in
          (ap (λ (p : Past ServerState StreamNames). p.clear) (sym past_z) ∙ of.0, again_pushed k some (is_pushed push) refl, ap (λ (p : Past ServerState StreamNames). carries p.before k) (sym past_z) ∙ of.1));
    }

    -- where each stream proxy lies after the turn
    pub goes : (ack ≡ false → 0 < x.mutator.past.number) → StreamsGo o x y told
    goes some = record {
      back = back;
      again = again;
      sent = sent;
      mutator = mutator_is;
      home = home_comes;
      lent = lent_so;
      away = away_so;
      queue = queue_so some;
      stands = stands_so;
      unwaited = subst (λ (m : Mutates ServerState StreamNames). (k : ℕ) → k < slots → m.past.clear ≡ false → carries m.past.before k ≡ true → carries m.past.last k ≡ false → at m.pending k ≡ None) mutator_h (place.acked links h tied enough empty ack report room push y by).unwaited;
      marks_back = marks_back (ack && not x.mutator.past.clear) refl;
      marks_again = marks_again some (is_pushed push) ack refl refl;
      marks_sent = marks_sent;
    }
