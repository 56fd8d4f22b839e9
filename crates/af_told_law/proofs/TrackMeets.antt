-- What the meetings leave of a track is told by the meetings of the run.
use Rattle.std.proofs.Common.{Bool, List, None, Option, Some, [], ap, arith, false, if◌then◌else◌, inl, inr, is_some, length, nat_lt, not, refl, slice_get, subst, suc, sym, true, true≢false, zero, ℕ, ◌&&◌, ◌<◌, ◌==◌, ◌||◌, ◌∙◌, ◌∷◌, ◌≡◌, ◌≤◌, ◌⊎◌}
use Rattle.af_told_law.proofs.Common.{AreTogether, BlockTold, ClientState, FastState, HandEvent, HandSide, HasBlockHistory, Links, MeetsAway, MeetsFlag, MeetsStream, Met, MixerState, MutatorPoint, NormalKept, NormalState, ObserverPoint, PartyState, Run, ServerEvent, ServerState, Session, SessionState, SpotMet, Track, TrackKept, TrackMet, at, carries, cases_eq, client_list, client_made, fold-append, hand_events, is_home, is_lawful, item_at, list_any, meets, meets_flag, met, mutator_next, mutator_start, none-some, observer_next, observer_start, ops_at, proxies_of, range_with_len, same_Some, server_list, client_side, side_of_proxy, slot_for, slot_number, slot_of, slots, spot_of, stream_at, stream_met, takes_part, told_at, track_at, track_count, track_met}
use Rattle.af_model.specs.declared.states.MutatorEvent.TheVariants as mutator
use Rattle.af_model.specs.declared.states.ObserverEvent.TheVariants as observer
use Rattle.af_runs.specs.Blocks.{hand_list}
use Rattle.af_told_law.specs.Tells.{IfThere, Tells, TellsAway, TellsCommands, TellsServer, TellsStream, TellsTrack, given_of, held_slot, is_coming, is_going, items_given, items_sent, mutated_by, none_comes}
use Rattle.af_told_law.proofs.BlockMeets.{all_did, all_hand, all_history, all_server, all_side, did_met, flag_hand, flag_side, meets_history, meets_server, meets_side}
use Rattle.af_told_law.proofs.SlotHeld.{found_carries, is_held}
use Rattle.af_runs.specs.Kept.{client_of}
use Rattle.af_told_law.specs.Deeds.{DeedTold, Deeds, ServerDone, done_on}
use Rattle.af_told_law.proofs.Basics.{met_deed}

-- the lists of all servers, once those that take part have met their clients
abbrev pub deeds_met : Session → Run → Deeds → Deeds
deeds_met s run d = record {
  streams = λ i. if takes_part s run i then met_deed (told_at run i).stream (d.streams i) else d.streams i;
  commands = λ i. met_deed (told_at run i).commands (d.commands i);
}

-- a proxy that is there and tells the block
pub there_is : (b : ServerDone) (o : Option ServerState) (t : ServerState) → o ≡ Some t → TellsServer b t → IfThere b o
there_is b o t is told = λ s found. subst (TellsServer b) (same_Some t s (sym is ∙ found)) told

pub none_there : (b : ServerDone) (o : Option ServerState) → o ≡ None → IfThere b o
none_there b o is = λ s found. absurd (none-some s (sym is ∙ found))

none_past : {X : Type 0} (xs : List X) (i : ℕ) → slice_get xs i ≡ None → length xs ≤ i
none_past [] i none = omega arith
none_past (x ∷ xs) zero none = absurd (none-some x (sym none))
none_past (x ∷ xs) (suc i) none = let r = none_past xs i none in omega (arith, r)

module _ (a b : SessionState) (m : Met a b) where
  abbrev polled : FastState
  polled = a.fast.observer.past.state

  state_is : b.fast.observer.past.state ≡ polled
  state_is = ap (λ (f : MixerState). f.observer.past.state) m.ends.fast

  pub tracks_are : b.normal.tracks ≡ a.normal.tracks
  tracks_are = ap (λ (n : NormalState). n.tracks) m.ends.normal

  held_is : (i : ℕ) → held_slot b.fast i ≡ slot_for polled i
  held_is i = ap (λ (x : FastState). slot_for x i) state_is

  going_is : is_going b.normal b.fast ≡ is_going a.normal a.fast
  going_is = λ j. nat_lt ((ap (λ (f : MixerState). f.observer.past.number) m.ends.fast) j) ((ap (λ (n : NormalState). n.mutator.past.number) m.ends.normal) j)

  coming_is : is_coming b.normal b.fast ≡ is_coming a.normal a.fast
  coming_is = λ j. not (going_is j) && not (clear_is j)
    where
      clear_is : (mutated_by b.normal).clear ≡ (mutated_by a.normal).clear
      clear_is =
          ap (λ (n : NormalState). (mutated_by n).clear) m.ends.normal
          ∙ ap (λ (p : MutatorPoint ServerState). p.clear) (fold-append mutator_next (mutator_start a.normal.mutator.past.first) a.normal.mutator.past.events (mutator.Learn (length a.fast.observer.past.events) ∷ []))

  sent_is : items_sent b.normal ≡ items_sent a.normal
  sent_is =
      ap items_sent m.ends.normal
      ∙ ap (λ (p : MutatorPoint ServerState). p.items) (fold-append mutator_next (mutator_start a.normal.mutator.past.first) a.normal.mutator.past.events (mutator.Learn (length a.fast.observer.past.events) ∷ []))

  given_is : items_given b.fast ≡ items_given a.fast
  given_is =
      ap items_given m.ends.fast
      ∙ ap (λ (p : ObserverPoint ServerState). p.given) (fold-append observer_next observer_start a.fast.observer.past.events (observer.Learn (length a.normal.mutator.past.events) ∷ []))

  module _ (i k : ℕ) (did : ServerDone) where
    none_came : none_comes b.normal b.fast k → none_comes a.normal a.fast k
    none_came none coming = sym (ap (λ (is : List (Option ServerState)). at is k) given_is) ∙ none (coming_is ∙ coming)

    -- a proxy on its way stays there
    way_met : slot_for polled i ≡ None → TellsAway a.normal a.fast i k did → TellsAway b.normal b.fast i k did
    way_met none h = record {
      held = none_there did (item_at b.fast.observer.items (held_slot b.fast i)) (ap (item_at b.fast.observer.items) (held_is i ∙ none));
      goes = (λ off going. subst (λ (o : Option ServerState). IfThere did o) (sym (ap (λ (is : List (Option ServerState)). at is k) sent_is)) (h.goes none (sym going_is ∙ going)));
      comes = (λ off coming. subst (λ (o : Option ServerState). IfThere did o) (sym (ap (λ (is : List (Option ServerState)). at is k) given_is)) (h.comes none (sym coming_is ∙ coming)));
      waits = (λ off comes. subst (λ (o : Option ServerState). IfThere did o) (sym (ap (λ (n : NormalState). at n.mutator.pending k) m.ends.normal)) (h.waits none (none_came comes)));
      back = (λ off comes. subst (λ (o : Option ServerState). IfThere did o) (sym (ap (λ (n : NormalState). at n.mutator.returned k) m.ends.normal)) (h.back none (none_came comes)));
    }

    -- a proxy that is held is told where it is held
    held_met : (j : ℕ) (t : ServerState) → slot_for polled i ≡ Some j → item_at b.fast.observer.items (slot_for polled i) ≡ Some t → TellsServer did t → TellsAway b.normal b.fast i k did
    held_met j t some is told_so = record {
      held = there_is did (item_at b.fast.observer.items (held_slot b.fast i)) t (ap (item_at b.fast.observer.items) (held_is i) ∙ is) told_so;
      waits = (λ off. absurd (none-some j (sym off ∙ held_is i ∙ some)));
      goes = (λ off. absurd (none-some j (sym off ∙ held_is i ∙ some)));
      comes = (λ off. absurd (none-some j (sym off ∙ held_is i ∙ some)));
      back = (λ off. absurd (none-some j (sym off ∙ held_is i ∙ some)));
    }

-- the events of a hand that may be there
abbrev events_of : Option HandSide → List HandEvent
events_of None = []
events_of (Some h) = h.part.events

events_are : (hands : List HandSide) (i : ℕ) (o : Option HandSide) → slice_get hands i ≡ o → hand_events hands i ≡ events_of o
events_are hands i None is = ap (λ (o : Option HandSide). elim o as (λ o. List HandEvent) [ None ↦ [] | Some h ↦ h.part.events ]) is
events_are hands i (Some h) is = ap (λ (o : Option HandSide). elim o as (λ o. List HandEvent) [ None ↦ [] | Some g ↦ g.part.events ]) is

module _ (s : Session) (run : Run) {d : Deeds} (links : Links) (a b : SessionState) (together : AreTogether links a) (h : Tells s run d a) (m : Met a b) (i : ℕ) (low : i < track_count s) where
  inside : i < length a.normal.tracks
  inside = let c = h.count.1 in let t = together.count in omega (arith, low, c, t)

  abbrev stream_told : BlockTold
  stream_told = (told_at run i).stream

  -- what a stream's proxy did before the meetings, and after them if it takes part
  abbrev deed : List ServerEvent
  deed = d.streams i

  abbrev deed_after : Bool → List ServerEvent
  deed_after part = if part then met_deed stream_told (d.streams i) else d.streams i

  part_is : takes_part s run i ≡ (is_home (track_at a.normal.tracks i).holder || is_some (slot_for (polled a b m) i))
  part_is =
      (λ j. is_home (track_at ((ap (λ (k : NormalKept). k.tracks) (sym h.normal.kept)) j) i).holder || list_any (λ k. carries ((sym h.fast.state) j) k && ((slot_of ((sym h.fast.state) j) k).track == i)) (range_with_len 0 slots))
      ∙ ap (λ (z : Bool). is_home (track_at a.normal.tracks i).holder || z) (is_held (polled a b m) i)

  home_is : (o : Option ServerState) → stream_at a.normal.streams i ≡ o → is_home (track_at a.normal.tracks i).holder ≡ is_some o
  home_is o is = sym (together.normal.tied.proxies.there i inside) ∙ ap is_some is

  handed_is : (o : Option HandSide) → slice_get a.normal.hands i ≡ o → run.handed ≡ is_some o
  handed_is o is = sym (h.normal.hands i low) ∙ ap is_some is

  -- a stream's block after the meetings, and its client
  pub record StreamMet (after : BlockTold) (list : List ServerEvent) (c : ClientState) : Type 0 where
    pub side : client_side after ≡ side_of_proxy c
    pub told : TellsStream b.normal b.fast i after list
    pub did : DeedTold after list
    pub handed : is_some (slice_get b.normal.hands i) ≡ run.handed
    pub history : deed ≡ server_list stream_told → takes_part s run i ≡ true → is_lawful (client_list after) ≡ true → HasBlockHistory after

  -- a stream meets, by whether the proxy takes part, and whether there are hands
  abbrev Meeting : Bool → Bool → ClientState → Type 0
  Meeting part there c = StreamMet (stream_met part there stream_told) (deed_after part) c

  by_parts : (part there : Bool) (c : ClientState) → takes_part s run i ≡ part → run.handed ≡ there → Meeting part there c → Meeting (takes_part s run i) run.handed c
  by_parts part there c part_so handed_so = subst (λ (y : Bool × Bool). Meeting y.0 y.1 c) (λ j. (sym part_so j, sym handed_so j))

  -- the hand's events, as they were told
  hand_told : (o : Option HandSide) → slice_get a.normal.hands i ≡ o → TellsStream a.normal a.fast i stream_told deed → events_of o ≡ hand_list stream_told
  hand_told o is told = sym (events_are a.normal.hands i o is) ∙ told.hand

  not_away : (o : Option ServerState) (t : ServerState) → stream_at a.normal.streams i ≡ o → o ≡ Some t → is_home (track_at b.normal.tracks i).holder ≡ false → ⊥
  not_away o t is some gone = true≢false (sym (home_is o is ∙ ap is_some some) ∙ ap (λ (ts : List TrackKept). is_home (track_at ts i).holder) (sym (tracks_are a b m)) ∙ gone)

  -- a proxy at home before its hand was split off has it
  whole_still : (p : ServerState) → stream_at a.normal.streams i ≡ Some p → slice_get a.normal.hands i ≡ None → p.pass.has_hand ≡ true
  whole_still p is none = by_turns (cases_eq a.normal.turns 0)
    where
      by_turns : (a.normal.turns ≡ 0) ⊎ (a.normal.turns ≡ 0 → ⊥) → p.pass.has_hand ≡ true
      by_turns (inl first) = (together.normal.none_yet first).whole i p is
      by_turns (inr some) =
          let w = (together.normal.hands (omega (arith, some))).whole in let l = inside in let past = none_past a.normal.hands i none in absurd (omega (arith, w, l, past))

  module _ (c e : ClientState) (side : client_side stream_told ≡ side_of_proxy c) (told : TellsStream a.normal a.fast i stream_told deed) (did : DeedTold stream_told deed) where
    -- a stream meets whose proxy is at home
    by_home : (p : ServerState) (o o' : Option HandSide) → stream_at a.normal.streams i ≡ Some p → slice_get a.normal.hands i ≡ o → slice_get b.normal.hands i ≡ o' → MeetsStream (client_made c.pass) (Some p) o c (stream_at b.normal.streams i) o' e
        → Meeting (takes_part s run i) run.handed e
    by_home p None o' is none now met =
        let mine : TellsServer (done_on stream_told deed) p = told.home p is in
        let whole = whole_still p is none in
        let no_hand : hand_list stream_told ≡ [] = sym (hand_told None none told) in
        by_parts true false e (part_is ∙ ap (λ (z : Bool). z || is_some (slot_for (polled a b m) i)) (home_is (Some p) is)) (handed_is None none) (record {
          side = meets_side stream_told deed did c e p met.0 side mine met.3;
          told = record {
            home = there_is (done_on (meets stream_told) (met_deed stream_told deed)) (stream_at b.normal.streams i) met.0 met.1 (meets_server stream_told deed did c e p met.0 side mine met.3);
            away = (λ gone. absurd (not_away (Some p) p is refl gone));
            hand = events_are b.normal.hands i None (now ∙ met.2) ∙ sym no_hand;
          };
          handed = ap is_some (now ∙ met.2) ∙ sym (handed_is None none);
          did = did_met stream_told deed did;
          history = (λ list part lawful. meets_history stream_told deed did c e p met.0 side mine met.3 whole no_hand list lawful);
        })
    by_home p (Some g) o' is some now met =
        let mine : TellsServer (done_on stream_told deed) p = told.home p is in
        let hand_so = hand_told (Some g) some told in
        by_parts true true e (part_is ∙ ap (λ (z : Bool). z || is_some (slot_for (polled a b m) i)) (home_is (Some p) is)) (handed_is (Some g) some) (record {
          side = all_side stream_told deed did c e p met.0 g met.1 side mine hand_so met.4;
          told = record {
            home = there_is (done_on (meets_flag (meets stream_told)) (met_deed stream_told deed)) (stream_at b.normal.streams i) met.0 met.2 (all_server stream_told deed did c e p met.0 g met.1 side mine hand_so met.4);
            away = (λ gone. absurd (not_away (Some p) p is refl gone));
            hand = events_are b.normal.hands i (Some met.1) (now ∙ met.3) ∙ all_hand stream_told deed did c e p met.0 g met.1 side mine hand_so met.4;
          };
          handed = ap is_some (now ∙ met.3) ∙ sym (handed_is (Some g) some);
          did = all_did stream_told deed did c e p met.0 g met.1 side mine hand_so met.4;
          history = (λ list part lawful. all_history stream_told deed did c e p met.0 g met.1 side mine hand_so met.4 list lawful);
        })

    module _ (is : stream_at a.normal.streams i ≡ None) (gone' : stream_at b.normal.streams i ≡ None) (g g' : HandSide) (some : slice_get a.normal.hands i ≡ Some g) (some' : slice_get b.normal.hands i ≡ Some g') where
      away_from : is_home (track_at b.normal.tracks i).holder ≡ false → TellsAway a.normal a.fast i (slot_number (track_at a.normal.tracks i)) (done_on stream_told deed)
      away_from gone = told.away (home_is None is)

      hand_so : g.part.events ≡ hand_list stream_told
      hand_so = hand_told (Some g) some told

      as_now : (after : ServerDone) → TellsAway b.normal b.fast i (slot_number (track_at a.normal.tracks i)) after → TellsAway b.normal b.fast i (slot_number (track_at b.normal.tracks i)) after
      as_now after = subst (λ (ts : List TrackKept). TellsAway b.normal b.fast i (slot_number (track_at ts i)) after) (sym (tracks_are a b m))

      -- a stream meets whose proxy the observer holds
      by_held : (j : ℕ) (o : Option ServerState) → slot_for (polled a b m) i ≡ Some j → item_at a.fast.observer.items (slot_for (polled a b m) i) ≡ o
          → MeetsAway (client_made c.pass) o g c (item_at b.fast.observer.items (slot_for (polled a b m) i)) g' e → Meeting (takes_part s run i) run.handed e
      by_held j None found item met =
          let carried = found_carries (polled a b m) i j found in
          absurd (true≢false (sym (together.fast.0.observer.held j carried.0 ∙ carried.1) ∙ ap is_some (ap (item_at a.fast.observer.items) (sym found) ∙ item)))
      by_held j (Some p) found item met =
          let mine : TellsServer (done_on stream_told deed) p = (told.away (home_is None is)).held p item in
          by_parts true true e (part_is ∙ (λ k. home_is None is k || is_some (found k))) (handed_is (Some g) some) (record {
            side = all_side stream_told deed did c e p met.0 g g' side mine hand_so met.2;
            told = record {
              home = none_there (done_on (meets_flag (meets stream_told)) (met_deed stream_told deed)) (stream_at b.normal.streams i) gone';
              away = (λ gone. as_now (done_on (meets_flag (meets stream_told)) (met_deed stream_told deed)) (held_met a b m i (slot_number (track_at a.normal.tracks i)) (done_on (meets_flag (meets stream_told)) (met_deed stream_told deed)) j met.0 found met.1 (all_server stream_told deed did c e p met.0 g g' side mine hand_so met.2)));
              hand = events_are b.normal.hands i (Some g') some' ∙ all_hand stream_told deed did c e p met.0 g g' side mine hand_so met.2;
            };
            handed = ap is_some some' ∙ sym (handed_is (Some g) some);
            did = all_did stream_told deed did c e p met.0 g g' side mine hand_so met.2;
            history = (λ list part lawful. all_history stream_told deed did c e p met.0 g g' side mine hand_so met.2 list lawful);
          })

      -- a stream meets whose proxy is on its way
      by_way : slot_for (polled a b m) i ≡ None → MeetsFlag (client_made c.pass) c e g g' → Meeting (takes_part s run i) run.handed e
      by_way none met =
          let part : takes_part s run i ≡ false = part_is ∙ (λ k. home_is None is k || is_some (none k)) in
          by_parts false true e part (handed_is (Some g) some) (record {
            side = flag_side stream_told c e g g' side hand_so met;
            told = record {
              home = none_there (done_on stream_told deed) (stream_at b.normal.streams i) gone';
              away = (λ gone. as_now (done_on stream_told deed) (way_met a b m i (slot_number (track_at a.normal.tracks i)) (done_on stream_told deed) none (away_from gone)));
              hand = events_are b.normal.hands i (Some g') some' ∙ flag_hand stream_told c e g g' side hand_so met;
            };
            handed = ap is_some some' ∙ sym (handed_is (Some g) some);
            did = record { alike = did.alike; own = did.own };
            history = (λ list on lawful. absurd (true≢false (sym on ∙ part)));
          })

      by_slot : (k : Option ℕ) → slot_for (polled a b m) i ≡ k → MeetsAway (client_made c.pass) (item_at a.fast.observer.items (slot_for (polled a b m) i)) g c (item_at b.fast.observer.items (slot_for (polled a b m) i)) g' e
          → Meeting (takes_part s run i) run.handed e
      by_slot (Some j) found met = by_held j (item_at a.fast.observer.items (slot_for (polled a b m) i)) found refl met
      by_slot None none met = by_way none (subst (λ (o : Option ServerState). MeetsAway (client_made c.pass) o g c (item_at b.fast.observer.items (slot_for (polled a b m) i)) g' e) (ap (item_at a.fast.observer.items) none) met).1

    by_spot : (o : Option ServerState) → stream_at a.normal.streams i ≡ o → SpotMet (client_made c.pass) o (spot_of (polled a b m) (proxies_of a.normal a.fast) i) c (spot_of (polled a b m) (proxies_of b.normal b.fast) i) e
        → Meeting (takes_part s run i) run.handed e
    by_spot (Some p) is met = by_home p (slice_get a.normal.hands i) (slice_get b.normal.hands i) is refl refl met.0
    by_spot None is met = by_slot is met.still_away met.hand met.hand' met.has_hand met.has_hand' (slot_for (polled a b m) i) refl met.met

  module _ (p q : PartyState) (was : slice_get a.clients i ≡ Some p) (t : TrackMet (spot_of (polled a b m) (proxies_of a.normal a.fast) i) (spot_of (polled a b m) (proxies_of b.normal b.fast) i) p q) where
    abbrev track_told : TellsTrack s a.normal a.fast d i (told_at run i) p
    track_told = h.tracks i p was

    stream_side : client_side stream_told ≡ side_of_proxy p.stream
    stream_side = ap (λ (y : Track). y.stream) track_told.client

    commands_side : client_side (told_at run i).commands ≡ side_of_proxy p.command
    commands_side = ap (λ (y : Track). y.commands) track_told.client

    pub stream_now : Meeting (takes_part s run i) run.handed q.stream
    stream_now = by_spot p.stream q.stream stream_side track_told.stream track_told.did.stream (stream_at a.normal.streams i) refl t.streamed

    abbrev commands_before : TellsCommands (told_at run i).commands (d.commands i) t.command
    commands_before = track_told.commands t.command t.has_command

    pub commands_history : d.commands i ≡ server_list (told_at run i).commands → is_lawful (client_list (meets (told_at run i).commands)) ≡ true → HasBlockHistory (meets (told_at run i).commands)
    commands_history = meets_history (told_at run i).commands (d.commands i) track_told.did.commands p.command q.command t.command t.command' commands_side commands_before.server t.commanded commands_before.whole commands_before.none

    pub track_now : TellsTrack s b.normal b.fast (deeds_met s run d) i (track_met s run i (told_at run i)) q
    track_now = record {
      client = (λ j. record {
        file = (ap (λ (y : Track). y.file) track_told.client) j;
        client = (ap (λ (y : Track). y.client) track_told.client ∙ ap (λ (y : PartyState). client_of (ops_at (given_of s) i) y.client) (sym t.same)) j;
        stream = stream_now.side j;
        commands = (meets_side (told_at run i).commands (d.commands i) track_told.did.commands p.command q.command t.command t.command' commands_side commands_before.server t.commanded) j;
      });
      stream = stream_now.told;
      commands = (λ c is. subst (TellsCommands (meets (told_at run i).commands) (met_deed (told_at run i).commands (d.commands i))) (same_Some t.command' c (sym t.has_command' ∙ is)) (record {
        server = meets_server (told_at run i).commands (d.commands i) track_told.did.commands p.command q.command t.command t.command' commands_side commands_before.server t.commanded;
        whole = ap (λ (y : ServerState). y.pass.has_hand) t.commanded.server ∙ commands_before.whole;
        none = commands_before.none;
      }));
      did = record { stream = stream_now.did; commands = did_met (told_at run i).commands (d.commands i) track_told.did.commands };
    }
