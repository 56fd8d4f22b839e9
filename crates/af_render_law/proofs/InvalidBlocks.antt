-- What each step of a run leaves of a stream block on which no INVALID is set while its server isn't shut, and its track hasn't ended and isn't there yet or has a slot.
use Rattle.std.proofs.Common.{◌≡◌, ℕ, ◌-◌, ◌==◌, Bool, true, false, true≢false, if◌then◌else◌, is_some, map, List, [], ◌∷◌, ◌++◌, drop, length, Option, Some, None, refl, sym, ap, ◌∙◌, subst, append-nil}
use Rattle.af_render_law.proofs.Common.{All-append, All-cons, All-nil, All-push, BlockTold, ClientEvent, EntrySeen, FastState, HandEvent, Listed, Moment, ServerEvent, ServerKept, Session, Shape, Side, SlotEntry, TrackKept, TrackTold, Turn, by_hand, by_server, client-hand, client-server, client_list, cycle_events, cycle_frames, drops_of, entry_slot, fold-append, front_of, hand-server, hand_of, is_shut, kept, listed, look_events, mixed_track, played, server-server, server_begins, server_keeps, server_kept, server_list, server_of, stream_met, tally, told_more, track_in, with_side}
use Rattle.af_base.specs.declared.event.HandEvent.TheVariants as hand
use Rattle.af_base.specs.declared.event.ServerEvent.TheVariants as server
use Rattle.af_base.specs.declared.seen.Seen.{Seen}
use Rattle.af_base.specs.declared.seen.Seen.TheVariants as seen
use Rattle.af_life.specs.TurnEvents as turn
use Rattle.af_model.specs.Cycles.{events_behind_look}
use Rattle.af_runs.specs.Blocks.{hand_list}
use Rattle.af_runs.specs.Runs.{slot_playing}
use Rattle.af_render_law.proofs.MixedOpen.{Looked, played_open}
use Rattle.af_render_law.proofs.NoInvalid.{SetsNoInvalid, SetNoInvalid, HandSetsNoInvalid, HandSetNoInvalid}
use Rattle.af_render_law.proofs.Unmixed.{Unmixed}
use Rattle.af_enough_law.proofs.MoreTold.{hand-hand, server-hand}

-- no INVALID is set on a block of this shape with these lists of its server and its hand
pub record SetsNone (s : TrackKept) (k : Shape) (events : List ServerEvent) (hands : List HandEvent) : Type 0 where
  pub server : Unmixed s → (server_kept k events).shut ≡ None → SetNoInvalid events
  pub hand : HandSetNoInvalid hands

abbrev pub StreamUnset : TrackKept → BlockTold → Type 0
StreamUnset s b = SetsNone s b.shape (server_list b) (hand_list b)

pub unset_new : (s : TrackKept) (k : Shape) → SetsNone s k [] []
unset_new s k = record { server = λ u fine. All-nil SetsNoInvalid; hand = All-nil HandSetsNoInvalid }

-- ## Lists

either_sets : (b : Bool) (xs ys : List ServerEvent) → SetNoInvalid xs → SetNoInvalid ys → SetNoInvalid (if b then xs else ys)
either_sets true xs ys g h = g
either_sets false xs ys g h = h

-- ## A cycle whose look isn't Shut

tally_sets : (missing : ℕ) → SetNoInvalid (tally missing)
tally_sets missing = either_sets (missing == 0) [] (server.Tally missing ∷ server.SetFlags 1 ∷ []) (All-nil SetsNoInvalid)
    (All-cons SetsNoInvalid (server.Tally missing) (server.SetFlags 1 ∷ []) tt (All-cons SetsNoInvalid (server.SetFlags 1) [] refl (All-nil SetsNoInvalid)))

after_sets : (asked : ℕ) (was : Bool) (answer : Seen) → is_shut answer ≡ false → SetNoInvalid (events_behind_look asked was answer)
after_sets asked was seen.Absent h = All-nil SetsNoInvalid
after_sets asked was (seen.Frames count) h = All-cons SetsNoInvalid (server.Take count) (tally (asked - count)) tt (tally_sets (asked - count))
after_sets asked was seen.Empty h = tally_sets asked
after_sets asked was (seen.Flushed dropped) h = All-nil SetsNoInvalid
after_sets asked was (seen.Shut front rear) h = absurd (true≢false h)

drops_set : (answer : Seen) (front : ℕ) → SetNoInvalid (drops_of answer front)
drops_set (seen.Flushed dropped) front = All-cons SetsNoInvalid (server.Drop _) [] tt (All-nil SetsNoInvalid)
drops_set _ front = All-nil SetsNoInvalid

look_sets : (answer : Seen) (flush rear front : ℕ) → SetNoInvalid (look_events answer flush rear front)
look_sets answer flush rear front =
    All-cons SetsNoInvalid (server.SawFlush flush) (server.SawRear rear ∷ server.SawFront front ∷ drops_of answer front) tt
    (All-cons SetsNoInvalid (server.SawRear rear) (server.SawFront front ∷ drops_of answer front) tt (All-cons SetsNoInvalid (server.SawFront front) (drops_of answer front) tt (drops_set answer front)))

cycle_sets : (asked : ℕ) (x : Listed) (slot : SlotEntry) (front : ℕ) → is_shut slot.seen ≡ false → SetNoInvalid (cycle_events asked x slot front)
cycle_sets asked x slot front h =
    let was : Bool = is_some (kept x).shut in
    let looks : List ServerEvent = (if was then [] else look_events slot.seen slot.flush slot.rear front) in
    All-cons SetsNoInvalid (server.SawGain slot.gains) (looks ++ events_behind_look asked was slot.seen) tt
    (All-append SetsNoInvalid looks (events_behind_look asked was slot.seen) (either_sets was [] (look_events slot.seen slot.flush slot.rear front) (All-nil SetsNoInvalid) (look_sets slot.seen slot.flush slot.rear front)) (after_sets asked was slot.seen h))

-- ## The steps

module _ (s : TrackKept) where
  -- the client of the block does something
  pub unset_called : (side : Side) (b : BlockTold) → StreamUnset s b → StreamUnset s (with_side side b)
  unset_called side b h =
      let es : List ClientEvent = drop (length (client_list b)) side.events in
      subst (λ hs. SetsNone s b.shape (server_list (with_side side b)) hs) (sym (client-hand b.told es)) (subst (λ xs. SetsNone s b.shape xs (hand_list b)) (sym (client-server b.told es)) h)

  -- the server of the block meets
  learns : (k : Shape) (es : List ServerEvent) (hs : List HandEvent) (count : ℕ) → SetsNone s k es hs → SetsNone s k (es ++ server.Learn count ∷ []) hs
  learns k es hs count h = record {
    server = λ u fine. All-push SetsNoInvalid es (server.Learn count) (h.server u (sym (ap (λ (x : ServerKept). x.shut) (fold-append (server_keeps k) (server_begins k) es (server.Learn count ∷ []))) ∙ fine)) tt;
    hand = h.hand;
  }

  hand_meets : (k : Shape) (es : List ServerEvent) (hs : List HandEvent) (count : ℕ) → SetsNone s k es hs → SetsNone s k es (hs ++ hand.Met count ∷ [])
  hand_meets k es hs count h = record { server = h.server; hand = All-push HandSetsNoInvalid hs (hand.Met count) h.hand tt }

  pub unset_met : (there handed : Bool) (b : BlockTold) → StreamUnset s b → StreamUnset s (stream_met there handed b)
  unset_met true true b h = hand_meets b.shape _ (hand_list b) _ (learns b.shape (server_list b) (hand_list b) _ h)
  unset_met true false b h = learns b.shape (server_list b) (hand_list b) _ h
  unset_met false true b h = hand_meets b.shape (server_list b) (hand_list b) _ h
  unset_met false false b h = h

  -- an entry plays the block, and its look wasn't Shut if the server isn't shut after it
  unset_played : (asked : ℕ) (e : EntrySeen) (i : ℕ) (b : BlockTold) → ((server_kept b.shape (server_list (played asked e i b))).shut ≡ None → ((kept (listed b)).shut ≡ None) × (is_shut (entry_slot e.entry i).seen ≡ false))
      → StreamUnset s b → StreamUnset s (played asked e i b)
  unset_played asked e i b open_is h =
      subst (λ hs. SetsNone s b.shape (server_list (played asked e i b)) hs) (sym (server-hand b.told es)) (subst (λ xs. SetsNone s b.shape xs (hand_list b)) (sym is) (record {
        server = λ u fine. (
            let one = open_is (subst (λ xs. (server_kept b.shape xs).shut ≡ None) (sym is) fine) in
            All-append SetsNoInvalid (server_list b) es (h.server u one.0) (cycle_sets asked (listed b) (entry_slot e.entry i) (front_of asked (listed b) (entry_slot e.entry i)) one.1));
        hand = h.hand;
      }))
    where
      es : List ServerEvent
      es = cycle_events asked (listed b) (entry_slot e.entry i) (front_of asked (listed b) (entry_slot e.entry i))

      is : server_list (played asked e i b) ≡ server_list b ++ es
      is = server-server b.told es

  pub unset_mixed : (session : Session) (x : FastState) (e : EntrySeen) (n : ℕ) (t : TrackTold) → ((i : ℕ) → slot_playing x e.entry n ≡ Some i → Looked session e i t.stream) → StreamUnset s t.stream → StreamUnset s (mixed_track session x e n t).stream
  unset_mixed session x e n t looks h = by_slot (slot_playing x e.entry n) refl
    where
      by_slot : (o : Option ℕ) → slot_playing x e.entry n ≡ o → StreamUnset s (elim o as (λ o. TrackTold) [ None ↦ t | Some i ↦ record t { stream = played (cycle_frames session) e i t.stream } ]).stream
      by_slot None is = h
      by_slot (Some i) is = unset_played (cycle_frames session) e i t.stream (played_open session x e n i t.stream is (looks i is)) h

-- ## A turn

hands_set : (e : Turn) (n : ℕ) → HandSetNoInvalid (turn.hand_events_of e n)
hands_set e n = by_flags e.ended (track_in e n).disabled
  where
    by_flags : (ended off : Bool) → HandSetNoInvalid (if ended then [] else (if off then hand.SetFlags 8 ∷ [] else []))
    by_flags true off = All-nil HandSetsNoInvalid
    by_flags false true = All-cons HandSetsNoInvalid (hand.SetFlags 8) [] refl (All-nil HandSetsNoInvalid)
    by_flags false false = All-nil HandSetsNoInvalid

-- the hand does what a turn does, and the server these events: none if the track is unmixed after the turn, as it then was before
pub unset_turned : (s t : TrackKept) (e : Turn) (n : ℕ) (es : List ServerEvent) (k : Shape) (told : List Moment) → (Unmixed t → Unmixed s) → (Unmixed t → es ≡ []) → SetsNone s k (server_of told) (hand_of told)
    → (let after = told_more (told_more told (map by_hand (turn.hand_events_of e n))) (map by_server es) in SetsNone t k (server_of after) (hand_of after))
unset_turned s t e n es k told was none h =
    subst (λ hs. SetsNone t k (server_of after) hs) (sym (server-hand with_hand es ∙ hand-hand told (turn.hand_events_of e n)))
    (subst (λ xs. SetsNone t k xs (hand_of told ++ turn.hand_events_of e n)) (sym (server-server with_hand es ∙ ap (λ l. l ++ es) (hand-server told (turn.hand_events_of e n)))) (record {
      server = λ u fine. (
          let same : server_of told ++ es ≡ server_of told = ap (λ l. server_of told ++ l) (none u) ∙ append-nil (server_of told) in
          subst SetNoInvalid (sym same) (h.server (was u) (subst (λ xs. (server_kept k xs).shut ≡ None) same fine)));
      hand = All-append HandSetsNoInvalid (hand_of told) (turn.hand_events_of e n) h.hand (hands_set e n);
    }))
  where
    with_hand : List Moment
    with_hand = told_more told (map by_hand (turn.hand_events_of e n))

    after : List Moment
    after = told_more with_hand (map by_server es)
