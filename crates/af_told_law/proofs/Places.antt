-- Where each stream proxy lies after a turn of the normal mixer, from where it came, and what it did and took.
use Rattle.af_told_law.specs.Tells.{mutated_by}
use Rattle.af_told_law.proofs.Common.{Adds, IsLegal, Links, NormalState, Outside, ServerEvent, ServerState, Turn, TurnMade, after_edits, answer_of, at, carries, going, home_stream, in_hand, in_queue, is_home, is_out, is_pushed, items_of, kept_of, learnt, marked, must_enter, mutator_list, packed_word, served_tracks, setup_of, slot_number, slots, stream_at, takes_from, track_at, turn_of}
use Rattle.std.specs.Prelude.{◌≡◌, ◌⊎◌, ℕ, ◌+◌, ◌<◌, ◌&&◌, not, if◌then◌else◌, true, false, List, [], ◌++◌, map, flat_map, Option, Some, None, is_some}
use Rattle.af_normal.specs.Order.{IsInOrder}
use Rattle.af_told_law.specs.Deeds.{stream_by}

-- the words that a turn took of the track i, as its stream block has them taken
abbrev pub words_by : Turn → ℕ → List ℕ
words_by e i = going e (map packed_word (flat_map (λ take. take.frames) (takes_from e.mixes i)))

-- what the stream proxy of the track i does in a turn of x that saw this
abbrev pub events_by : Outside → NormalState → Turn → ℕ → List ServerEvent
events_by o x e i = stream_by (setup_of x) (kept_of x) o e i

-- the proxy t is that of the track i that was home in the turn, or came home by its acknowledgement, and did and took what the turn's entry says
pub record ComesFrom (o : Outside) (back : List (Option ServerState)) (x : NormalState) (e : Turn) (i : ℕ) (t : ServerState) : Type 0 where
  pub before : ServerState
  pub was : home_stream e.ack (kept_of x) back x i ≡ Some before
  pub does : Adds before (events_by o x e i) (words_by e i) t

-- the slot of a track
abbrev pub slot_in : NormalState → ℕ → ℕ
slot_in y i = slot_number (track_at y.tracks i)

-- the track i is lent in the turn
abbrev pub enters_by : Outside → NormalState → Turn → ℕ → Type 0
enters_by o x e i = must_enter (track_at (served_tracks (setup_of x) (learnt o) (kept_of x) e) i) ≡ true

-- the track i isn't lent in the turn
abbrev pub rests_by : Outside → NormalState → Turn → ℕ → Type 0
rests_by o x e i = must_enter (track_at (served_tracks (setup_of x) (learnt o) (kept_of x) e) i) ≡ false

-- A track that was lent in the turn: its proxy waits for a push, or went with that of the turn, and nothing of its slot is in hand. Neither the last state before the turn carried the slot nor, if that wasn't seen acknowledged, the one before it
pub record IsLentBy (o : Outside) (back sent : List (Option ServerState)) (x y : NormalState) (e : Turn) (i : ℕ) : Type 0 where
  pub away : is_home (track_at y.tracks i).holder ≡ false
  pub item : ServerState
  pub waits : at (in_queue e.push sent y.mutator.pending) (slot_in y i) ≡ Some item
  pub comes : ComesFrom o back x e i item
  pub returned : at y.mutator.returned (slot_in y i) ≡ None
  pub last : carries x.mutator.past.last (slot_in y i) ≡ false
  pub before : e.ack ≡ false → carries x.mutator.past.before (slot_in y i) ≡ false

-- A track that is away after the turn and was not lent in it: it was away before, in the same slot, its proxy does nothing in the turn, and each item that stands at its slot stood there before, was pending, or came by a look
pub record StaysAway (o : Outside) (back again sent : List (Option ServerState)) (x y : NormalState) (e : Turn) (i : ℕ) : Type 0 where
  pub away : is_home (track_at x.tracks i).holder ≡ false
  pub slot : slot_in x i ≡ slot_in y i
  pub quiet : events_by o x e i ≡ []
  pub takes : words_by e i ≡ []
  pub pending : (t : ServerState) → at y.mutator.pending (slot_in y i) ≡ Some t → at x.mutator.pending (slot_in y i) ≡ Some t
  pub returned : (t : ServerState) → at y.mutator.returned (slot_in y i) ≡ Some t
      → ((at x.mutator.returned (slot_in y i) ≡ Some t) × (at back (slot_in y i) ≡ None)) ⊎ (at x.mutator.pending (slot_in y i) ≡ Some t) ⊎ (at back (slot_in y i) ≡ Some t) ⊎ (at again (slot_in y i) ≡ Some t)
  pub went : is_pushed e.push ≡ true → (t : ServerState) → at sent (slot_in y i) ≡ Some t → at x.mutator.pending (slot_in y i) ≡ Some t

-- The pushes after a turn with these items: a push clears what was seen acknowledged, and a look only sets it
pub record QueueGoes (o : Outside) (sent : List (Option ServerState)) (x y : NormalState) (e : Turn) : Type 0 where
  pub first : y.mutator.past.first ≡ x.mutator.past.first
  pub older : e.ack ≡ false → x.mutator.past.clear ≡ false
  pub none : is_pushed e.push ≡ true → (k : ℕ) → at y.mutator.pending k ≡ None
  pub shown : is_pushed e.push ≡ true → (y.mutator.past.number ≡ x.mutator.past.number + 1) × (y.mutator.past.last ≡ (after_edits (setup_of x) (learnt o) e (kept_of x)).draft) × (y.mutator.past.before ≡ x.mutator.past.last) × (y.mutator.past.clear ≡ false)
  pub still : is_pushed e.push ≡ false → (y.mutator.past.number ≡ x.mutator.past.number) × (y.mutator.past.last ≡ x.mutator.past.last) × (y.mutator.past.before ≡ x.mutator.past.before) × (y.mutator.past.clear ≡ e.ack)
  pub sent_items : is_pushed e.push ≡ true → ((mutated_by y).items ≡ sent) × ((mutated_by y).clear ≡ false)
  pub same_items : is_pushed e.push ≡ false → (mutated_by y).items ≡ (mutated_by x).items
  pub same_clear : is_pushed e.push ≡ false → (mutated_by x).pushed ≡ x.mutator.past.number → (mutated_by y).clear ≡ e.ack

-- The slots of a turn: what was in hand, or came by its look, the last state doesn't carry, and what waited had none on its way back. If the last state wasn't seen acknowledged, the one before it doesn't carry what waited or was in hand, and only the look of a push brings items of its slots. If the last state was seen acknowledged, an item that is out and on no state is in hand
pub record SlotsStand (back again : List (Option ServerState)) (x : NormalState) (e : Turn) : Type 0 where
  pub rests : (k : ℕ) → k < slots → is_some (at x.mutator.returned k) ≡ true → carries x.mutator.past.last k ≡ false
  pub comes : (k : ℕ) → k < slots → is_some (at back k) ≡ true → carries x.mutator.past.last k ≡ false
  pub waits : (k : ℕ) → k < slots → is_some (at x.mutator.pending k) ≡ true → at back k ≡ None
  pub still : e.ack ≡ false → (k : ℕ) → k < slots → (is_some (at x.mutator.pending k) ≡ true) ⊎ (is_some (at x.mutator.returned k) ≡ true) → carries x.mutator.past.before k ≡ false
  pub there : e.ack ≡ true → (k : ℕ) → k < slots → is_out x.mutator.out k ≡ true → carries x.mutator.draft k ≡ false → carries x.mutator.past.last k ≡ false → is_some (in_hand back x.mutator.returned k) ≡ true
  pub brings : (k : ℕ) → k < slots → is_some (at again k) ≡ true → (e.ack ≡ false) × (is_pushed e.push ≡ true) × (carries x.mutator.past.before k ≡ true)

-- Where each stream proxy lies after a turn that went on, with the items that came by the look at the acknowledgement and by that of the push, and those that went with the push, which stand at the slots that the run tells
pub record StreamsGo (o : Outside) (x y : NormalState) (e : Turn) : Type 0 where
  pub back : List (Option ServerState)
  pub again : List (Option ServerState)
  pub sent : List (Option ServerState)
  pub mutator : y.mutator.past.events ≡ x.mutator.past.events ++ mutator_list (setup_of x) (learnt o) (kept_of x) e back again sent
  pub home : (i : ℕ) (t : ServerState) → stream_at y.streams i ≡ Some t → ComesFrom o back x e i t
  pub lent : (i : ℕ) → enters_by o x e i → IsLentBy o back sent x y e i
  pub away : (i : ℕ) → is_home (track_at y.tracks i).holder ≡ false → rests_by o x e i → StaysAway o back again sent x y e i
  pub queue : QueueGoes o sent x y e
  pub stands : SlotsStand back again x e
  pub unwaited : (k : ℕ) → k < slots → x.mutator.past.clear ≡ false → carries x.mutator.past.before k ≡ true → carries x.mutator.past.last k ≡ false → at x.mutator.pending k ≡ None
  pub marks_back : marked back ≡ (if e.ack && not x.mutator.past.clear then items_of x.mutator.past.before x.mutator.past.last else [])
  pub marks_again : marked again ≡ (if is_pushed e.push && not e.ack then items_of x.mutator.past.before x.mutator.past.last else [])
  pub marks_sent : is_pushed e.push ≡ true → marked sent ≡ items_of y.mutator.past.last x.mutator.past.last

-- After a turn that ended nothing has moved, but what its look at the acknowledgement brought into hand
pub record StreamsStay (o : Outside) (x y : NormalState) (e : Turn) : Type 0 where
  pub back : List (Option ServerState)
  pub mutator : y.mutator.past.events ≡ x.mutator.past.events ++ mutator_list (setup_of x) (learnt o) (kept_of x) e back [] []
  pub tracks : y.tracks ≡ x.tracks
  pub home : (i : ℕ) (t : ServerState) → stream_at y.streams i ≡ Some t → (r : ServerState) × (stream_at x.streams i ≡ Some r) × (t.pass.part ≡ r.pass.part)
  pub pending : y.mutator.pending ≡ x.mutator.pending
  pub returned : (k : ℕ) (t : ServerState) → k < slots → at y.mutator.returned k ≡ Some t → (at x.mutator.returned k ≡ Some t) ⊎ (at back k ≡ Some t)
  pub first : y.mutator.past.first ≡ x.mutator.past.first
  pub still : (y.mutator.past.number ≡ x.mutator.past.number) × (y.mutator.past.last ≡ x.mutator.past.last) × (y.mutator.past.before ≡ x.mutator.past.before)
  pub same_items : (mutated_by y).items ≡ (mutated_by x).items
  pub marks_back : x.ended ≡ false → marked back ≡ (if not x.mutator.past.clear then items_of x.mutator.past.before x.mutator.past.last else [])
  pub clear : x.ended ≡ false → (y.mutator.past.clear ≡ true) × ((mutated_by x).pushed ≡ x.mutator.past.number → (mutated_by y).clear ≡ true)

-- a legal turn leaves each stream proxy where StreamsGo says, or, if it ended, where StreamsStay says
abbrev pub TurnLeavesStreams : Links → Outside → NormalState → NormalState → Type 0
TurnLeavesStreams links o x y = IsInOrder links x → IsLegal o x y → TurnMade (answer_of (turn_of y.entry)) x y
    → ((turn_of y.entry).ended ≡ false → StreamsGo o x y (turn_of y.entry)) × ((turn_of y.entry).ended ≡ true → StreamsStay o x y (turn_of y.entry))
