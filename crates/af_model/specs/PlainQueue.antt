-- A state queue with both ends in one hand: each look sees the last push, and each look at the acknowledgement the last one.
use Rattle.std.specs.Prelude.{ℕ, ◌+◌, ◌^◌, ◌==◌, ◌&&◌, ◌||◌, not, nat_lt, nat_le, if◌then◌else◌, Bool, true, false, List, [], ◌∷◌, map, replicate, Option, Some, None, slice_index_or, slice_set}
use Rattle.af_base.specs.declared.state.FastState.{FastState}
use Rattle.af_base.specs.declared.state.Push.{Push}
use Rattle.af_base.specs.declared.state.Push.TheVariants as pushing
use Rattle.af_base.specs.Command.{code_of}
use Rattle.af_model.specs.declared.plain_calls.Poll.{Poll}
use Rattle.af_model.specs.declared.plain_calls.Poll.TheVariants as polling
use Rattle.af_model.specs.declared.plain_calls.Place.{Place}
use Rattle.af_model.specs.declared.plain_calls.Place.TheVariants.{Nowhere, Pending, Going, Held, Coming, Returned}
use Rattle.af_model.specs.declared.plain_calls.Move.{Move}
use Rattle.af_model.specs.declared.plain_calls.Move.TheVariants.{Send, SeeAck, Take}
use Rattle.af_model.specs.declared.plain_calls.Readiness.{Readiness}
use Rattle.af_model.specs.declared.plain_calls.QueueCall.{QueueCall}
use Rattle.af_model.specs.declared.plain_calls.QueueCall.TheVariants as call
use Rattle.af_model.specs.declared.plain_calls.QueueAnswer.{QueueAnswer}
use Rattle.af_model.specs.declared.plain_calls.QueueAnswer.TheVariants as answer
use Rattle.af_model.specs.StateQueue.{slots, slot_of, carries, word}
use Rattle.af_model.specs.Draft.{initial, attached, detached, draft_commanded}

-- an item may stand in a slot of this number
abbrev pub is_shelf : ℕ → Bool
is_shelf slot = nat_le 1 slot && nat_lt slot slots

abbrev pub may_attach : Readiness → ℕ → ℕ → Bool
may_attach r slot scale = r.editing && is_shelf slot && not (slice_index_or r.out slot false) && nat_le scale 4096 && nat_lt (slot_of r.draft slot).generation (2 ^ 62) && nat_lt r.draft.tracks_gen (2 ^ 62)

abbrev pub may_detach : Readiness → ℕ → Bool
may_detach r slot = r.editing && is_shelf slot && carries r.draft slot && nat_lt r.draft.tracks_gen (2 ^ 62)

-- a plain queue: the draft, whether it is to be pushed, whether a mutation is in progress and made an edit, the number of the last state pushed and that state,
-- the number of the state polled last, that state and the one before, and where the item of each slot is
pub record QueueState (P : Type 0) : Type 0 where
  pub draft : FastState
  pub dirty : Bool
  pub editing : Bool
  pub edited : Bool
  pub pushed : ℕ
  pub last : FastState
  pub number : ℕ
  pub current : Option FastState
  pub previous : Option FastState
  pub places : List (Place P)

module _ {P : Type 0} where
  abbrev pub place_at : List (Place P) → ℕ → Place P
  place_at places i = slice_index_or places i Nowhere

  -- the slot has an item that was attached and not taken back
  abbrev pub is_placed : Place P → Bool
  is_placed Nowhere = false
  is_placed _ = true

  -- the item that the observer holds
  abbrev pub held_of : Place P → Option P
  held_of (Held p) = Some p
  held_of _ = None

  -- the item that is in the mutator's hand
  abbrev pub returned_of : Place P → Option P
  returned_of (Returned p) = Some p
  returned_of _ = None

  -- the item of a detached slot: one that no push carried is in hand at once, and any other stays where it is
  abbrev pub let_go : Place P → Place P
  let_go (Pending p) = Returned p
  let_go place = place

  -- the item of a slot after a take back: one in hand is gone
  abbrev pub left : Place P → Place P
  left (Returned p) = Nowhere
  left place = place

  -- where the item of the slot i is after a push, after the acknowledgement was seen, and after a poll of the state x
  abbrev pub moved : Move → ℕ → Place P → Place P
  moved Send i (Pending p) = Going p
  moved SeeAck i (Coming p) = Returned p
  moved (Take x) i (Going p) = Held p
  moved (Take x) i (Held p) = if carries x i then Held p else Coming p
  moved _ i place = place

  -- where the items of the slots from i on are after a move
  abbrev pub moved_from : Move → ℕ → List (Place P) → List (Place P)
  moved_from m i [] = []
  moved_from m i (place ∷ places) = moved m i place ∷ moved_from m (i + 1) places

  -- a new queue: nothing was pushed, the draft is the first state, and no slot has an item
  abbrev pub new_queue : ℕ → QueueState P
  new_queue frames = record {
    draft = initial frames;
    dirty = false;
    editing = false;
    edited = false;
    pushed = 0;
    last = initial frames;
    number = 0;
    current = None;
    previous = None;
    places = replicate slots Nowhere;
  }

  -- what decides whether a call may be made
  abbrev pub readiness : QueueState P → Readiness
  readiness q = record { draft = q.draft; editing = q.editing; edited = q.edited; out = map is_placed q.places; pushed = q.pushed; number = q.number }

  -- edits are made within a mutation, an attach on a free slot and a detach on an attached one, and a push is made outside of a mutation. Each count has room
  abbrev pub is_allowed : Readiness → QueueCall P → Bool
  is_allowed r call.Begin = not r.editing
  is_allowed r (call.SetCommand c) = r.editing && nat_lt r.draft.cold_gen (2 ^ 62)
  is_allowed r (call.Attach slot mono scale track item) = may_attach r slot scale
  is_allowed r (call.Detach slot) = may_detach r slot
  is_allowed r (call.End did_modify) = r.editing && (did_modify || not r.edited)
  is_allowed r call.Push = not r.editing && nat_lt r.pushed (2 ^ 62)
  is_allowed r call.Acked = true
  is_allowed r (call.TakeBack slot) = is_shelf slot
  is_allowed r call.Poll = nat_lt r.number (2 ^ 62)

  -- the last push is acknowledged, or none was made
  abbrev pub is_acked : QueueState P → Bool
  is_acked q = q.number == q.pushed

  -- a look at the acknowledgement: if it is that of the last push, the items that come back are in hand
  abbrev pub after_look : QueueState P → QueueState P
  after_look q = if is_acked q then record q { places = moved_from SeeAck 0 q.places } else q

  abbrev pub push_answer : QueueState P → Push
  push_answer q = if not q.dirty then pushing.Clean else if is_acked q then pushing.Pushed (q.pushed + 1) else pushing.Busy (word q.number) (word q.pushed)

  -- a push that is made: the draft is the next state, and the items that were attached go with it
  abbrev pub shown : QueueState P → QueueState P
  shown q = record q { dirty = false; pushed = q.pushed + 1; last = q.draft; places = moved_from Send 0 q.places }

  abbrev pub after_push : QueueState P → QueueState P
  after_push q = if q.dirty && is_acked q then shown (after_look q) else q

  abbrev pub poll_answer : QueueState P → Poll
  poll_answer q = if is_acked q then (if q.pushed == 0 then polling.Nothing else polling.Same) else polling.New q.pushed

  -- a poll: if there is a new state it is current, the items that came with it are held, and those of slots that went off it come back
  abbrev pub after_poll : QueueState P → QueueState P
  after_poll q = if is_acked q then q else record q { number = q.pushed; current = Some q.last; previous = q.current; places = moved_from (Take q.last) 0 q.places }

  -- what a call that is allowed answers, and the state that it leaves
  abbrev pub allowed_step : QueueState P → QueueCall P → QueueAnswer P × QueueState P
  allowed_step q call.Begin = (answer.Done, record q { editing = true; edited = false })
  allowed_step q (call.SetCommand c) = (answer.Done, record q { draft = draft_commanded c q.draft; edited = q.edited || not (code_of c == code_of q.draft.command) })
  allowed_step q (call.Attach slot mono scale track item) = (answer.Done, record q { draft = attached slot mono scale track q.draft; edited = true; places = slice_set q.places slot (Pending item) })
  allowed_step q (call.Detach slot) = (answer.Done, record q { draft = detached slot q.draft; edited = true; places = slice_set q.places slot (let_go (place_at q.places slot)) })
  allowed_step q (call.End did_modify) = (answer.Done, record q { editing = false; edited = false; dirty = q.dirty || did_modify })
  allowed_step q call.Push = (answer.Pushed (push_answer q), after_push q)
  allowed_step q call.Acked = (answer.Acked (is_acked q), after_look q)
  allowed_step q (call.TakeBack slot) = (answer.TakenBack (returned_of (place_at q.places slot)), record q { places = slice_set q.places slot (left (place_at q.places slot)) })
  allowed_step q call.Poll = (answer.Polled (poll_answer q), after_poll q)

  -- a call that isn't allowed is given back, and changes nothing
  abbrev pub step : QueueState P → QueueCall P → QueueAnswer P × QueueState P
  step q c = if is_allowed (readiness q) c then allowed_step q c else (answer.NotAllowed c, q)

  -- the answers to a list of calls, in order
  abbrev pub answers_of : QueueState P → List (QueueCall P) → List (QueueAnswer P)
  answers_of q [] = []
  answers_of q (c ∷ cs) = (step q c).0 ∷ answers_of (step q c).1 cs

  -- the state that some calls leave
  abbrev pub state_after : QueueState P → List (QueueCall P) → QueueState P
  state_after q [] = q
  state_after q (c ∷ cs) = state_after (step q c).1 cs
