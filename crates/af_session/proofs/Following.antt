-- How what a run shows follows the cycles of the fast mixer.
use Rattle.std.proofs.Common.{◌≡◌, ℕ, ◌+◌, ◌-◌, ◌<◌, ◌≤◌, if◌then◌else◌, Bool, true, false, All, List, [], ◌∷◌, ◌++◌, length, map, Option, Some, None, refl, sym, ap, subst, ◌∙◌, append-nil, append_assoc, arith}
use Rattle.af_session.proofs.Common.{AddsCycle, Adopts, All-head, All-tail, ClientCall, Cycle, CycleEntry, EntryUsed, FastState, Follows, Frame, HasNotedOn, HasPlaces, IsInOrder, IsTally, IsWhole, LieWithin, Met, MixerState, RoundNoted, ServerState, SessionState, Shown, Take, Tallied, Turn, UseUpTo, Writes, entry_at, flat_map, flat_map-append, flat_map-cons, frames_written, get_or_push, is_mixed, is_over, last_used, length_push, map-append, mix, most_steps, no_entry, polled_states, shown_at, shows, state_more, state_of, takes_of, takes_stay, use_of, with_entry, with_written}
use Rattle.af_model.specs.declared.plain_calls.Poll.{Poll}
use Rattle.af_model.specs.declared.plain_calls.Poll.TheVariants.{Nothing, Same, New}
use Rattle.af_model.specs.declared.states.ObserverEvent.{ObserverEvent}
use Rattle.af_model.specs.declared.states.ObserverEvent.TheVariants.{SawNext, Ack}
use Rattle.af_model.specs.declared.states.ObserverEvent.TheVariants as observer
use Rattle.af_stateq.specs.Answers.{WasPolled}
use Rattle.af_stateq.specs.Observes.{Observes}
use Rattle.af_link.specs.declared.names.StreamNames.{StreamNames}
use Rattle.af_session.proofs.FastAdds.{MixDoes, mix_enters, mix_idles}

-- the frames that an entry wrote, at this length of a cycle: those of its mix, from the frames of its log
abbrev entry_written : ℕ → List Frame → CycleEntry → List Frame
entry_written len frames entry = frames_written entry.cycle (mix (takes_of frames entry) len)

-- ## States

-- entries that name none of the later states use the same states if more follow
pub uses_stay : (xs more : List FastState) (n : ℕ) (entries : List CycleEntry) → n ≤ length xs → UseUpTo n entries → map (use_of (xs ++ more)) entries ≡ map (use_of xs) entries
uses_stay xs more n [] few up = refl
uses_stay xs more n (entry ∷ entries) few up =
    let here : state_of (xs ++ more) entry.state ≡ state_of xs entry.state = state_more xs more entry.state (let le = up.0 in omega arith) in
    λ i. record { entry = entry; state = here i } ∷ uses_stay xs more n entries few up.1 i

-- events behind others add the states that they poll
polled_more : (rest : List (ObserverEvent ServerState)) (more : List FastState) → ((y : FastState) → polled_states y rest ≡ more) → (y : FastState) (es : List (ObserverEvent ServerState)) → polled_states y (es ++ rest) ≡ polled_states y es ++ more
polled_more rest more h y [] = h y
polled_more rest more h y (SawNext k (Some x) items ∷ es) = polled_more rest more h x es
polled_more rest more h y (SawNext k None items ∷ es) = polled_more rest more h y es
polled_more rest more h y (Ack k items ∷ es) = ap (λ (l : List FastState). y ∷ l) (polled_more rest more h y es)
polled_more rest more h y (observer.Learn c ∷ es) = polled_more rest more h y es

-- the states that a mixer polled
abbrev states_at : FastState → MixerState → List FastState
states_at first m = polled_states first m.observer.past.events

-- the mixer has polled some states more, and is otherwise as it was
record PollsMore (first : FastState) (m m' : MixerState) : Type 0 where
  more : List FastState
  states : states_at first m' ≡ states_at first m ++ more
  frames : m'.frames ≡ m.frames
  log : m'.log ≡ m.log

-- a poll adds the states that it found
poll_more : (first : FastState) (o o' : Observes ServerState StreamNames) (poll : Poll) (s s' : ℕ) → WasPolled o poll o' s s' → (more : List FastState) × (polled_states first o'.past.events ≡ polled_states first o.past.events ++ more)
poll_more first o o' Nothing s s' (none, is, stepped) =
    ([], ap (λ (y : Observes ServerState StreamNames). polled_states first y.past.events) is ∙ polled_more (SawNext o.past.number None [] ∷ []) [] (λ _. refl) first o.past.events)
poll_more first o o' Same s s' (some, is, stepped) =
    ([], ap (λ (y : Observes ServerState StreamNames). polled_states first y.past.events) is ∙ polled_more (SawNext o.past.number None [] ∷ []) [] (λ _. refl) first o.past.events)
poll_more first o o' (New number) s s' (next, (x, took), stepped) = (
  x ∷ [],
  ap (λ (y : Observes ServerState StreamNames). polled_states first y.past.events) took.2
      ∙ ap (polled_states first) (append_assoc o.past.events (SawNext (o.past.number + 1) (Some x) took.0 ∷ []) (Ack (o.past.number + 1) took.1 ∷ []))
      ∙ polled_more (SawNext (o.past.number + 1) (Some x) took.0 ∷ Ack (o.past.number + 1) took.1 ∷ []) (x ∷ []) (λ _. refl) first o.past.events,
)

-- after a poll the mixer has polled some states more
adopt_more : (first : FastState) (m p : MixerState) → Adopts m p → PollsMore first m p
adopt_more first m p adopts = by_over (is_over m) refl
  where
    by_over : (over : Bool) → is_over m ≡ over → PollsMore first m p
    by_over true is = record {
      more = [];
      states = ap (states_at first) (adopts.rests is) ∙ sym (append-nil (states_at first m));
      frames = ap (λ (y : MixerState). y.frames) adopts.same;
      log = ap (λ (y : MixerState). y.log) adopts.same;
    }
    by_over false is =
        let poll = adopts.polls is in
        let more = poll_more first m.observer p.observer poll.0 poll.1 poll.2 poll.3 in
        record {
          more = more.0;
          states = more.1;
          frames = ap (λ (y : MixerState). y.frames) adopts.same;
          log = ap (λ (y : MixerState). y.log) adopts.same;
        }

-- the meetings leave the states that the mixer polled
meet_more : (first : FastState) (a b : SessionState) → Met a b → PollsMore first a.fast b.fast
meet_more first a b met = record {
  more = [];
  states = ap (λ (y : MixerState). states_at first y) met.ends.fast ∙ polled_more (observer.Learn (length a.normal.mutator.past.events) ∷ []) [] (λ _. refl) first a.fast.observer.past.events;
  frames = ap (λ (y : MixerState). y.frames) met.ends.fast;
  log = ap (λ (y : MixerState). y.log) met.ends.fast;
}

-- the entries of a mixer in order use no later states than it polled
pub shows_more : (xs more : List FastState) (len tracks : ℕ) (calls : List (List (List ClientCall))) (turns : List (Option Turn)) (frames : List Frame) (n : ℕ) (entries : List CycleEntry) → n ≤ length xs → UseUpTo n entries
    → shows (xs ++ more) len tracks calls turns frames entries ≡ shows xs len tracks calls turns frames entries
unfolding shows
shows_more xs more len tracks calls turns frames n entries few up =
    let before : Shown = shows xs len tracks calls turns frames entries in
    ap (λ (used : List EntryUsed). record before { entries = used }) (uses_stay xs more n entries few up)

-- a mixer that polled some states more shows the same of its rounds
shown_more : (first : FastState) (tracks : ℕ) (rounds : List RoundNoted) (m m' : MixerState) → IsInOrder m → PollsMore first m m' → shown_at first tracks rounds m' ≡ shown_at first tracks rounds m
shown_more first tracks rounds m m' order p =
    let calls = map (λ (r : RoundNoted). r.calls) rounds in
    let turns = map (λ (r : RoundNoted). r.turn) rounds in
    let few : last_used m.log.entries ≤ length (states_at first m) = let low = order.uses.low in omega (arith, order.observer.told.counted first) in
    (λ i. shows (p.states i) (p.frames i) tracks calls turns (p.log i).frames (p.log i).entries)
    ∙ shows_more (states_at first m) p.more m.frames tracks calls turns m.log.frames (last_used m.log.entries) m.log.entries few order.uses.used

-- a mixer shows the same of its rounds after a poll
pub shown_adopted : (first : FastState) (tracks : ℕ) (rounds : List RoundNoted) (m p : MixerState) → IsInOrder m → Adopts m p → shown_at first tracks rounds p ≡ shown_at first tracks rounds m
shown_adopted first tracks rounds m p order adopts = shown_more first tracks rounds m p order (adopt_more first m p adopts)

-- a mixer shows the same of its rounds after the meetings
pub shown_met : (first : FastState) (tracks : ℕ) (rounds : List RoundNoted) (a b : SessionState) → IsInOrder a.fast → Met a b → shown_at first tracks rounds b.fast ≡ shown_at first tracks rounds a.fast
shown_met first tracks rounds a b order met = shown_more first tracks rounds a.fast b.fast order (meet_more first a b met)

-- ## Frames written

-- a cycle writes the same frames if the frames of its mix are the same
same_written : (cycle : Cycle) (xs ys : List Frame) → (is_mixed cycle ≡ true → xs ≡ ys) → frames_written cycle xs ≡ frames_written cycle ys
same_written cycle xs ys same = by_mixed (is_mixed cycle) same
  where
    by_mixed : (mixed : Bool) → (mixed ≡ true → xs ≡ ys) → (if mixed then xs else []) ≡ (if mixed then ys else [])
    by_mixed true h = h refl
    by_mixed false h = refl

-- frames that are added to a log leave the frames that an entry wrote as they were
entry_written_stays : (len : ℕ) (frames more : List Frame) (entry : CycleEntry) → LieWithin frames entry → entry_written len (frames ++ more) entry ≡ entry_written len frames entry
entry_written_stays len frames more entry within = same_written entry.cycle (mix (takes_of (frames ++ more) entry) len) (mix (takes_of frames entry) len)
    (λ mixed. ap (λ (takes : List Take). mix takes len) (takes_stay frames more entry within mixed))

-- frames that are added to a log leave the frames that all its entries wrote as they were
written_stays : (len : ℕ) (frames more : List Frame) (entries : List CycleEntry) → All (LieWithin frames) entries → flat_map (entry_written len (frames ++ more)) entries ≡ flat_map (entry_written len frames) entries
written_stays len frames more [] all = refl
written_stays len frames more (entry ∷ entries) all =
    flat_map-cons (entry_written len (frames ++ more)) entry entries
    ∙ ap (λ (out : List Frame). out ++ flat_map (entry_written len (frames ++ more)) entries) (entry_written_stays len frames more entry (All-head (LieWithin frames) entry entries all))
    ∙ ap (λ (out : List Frame). entry_written len frames entry ++ out) (written_stays len frames more entries (All-tail (LieWithin frames) entry entries all))
    ∙ sym (flat_map-cons (entry_written len frames) entry entries)

-- ## A mix

-- what a mixer shows has the frames of its cycles
shown_frames : (first : FastState) (tracks : ℕ) (rounds : List RoundNoted) (m : MixerState) → (shown_at first tracks rounds m).frames ≡ m.frames
unfolding shows
shown_frames first tracks rounds m = refl

-- a run with one entry more shows what it did, the entry and the frames of its mix
shows_entry : (states : List FastState) (len tracks : ℕ) (calls : List (List (List ClientCall))) (turns : List (Option Turn)) (frames more : List Frame) (entries : List CycleEntry) (entry : CycleEntry) (state : Option FastState) (out : List Frame)
    → All (LieWithin frames) entries → state_of states entry.state ≡ state → entry_written len (frames ++ more) entry ≡ out
    → shows states len tracks calls turns (frames ++ more) (entries ++ entry ∷ []) ≡ with_written (with_entry (shows states len tracks calls turns frames entries) (record { entry = entry; state = state })) out
unfolding shows
shows_entry states len tracks calls turns frames more entries entry state out within is wrote =
    let before : Shown = shows states len tracks calls turns frames entries in
    let used : map (use_of states) (entries ++ entry ∷ []) ≡ before.entries ++ record { entry = entry; state = state } ∷ [] =
    map-append (use_of states) entries (entry ∷ []) ∙ (λ i. map (use_of states) entries ++ record { entry = entry; state = is i } ∷ []) in
    let alone : flat_map (entry_written len (frames ++ more)) (entry ∷ []) ≡ out = flat_map-cons (entry_written len (frames ++ more)) entry [] ∙ append-nil (entry_written len (frames ++ more) entry) ∙ wrote in
    let written : flat_map (entry_written len (frames ++ more)) (entries ++ entry ∷ []) ≡ before.written ++ out =
    flat_map-append (entry_written len (frames ++ more)) entries (entry ∷ [])
    ∙ ap (λ (xs : List Frame). flat_map (entry_written len (frames ++ more)) entries ++ xs) alone
    ∙ ap (λ (xs : List Frame). xs ++ out) (written_stays len frames more entries within) in
    λ i. record before { entries = used i; written = written i }

-- the entry that a cycle added is the last of the log
pub last_entry : (m m' : MixerState) (entry : CycleEntry) → AddsCycle m m' entry → entry_at m'.log.entries (length m'.log.entries - 1) ≡ entry
last_entry m m' entry a =
    ap (λ (es : List CycleEntry). entry_at es (length es - 1)) a.entries
    ∙ get_or_push m.log.entries entry no_entry (length (m.log.entries ++ entry ∷ []) - 1) (omega (arith, length_push m.log.entries entry))

-- a cycle that adds an entry shows what the mixer did, the entry and the frames of its mix
pub shown_added : (first : FastState) (tracks : ℕ) (rounds : List RoundNoted) (m m' : MixerState) (entry : CycleEntry) (out out' : List Frame) → IsInOrder m → IsWhole m.log → length out ≡ m.frames → m'.frames ≡ m.frames
    → AddsCycle m m' entry → Writes m' entry out out'
    → shown_at first tracks rounds m' ≡ with_written (with_entry (shown_at first tracks rounds m) (record { entry = entry; state = m'.observer.current })) (frames_written entry.cycle out')
shown_added first tracks rounds m m' entry out out' order whole long sizes a w =
    let calls = map (λ (r : RoundNoted). r.calls) rounds in
    let turns = map (λ (r : RoundNoted). r.turn) rounds in
    let states : List FastState = states_at first m in
    let same : states_at first m' ≡ states = ap (λ (o : Observes ServerState StreamNames). polled_states first o.past.events) a.takes.observer in
    let taken = a.takes.grown in
    let frames : List Frame = m.log.frames ++ taken.0 in
    let state : state_of states entry.state ≡ m'.observer.current = ap (state_of states) a.state ∙ order.observer.told.current first ∙ sym (ap (λ (o : Observes ServerState StreamNames). o.current) a.takes.observer) in
    let wrote : entry_written m.frames frames entry ≡ frames_written entry.cycle out' =
    same_written entry.cycle (mix (takes_of frames entry) m.frames) out' (λ mixed. (λ i. mix (takes_of (sym taken.1 i) entry) (sym long i)) ∙ sym (w.0 mixed)) in
    (λ i. shows (same i) (sizes i) tracks calls turns (taken.1 i) (a.entries i))
    ∙ shows_entry states m.frames tracks calls turns m.log.frames taken.0 m.log.entries entry m'.observer.current (frames_written entry.cycle out') whole state wrote

-- a cycle that adds no entry shows the same
pub shown_still : (first : FastState) (tracks : ℕ) (rounds : List RoundNoted) (m m' : MixerState) → m' ≡ record m { adopted = false } → shown_at first tracks rounds m' ≡ shown_at first tracks rounds m
shown_still first tracks rounds m m' same = ap (shown_at first tracks rounds) same

-- ## Cycles

-- a tally follows a cycle if it follows the mix of the cycle
pub follows_cycle : (s : SessionState) (p : MixerState) (met : SessionState) (m' : MixerState) (x y : Tallied) → IsInOrder s.fast → IsInOrder p → Adopts s.fast p → Met (record s { fast = p }) met → Follows met.fast m' x y → Follows s.fast m' x y
follows_cycle s p met m' x y order polled adopts meets mixes = λ first tracks rounds is.
    mixes first tracks rounds
    (subst (λ (run : Shown). IsTally run x) (sym (shown_met first tracks rounds (record s { fast = p }) met polled meets ∙ shown_adopted first tracks rounds s.fast p order adopts)) is)

-- ## A call of mix

-- a mix after which the log is as long leaves all but a mark as it was
is_still : (m m' : MixerState) (out out' : List Frame) (answer : Cycle) → MixDoes m m' out out' answer → length m'.log.entries ≤ length m.log.entries
    → m' ≡ record m { adopted = false }
is_still m m' out out' answer (mix_idles same dry) as_long = same
is_still m m' out out' answer (mix_enters entry is a w) as_long = absurd (omega (arith, as_long, ap length a.entries ∙ length_push m.log.entries entry))

-- a tally that notes the entry that was added, and the frames that it wrote, follows the mix
pub follows_added : (m m' : MixerState) (out out' : List Frame) (answer : Cycle) (x y z : Tallied) (steps : ℕ) → MixDoes m m' out out' answer
    → length m.log.entries < length m'.log.entries → IsInOrder m → IsWhole m.log → length out ≡ m.frames → m'.frames ≡ m.frames
    → steps ≤ most_steps m.frames m.observer.current
    → ((run : Shown) → steps ≤ most_steps run.frames m'.observer.current → IsTally run x → IsTally (with_entry run (record { entry = entry_at m'.log.entries (length m'.log.entries - 1); state = m'.observer.current })) y)
    → ((run : Shown) → IsTally run y → IsTally (with_written run (frames_written answer out')) z) → Follows m m' x z
follows_added m m' out out' answer x y z steps (mix_idles same dry) longer order whole long sizes few first second =
    absurd (omega (arith, longer, ap (λ (y : MixerState). length y.log.entries) same))
follows_added m m' out out' answer x y z steps (mix_enters entry is a w) longer order whole long sizes few first second = λ head tracks rounds tally.
    let run : Shown = shown_at head tracks rounds m in
    let same_state : m'.observer.current ≡ m.observer.current = ap (λ (o : Observes ServerState StreamNames). o.current) a.takes.observer in
    let within : steps ≤ most_steps run.frames m'.observer.current =
    subst (λ (x : ℕ × Option FastState). steps ≤ most_steps x.0 x.1) (λ i. (sym (shown_frames head tracks rounds m) i, sym same_state i)) few in
    let noted = second (with_entry run (record { entry = entry_at m'.log.entries (length m'.log.entries - 1); state = m'.observer.current }))
    (first run within tally) in
    subst (λ (r : Shown). IsTally r z)
    ((λ i. with_written (with_entry run (record { entry = last_entry m m' entry a i; state = m'.observer.current })) (frames_written (is i) out'))
    ∙ sym (shown_added head tracks rounds m m' entry out out' order whole long sizes a w)) noted

-- a tally follows a mix that adds no entry, and has its places
pub noted_still : (m m' : MixerState) (out out' : List Frame) (answer : Cycle) (x : Tallied) → MixDoes m m' out out' answer
    → length m'.log.entries ≤ length m.log.entries → HasNotedOn m m' x x
noted_still m m' out out' answer x does as_long = let still = is_still m m' out out' answer does as_long in record {
  follows = λ first tracks rounds is. subst (λ (r : Shown). IsTally r x) (sym (shown_still first tracks rounds m m' still)) is;
  places = λ n tracks p. subst (λ (y : MixerState). HasPlaces n tracks (length y.log.entries) x) (sym still) p;
}
