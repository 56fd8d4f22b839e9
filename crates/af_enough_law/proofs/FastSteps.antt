-- What an entry of the fast mixer changes of a run.
use Rattle.std.proofs.Common.{◌≡◌, ℕ, zero, suc, ◌+◌, ◌≤◌, ◌<◌, ◌==◌, ◌&&◌, if◌then◌else◌, Bool, true, false, true≢false, Option, Some, None, List, [], ◌∷◌, ◌++◌, length, map, fold, refl, sym, ap, ◌∙◌, arith, append_assoc, append-nil, eqb-true, eq-eqb}
use Rattle.af_enough_law.proofs.Common.{BlockTold, ClientEvent, EntrySeen, FastState, HandEvent, Item, LegalEntry, Marks, Moment, MutatorEvent, ObserverEvent, QueueTold, Run, ServerEvent, Session, TrackTold, by_client, by_hand, by_server, carries, client_does, client_list, client_of, cycle_events, cycle_frames, entry_slot, find, front_of, hand_does, is_shown, listed, mixed_track, mutator_does, observer_does, one, ones, played, poll_events, range_with_len, server_does, server_list, server_of, slot_playing, slot_of, slots, state_for, told_at, told_each, two, twos, with_cycle, with_cycles, with_mix, with_poll}
use Rattle.af_runs.specs.Runs.{shows_slot}

-- ## Blocks

abbrev more_told : List Moment → List Moment → List Moment
more_told told moments = fold (λ (sofar : List Moment) (m : Moment). m ∷ sofar) told moments

server_more : (told : List Moment) (es : List ServerEvent) → server_of (more_told told (map by_server es)) ≡ server_of told ++ es
server_more told [] = sym (append-nil (server_of told))
server_more told (e ∷ es) = server_more (by_server e ∷ told) es ∙ append_assoc (server_of told) (e ∷ []) es

server_client : (told : List Moment) (es : List ServerEvent) → client_of (more_told told (map by_server es)) ≡ client_of told
server_client told [] = refl
server_client told (e ∷ es) = server_client (by_server e ∷ told) es

client_more : (told : List Moment) (es : List ClientEvent) → client_of (more_told told (map by_client es)) ≡ client_of told ++ es
client_more told [] = sym (append-nil (client_of told))
client_more told (e ∷ es) = client_more (by_client e ∷ told) es ∙ append_assoc (client_of told) (e ∷ []) es

client_server : (told : List Moment) (es : List ClientEvent) → server_of (more_told told (map by_client es)) ≡ server_of told
client_server told [] = refl
client_server told (e ∷ es) = client_server (by_client e ∷ told) es

hand_client : (told : List Moment) (es : List HandEvent) → client_of (more_told told (map by_hand es)) ≡ client_of told
hand_client told [] = refl
hand_client told (e ∷ es) = hand_client (by_hand e ∷ told) es

hand_server : (told : List Moment) (es : List HandEvent) → server_of (more_told told (map by_hand es)) ≡ server_of told
hand_server told [] = refl
hand_server told (e ∷ es) = hand_server (by_hand e ∷ told) es

-- the lists of a block after its server, its client or its hand did more
pub server_does-server : (es : List ServerEvent) (b : BlockTold) → server_list (server_does es b) ≡ server_list b ++ es
server_does-server es b = server_more b.told es

pub server_does-client : (es : List ServerEvent) (b : BlockTold) → client_list (server_does es b) ≡ client_list b
server_does-client es b = server_client b.told es

pub client_does-client : (es : List ClientEvent) (b : BlockTold) → client_list (client_does es b) ≡ client_list b ++ es
client_does-client es b = client_more b.told es

pub client_does-server : (es : List ClientEvent) (b : BlockTold) → server_list (client_does es b) ≡ server_list b
client_does-server es b = client_server b.told es

pub hand_does-client : (es : List HandEvent) (b : BlockTold) → client_list (hand_does es b) ≡ client_list b
hand_does-client es b = hand_client b.told es

pub hand_does-server : (es : List HandEvent) (b : BlockTold) → server_list (hand_does es b) ≡ server_list b
hand_does-server es b = hand_server b.told es

-- ## The queue

pub observed-more : (es : List (ObserverEvent Item)) (told : QueueTold) → twos (observer_does es told) ≡ twos told ++ es
observed-more es [] = only es
  where
    only : (es : List (ObserverEvent Item)) → twos (observer_does es []) ≡ es
    only [] = refl
    only (e ∷ es) = ap (λ l. e ∷ l) (only es)
observed-more es (one a ∷ told) = observed-more es told
observed-more es (two b ∷ told) = ap (λ l. b ∷ l) (observed-more es told)

pub observed-ones : (es : List (ObserverEvent Item)) (told : QueueTold) → ones (observer_does es told) ≡ ones told
observed-ones es [] = only es
  where
    only : (es : List (ObserverEvent Item)) → ones (observer_does es []) ≡ []
    only [] = refl
    only (e ∷ es) = only es
observed-ones es (one a ∷ told) = ap (λ l. a ∷ l) (observed-ones es told)
observed-ones es (two b ∷ told) = observed-ones es told

pub mutated-more : (es : List (MutatorEvent Item)) (told : QueueTold) → twos (mutator_does es told) ≡ twos told
mutated-more es [] = only es
  where
    only : (es : List (MutatorEvent Item)) → twos (mutator_does es []) ≡ []
    only [] = refl
    only (e ∷ es) = only es
mutated-more es (one a ∷ told) = mutated-more es told
mutated-more es (two b ∷ told) = ap (λ l. b ∷ l) (mutated-more es told)

pub mutated-ones : (es : List (MutatorEvent Item)) (told : QueueTold) → ones (mutator_does es told) ≡ ones told ++ es
mutated-ones es [] = only es
  where
    only : (es : List (MutatorEvent Item)) → ones (mutator_does es []) ≡ es
    only [] = refl
    only (e ∷ es) = ap (λ l. e ∷ l) (only es)
mutated-ones es (one a ∷ told) = ap (λ l. a ∷ l) (mutated-ones es told)
mutated-ones es (two b ∷ told) = mutated-ones es told

-- ## The slot that plays a track

find_only : (p : ℕ → Bool) (a n i : ℕ) → a ≤ i → i < a + n → p i ≡ true → ((j : ℕ) → j < a + n → p j ≡ true → j ≡ i) → find p (range_with_len a n) ≡ Some i
find_only p a zero i low high is only = absurd (let z : ⊥ = omega (arith, low, high) in z)
find_only p a (suc n) i low high is only = by (p a) refl (λ less. find_only p (a + 1) n i less (omega (arith, high)) is (λ j lt holds. only j (omega (arith, lt)) holds))
  where
    not_first : p a ≡ false → a + 1 ≤ i
    not_first off = let differ : a ≡ i → ⊥ = λ same. true≢false (sym is ∙ ap p (sym same) ∙ off) in omega (arith, low, differ)

    by : (b : Bool) → p a ≡ b → (a + 1 ≤ i → find p (range_with_len (a + 1) n) ≡ Some i) → (if b then Some a else find p (range_with_len (a + 1) n)) ≡ Some i
    by true holds more = ap Some (only a (omega arith) holds)
    by false off more = more (not_first off)

pub slot_only : (x : FastState) (e : EntrySeen) (track i : ℕ) → i < slots → carries x i ≡ true → (slot_of x i).track ≡ track → ((j : ℕ) → j < slots → carries x j ≡ true → (slot_of x j).track ≡ track → j ≡ i)
    → is_shown (entry_slot e.entry i).seen ≡ true → slot_playing x e.entry track ≡ Some i
slot_only x e track i low carried is only shown =
    find_only (λ j. shows_slot x e.entry j && ((slot_of x j).track == track)) 0 slots i (omega arith) (omega (arith, low))
    (ap (λ (b : Bool × Bool × Bool). (b.0 && b.1) && b.2) (λ z. (carried z, shown z, eq-eqb (slot_of x i).track track is z)))
    (λ j lt holds. only j (omega (arith, lt)) (parts (carries x j) (is_shown (entry_slot e.entry j).seen) ((slot_of x j).track == track) holds).0
    (eqb-true (slot_of x j).track track (parts (carries x j) (is_shown (entry_slot e.entry j).seen) ((slot_of x j).track == track) holds).1))
  where
    parts : (a b c : Bool) → ((a && b) && c) ≡ true → (a ≡ true) × (c ≡ true)
    parts true true true e = (refl, refl)
    parts true true false e = absurd (true≢false (sym e))
    parts true false c e = absurd (true≢false (sym e))
    parts false b c e = absurd (true≢false (sym e))

-- ## An entry

pub cycle_states : (s : Session) (run : Run) (e : EntrySeen) → (with_cycle s run e).states ≡ run.states
unfolding with_poll with_mix
cycle_states s run e = refl

pub cycles_states : (s : Session) (es : List EntrySeen) (run : Run) → (with_cycles s es run).states ≡ run.states
cycles_states s [] run = refl
cycles_states s (e ∷ es) run = cycles_states s es (with_cycle s run e) ∙ cycle_states s run e

-- a legal entry's state was pushed
pub entry_pushed : (s : Session) (marks : Marks) (run : Run) (e : EntrySeen) → LegalEntry s marks (with_poll s e.entry.state run) e → e.entry.state ≤ length run.states
unfolding with_poll
entry_pushed s marks run e legal = legal.cycle.pushed

-- a cycle leaves the draft
pub cycle_draft : (s : Session) (run : Run) (e : EntrySeen) → (with_cycle s run e).normal.draft ≡ run.normal.draft
unfolding with_poll with_mix
cycle_draft s run e = refl

pub cycle_queue : (s : Session) (run : Run) (e : EntrySeen) → twos (with_cycle s run e).queue ≡ twos run.queue ++ poll_events (cycle_frames s) run.states run.current e.entry.state
unfolding with_poll with_mix
cycle_queue s run e = observed-more (poll_events (cycle_frames s) run.states run.current e.entry.state) run.queue

pub cycle_track : (s : Session) (run : Run) (e : EntrySeen) (track : ℕ) → track < length run.tracks
    → told_at (with_cycle s run e) track ≡ mixed_track s (state_for s (with_poll s e.entry.state run) e.entry.state) e track (told_at run track)
unfolding with_poll with_mix
cycle_track s run e track low = told_each (mixed_track s (state_for s (with_poll s e.entry.state run) e.entry.state) e) run track low

-- the stream block of a track that a slot plays
pub mixed_stream : (s : Session) (x : FastState) (e : EntrySeen) (track i : ℕ) (t : TrackTold) → slot_playing x e.entry track ≡ Some i → (mixed_track s x e track t).stream ≡ played (cycle_frames s) e i t.stream
mixed_stream s x e track i t is = ap (λ (o : Option ℕ). (elim o as (λ o. TrackTold) [ None ↦ t | Some i ↦ record t { stream = played (cycle_frames s) e i t.stream } ]).stream) is

pub played_server : (asked : ℕ) (e : EntrySeen) (i : ℕ) (b : BlockTold) → server_list (played asked e i b) ≡ server_list b ++ cycle_events asked (listed b) (entry_slot e.entry i) (front_of asked (listed b) (entry_slot e.entry i))
played_server asked e i b = server_does-server (cycle_events asked (listed b) (entry_slot e.entry i) (front_of asked (listed b) (entry_slot e.entry i))) b

pub played_client : (asked : ℕ) (e : EntrySeen) (i : ℕ) (b : BlockTold) → client_list (played asked e i b) ≡ client_list b
played_client asked e i b = server_does-client (cycle_events asked (listed b) (entry_slot e.entry i) (front_of asked (listed b) (entry_slot e.entry i))) b
