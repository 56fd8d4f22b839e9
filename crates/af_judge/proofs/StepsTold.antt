-- What is kept of a block of a run after each step of its parties.
use Rattle.std.proofs.Common.{◌≡◌, ℕ, ◌-◌, ◌==◌, Bool, true, false, if◌then◌else◌, is_some, fold, List, [], ◌∷◌, ◌++◌, length, take, drop, refl, sym, ap, ◌∙◌, subst, arith, append-nil}
use Rattle.af_judge.proofs.Common.{BlockTold, ClientEvent, CommandLook, Seen, ServerEvent, ServerKept, Shape, SlotEntry, events_behind_look, as_slot, client_does, client_list, command_events, count_seen, cycle_events, drop_all, fold-append, front_of, hand_list, kept, listed, look_events, meets, meets_flag, server_begins, server_does, server_keeps, server_kept, server_list, shows_command, stream_met, take_all, took}
use Rattle.af_base.specs.declared.event.ClientEvent.TheVariants as client
use Rattle.af_base.specs.declared.event.HandEvent.TheVariants as hand
use Rattle.af_base.specs.declared.event.ServerEvent.TheVariants as server
use Rattle.af_base.specs.declared.seen.Seen.TheVariants as seen
use Rattle.af_judge.specs.declared.words_judge.Taken.{Taken}
use Rattle.af_judge.specs.Blocks.{AllFollow, BlockJudged, IsBlockOf, WholeTakes, client_more, commanded_told, hand_met, hand_more, parties_met, placed_from, played_told, server_more, servers_met, taken_in}
use Rattle.af_judge.proofs.BlocksTold.{block-same, client_told, hand_told, server_told}

-- a judge's block by what is told
abbrev kept_of : Bool → BlockTold → BlockJudged
kept_of lawful b = record { shape = b.shape; lawful = lawful; client = client_list b; server = server_list b; hand = hand_list b; released = b.released; taken = taken_in b.shape (server_begins b.shape) (server_list b) b.taken }

kept-is : (j : BlockJudged) (b : BlockTold) → IsBlockOf j b → j ≡ kept_of j.lawful b
kept-is j b h = block-same j (kept_of j.lawful b) h.shape h.client h.server h.hand h.released h.taken

kept-of : (j : BlockJudged) (b : BlockTold) → IsBlockOf j b → IsBlockOf (kept_of j.lawful b) b
kept-of j b h = record { shape = refl; client = refl; server = refl; hand = refl; released = refl; taken = refl; whole = h.whole; follow = h.follow }

-- ## Looks at a stream block

none-by : (words : List ℕ) → length words ≡ 0 → words ≡ []
none-by [] e = refl
none-by (w ∷ words) e = absurd (let x : ⊥ = omega (arith, e) in x)

-- what is tallied takes nothing
tally-whole : (none : Bool) (missing : ℕ) (words : List ℕ) → words ≡ [] → WholeTakes (if none then [] else server.Tally missing ∷ server.SetFlags 1 ∷ []) words
tally-whole true missing words e = e
tally-whole false missing words e = e

tally-follow : (none : Bool) (missing : ℕ) (last : Bool) → AllFollow last (if none then [] else server.Tally missing ∷ server.SetFlags 1 ∷ [])
tally-follow true missing last = tt
tally-follow false missing last = (tt, (tt, tt))

tally-taken : (none : Bool) (missing : ℕ) (shape : Shape) (k : ServerKept) (words : List ℕ) → taken_in shape k (if none then [] else server.Tally missing ∷ server.SetFlags 1 ∷ []) words ≡ []
tally-taken true missing shape k words = refl
tally-taken false missing shape k words = refl

-- what follows a look takes the words shown
after-whole : (asked : ℕ) (was_shut : Bool) (sight : Seen) (words : List ℕ) → length words ≡ count_seen sight → WholeTakes (events_behind_look asked was_shut sight) words
after-whole asked was_shut (seen.Frames count) words long = ((let e = long in omega (arith, e)), tally-whole (asked - count == 0) (asked - count) (drop count words) (drop_all count words (let e = long in omega (arith, e))))
after-whole asked was_shut seen.Empty words long = tally-whole (asked == 0) asked words (none-by words long)
after-whole asked true (seen.Shut front rear) words long = none-by words long
after-whole asked false (seen.Shut front rear) words long = none-by words long
after-whole asked was_shut seen.Absent words long = none-by words long
after-whole asked was_shut (seen.Flushed dropped) words long = none-by words long

after-follow : (asked : ℕ) (was_shut : Bool) (sight : Seen) (last : Bool) → AllFollow last (events_behind_look asked was_shut sight)
after-follow asked was_shut (seen.Frames count) last = (tt, tally-follow (asked - count == 0) (asked - count) false)
after-follow asked was_shut seen.Empty last = tally-follow (asked == 0) asked last
after-follow asked true (seen.Shut front rear) last = tt
after-follow asked false (seen.Shut front rear) last = (tt, tt)
after-follow asked was_shut seen.Absent last = tt
after-follow asked was_shut (seen.Flushed dropped) last = tt

nothing-placed : (place : ℕ) (words : List ℕ) → length words ≡ 0 → placed_from place words ≡ []
nothing-placed place words long = ap (placed_from place) (none-by words long)

after-taken : (shape : Shape) (k : ServerKept) (asked : ℕ) (was_shut : Bool) (sight : Seen) (words : List ℕ) → length words ≡ count_seen sight → placed_from k.consumed words ≡ taken_in shape k (events_behind_look asked was_shut sight) words
after-taken shape k asked was_shut (seen.Frames count) words long =
    sym (ap (λ (ts : List Taken). placed_from k.consumed (take count words) ++ ts) (tally-taken (asked - count == 0) (asked - count) shape (server_keeps shape k (server.Take count)) (drop count words))
    ∙ (append-nil (placed_from k.consumed (take count words)) ∙ ap (placed_from k.consumed) (take_all count words (let e = long in omega (arith, e)))))
after-taken shape k asked was_shut seen.Empty words long = nothing-placed k.consumed words long ∙ sym (tally-taken (asked == 0) asked shape k words)
after-taken shape k asked true (seen.Shut front rear) words long = nothing-placed k.consumed words long
after-taken shape k asked false (seen.Shut front rear) words long = nothing-placed k.consumed words long
after-taken shape k asked was_shut seen.Absent words long = nothing-placed k.consumed words long
after-taken shape k asked was_shut (seen.Flushed dropped) words long = nothing-placed k.consumed words long

-- a look takes nothing
abbrev look_by : Bool → Seen → (flush rear front : ℕ) → List ServerEvent
look_by was_shut sight flush rear front = if was_shut then [] else look_events sight flush rear front

look-whole : (was_shut : Bool) (sight : Seen) (flush rear front : ℕ) (more : List ServerEvent) (words : List ℕ) → WholeTakes more words → WholeTakes (look_by was_shut sight flush rear front ++ more) words
look-whole true sight flush rear front more words h = h
look-whole false (seen.Flushed dropped) flush rear front more words h = h
look-whole false _ flush rear front more words h = h

look-follow : (was_shut : Bool) (sight : Seen) (flush rear front : ℕ) (more : List ServerEvent) → ((last : Bool) → AllFollow last more) → (last : Bool) → AllFollow last (look_by was_shut sight flush rear front ++ more)
look-follow true sight flush rear front more h last = h last
look-follow false (seen.Flushed dropped) flush rear front more h last = (tt, (tt, (tt, (refl, h false))))
look-follow false _ flush rear front more h last = (tt, (tt, (tt, h true)))

look-taken : (shape : Shape) (k : ServerKept) (was_shut : Bool) (sight : Seen) (flush rear front : ℕ) (more : List ServerEvent) (words : List ℕ)
    → taken_in shape (fold (server_keeps shape) k (look_by was_shut sight flush rear front)) more words ≡ taken_in shape k (look_by was_shut sight flush rear front ++ more) words
look-taken shape k true sight flush rear front more words = refl
look-taken shape k false (seen.Flushed dropped) flush rear front more words = refl
look-taken shape k false _ flush rear front more words = refl

-- a mixer's look at a stream block, with as many words as it shows
pub played_kept : (j : BlockJudged) (b : BlockTold) (asked : ℕ) (slot : SlotEntry) (words : List ℕ) → IsBlockOf j b → length words ≡ count_seen slot.seen
    → IsBlockOf (played_told asked slot words j) (took words (server_does (cycle_events asked (listed b) slot (front_of asked (listed b) slot)) b))
played_kept j b asked slot words h long =
    let s = listed b in
    let front = front_of asked s slot in
    let shut = is_some (kept s).shut in
    let k = server_kept b.shape (server_list b) in
    let gained = server_keeps b.shape k (server.SawGain slot.gains) in
    let look = look_by shut slot.seen slot.flush slot.rear front in
    let more = events_behind_look asked shut slot.seen in
    let es = cycle_events asked s slot front in
    let whole : WholeTakes es words = look-whole shut slot.seen slot.flush slot.rear front more words (after-whole asked shut slot.seen words long) in
    let follow : (last : Bool) → AllFollow last es = λ last. (tt, look-follow shut slot.seen slot.flush slot.rear front more (after-follow asked shut slot.seen) false) in
    let place : (server_kept b.shape (server_list b ++ server.SawGain slot.gains ∷ look)).consumed ≡ (fold (server_keeps b.shape) gained look).consumed =
    ap (λ (x : ServerKept). x.consumed) (fold-append (server_keeps b.shape) (server_begins b.shape) (server_list b) (server.SawGain slot.gains ∷ look)) in
    let is : placed_from (server_kept b.shape (server_list b ++ server.SawGain slot.gains ∷ look)).consumed words ≡ taken_in b.shape k es words =
    ap (λ (n : ℕ). placed_from n words) place ∙ (after-taken b.shape (fold (server_keeps b.shape) gained look) asked shut slot.seen words long ∙ look-taken b.shape gained shut slot.seen slot.flush slot.rear front more words) in
    let here = server_told (kept_of j.lawful b) b es words (placed_from (server_kept b.shape (server_list b ++ server.SawGain slot.gains ∷ look)).consumed words) (kept-of j b h) whole follow is in
    let P : BlockJudged → Type 0 = λ x. IsBlockOf (played_told asked slot words x) (took words (server_does es b)) in
    subst P (sym (kept-is j b h)) here

-- ## Looks at a command block

abbrev two_by : Bool → (code argument : ℕ) → List ℕ
two_by takes code argument = if takes then code ∷ argument ∷ [] else []

abbrev take_by : Bool → List ServerEvent
take_by takes = if takes then server.Take 2 ∷ [] else []

two-whole : (takes : Bool) (code argument : ℕ) → WholeTakes (take_by takes) (two_by takes code argument)
two-whole true code argument = (omega arith, refl)
two-whole false code argument = refl

two-follow : (takes last : Bool) → AllFollow last (take_by takes)
two-follow true last = (tt, tt)
two-follow false last = tt

two-taken : (takes : Bool) (shape : Shape) (k : ServerKept) (code argument : ℕ) → placed_from k.consumed (two_by takes code argument) ≡ taken_in shape k (take_by takes) (two_by takes code argument)
two-taken true shape k code argument = refl
two-taken false shape k code argument = refl

-- the normal mixer's look at a command block
pub commanded_kept : (j : BlockJudged) (b : BlockTold) (look : CommandLook) → IsBlockOf j b
    → IsBlockOf (commanded_told look j) (took (if shows_command look.seen then look.code ∷ look.argument ∷ [] else []) (server_does (command_events (listed b) look (front_of 2 (listed b) (as_slot look))) b))
commanded_kept j b look h =
    let s = listed b in
    let front = front_of 2 s (as_slot look) in
    let shut = is_some (kept s).shut in
    let takes = shows_command look.seen in
    let words = two_by takes look.code look.argument in
    let k = server_kept b.shape (server_list b) in
    let seen_events = look_by shut look.seen look.flush look.rear front in
    let es = command_events s look front in
    let whole : WholeTakes es words = look-whole shut look.seen look.flush look.rear front (take_by takes) words (two-whole takes look.code look.argument) in
    let follow : (last : Bool) → AllFollow last es = look-follow shut look.seen look.flush look.rear front (take_by takes) (two-follow takes) in
    let place : (server_kept b.shape (server_list b ++ seen_events)).consumed ≡ (fold (server_keeps b.shape) k seen_events).consumed =
    ap (λ (x : ServerKept). x.consumed) (fold-append (server_keeps b.shape) (server_begins b.shape) (server_list b) seen_events) in
    let is : placed_from (server_kept b.shape (server_list b ++ seen_events)).consumed words ≡ taken_in b.shape k es words =
    ap (λ (n : ℕ). placed_from n words) place ∙ (two-taken takes b.shape (fold (server_keeps b.shape) k seen_events) look.code look.argument ∙ look-taken b.shape k shut look.seen look.flush look.rear front (take_by takes) words) in
    let here = server_told (kept_of j.lawful b) b es words (placed_from (server_kept b.shape (server_list b ++ seen_events)).consumed words) (kept-of j b h) whole follow is in
    let P : BlockJudged → Type 0 = λ x. IsBlockOf (commanded_told look x) (took words (server_does es b)) in
    subst P (sym (kept-is j b h)) here

-- ## Other events

-- the server did one event that takes and drops nothing
plain-told : (j : BlockJudged) (b : BlockTold) (e : ServerEvent) → IsBlockOf j b → WholeTakes (e ∷ []) [] → ((last : Bool) → AllFollow last (e ∷ [])) → ((k : ServerKept) → taken_in b.shape k (e ∷ []) [] ≡ []) → IsBlockOf (server_more (e ∷ []) j) (server_does (e ∷ []) b)
plain-told j b e h whole follow none =
    let here = server_told j b (e ∷ []) [] [] h whole follow (sym (none (server_kept b.shape (server_list b)))) in
    let P : List Taken × List ℕ → Type 0 = λ x. IsBlockOf (record (server_more (e ∷ []) j) { taken = x.0 }) (record (server_does (e ∷ []) b) { taken = x.1 }) in
    subst P (λ i. (append-nil j.taken i, append-nil b.taken i)) here

-- the server set flags
pub flags_kept : (j : BlockJudged) (b : BlockTold) (bits : ℕ) → IsBlockOf j b → IsBlockOf (server_more (server.SetFlags bits ∷ []) j) (server_does (server.SetFlags bits ∷ []) b)
flags_kept j b bits h = plain-told j b (server.SetFlags bits) h refl (λ last. (tt, tt)) (λ k. refl)

-- the server stored the status
pub status_kept : (j : BlockJudged) (b : BlockTold) (word : ℕ) → IsBlockOf j b → IsBlockOf (server_more (server.SetStatus word ∷ []) j) (server_does (server.SetStatus word ∷ []) b)
status_kept j b word h = plain-told j b (server.SetStatus word) h refl (λ last. (tt, tt)) (λ k. refl)

-- ## Meetings

client-alone : (j : BlockJudged) (b : BlockTold) (es : List ClientEvent) → IsBlockOf j b → IsBlockOf (client_more es j) (client_does es b)
client-alone j b es h =
    let P : List ℕ × List ℕ → Type 0 = λ x. IsBlockOf (record (client_more es j) { released = x.0 }) (record (client_does es b) { released = x.1 }) in
    subst P (λ i. (append-nil j.released i, append-nil b.released i)) (client_told j b es [] h)

-- client and server meet
pub met_kept : (j : BlockJudged) (b : BlockTold) → IsBlockOf j b → IsBlockOf (servers_met j) (meets b)
met_kept j b h =
    let one = client-alone j b (client.Learn (length (server_list b)) ∷ []) h in
    let here = plain-told (client_more (client.Learn (length (server_list b)) ∷ []) j) (client_does (client.Learn (length (server_list b)) ∷ []) b) (server.Learn (length (client_list b))) one refl (λ last. (tt, tt)) (λ k. refl) in
    let P : ℕ × ℕ → Type 0 = λ x. IsBlockOf (server_more (server.Learn x.0 ∷ []) (client_more (client.Learn x.1 ∷ []) j)) (meets b) in
    subst P (λ i. (sym (ap (λ (x : List ClientEvent). length x) h.client) i, sym (ap (λ (x : List ServerEvent). length x) h.server) i)) here

-- the hand meets the client
pub hand_kept : (j : BlockJudged) (b : BlockTold) → IsBlockOf j b → IsBlockOf (hand_met j) (meets_flag b)
hand_kept j b h =
    let P : ℕ → Type 0 = λ n. IsBlockOf (hand_more (hand.Met n ∷ []) j) (meets_flag b) in
    subst P (sym (ap (λ (x : List ClientEvent). length x) h.client)) (hand_told j b (hand.Met (length (client_list b)) ∷ []) h)

-- the parties of a stream block meet
pub stream_kept : (server_there hand_there : Bool) (j : BlockJudged) (b : BlockTold) → IsBlockOf j b → IsBlockOf (parties_met server_there hand_there j) (stream_met server_there hand_there b)
stream_kept true true j b h = hand_kept (servers_met j) (meets b) (met_kept j b h)
stream_kept true false j b h = met_kept j b h
stream_kept false true j b h = hand_kept j b h
stream_kept false false j b h = h

-- ## Steps together

-- events one after the other
pub server_does-append : (xs ys : List ServerEvent) (b : BlockTold) → server_does (xs ++ ys) b ≡ server_does ys (server_does xs b)
server_does-append [] ys b = refl
server_does-append (x ∷ xs) ys b = server_does-append xs ys (server_does (x ∷ []) b)
