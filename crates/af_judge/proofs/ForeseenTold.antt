-- What the judge foresees of entries is what it would tell of them.
use Rattle.std.proofs.Common.{◌≡◌, ℕ, zero, suc, ◌+◌, Bool, true, false, if◌then◌else◌, refl, sym, ap, ◌∙◌, map, List, [], ◌∷◌, Option, Some, None}
use Rattle.af_judge.proofs.Common.{CycleEntry, FastState, Frame, Heard, Listed, entry_slot, frames_taken, known_by, map-set, option_map, packed_word, shows_slot, range_with_len, slice_get, slice_get-map, slice_set, slot_of, slots}
use Rattle.af_judge.specs.declared.track_judge.TrackJudge.{TrackJudge}
use Rattle.af_judge.specs.Blocks.{BlockJudged, listed_in, played_told}
use Rattle.af_judge.specs.EntriesTold.{Playing, entries_leave, entry_leaves}
use Rattle.af_judge.specs.FastKept.{heard_slots, slot_played, slots_played, stream_changed}
use Rattle.af_judge.specs.Foresight.{Foreseen, entries_foreseen, entry_foreseen, foreseen, heard_foreseen, looked_by, server_changed, server_in, servers_at, slot_foreseen, slots_foreseen}
use Rattle.af_judge.specs.Reporting.{Telling, block_at, entry_added, heard_at, polled_in, state_in, told_at_slot}

-- the server of the stream of a track
abbrev stream_server : TrackJudge → Listed
stream_server t = listed_in t.stream

-- ## The servers

-- the servers with that of a track changed, if there is one
abbrev with-changed : ℕ → (Listed → Listed) → List Listed → Option Listed → List Listed
with-changed n by servers o = elim o as (λ o. List Listed) [ None ↦ servers | Some s ↦ slice_set servers n (by s) ]

changed-servers : (n : ℕ) (change : BlockJudged → BlockJudged) (by : Listed → Listed) (tracks : List TrackJudge) → ((j : BlockJudged) → listed_in (change j) ≡ by (listed_in j)) → servers_at (stream_changed n change tracks) ≡ server_changed n by (servers_at tracks)
changed-servers n change by tracks same = by_there (slice_get tracks n) refl ∙ sym (ap (with-changed n by (servers_at tracks)) (slice_get-map stream_server tracks n))
  where
    by_there : (o : Option TrackJudge) → slice_get tracks n ≡ o → servers_at (elim o as (λ o. List TrackJudge) [ None ↦ tracks | Some t ↦ slice_set tracks n (record t { stream = change t.stream }) ]) ≡ with-changed n by (servers_at tracks) (option_map stream_server o)
    by_there None is = refl
    by_there (Some t) is = map-set stream_server tracks n (record t { stream = change t.stream }) ∙ ap (slice_set (servers_at tracks) n) (same t.stream)

module _ (asked : ℕ) (x : FastState) (frames : List Frame) (entry : CycleEntry) where
  slot-servers : (i : ℕ) (tracks : List TrackJudge) → servers_at (slot_played asked x frames entry i tracks) ≡ slot_foreseen asked x entry i (servers_at tracks)
  slot-servers i tracks = by_case (shows_slot x entry i)
    where
      by_case : (b : Bool) → servers_at (if b then stream_changed (slot_of x i).track (played_told asked (entry_slot entry i) (map packed_word (frames_taken frames (entry_slot entry i)))) tracks else tracks)
          ≡ (if b then server_changed (slot_of x i).track (looked_by asked (entry_slot entry i)) (servers_at tracks) else servers_at tracks)
      by_case true = changed-servers (slot_of x i).track (played_told asked (entry_slot entry i) (map packed_word (frames_taken frames (entry_slot entry i)))) (looked_by asked (entry_slot entry i)) tracks (λ j. refl)
      by_case false = refl

  -- the servers after the slots are those foreseen
  slots-servers : (n : ℕ) (tracks : List TrackJudge) → servers_at (slots_played asked x frames entry n tracks) ≡ slots_foreseen asked x entry n (servers_at tracks)
  unfolding slots_played slots_foreseen
  slots-servers zero tracks = refl
  slots-servers (suc n) tracks = slot-servers n (slots_played asked x frames entry n tracks) ∙ ap (slot_foreseen asked x entry n) (slots-servers n tracks)

-- ## What is heard

server-at : (tracks : List TrackJudge) (n : ℕ) → listed_in (block_at (map (λ t. t.stream) tracks) n) ≡ server_in (servers_at tracks) n
server-at [] n = refl
server-at (t ∷ tracks) zero = refl
server-at (t ∷ tracks) (suc n) = server-at tracks n

same-heard : (f g : ℕ → Heard) (a n : ℕ) → ((i : ℕ) → f i ≡ g i) → map f (range_with_len a n) ≡ map g (range_with_len a n)
same-heard f g a zero h = refl
same-heard f g a (suc n) h = let rest = same-heard f g (a + 1) n h in λ j. h a j ∷ rest j

heard-same : (tracks : List TrackJudge) (x : FastState) → heard_slots tracks x ≡ heard_foreseen (servers_at tracks) x
heard-same tracks x = same-heard (heard_at (map (λ t. t.stream) tracks) x) (λ i. known_by (server_in (servers_at tracks) (slot_of x i).track)) 0 slots (λ i. ap known_by (server-at tracks (slot_of x i).track))

-- ## Entries

-- what would be kept, by what is foreseen
abbrev pub foreseen_of : Playing → Foreseen
foreseen_of p = foreseen (servers_at p.tracks) p.fast.told

entry-foreseen : (states : List FastState) (frames : List Frame) (entry : CycleEntry) (p : Playing) → entry_foreseen states entry (foreseen_of p) ≡ foreseen_of (entry_leaves states frames entry p)
unfolding entry_leaves
entry-foreseen states frames entry p =
    let t : Telling = polled_in states entry.state p.fast.told in
    let x : FastState = state_in t states entry.state in
    let after = slots_played t.asked x frames entry slots p.tracks in
    let servers : slots_foreseen t.asked x entry slots (servers_at p.tracks) ≡ servers_at after = sym (slots-servers t.asked x frames entry slots p.tracks) in
    let heard : heard_foreseen (slots_foreseen t.asked x entry slots (servers_at p.tracks)) x ≡ heard_slots after x = ap (λ (ss : List Listed). heard_foreseen ss x) servers ∙ sym (heard-same after x) in
    λ i. record { servers = servers i; told = entry_added states (told_at_slot (heard i)) entry t }

-- what is foreseen after some entries
pub entries_foreseen_told : (states : List FastState) (frames : List Frame) (entries : List CycleEntry) (p : Playing) → entries_foreseen states entries (foreseen_of p) ≡ foreseen_of (entries_leave states frames entries p)
entries_foreseen_told states frames [] p = refl
entries_foreseen_told states frames (entry ∷ entries) p =
    ap (entries_foreseen states entries) (entry-foreseen states frames entry p) ∙ entries_foreseen_told states frames entries (entry_leaves states frames entry p)
