-- The numbers of a mixer grow by little in each step of a turn.
use Rattle.std.proofs.Common.{◌≡◌, ℕ, zero, suc, ◌+◌, ◌*◌, ◌<◌, ◌≤◌, Bool, true, false, if◌then◌else◌, is_some, not, ap, List, [], ◌∷◌, length, map, fold, replicate, Option, Some, None, arith}
use Rattle.af_life.proofs.Common.{Command, CommandLook, FastState, SlotReport, TakeSeen, TrackSeen, find, length-replicate, list_any, range_with_len, slice_index_or, slice_set, slots}
use Rattle.af_base.specs.declared.state.FastTrack.{FastTrack}
use Rattle.af_model.proofs.Basics.{one_few}
use Rattle.af_model.specs.Reports.{is_full, is_partial, is_empty}
use Rattle.af_model.specs.StateQueue.{slot_of, no_fast_track}
use Rattle.af_life.specs.declared.kept.Heard.{Heard}
use Rattle.af_life.specs.declared.kept.TrackKept.{TrackKept}
use Rattle.af_life.specs.Kept.{Setup, asked, NormalKept, Learnt, track_at, new_track, new_normal, number_of, slot_number, is_home, seen_at, setting_of}
use Rattle.af_life.specs.Heard.{heard, slot_reported, noted, is_reported, settled_at, is_reached, ready}
use Rattle.af_life.specs.Obeys.{holds, free_slot, slot_for, opens, told, must_wait, shows_command, is_shut, obeyed, ended, after_look, goes_on, after_looks, commanded}
use Rattle.af_life.specs.Serves.{served, served_to, after_part}
use Rattle.af_life.specs.Edits.{comes_home, welcomed, after_ack, must_leave, must_enter, let_go, lend, edited, edited_to, ordered}
use Rattle.af_life.specs.Plays.{after_take}
use Rattle.af_life.specs.Small.{AreUpTo, IsSmallTrack, AreSmall, IsEdited, IsSmall, most_tracks}
use Rattle.af_life.proofs.Lives.{not_yet}
use Rattle.af_life.proofs.Settles.{commands_settle}

-- ## Lists of tracks

-- what holds of each track holds after one was replaced by such a one
pub set_all : (P : TrackKept → Type 0) (tracks : List TrackKept) (k : ℕ) (s : TrackKept) → ((i : ℕ) → P (track_at tracks i)) → P s → (i : ℕ) → P (track_at (slice_set tracks k s) i)
set_all P [] k s all p i = all i
set_all P (t ∷ tracks) zero s all p zero = p
set_all P (t ∷ tracks) zero s all p (suc i) = all (suc i)
set_all P (t ∷ tracks) (suc k) s all p zero = all zero
set_all P (t ∷ tracks) (suc k) s all p (suc i) = set_all P tracks k s (λ (j : ℕ). all (suc j)) p i

map_all : (P : TrackKept → Type 0) (f : TrackKept → TrackKept) → ((s : TrackKept) → P s → P (f s)) → (tracks : List TrackKept) → ((i : ℕ) → P (track_at tracks i)) → (i : ℕ) → P (track_at (map f tracks) i)
map_all P f keeps [] all i = all i
map_all P f keeps (t ∷ tracks) all zero = keeps t (all zero)
map_all P f keeps (t ∷ tracks) all (suc i) = map_all P f keeps tracks (λ (j : ℕ). all (suc j)) i

either : (P : TrackKept → Type 0) (b : Bool) (s t : TrackKept) → P s → P t → P (if b then s else t)
either P true s t p q = p
either P false s t p q = q

pub weaker : (n m k l : ℕ) (s : TrackKept) → n ≤ k → m ≤ l → IsSmallTrack n m s → IsSmallTrack k l s
weaker n m k l s le le' small = record { settled = (let a = small.settled in omega arith); own = ((let a = small.own.0 in omega arith), (let a = small.own.1 in omega arith), (let a = small.own.2 in omega arith)); slot = small.slot }

-- ## A free slot is one that there is

either_low : (c : Bool) (a : ℕ) (x : Option ℕ) (b : ℕ) → a < b → number_of x < b → number_of (if c then Some a else x) < b
either_low true a x b e f = e
either_low false a x b e f = f

find_low : (p : ℕ → Bool) (a n b : ℕ) → a + n ≤ b → 0 < b → number_of (find p (range_with_len a n)) < b
find_low p a zero b le some = some
find_low p a (suc n) b le some = either_low (p a) a (find p (range_with_len (a + 1) n)) b (omega arith) (find_low p (a + 1) n b (omega arith) some)

pub slot_low : (c : Setup) (tracks : List TrackKept) (i : ℕ) → number_of (slot_for c tracks i) < slots
slot_low c tracks i = by_fast (setting_of c i).fast
  where
    by_fast : (b : Bool) → number_of (if b then free_slot tracks else None) < slots
    by_fast true = find_low (λ slot. not (list_any (holds slot) tracks)) 1 31 32 (omega arith) (omega arith)
    by_fast false = omega arith

-- ## A track's part of the turn

module _ (n m : ℕ) where
  noted_small : (r : SlotReport) (s : TrackKept) → IsSmallTrack n m s → IsSmallTrack n m (noted r s)
  unfolding noted
  noted_small r s small = either (IsSmallTrack n m) (is_home s.holder) _ _ (record { settled = small.settled; own = (omega arith, omega arith, omega arith); slot = small.slot })
      (either (IsSmallTrack n m) (is_reported r s) _ _ (record { settled = small.settled; own = small.own; slot = small.slot }) small)

  settled_small : (flush_seen : ℕ) (s : TrackKept) → IsSmallTrack n m s → IsSmallTrack (n + 1) m (settled_at flush_seen s)
  unfolding settled_at
  settled_small flush_seen s small = either (IsSmallTrack (n + 1) m) (is_reached flush_seen s.awaits) _ _ (record { settled = (let a = small.settled in omega arith); own = small.own; slot = small.slot })
      (weaker n m (n + 1) m s (omega arith) (omega arith) small)

  pub ready_small : (k : Learnt) (i : ℕ) (s : TrackKept) → IsSmallTrack n m s → IsSmallTrack (n + 1) m (ready k i s)
  ready_small k i s small = settled_small (heard k i s).flush_seen (noted (slot_reported k s) s) (noted_small (slot_reported k s) s small)

-- what commands leave as it is
record HasSame (m : ℕ) (s : TrackKept) : Type 0 where
  pub own : AreUpTo m s.own
  pub slot : slot_number s < slots

module _ (m : ℕ) (given : Option ℕ) (low : number_of given < slots) (flush_seen : ℕ) where
  told_same : (code argument : ℕ) (s : TrackKept) → HasSame m s → HasSame m (told given code argument s)
  told_same code argument s same = record { own = same.own; slot = by_open (opens code s.life) }
    where
      by_open : (b : Bool) → number_of (if b then given else s.slot) < slots
      by_open true = low
      by_open false = same.slot

  look_same : (look : CommandLook) (s : TrackKept) → HasSame m s → HasSame m (after_look given flush_seen look s)
  unfolding after_look obeyed
  look_same look s same = let t : HasSame m (told given look.code look.argument s) = told_same look.code look.argument s same in
      either (HasSame m) (shows_command look.seen) _ _
      (either (HasSame m) (must_wait flush_seen look.code look.argument s.life) _ _ (record { own = t.own; slot = t.slot }) (record { own = t.own; slot = t.slot }))
      (either (HasSame m) (is_shut look.seen) (ended s) s (record { own = same.own; slot = same.slot }) same)

  looks_same : (looks : List CommandLook) (s : TrackKept) → HasSame m s → HasSame m (after_looks given flush_seen looks s)
  looks_same [] s same = same
  looks_same (look ∷ looks) s same = let t : TrackKept = after_look given flush_seen look s in
      either (HasSame m) (goes_on look t) _ _ (looks_same looks t (look_same look s same)) (look_same look s same)

  commands_same : (looks : List CommandLook) (s : TrackKept) → HasSame m s → HasSame m (commanded given flush_seen looks s)
  commands_same looks s same = either (HasSame m) (is_some s.awaits) _ _ same (looks_same looks s same)

-- its part of the turn: it settles no more commands than there are looks
pub part_small : (n m : ℕ) (given : Option ℕ) → number_of given < slots → (h : Heard) (looks : List CommandLook) (s : TrackKept) → IsSmallTrack n m s → IsSmallTrack (n + length looks) m (after_part given h looks s)
unfolding after_part
part_small n m given low h looks s small =
    let same = commands_same m given low h.flush_seen looks s (record { own = small.own; slot = small.slot }) in
    let few = commands_settle given h.flush_seen looks s in
    record { settled = (let a = small.settled in omega arith); own = same.own; slot = same.slot }

-- as many commands as a turn of some weight settles of a track
module _ (n m w : ℕ) (some : 0 < w) where
  pub served_small : (c : Setup) (k : Learnt) (looks : List CommandLook) (tracks : List TrackKept) (i : ℕ) → length looks ≤ 64 * w → IsSmallTrack n m (track_at tracks i) → IsSmallTrack (n + 65 * w) m (served c k looks tracks i)
  unfolding served
  served_small c k looks tracks i few small = let s : TrackKept = track_at tracks i in
      either (IsSmallTrack (n + 65 * w) m) s.life.ended _ _ (weaker n m (n + 65 * w) m s (omega arith) (omega arith) small)
      (weaker (n + 1 + length looks) m (n + 65 * w) m _ (omega arith) (omega arith) (part_small (n + 1) m (slot_for c tracks i) (slot_low c tracks i) (heard k i s) looks (ready k i s) (ready_small n m k i s small)))

  -- each track, once the first ones were served
  pub all_served_small : (c : Setup) (k : Learnt) (seen : List TrackSeen) (tracks : List TrackKept) → ((i : ℕ) → length (seen_at seen i).looks ≤ 64 * w) → AreSmall n m tracks
      → (j : ℕ) → AreSmall (n + 65 * w) m (served_to c k seen tracks j)
  all_served_small c k seen tracks few small zero = λ (i : ℕ). weaker n m (n + 65 * w) m (track_at tracks i) (omega arith) (omega arith) (small i)
  all_served_small c k seen tracks few small (suc j) = set_all (IsSmallTrack (n + 65 * w) m) (served_to c k seen tracks j) j _ (all_served_small c k seen tracks few small j)
      (served_small c k (seen_at seen j).looks (served_to c k seen tracks j) j (few j) (small_there (track_at (served_to c k seen tracks j) j) (not_yet c k seen tracks j j (omega arith))))
    where
      small_there : (s : TrackKept) → s ≡ track_at tracks j → IsSmallTrack n m s
      small_there s e = record {
        settled = (let a = (small j).settled in let b : s.settled ≡ (track_at tracks j).settled = ap (λ (x : TrackKept). x.settled) e in omega arith);
        own = (
          (let a = (small j).own.0 in let b : s.own.fulls ≡ (track_at tracks j).own.fulls = ap (λ (x : TrackKept). x.own.fulls) e in omega arith),
          (let a = (small j).own.1 in let b : s.own.partials ≡ (track_at tracks j).own.partials = ap (λ (x : TrackKept). x.own.partials) e in omega arith),
          (let a = (small j).own.2 in let b : s.own.empties ≡ (track_at tracks j).own.empties = ap (λ (x : TrackKept). x.own.empties) e in omega arith),
        );
        slot = (let a = (small j).slot in let b : slot_number s ≡ slot_number (track_at tracks j) = ap slot_number e in omega arith);
      }

-- ## The edits, the command and the push

module _ (n m : ℕ) where
  pub welcomed_small : (last : FastState) (tracks : List TrackKept) → AreSmall n m tracks → AreSmall n m (map (welcomed last) tracks)
  unfolding welcomed
  welcomed_small last tracks small = map_all (IsSmallTrack n m) (welcomed last)
      (λ s h. either (IsSmallTrack n m) (comes_home last s) _ _ (record { settled = h.settled; own = h.own; slot = h.slot }) h) tracks small

  pub acked_small : (ack : Bool) (x : NormalKept) → AreSmall n m x.tracks → AreSmall n m (after_ack ack x).tracks
  acked_small true x small = welcomed_small x.last x.tracks small
  acked_small false x small = small

-- each slot of a state has at most so high a generation
abbrev AreLow : ℕ → List FastTrack → Type 0
AreLow n xs = (k : ℕ) → (slice_index_or xs k no_fast_track).generation ≤ n

set_low : (n : ℕ) (xs : List FastTrack) (k : ℕ) (t : FastTrack) → AreLow n xs → t.generation ≤ n → AreLow n (slice_set xs k t)
set_low n [] k t low le i = low i
set_low n (x ∷ xs) zero t low le zero = le
set_low n (x ∷ xs) zero t low le (suc i) = low (suc i)
set_low n (x ∷ xs) (suc k) t low le zero = low zero
set_low n (x ∷ xs) (suc k) t low le (suc i) = set_low n xs k t (λ (j : ℕ). low (suc j)) le i

module _ (n m : ℕ) where
  later : (e d : ℕ) (x : NormalKept) → IsEdited n m e d x → IsEdited n m (e + 1) d x
  later e d x h = record { tracks = h.tracks; draft = record { generations = (λ (k : ℕ). let a : (slot_of x.draft k).generation ≤ e = h.draft.generations k in omega arith); changes = (let a = h.draft.changes in omega arith); colds = h.draft.colds } }

  go_small : (i e d : ℕ) (x : NormalKept) → IsEdited n m e d x → IsEdited n m (e + 1) d (let_go i x)
  unfolding let_go
  go_small i e d x h = record {
    tracks = set_all (IsSmallTrack n m) x.tracks i _ h.tracks (let s = h.tracks i in record { settled = s.settled; own = s.own; slot = s.slot });
    draft = record { generations = (λ (k : ℕ). let a : (slot_of x.draft k).generation ≤ e = h.draft.generations k in omega arith); changes = (let a = h.draft.changes in omega arith); colds = h.draft.colds };
  }

  lend_small : (c : Setup) (i e d : ℕ) (own : Heard) (x : NormalKept) → IsEdited n m e d x → IsEdited n m (e + 1) d (lend c i own x)
  unfolding lend
  lend_small c i e d own x h = record {
    tracks = set_all (IsSmallTrack n m) x.tracks i _ h.tracks (let s = h.tracks i in record { settled = s.settled; own = s.own; slot = s.slot });
    draft = record {
      generations = set_low (e + 1) x.draft.slots (slot_number (track_at x.tracks i)) _ (λ (k : ℕ). let a : (slot_of x.draft k).generation ≤ e = h.draft.generations k in omega arith)
          (let a : (slot_of x.draft (slot_number (track_at x.tracks i))).generation ≤ e = h.draft.generations (slot_number (track_at x.tracks i)) in omega arith);
      changes = (let a = h.draft.changes in omega arith);
      colds = h.draft.colds;
    };
  }

  either_edit : (b : Bool) (e d : ℕ) (x y : NormalKept) → IsEdited n m e d x → IsEdited n m e d y → IsEdited n m e d (if b then x else y)
  either_edit true e d x y h g = h
  either_edit false e d x y h g = g

  edit_small : (c : Setup) (k : Learnt) (i e d : ℕ) (x : NormalKept) → IsEdited n m e d x → IsEdited n m (e + 1) d (edited c k i x)
  unfolding edited
  edit_small c k i e d x h = either_edit (must_leave (track_at x.tracks i)) (e + 1) d _ _ (go_small i e d x h)
      (either_edit (must_enter (track_at x.tracks i)) (e + 1) d _ _ (lend_small c i e d (k.own i) x h) (later e d x h))

  -- the first tracks were edited
  pub edits_small : (c : Setup) (k : Learnt) (e d : ℕ) (x : NormalKept) → IsEdited n m e d x → (i : ℕ) → IsEdited n m (e + i) d (edited_to c k x i)
  edits_small c k e d x h zero = record { tracks = h.tracks; draft = record { generations = (λ (j : ℕ). let a : (slot_of x.draft j).generation ≤ e = h.draft.generations j in omega arith); changes = (let a = h.draft.changes in omega arith); colds = h.draft.colds } }
  edits_small c k e d x h (suc i) = let more = edit_small c k i (e + i) d (edited_to c k x i) (edits_small c k e d x h i) in
      record { tracks = more.tracks; draft = record { generations = (λ (j : ℕ). let a = more.draft.generations j in omega arith); changes = (let a = more.draft.changes in omega arith); colds = more.draft.colds } }

  if_colds : (b : Bool) (k d : ℕ) → k ≤ d → (if b then k + 1 else k) ≤ d + 1
  if_colds true k d le = omega arith
  if_colds false k d le = omega arith

  pub ordered_small : (command : Command) (e d : ℕ) (x : NormalKept) → IsEdited n m e d x → IsEdited n m e (d + 1) (ordered command x)
  unfolding ordered
  ordered_small command e d x h = either_edit _ e (d + 1) _ _
      (record { tracks = h.tracks; draft = record { generations = h.draft.generations; changes = h.draft.changes; colds = (let a = h.draft.colds in omega arith) } })
      (record { tracks = h.tracks; draft = record { generations = h.draft.generations; changes = h.draft.changes; colds = if_colds _ x.draft.cold_gen d h.draft.colds } })

-- ## The looks of the mix

take_small : (n m asked : ℕ) (take : TakeSeen) (tracks : List TrackKept) → AreSmall n m tracks → AreSmall n (m + 1) (after_take asked tracks take)
take_small n m asked take tracks small = set_all (IsSmallTrack n (m + 1)) tracks take.track _ (λ (i : ℕ). weaker n m n (m + 1) (track_at tracks i) (omega arith) (omega arith) (small i)) (
    let s = small take.track in
    let f = one_few (is_full asked take.slot.seen) in
    let p = one_few (is_partial asked take.slot.seen) in
    let e = one_few (is_empty take.slot.seen) in
    record { settled = s.settled; own = ((let a = s.own.0 in omega arith), (let a = s.own.1 in omega arith), (let a = s.own.2 in omega arith)); slot = s.slot })

pub takes_small : (n m asked : ℕ) (takes : List TakeSeen) (tracks : List TrackKept) → AreSmall n m tracks → AreSmall n (m + length takes) (fold (after_take asked) tracks takes)
takes_small n m asked [] tracks small = λ (i : ℕ). weaker n m n (m + 0) (track_at tracks i) (omega arith) (omega arith) (small i)
takes_small n m asked (take ∷ takes) tracks small = λ (i : ℕ). weaker n (m + 1 + length takes) n (m + length (take ∷ takes)) _ (omega arith) (omega arith)
    (takes_small n (m + 1) asked takes (after_take asked tracks take) (take_small n m asked take tracks small) i)

-- ## Before the first turn

new_track_small : IsSmallTrack 0 0 new_track
new_track_small = record { settled = omega arith; own = (omega arith, omega arith, omega arith); slot = omega arith }

new_tracks_small : (n : ℕ) → AreSmall 0 0 (replicate n new_track)
new_tracks_small zero i = new_track_small
new_tracks_small (suc n) zero = new_track_small
new_tracks_small (suc n) (suc i) = new_tracks_small n i

no_tracks_low : (n : ℕ) → AreLow 0 (replicate n no_fast_track)
no_tracks_low zero i = omega arith
no_tracks_low (suc n) zero = omega arith
no_tracks_low (suc n) (suc i) = no_tracks_low n i

first_low : (n : ℕ) → AreLow 0 (record { generation = 0; track = 0; mono = false; scale = 4096 } ∷ replicate n no_fast_track)
first_low n zero = omega arith
first_low n (suc i) = no_tracks_low n i

pub new_small : (c : Setup) → c.frames ≤ 1024 → c.normal ≤ 16 → length c.settings ≤ most_tracks → IsSmall 0 c (new_normal c)
new_small c f n t = record {
  sizes = (f, n, t);
  whole = length-replicate (length c.settings) new_track;
  tracks = new_tracks_small (length c.settings);
  draft = record { generations = first_low 31; changes = omega arith; colds = omega arith };
  pushed = omega arith;
}
