-- How a tally keeps up with a run that goes on.
use Rattle.std.proofs.Common.{◌≡◌, ℕ, ◌+◌, ◌-◌, ◌^◌, ◌<◌, ◌≤◌, ◌&&◌, max, Bool, true, false, if◌then◌else◌, List, [], ◌∷◌, ◌++◌, length, map, set, inl, inr, refl, sym, ap, subst, ◌∙◌, arith}
use Rattle.std.specs.Prelude.{sum, not, slice_index}
use Rattle.std.specs.List.{AllZip, flat_map, range_with_len}
use Rattle.std.proofs.lemmas.List.{get_or-set_same, get_or-set_other, length-set, map-id, append-nil, length_push}
use Rattle.std.proofs.lemmas.List.Sums.{sum_by-append, sum_by_push}
use Rattle.std.proofs.lemmas.List.Concat.{flat_map-append}
use Rattle.std.proofs.lemmas.List.Folds.{list_all-append}
use Rattle.std.proofs.lemmas.List.FromFn.{fill_by_all, get_or-map-range_with_len, length-map-range_with_len, map-range_with_len_more, sum_by-map-range_with_len_more}
use Rattle.std.proofs.lemmas.Bool.{cases_eq}
use Rattle.af_base.specs.declared.event.ClientCall.{ClientCall}
use Rattle.af_base.specs.declared.frame.Frame.{Frame}
use Rattle.af_base.specs.declared.log.CycleEntry.{CycleEntry}
use Rattle.af_base.specs.declared.state.FastState.{FastState}
use Rattle.af_base.specs.Log.{slots}
use Rattle.af_base.specs.Mix.{peak_of}
use Rattle.af_model.specs.Cycles.{is_mixed}
use Rattle.af_tally.specs.declared.tally.TrackTally.{TrackTally}
use Rattle.af_tally.specs.Noting.{with_note}
use Rattle.af_tally.specs.Steps.{AreFew, IsFew, most_note, most_steps}
use Rattle.af_tally.specs.Summaries.{EntryUsed, Shown, Look, calls_of, with_calls, with_entry, with_written, slot_looks, entry_looks, taken_by_look, taken_in, taken_by_entry, taken_in_all, dropped_by_look, dropped_in, dropped_by_entry, dropped_of, has_no_poke, is_poke, is_lawful_shown, in_all, mixed_of, discarded_of, queued_of}
use Rattle.af_tally.specs.Tallies.{Tallied, AddsLooks, Notes, IsWithin, IsTally, untouched, track_at, most_looks, after_looks, shown_of, mixed_by, discarded_by, queued_by}

-- a track's numbers
abbrev numbers : ℕ → ℕ → Bool → TrackTally
numbers taken dropped lawful = record { taken = taken; dropped = dropped; lawful = lawful }

-- equal numbers
same_numbers : (a b c d : ℕ) (p q : Bool) → a ≡ c → b ≡ d → p ≡ q → numbers a b p ≡ numbers c d q
same_numbers a b c d p q e f g = λ i. record { taken = e i; dropped = f i; lawful = g i }

-- ## Looks

-- no look
pub adds_none : (tracks : List TrackTally) → AddsLooks [] tracks tracks
adds_none tracks = record {
  count = refl;
  each = λ i lt. let t = track_at tracks i in same_numbers t.taken t.dropped (t.taken + 0) (t.dropped + 0) t.lawful t.lawful (omega arith) (omega arith) refl;
}

-- some looks after others
pub adds_more : (xs ys : List Look) (a b c : List TrackTally) → AddsLooks xs a b → AddsLooks ys b c → AddsLooks (xs ++ ys) a c
adds_more xs ys a b c p q = record {
  count = q.count ∙ p.count;
  each = λ i lt.
      let t = track_at a i in
      let u = track_at b i in
      let first : u ≡ after_looks i xs t = p.each i lt in
      let taken : u.taken + taken_in i ys ≡ t.taken + taken_in i (xs ++ ys) = omega (arith, ap (λ (x : TrackTally). x.taken) first, sum_by-append (taken_by_look i) xs ys) in
      let dropped : u.dropped + dropped_in i ys ≡ t.dropped + dropped_in i (xs ++ ys) = omega (arith, ap (λ (x : TrackTally). x.dropped) first, sum_by-append (dropped_by_look i) xs ys) in
      q.each i (omega (arith, p.count)) ∙ same_numbers (u.taken + taken_in i ys) (u.dropped + dropped_in i ys) (t.taken + taken_in i (xs ++ ys)) (t.dropped + dropped_in i (xs ++ ys)) u.lawful t.lawful taken dropped (ap (λ (x : TrackTally). x.lawful) first);
}

-- ## Steps of a tally

-- no step
pub notes_none : (t : Tallied) → Notes 0 [] t t
notes_none t = record { tracks = adds_none t.tracks; cycles = refl; looks = omega arith; peak = refl; steps = refl }

-- one step after another
pub notes_more : (m n : ℕ) (xs ys : List Look) (a b c : Tallied) → Notes m xs a b → Notes n ys b c → Notes (m + n) (xs ++ ys) a c
notes_more m n xs ys a b c p q = record {
  tracks = adds_more xs ys a.tracks b.tracks c.tracks p.tracks q.tracks;
  cycles = q.cycles ∙ p.cycles;
  looks = let first = p.looks in let second = q.looks in omega arith;
  peak = q.peak ∙ p.peak;
  steps = q.steps ∙ p.steps;
}

-- a step in more places
pub notes_wider : (m n : ℕ) (xs : List Look) (a b : Tallied) → m ≤ n → Notes m xs a b → Notes n xs a b
notes_wider m n xs a b le p = record { tracks = p.tracks; cycles = p.cycles; looks = let first = p.looks in omega arith; peak = p.peak; steps = p.steps }

-- the looks of one slot more
pub one_slot_more : (entry : CycleEntry) (x : FastState) (k : ℕ) → flat_map (slot_looks entry x) (range_with_len 0 (k + 1)) ≡ flat_map (slot_looks entry x) (range_with_len 0 k) ++ slot_looks entry x k
one_slot_more entry x k =
    let longer : range_with_len 0 (k + 1) ≡ range_with_len 0 k ++ k ∷ [] =
    sym (map-id (range_with_len 0 (k + 1))) ∙ map-range_with_len_more (λ (n : ℕ). n) 0 k k (omega arith) ∙ ap (λ (ns : List ℕ). ns ++ k ∷ []) (map-id (range_with_len 0 k)) in
    ap (flat_map (slot_looks entry x)) longer
    ∙ flat_map-append (slot_looks entry x) (range_with_len 0 k) (k ∷ [])
    ∙ ap (λ (looks : List Look). flat_map (slot_looks entry x) (range_with_len 0 k) ++ looks) (append-nil (slot_looks entry x k))

-- ## A run goes on

-- what a track has after an entry's looks
entry_adds : (run : Shown) (used : EntryUsed) (i : ℕ) → after_looks i (entry_looks used) (shown_of run i) ≡ shown_of (with_entry run used) i
entry_adds run used i = same_numbers (taken_in_all run i + taken_by_entry i used) (dropped_of run i + dropped_by_entry i used) (taken_in_all (with_entry run used) i) (dropped_of (with_entry run used) i) (is_lawful_shown run i) (is_lawful_shown run i)
    (omega (arith, sum_by_push (taken_by_entry i) run.entries used)) (omega (arith, sum_by_push (dropped_by_entry i) run.entries used)) refl

-- one more cycle, if it is a mix
abbrev pub counted : EntryUsed → ℕ
counted used = if is_mixed used.entry.cycle then 1 else 0

-- two items that belong together may be put behind
zip_push : {A B : Type 0} (R : A → B → Type 0) (xs : List A) (ys : List B) (x : A) (y : B) → AllZip R xs ys → R x y → AllZip R (xs ++ x ∷ []) (ys ++ y ∷ [])
zip_push R [] [] x y z r = (r, tt)
zip_push R [] (b ∷ ys) x y z r = absurd z
zip_push R (a ∷ xs) [] x y z r = absurd z
zip_push R (a ∷ xs) (b ∷ ys) x y z r = (z.0, zip_push R xs ys x y z.1 r)

-- by an entry whose cycle took so many steps
pub entry_noted : (run : Shown) (used : EntryUsed) (steps : ℕ) (a b c : Tallied) → Notes slots (entry_looks used) a b → c ≡ record b { cycles = b.cycles + counted used; steps = b.steps ++ (steps, 0) ∷ [] }
    → steps ≤ most_steps run.frames used.state → IsTally run a → IsTally (with_entry run used) c
entry_noted run used steps a b c notes c_is few is =
    let tracks : c.tracks ≡ b.tracks = ap (λ (t : Tallied). t.tracks) c_is in
    let cycles : c.cycles ≡ b.cycles + counted used = ap (λ (t : Tallied). t.cycles) c_is in
    let looks : c.looks ≡ b.looks = ap (λ (t : Tallied). t.looks) c_is in
    record {
      count = ap length tracks ∙ notes.tracks.count ∙ is.count;
      each = λ i lt. ap (λ (t : List TrackTally). track_at t i) tracks ∙ notes.tracks.each i (omega (arith, is.count)) ∙ ap (after_looks i (entry_looks used)) (is.each i lt) ∙ entry_adds run used i;
      cycles = let one = sum_by_push (λ (u : EntryUsed). counted u) run.entries used in omega (arith, notes.cycles, is.cycles, one);
      looks = let old = is.looks in let more = notes.looks in omega (arith, length_push run.entries used);
      peak = ap (λ (t : Tallied). t.peak) c_is ∙ notes.peak ∙ is.peak;
      steps =
          let next : c.steps ≡ a.steps ++ (steps, 0) ∷ [] = ap (λ (t : Tallied). t.steps) c_is ∙ ap (λ (ns : List (ℕ × ℕ)). ns ++ (steps, 0) ∷ []) notes.steps in
          subst (AreFew (with_entry run used)) (sym next) (zip_push (IsFew run.frames) run.entries a.steps used (steps, 0) is.steps (few, omega arith));
    }

-- by calls of a client
pub calls_noted : (run : Shown) (a b : Tallied) (track : ℕ) (calls : List ClientCall) (t : TrackTally) → track < length a.tracks
    → t ≡ record (track_at a.tracks track) { lawful = (track_at a.tracks track).lawful && has_no_poke calls } → b ≡ record a { tracks = set a.tracks track t } → IsTally run a → IsTally (with_calls run track calls) b
calls_noted run a b track calls t lt t_is b_is is =
    let next : List ClientCall = calls_of run track ++ calls in
    let within : track < length run.calls = omega (arith, is.count) in
    let long : length (set run.calls track next) ≡ length run.calls = length-set run.calls track next in
    let tracks : b.tracks ≡ set a.tracks track t = ap (λ (x : Tallied). x.tracks) b_is in
    let old : track_at a.tracks track ≡ shown_of run track = is.each track within in
    let lawful : ((track_at a.tracks track).lawful && has_no_poke calls) ≡ is_lawful_shown (with_calls run track calls) track =
    ap (λ (x : TrackTally). x.lawful && has_no_poke calls) old ∙ sym (list_all-append (λ (call : ClientCall). not (is_poke call)) (calls_of run track) calls)
    ∙ ap has_no_poke (sym (get_or-set_same run.calls track next [] within)) in
    let here : t ≡ shown_of (with_calls run track calls) track = t_is ∙ (λ i. record { taken = (old i).taken; dropped = (old i).dropped; lawful = lawful i }) in
    record {
      count = ap length tracks ∙ length-set a.tracks track t ∙ is.count ∙ sym long;
      each = λ i below. ap (λ (ts : List TrackTally). track_at ts i) tracks ∙ elim (cases_eq i track) [
        | inl e ↦ subst (λ (k : ℕ). track_at (set a.tracks track t) k ≡ shown_of (with_calls run track calls) k) (sym e) (get_or-set_same a.tracks track t untouched lt ∙ here)
        | inr ne ↦ get_or-set_other a.tracks track i t untouched ne ∙ is.each i (omega (arith, long))
            ∙ ap (λ (cs : List ClientCall). numbers (taken_in_all run i) (dropped_of run i) (has_no_poke cs)) (sym (get_or-set_other run.calls track i next [] ne))
      ];
      cycles = ap (λ (x : Tallied). x.cycles) b_is ∙ is.cycles;
      looks = let before = is.looks in let same : b.looks ≡ a.looks = ap (λ (x : Tallied). x.looks) b_is in omega arith;
      peak = ap (λ (x : Tallied). x.peak) b_is ∙ is.peak;
      steps = subst (λ (x : Tallied). AreFew run x.steps) (sym b_is) is.steps;
    }

-- the peak of frames and more frames
peak_of-append : (xs ys : List Frame) → peak_of (xs ++ ys) ≡ max (peak_of xs) (peak_of ys)
peak_of-append [] ys = omega arith
peak_of-append (x ∷ xs) ys = let more = peak_of-append xs ys in omega arith

-- by frames written
pub frames_noted : (run : Shown) (a b : Tallied) (frames : List Frame) → b.tracks ≡ a.tracks → b.cycles ≡ a.cycles → b.looks ≡ a.looks → b.peak ≡ max a.peak (peak_of frames) → b.steps ≡ a.steps → IsTally run a → IsTally (with_written run frames) b
frames_noted run a b frames tracks cycles looks peak steps is = record {
  count = ap length tracks ∙ is.count;
  each = λ i lt. ap (λ (t : List TrackTally). track_at t i) tracks ∙ is.each i lt;
  cycles = cycles ∙ is.cycles;
  looks = let old = is.looks in omega arith;
  peak = peak ∙ ap (λ (n : ℕ). max n (peak_of frames)) is.peak ∙ sym (peak_of-append run.written frames);
  steps = subst (AreFew run) (sym steps) is.steps;
}

-- the steps of a note may be put beside those of the last cycle
note_told : (run : Shown) (entries : List EntryUsed) (costs : List (ℕ × ℕ)) (steps : ℕ) → steps ≤ most_note → AllZip (IsFew run.frames) entries costs → AllZip (IsFew run.frames) entries (with_note steps costs)
note_told run [] [] steps few all = tt
note_told run [] (cost ∷ costs) steps few all = absurd all
note_told run (used ∷ entries) [] steps few all = absurd all
note_told run (used ∷ entries) (cost ∷ []) steps few all = ((all.0.0, few), all.1)
note_told run (used ∷ entries) (cost ∷ more ∷ costs) steps few all = (all.0, note_told run entries (more ∷ costs) steps few all.1)

-- by the steps of a note
pub note_noted : (run : Shown) (a b : Tallied) (steps : ℕ) → b ≡ record a { steps = with_note steps a.steps } → steps ≤ most_note → IsTally run a → IsTally run b
note_noted run a b steps b_is few is = subst (IsTally run) (sym b_is) (record { count = is.count; each = is.each; cycles = is.cycles; looks = is.looks; peak = is.peak; steps = note_told run run.entries a.steps steps few is.steps })

-- ## The summary

-- two functions that agree below n have one sum there
same_in_all : (f g : ℕ → ℕ) (n : ℕ) → ((i : ℕ) → i < n → f i ≡ g i) → in_all n f ≡ in_all n g
same_in_all f g n same = ap sum (fill_by_all g (map f (range_with_len 0 n)) n 0 (length-map-range_with_len f 0 n)
    (λ k lt. get_or-map-range_with_len f 0 n k k 0 lt (omega arith) ∙ same k lt))

-- the sum of one track more
pub in_all_more : (f : ℕ → ℕ) (n : ℕ) → in_all (n + 1) f ≡ in_all n f + f n
in_all_more f n = sum_by-map-range_with_len_more (λ (x : ℕ). x) f 0 n n (omega arith)

-- the sums of a tally are those of its run
abbrev pub mixed_at : List TrackTally → ℕ → ℕ
mixed_at tracks i = mixed_by (track_at tracks i)

abbrev pub discarded_at : List TrackTally → ℕ → ℕ
discarded_at tracks i = discarded_by (track_at tracks i)

abbrev pub queued_at : List TrackTally → List ℕ → ℕ → ℕ
queued_at tracks released i = queued_by (track_at tracks i) (slice_index released i)

pub mixed_is : (run : Shown) (t : Tallied) → IsTally run t → in_all (length t.tracks) (mixed_at t.tracks) ≡ in_all (length run.calls) (mixed_of run)
mixed_is run t is = ap (λ (n : ℕ). in_all n (mixed_at t.tracks)) is.count ∙ same_in_all (mixed_at t.tracks) (mixed_of run) (length run.calls) (λ i lt. ap mixed_by (is.each i lt))

pub discarded_is : (run : Shown) (t : Tallied) → IsTally run t → in_all (length t.tracks) (discarded_at t.tracks) ≡ in_all (length run.calls) (discarded_of run)
discarded_is run t is = ap (λ (n : ℕ). in_all n (discarded_at t.tracks)) is.count ∙ same_in_all (discarded_at t.tracks) (discarded_of run) (length run.calls) (λ i lt. ap discarded_by (is.each i lt))

pub queued_is : (run : Shown) (t : Tallied) (released : List ℕ) → IsTally run t → in_all (length t.tracks) (queued_at t.tracks released) ≡ in_all (length run.calls) (queued_of run released)
queued_is run t released is = ap (λ (n : ℕ). in_all n (queued_at t.tracks released)) is.count
    ∙ same_in_all (queued_at t.tracks released) (queued_of run released) (length run.calls) (λ i lt. ap (λ (x : TrackTally). queued_by x (slice_index released i)) (is.each i lt))

-- ## Bounds

-- what may not count is small if it would be
if_small : (b : Bool) (n m : ℕ) → n ≤ m → (if b then n else 0) ≤ m
if_small true n m le = le
if_small false n m le = omega arith

-- what counts of a track is small
pub mixed_small : (t : TrackTally) (looks : ℕ) → looks ≤ most_looks → IsWithin looks t → mixed_by t ≤ 2 ^ 56
mixed_small t looks few within = let taken = within.taken in if_small t.lawful t.taken (2 ^ 56) (omega arith)

pub discarded_small : (t : TrackTally) (looks : ℕ) → looks ≤ most_looks → IsWithin looks t → discarded_by t ≤ 2 ^ 56
discarded_small t looks few within = let dropped = within.dropped in if_small t.lawful t.dropped (2 ^ 56) (omega arith)

pub queued_small : (t : TrackTally) (released : ℕ) → released < 2 ^ 58 → queued_by t released ≤ 2 ^ 58
queued_small t released small = if_small t.lawful (released - (t.taken + t.dropped)) (2 ^ 58) (omega arith)

-- a number more
pub added : (a b c d : ℕ) → a ≡ c → b ≡ d → a + b ≡ c + d
added a b c d e f = λ i. e i + f i
