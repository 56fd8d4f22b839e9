-- The sound of a log stays as the log grows.
use Rattle.std.proofs.Common.{◌≡◌, ℕ, ◌<◌, ◌≤◌, if◌then◌else◌, Bool, true, false, All, List, [], ◌∷◌, ◌++◌, length, map, refl, sym, ap, subst, ◌∙◌, append-nil, append_assoc, arith}
use Rattle.std.specs.List.{range_with_len}
use Rattle.std.proofs.lemmas.Grind.{flat_map-append}
use Rattle.std.proofs.lemmas.List.{length-append}
use Rattle.std.proofs.lemmas.List.Concat.{flat_map-cons}
use Rattle.std.proofs.lemmas.List.Elements.{All-append, All-head, All-tail, All-nil, All-weaker}
use Rattle.std.proofs.lemmas.List.FromFn.{fill_by_all, get_or-map-range_with_len, length-map-range_with_len}
use Rattle.af_base.specs.declared.frame.Frame.{Frame}
use Rattle.af_base.specs.declared.log.CycleEntry.{CycleEntry}
use Rattle.af_base.specs.Log.{slots, Logged, entry_slot, slot_take, takes_of}
use Rattle.af_base.specs.Mix.{Take, mix}
use Rattle.af_base.specs.Sample.{pcm_bytes}
use Rattle.af_runs.specs.Pcm.{LieWithin, entries_pcm, entry_pcm}
use Rattle.af_model.specs.Cycles.{is_mixed}
use Rattle.af_model.proofs.EntrySlots.{taken_stay}
use Rattle.af_tally.specs.Sound.{pcm_of, IsWhole, Grows}

-- two functions that agree below n give one list
pub map_same : {X : Type 0} (f g : ℕ → X) (n : ℕ) (d : X) → ((i : ℕ) → i < n → f i ≡ g i) → map f (range_with_len 0 n) ≡ map g (range_with_len 0 n)
map_same f g n d same = fill_by_all g (map f (range_with_len 0 n)) n d (length-map-range_with_len f 0 n)
    (λ k lt. get_or-map-range_with_len f 0 n k k d lt (omega arith) ∙ same k lt)

-- a take of nothing
no_take : Take
no_take = record { frames = []; mono = false; gains = 0; scale = 0 }

-- frames that are added leave the takes of a mix as they were
pub takes_stay : (frames more : List Frame) (entry : CycleEntry) → LieWithin frames entry → is_mixed entry.cycle ≡ true → takes_of (frames ++ more) entry ≡ takes_of frames entry
takes_stay frames more entry within mixed = map_same (slot_take (frames ++ more) entry) (slot_take frames entry) slots no_take
    (λ i lt. ap (λ (taken : List Frame). record { frames = taken; mono = (slot_take frames entry i).mono; gains = (slot_take frames entry i).gains; scale = (slot_take frames entry i).scale })
    (taken_stay frames more (entry_slot entry i) (within mixed i lt)))

-- bytes that are those of a mix alone
pub same_if : (b : Bool) (xs ys : List ℕ) → (b ≡ true → xs ≡ ys) → (if b then xs else []) ≡ (if b then ys else [])
same_if true xs ys same = same refl
same_if false xs ys same = refl

-- and the bytes of an entry
pub entry_stays : (len : ℕ) (frames more : List Frame) (entry : CycleEntry) → LieWithin frames entry → entry_pcm len (frames ++ more) entry ≡ entry_pcm len frames entry
entry_stays len frames more entry within = same_if (is_mixed entry.cycle) (pcm_bytes (mix (takes_of (frames ++ more) entry) len)) (pcm_bytes (mix (takes_of frames entry) len))
    (λ mixed. ap (λ (takes : List Take). pcm_bytes (mix takes len)) (takes_stay frames more entry within mixed))

-- and those of all entries within
pub pcm_stays : (len : ℕ) (frames more : List Frame) (entries : List CycleEntry) → All (LieWithin frames) entries → entries_pcm len (frames ++ more) entries ≡ entries_pcm len frames entries
pcm_stays len frames more [] all = refl
pcm_stays len frames more (entry ∷ entries) all =
    flat_map-cons (entry_pcm len (frames ++ more)) entry entries
    ∙ ap (λ (bytes : List ℕ). bytes ++ entries_pcm len (frames ++ more) entries) (entry_stays len frames more entry (All-head (LieWithin frames) entry entries all))
    ∙ ap (λ (bytes : List ℕ). entry_pcm len frames entry ++ bytes) (pcm_stays len frames more entries (All-tail (LieWithin frames) entry entries all))
    ∙ sym (flat_map-cons (entry_pcm len frames) entry entries)

-- what lies in a log lies in a longer one
pub within_more : (low high : List Frame) → length low ≤ length high → (entries : List CycleEntry) → All (LieWithin low) entries → All (LieWithin high) entries
within_more low high le entries all = All-weaker (LieWithin low) (LieWithin high) (λ entry within mixed i lt. let at = within mixed i lt in omega (arith, at)) entries all

-- entries and frames that are added, if the frames of each new entry lie within all of them
pub log_grows : (len : ℕ) (log log' : Logged) (more : List CycleEntry) (taken : List Frame) → IsWhole log → log'.entries ≡ log.entries ++ more → log'.frames ≡ log.frames ++ taken
    → All (LieWithin log'.frames) more → Grows len log log' more (entries_pcm len log'.frames more)
log_grows len log log' more taken whole entries frames within =
    let longer : length log.frames ≤ length log'.frames = omega (arith, ap length frames ∙ length-append log.frames taken) in
    let old : All (LieWithin log'.frames) log.entries = within_more log.frames log'.frames longer log.entries whole in
    let stays : entries_pcm len log'.frames log.entries ≡ pcm_of len log = ap (λ (l : List Frame). entries_pcm len l log.entries) frames ∙ pcm_stays len log.frames taken log.entries whole in
    record {
      entries = entries;
      frames = (taken, frames);
      whole = subst (All (LieWithin log'.frames)) (sym entries) (All-append (LieWithin log'.frames) log.entries more old within);
      bytes_are = refl;
      sound = ap (entries_pcm len log'.frames) entries
          ∙ flat_map-append (entry_pcm len log'.frames) log.entries more
          ∙ ap (λ (bytes : List ℕ). bytes ++ entries_pcm len log'.frames more) stays;
    }

-- a log that stays as it is
pub grows_not : (len : ℕ) (log log' : Logged) → IsWhole log → log' ≡ log → Grows len log log' [] []
grows_not len log log' whole same =
    let grown = log_grows len log log' [] [] whole (ap (λ (l : Logged). l.entries) same ∙ sym (append-nil log.entries)) (ap (λ (l : Logged). l.frames) same ∙ sym (append-nil log.frames)) (All-nil (LieWithin log'.frames)) in
    grown

-- what holds of all holds of the last ones
all_back : {X : Type 0} (P : X → Type 0) (xs ys : List X) → All P (xs ++ ys) → All P ys
all_back P [] ys all = all
all_back P (x ∷ xs) ys all = all_back P xs ys (All-tail P x (xs ++ ys) all)

-- one growth after the other
pub grows_on : (len : ℕ) (a b c : Logged) (first second : List CycleEntry) (front back : List ℕ) → Grows len a b first front → Grows len b c second back → Grows len a c (first ++ second) (front ++ back)
grows_on len a b c first second front back p q =
    let stays : entries_pcm len c.frames first ≡ entries_pcm len b.frames first =
    ap (λ (l : List Frame). entries_pcm len l first) q.frames.1
    ∙ pcm_stays len b.frames q.frames.0 first (all_back (LieWithin b.frames) a.entries first (subst (All (LieWithin b.frames)) p.entries p.whole)) in
    record {
      entries = q.entries ∙ ap (λ (l : List CycleEntry). l ++ second) p.entries ∙ append_assoc a.entries first second;
      frames = (p.frames.0 ++ q.frames.0, q.frames.1 ∙ ap (λ (l : List Frame). l ++ q.frames.0) p.frames.1 ∙ append_assoc a.frames p.frames.0 q.frames.0);
      whole = q.whole;
      bytes_are = ap (λ (l : List ℕ). l ++ back) p.bytes_are
          ∙ ap (λ (l : List ℕ). entries_pcm len b.frames first ++ l) q.bytes_are
          ∙ sym (ap (λ (l : List ℕ). l ++ entries_pcm len c.frames second) stays)
          ∙ sym (flat_map-append (entry_pcm len c.frames) first second);
      sound = q.sound ∙ ap (λ (l : List ℕ). l ++ back) p.sound ∙ append_assoc (pcm_of len a) front back;
    }
