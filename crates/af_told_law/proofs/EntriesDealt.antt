-- The entries of a log's last part are dealt out to the rounds by which the log grew.
use Rattle.std.proofs.Common.{◌≡◌, ℕ, ◌+◌, ◌≤◌, List, [], ◌∷◌, ◌++◌, length, take, drop, refl, sym, ap, ◌∙◌, append_assoc, arith}
use Rattle.af_told_law.proofs.Common.{CycleEntry, EntrySeen, Frame, Logged, drop-append-le, entries_seen, length-append, length-drop, same_length, sum_by, sum_by-append, take-append-le, taken_by}
use Rattle.std.proofs.Math.Seq.{drop-append_seam, take-append_seam}
use Rattle.af_told_law.proofs.LogMore.{GrowsBy, entries_grown}

sum_first : (e : CycleEntry) (es : List CycleEntry) → sum_by taken_by (e ∷ es) ≡ taken_by e + sum_by taken_by es
sum_first e es = let parts = sum_by-append taken_by (e ∷ []) es in let one : sum_by taken_by (e ∷ []) ≡ taken_by e = omega arith in omega (arith, parts, one)

-- entries in two parts, of which the first has these frames
seen_parts : (front back : List Frame) (es ds : List CycleEntry) → length front ≡ sum_by taken_by es → entries_seen (front ++ back) (es ++ ds) ≡ entries_seen front es ++ entries_seen back ds
seen_parts [] back [] ds long = refl
seen_parts (x ∷ front) back [] ds long = absurd (omega arith)
seen_parts front back (e ∷ es) ds long =
    let sum : sum_by taken_by (e ∷ es) ≡ taken_by e + sum_by taken_by es = sum_first e es in
    let within : taken_by e ≤ length front = omega (arith, long, sum) in
    let left : length (drop (taken_by e) front) ≡ sum_by taken_by es = (let l = length-drop (taken_by e) front in omega (arith, long, sum, l)) in
    ap (λ (fs : List Frame). record { entry = e; frames = fs } ∷ entries_seen (drop (taken_by e) (front ++ back)) (es ++ ds)) (take-append-le (taken_by e) front back within)
    ∙ ap (λ (fs : List Frame). record { entry = e; frames = take (taken_by e) front } ∷ entries_seen fs (es ++ ds)) (drop-append-le (taken_by e) front back within)
    ∙ ap (λ (seen : List EntrySeen). record { entry = e; frames = take (taken_by e) front } ∷ seen) (seen_parts (drop (taken_by e) front) back es ds left)

-- the entries that a log grew by
pub grown_is : (few : ℕ) (a b : Logged) (x : GrowsBy few a b) → entries_grown a b ≡ entries_seen x.taken x.more
grown_is few a b x =
    ap (λ (fs : List Frame). entries_seen (drop (length a.frames) fs) (drop (length a.entries) b.entries)) x.frames
    ∙ ap (λ (fs : List Frame). entries_seen fs (drop (length a.entries) b.entries)) (drop-append_seam a.frames x.taken)
    ∙ ap (λ (es : List CycleEntry). entries_seen x.taken (drop (length a.entries) es)) x.entries
    ∙ ap (λ (es : List CycleEntry). entries_seen x.taken es) (drop-append_seam a.entries x.more)

module _ (few some : ℕ) (a b c : Logged) (x : GrowsBy few a b) (y : GrowsBy some b c) where
  -- the entries that a log grew by in two steps
  pub grown_parts : entries_grown a c ≡ entries_grown a b ++ entries_grown b c
  grown_parts =
      ap (λ (fs : List Frame). entries_seen (drop (length a.frames) fs) (drop (length a.entries) c.entries)) (y.frames ∙ ap (λ (fs : List Frame). fs ++ y.taken) x.frames ∙ append_assoc a.frames x.taken y.taken)
      ∙ ap (λ (fs : List Frame). entries_seen fs (drop (length a.entries) c.entries)) (drop-append_seam a.frames (x.taken ++ y.taken))
      ∙ ap (λ (es : List CycleEntry). entries_seen (x.taken ++ y.taken) (drop (length a.entries) es)) (y.entries ∙ ap (λ (es : List CycleEntry). es ++ y.more) x.entries ∙ append_assoc a.entries x.more y.more)
      ∙ ap (λ (es : List CycleEntry). entries_seen (x.taken ++ y.taken) es) (drop-append_seam a.entries (x.more ++ y.more))
      ∙ seen_parts x.taken y.taken x.more y.more x.sized
      ∙ ap (λ (es : List EntrySeen). es ++ entries_seen y.taken y.more) (sym (grown_is few a b x))
      ∙ ap (λ (es : List EntrySeen). entries_grown a b ++ es) (sym (grown_is some b c y))

  module _ (cycles : ℕ) (count : length a.entries + cycles ≡ length b.entries) where
    grown_long : length (entries_grown a b) ≡ cycles
    grown_long =
        let long : length (entries_grown a b) ≡ length x.more = ap length (grown_is few a b x) ∙ same_length x.taken x.more in
        let all : length b.entries ≡ length a.entries + length x.more = ap length x.entries ∙ length-append a.entries x.more in
        omega arith

    -- the first entries are those of the first step
    pub first_dealt : take cycles (entries_grown a c) ≡ entries_grown a b
    first_dealt = ap (take cycles) grown_parts ∙ ap (λ (n : ℕ). take n (entries_grown a b ++ entries_grown b c)) (sym grown_long) ∙ take-append_seam (entries_grown a b) (entries_grown b c)

    -- the other entries are those of the second step
    pub rest_dealt : drop cycles (entries_grown a c) ≡ entries_grown b c
    rest_dealt = ap (drop cycles) grown_parts ∙ ap (λ (n : ℕ). drop n (entries_grown a b ++ entries_grown b c)) (sym grown_long) ∙ drop-append_seam (entries_grown a b) (entries_grown b c)
