-- If some party of a session goes on, some party of the run that tells it does; so if all of the run have ended, all of the session have.
use Rattle.std.proofs.Common.{◌≡◌, ℕ, zero, suc, ◌+◌, ◌<◌, ◌==◌, ◌&&◌, nat_lt, Bool, true, false, true≢false, if◌then◌else◌, Some, slice_get, sym, ap, ◌∙◌, arith}
use Rattle.af_play_law.proofs.Common.{Deeds, NormalKept, PartyState, Run, Session, SessionState, Tells, Track, all_ended, and_parts, false_from_ne_true, fast_ended, fast_party, has_ended, list_all, range_with_len, slice_get_within, told_at, track_count}
use Rattle.std.proofs.lemmas.Bool.Decides.{nat_tests}
use Rattle.af_play_law.proofs.Basics.{clients_all}
use Rattle.af_play_law.specs.PlayRuns.{all_over}

-- each number of a range passes, if all do
range_pass : (P : ℕ → Bool) (from count : ℕ) → list_all P (range_with_len from count) ≡ true → (i : ℕ) → i < count → P (from + i) ≡ true
range_pass P from zero all i low = absurd (omega (arith, low))
range_pass P from (suc count) all zero low = ap P (let same : from + 0 ≡ from = omega arith in same) ∙ (and_parts (P from) (list_all P (range_with_len (from + 1) count)) all).0
range_pass P from (suc count) all (suc i) low =
    ap P (let same : from + suc i ≡ (from + 1) + i = omega arith in same)
    ∙ range_pass P (from + 1) count (and_parts (P from) (list_all P (range_with_len (from + 1) count)) all).1 i (omega (arith, low))

module _ (s : Session) (run : Run) (d : Deeds) (x : SessionState) (told : Tells s run d x) where
  module _ (all : all_ended s run ≡ true) where
    party : (i : ℕ) → i < fast_party s + 1 → has_ended s run i ≡ true
    party i low = ap (has_ended s run) (let same : i ≡ 0 + i = omega arith in same) ∙ range_pass (has_ended s run) 0 (fast_party s + 1) all i low

    abbrev choice : Bool → Bool → ℕ → Bool
    choice a b i = if a then (told_at run i).client.ended else if b then run.normal.ended else fast_ended run

    normal_over : x.normal.ended ≡ true
    normal_over =
        let n : ℕ = track_count s in
        let below : nat_lt n n ≡ false = grind (arith, nat_tests) in
        let same : (n == n) ≡ true = grind (arith, nat_tests) in
        ap (λ (k : NormalKept). k.ended) told.normal.kept ∙ sym (λ j. choice (below j) (same j) n) ∙ party n (omega arith)

    fast_over : x.fast.exited ≡ true
    fast_over =
        let n : ℕ = track_count s in
        let below : nat_lt (n + 1) n ≡ false = grind (arith, nat_tests) in
        let other : (n + 1 == n) ≡ false = grind (arith, nat_tests) in
        told.fast.exited ∙ sym (λ j. choice (below j) (other j) (n + 1)) ∙ party (n + 1) (omega arith)

    client_over : (i : ℕ) (p : PartyState) → slice_get x.clients i ≡ Some p → p.client.ended ≡ true
    client_over i p is =
        let low : i < track_count s = (let w = slice_get_within x.clients i p is in let c = told.count.1 in omega (arith, w, c)) in
        let below : nat_lt i (track_count s) ≡ true = grind (arith, nat_tests, low) in
        sym (ap (λ (t : Track). t.client.ended) (told.tracks i p is).client)
        ∙ sym (ap (λ (b : Bool). choice b (i == track_count s) i) below) ∙ party i (omega (arith, low))

    pub over : all_over x ≡ true
    over = λ j. normal_over j && (fast_over j && clients_all x.clients client_over j)

  pub still_going : all_over x ≡ false → all_ended s run ≡ false
  still_going goes = false_from_ne_true (all_ended s run) (λ all. true≢false (sym (over all) ∙ goes))
