-- The takes of a legal turn are in the order of their tracks.
use Rattle.std.proofs.Common.{◌≡◌, ℕ, zero, suc, ◌+◌, ◌≤◌, nat_le, cond, Bool, true, false, if◌then◌else◌, filter, map, List, [], ◌∷◌, length, refl, sym, subst, arith}
use Rattle.af_told_law.proofs.Common.{LegalTurn, NormalKept, Outside, Setup, TakeSeen, TrackKept, Turn, after_edits, asked, is_mixed_here, learnt, mixed_here, range_with_len, track_at, tracks_due}
use Rattle.af_model.specs.JournalForm.{TracksRise}

-- numbers that rise, from one on
abbrev Rise : ℕ → List ℕ → Type 0
Rise low [] = Unit {0}
Rise low (n ∷ ns) = (low ≤ n) × Rise (n + 1) ns

sooner : (low high : ℕ) (ns : List ℕ) → low ≤ high → Rise high ns → Rise low ns
sooner low high [] le rise = tt
sooner low high (n ∷ ns) le rise = (let r = rise.0 in omega (arith, le, r), rise.1)

range_rises : (from count : ℕ) → Rise from (range_with_len from count)
range_rises from zero = tt
range_rises from (suc count) = (omega arith, range_rises (from + 1) count)

-- what a test leaves of rising numbers rises
module _ (test : ℕ → Bool) where
  kept_rise : (low n : ℕ) (ns : List ℕ) (b : Bool) → low ≤ n → Rise (n + 1) ns → Rise low (cond b (n ∷ ns) ns)
  kept_rise low n ns true le rise = (le, rise)
  kept_rise low n ns false le rise = sooner low (n + 1) ns (omega (arith, le)) rise

  filter_rises : (low : ℕ) (ns : List ℕ) → Rise low ns → Rise low (filter test ns)
  filter_rises low [] rise = tt
  filter_rises low (n ∷ ns) rise = kept_rise low n (filter test ns) (test n) rise.0 (filter_rises (n + 1) ns rise.1)

either_rises : (ns : List ℕ) (b : Bool) → Rise 0 ns → Rise 0 (if b then ns else [])
either_rises ns true rise = rise
either_rises ns false rise = tt

due_rise : (c : Setup) (room : ℕ) (tracks : List TrackKept) → Rise 0 (tracks_due c room tracks)
due_rise c room tracks = either_rises (mixed_here tracks) (nat_le (asked c) room) (filter_rises (λ i. is_mixed_here (track_at tracks i)) 0 (range_with_len 0 (length tracks)) (range_rises 0 (length tracks)))

takes_rise : (low : ℕ) (takes : List TakeSeen) → Rise low (map (λ (t : TakeSeen). t.track) takes) → TracksRise low takes
takes_rise low [] rise = tt
takes_rise low (t ∷ takes) rise = (rise.0, takes_rise (t.track + 1) takes rise.1)

pub turn_rises : (c : Setup) (o : Outside) (m : NormalKept) (e : Turn) → LegalTurn c o m e → TracksRise 0 e.mixes
turn_rises c o m e legal = by_end e.ended refl
  where
    by_end : (b : Bool) → e.ended ≡ b → TracksRise 0 e.mixes
    by_end true over = subst (λ (t : Turn). TracksRise 0 t.mixes) (sym (legal.still over)) tt
    by_end false runs = takes_rise 0 e.mixes (subst (Rise 0) (sym (legal.goes_on runs).due) (due_rise c e.room (after_edits c (learnt o) e m).tracks))
