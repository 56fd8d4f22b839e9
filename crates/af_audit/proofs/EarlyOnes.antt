-- The first entries of a round that name states pushed before it.
use Rattle.std.proofs.Common.{◌≡◌, ◌⊎◌, inl, inr, ℕ, ◌+◌, ◌<◌, ◌≤◌, Bool, true, false, List, length, take, drop, get_or, sym, ap, ◌∙◌, arith}
use Rattle.af_audit.proofs.Common.{CycleEntry, cases_eq, entry_at, get_or-drop, get_or-take, length-drop, length-take-le, nat_le, nat_tests, no_entry, prefix_len}
use Rattle.std.proofs.lemmas.List.Sums.{prefix_len-le-length, prefix_len_passes, prefix_len_stops}

module _ (log : List CycleEntry) (first count pushed : ℕ) (inside : first + count ≤ length log) where
  -- the entries of the round
  abbrev own : List CycleEntry
  own = take count (drop first log)

  -- an entry names a state that was pushed
  abbrev names : CycleEntry → Bool
  names e = nat_le e.state pushed

  long : length own ≡ count
  long = length-take-le count (drop first log) (let l = length-drop first log in omega (arith, l, inside))

  entry-own : (at : ℕ) → at < count → get_or own at no_entry ≡ entry_at log (first + at)
  entry-own at low = get_or-take count (drop first log) at no_entry low ∙ get_or-drop first log at no_entry

  -- one more entry is early
  pub early_more : (at : ℕ) (e : CycleEntry) → at < count → at ≤ prefix_len names own → e ≡ entry_at log (first + at) → e.state ≤ pushed → at + 1 ≤ prefix_len names own
  early_more at e low sofar is early = by_case (cases_eq at (prefix_len names own))
    where
      by_case : (at ≡ prefix_len names own) ⊎ (at ≡ prefix_len names own → ⊥) → at + 1 ≤ prefix_len names own
      by_case (inl same) =
          let l = long in
          let stops : names (get_or own (prefix_len names own) no_entry) ≡ false = prefix_len_stops names own no_entry (omega (arith, same, low, l)) in
          let late : names e ≡ false = ap names (is ∙ sym (entry-own at low)) ∙ (ap (λ (n : ℕ). names (get_or own n no_entry)) same ∙ stops) in
          let past : pushed < e.state = grind (arith, nat_tests, late) in
          absurd (let z : ⊥ = omega (arith, past, early) in z)
      by_case (inr apart) = omega (arith, sofar, apart)

  -- the first entry that isn't early ends the early ones
  pub early_stops : (at : ℕ) (e : CycleEntry) → at < count → at ≤ prefix_len names own → e ≡ entry_at log (first + at) → pushed < e.state → at ≡ prefix_len names own
  early_stops at e low sofar is late = by_case (cases_eq at (prefix_len names own))
    where
      by_case : (at ≡ prefix_len names own) ⊎ (at ≡ prefix_len names own → ⊥) → at ≡ prefix_len names own
      by_case (inl same) = same
      by_case (inr apart) =
          let passes : names (get_or own at no_entry) ≡ true = prefix_len_passes names own at no_entry (omega (arith, sofar, apart)) in
          let early : names e ≡ true = ap names (is ∙ sym (entry-own at low)) ∙ passes in
          let low : e.state ≤ pushed = grind (arith, nat_tests, early) in
          absurd (let z : ⊥ = omega (arith, low, late) in z)

  -- all entries are early
  pub early_all : count ≤ prefix_len names own → count ≡ prefix_len names own
  early_all all = let l = long in let most = prefix_len-le-length names own in omega (arith, all, l, most)
