-- What a render shows at its end of the fast mixer's looks at the tracks that it spared.
use Rattle.std.proofs.Common.{◌≡◌, ℕ, ◌<◌, ◌≤◌, ⊎_elim, true, List, length, map, slice_get, Some, None, sym, ap, ◌∙◌, arith}
use Rattle.af_parties_law.proofs.Common.{EntrySeen, FastState, PartyState, RoundNoted, ScriptData, SessionState, cycles_of, has_no_poke, last_used, list_all, polled_states, pushed_states, shows, slice_get_cases, slice_index_or, use_of, uses_stay}
use Rattle.af_rendering.proofs.JournalSound.{dealt, same_entries}
use Rattle.af_stateq.proofs.Prefix.{polled_in_order}
use Rattle.af_tally.specs.Summaries.{is_lawful_shown as is_unpoked}
use Rattle.af_parties_law.specs.Hostile.{PokesSpareEntries, is_spared_in_entry}
use Rattle.af_parties_law.proofs.Spared.{calls_shown, few_tracks, shown}
use Rattle.af_parties_law.proofs.SparedCycles.{entries_at}
use Rattle.af_parties_law.proofs.SparedFast.{FastSparesSoFar, entries_are}
use Rattle.af_parties_law.proofs.SparedRounds.{SparesSoFar, all_calls}

module _ (script : ScriptData) (rounds : List RoundNoted) (t : SessionState) (long : length t.clients ≡ length script.tracks) (count : cycles_of rounds ≡ length t.fast.log.entries) (so_far : SparesSoFar rounds t) (fast : FastSparesSoFar t) where
  abbrev first : FastState
  first = t.normal.mutator.past.first

  -- the entries shown are those of the log, with the states pushed
  entries_shown : (shown script rounds t).entries ≡ map (use_of (pushed_states t.normal.mutator.past.events)) t.fast.log.entries
  unfolding shows
  entries_shown = ap (map (use_of (pushed_states t.normal.mutator.past.events)))
      (ap (map (λ (e : EntrySeen). e.entry)) (dealt (record { tracks = length script.tracks; rounds = rounds }) t.fast.log count) ∙ same_entries t.fast.log.frames t.fast.log.entries)

  -- the states pushed give the entries those that were polled
  entries_pushed : map (use_of (pushed_states t.normal.mutator.past.events)) t.fast.log.entries ≡ map (use_of (polled_states first t.fast.observer.past.events)) t.fast.log.entries
  entries_pushed =
      let order = polled_in_order first t.normal.mutator.past.events t.fast.observer.past.events fast.stands.history in
      let used = fast.used first in
      ap (λ (states : List FastState). map (use_of states) t.fast.log.entries) order.2 ∙ uses_stay (polled_states first t.fast.observer.past.events) order.0 (last_used t.fast.log.entries) t.fast.log.entries used.0 used.1

  same : (shown script rounds t).entries ≡ entries_at first t.fast
  same = entries_shown ∙ entries_pushed ∙ sym (entries_are first t.fast)

  entries_of_track : (i : ℕ) → i < length (shown script rounds t).calls → is_unpoked (shown script rounds t) i ≡ true → list_all (is_spared_in_entry i) (shown script rounds t).entries ≡ true
  entries_of_track i within calm =
      let lt : i < length script.tracks = few_tracks script rounds t i within in
      let inside : i < length t.clients = omega (arith, lt, long) in
      let calm_here : has_no_poke (all_calls rounds i) ≡ true = ap has_no_poke (sym (calls_shown script rounds t i lt)) ∙ calm in
      ⊎_elim
      (λ (here : (p : PartyState) × (i < length t.clients) × (slice_get t.clients i ≡ Some p) × (slice_index_or t.clients i p ≡ p)).
      ap (list_all (is_spared_in_entry i)) same ∙ fast.free i here.0 here.2 (so_far.tame i here.0 here.2 calm_here) first)
      (λ (none : (length t.clients ≤ i) × (slice_get t.clients i ≡ None)). absurd (omega (arith, inside, none.0)))
      (slice_get_cases t.clients i).1

  pub entries_spare : PokesSpareEntries (shown script rounds t)
  entries_spare = record { each = entries_of_track }
