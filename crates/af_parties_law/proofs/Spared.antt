-- What a run shows at its end of the calls and turns by which it spared tracks.
use Rattle.std.proofs.Common.{◌≡◌, ℕ, ◌+◌, ◌<◌, true, List, [], length, map, slice_get, Some, refl, sym, ap, subst, ◌∙◌, arith}
use Rattle.af_parties_law.proofs.Common.{ClientCall, EntrySeen, FastState, IsNewSession, JournalData, PartyState, RoundNoted, RoundSeen, ScriptData, SessionState, SharedState, Shown, calls_of, calls_over, entries_of, entries_seen, flat_map, frames_of, get_or-map-range_with_len, has_no_poke, is_lawful, journal_of, list_all, none_corrupt, pushed_states, same_Some, shown_by, shows, shows_tracks, slice_get_within, turn_in}
use Rattle.af_cblk.specs.declared.view.ClientPart.{ClientPart}
use Rattle.af_rendering.proofs.ShownWhole.{same_calls, same_turns}
use Rattle.af_tally.specs.Summaries.{is_lawful_shown as is_unpoked}
use Rattle.af_parties_law.specs.Hostile.{IsSpared, PokesSpareOthers, is_spared_in_turn}
use Rattle.af_parties_law.proofs.OpenCalls.{IsTame}
use Rattle.af_parties_law.proofs.SparedRounds.{SparesSoFar, all_calls, all_turns}

-- ## At the start

module _ (script : ScriptData) (shared : SharedState) (s : SessionState) (new : IsNewSession script shared s) where
  tame_new : (i : ℕ) (p : PartyState) → slice_get s.clients i ≡ Some p → IsTame p
  tame_new i p is =
      let one = new.tracks.each i (omega (arith, slice_get_within s.clients i p is, new.tracks.parties)) in
      let same : one.party ≡ p = same_Some one.party p (sym one.party_at ∙ is) in
      subst IsTame same (ap (λ (c : ClientPart). is_lawful c.events) one.new.party.stream.part, ap (λ (c : ClientPart). is_lawful c.events) one.new.party.command.part)

  pub spares_first : SparesSoFar [] s
  spares_first = record { tame = (λ i p is calm. tame_new i p is); spared = (λ i lt calm. (refl, refl)) }

-- ## At the end

-- what the journal of these rounds shows, with the parties that they led to
module _ (script : ScriptData) (rounds : List RoundNoted) (t : SessionState) where
  abbrev pub journal : JournalData
  journal = journal_of (record { tracks = length script.tracks; rounds = rounds }) t.fast.log

  abbrev pub shown : Shown
  shown = shown_by script.frames journal t.normal.mutator.past.events

  abbrev states : List FastState
  states = pushed_states t.normal.mutator.past.events

  abbrev seen : List EntrySeen
  seen = entries_seen t.fast.log.frames t.fast.log.entries

  pub few_tracks : (i : ℕ) → i < length shown.calls → i < length script.tracks
  few_tracks i within =
      let many = shows_tracks states script.frames (length script.tracks) (map (λ (r : RoundSeen). r.calls) journal.rounds) (map (λ (r : RoundSeen). r.turn) journal.rounds)
      (frames_of (entries_of journal.rounds)) (map (λ (e : EntrySeen). e.entry) (entries_of journal.rounds)) in
      omega (arith, within, many)

  -- the calls of a track are those that were noted, and so are the turns
  pub calls_shown : (i : ℕ) → i < length script.tracks → calls_of shown i ≡ all_calls rounds i
  unfolding shows
  calls_shown i lt =
      get_or-map-range_with_len (calls_over (map (λ (r : RoundSeen). r.calls) journal.rounds)) 0 (length script.tracks) i i [] lt (omega arith)
      ∙ ap (λ (calls : List (List (List ClientCall))). calls_over calls i) (same_calls seen rounds)

  turns_shown : shown.turns ≡ all_turns rounds
  unfolding shows
  turns_shown = ap (flat_map turn_in) (same_turns seen rounds)

  module _ (long : length t.clients ≡ length script.tracks) (so_far : SparesSoFar rounds t) where
    spared_run : (i : ℕ) → i < length shown.calls → is_unpoked shown i ≡ true → IsSpared shown i
    spared_run i within calm =
        let lt : i < length script.tracks = few_tracks i within in
        let same = calls_shown i lt in
        let spared = so_far.spared i (omega (arith, lt, long)) (ap has_no_poke (sym same) ∙ calm) in
        record { calls = ap none_corrupt same ∙ spared.0; turns = ap (list_all (is_spared_in_turn i)) turns_shown ∙ spared.1 }

    pub spares_shown : PokesSpareOthers shown
    spares_shown = record { each = spared_run }
