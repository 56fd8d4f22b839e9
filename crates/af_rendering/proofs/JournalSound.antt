-- The form and the sound of the journal of a run.
use Rattle.std.proofs.Common.{◌≡◌, ℕ, All, List, [], ◌∷◌, length, map, take, drop, refl, sym, ap, subst, ◌∙◌}
use Rattle.af_rendering.proofs.Common.{All-cons, All-head, All-nil, All-tail, AreEntries, CycleEntry, EntrySeen, Frame, HasRanges, IsFrame, IsJournal, IsWhole, Logged, RoundNoted, RoundsNoted, all_dealt, cycles_of, entries_of, entries_pcm, entries_seen, frames_of, journal_of, journal_pcm, pcm_of, rounds_seen, same_length, taken_by}
use Rattle.af_model.specs.JournalForm.{IsRound}
use Rattle.af_rendering.specs.SoFar.{AreNoted, HasRoundForm}

-- the entries of a log are those that the journal of the log has
pub same_entries : (frames : List Frame) (entries : List CycleEntry) → map (λ (x : EntrySeen). x.entry) (entries_seen frames entries) ≡ entries
same_entries frames [] = refl
same_entries frames (e ∷ es) = ap (λ (l : List CycleEntry). e ∷ l) (same_entries (drop (taken_by e) frames) es)

-- the entries of the journal are those of the log
pub dealt : (noted : RoundsNoted) (log : Logged) → cycles_of noted.rounds ≡ length log.entries → entries_of (journal_of noted log).rounds ≡ entries_seen log.frames log.entries
dealt noted log count = all_dealt (entries_seen log.frames log.entries) noted.rounds (count ∙ sym (same_length log.frames log.entries))

-- ## Form

rounds_form : (tracks : ℕ) (entries : List EntrySeen) (rounds : List RoundNoted) → All (HasRoundForm tracks) rounds → All (IsRound tracks) (rounds_seen entries rounds)
rounds_form tracks entries [] all = All-nil (IsRound tracks)
rounds_form tracks entries (r ∷ rs) all =
    let here = All-head (HasRoundForm tracks) r rs all in
    All-cons (IsRound tracks) (record { calls = r.calls; turn = r.turn; entries = take r.cycles entries }) (rounds_seen (drop r.cycles entries) rs)
    (record { calls = here.calls; turn = here.turn })
    (rounds_form tracks (drop r.cycles entries) rs (All-tail (HasRoundForm tracks) r rs all))

module _ (tracks : ℕ) (noted : RoundsNoted) (log : Logged) (are : AreNoted tracks noted log) (samples : All IsFrame log.frames) where
  pub journal_whole : IsWhole noted log
  journal_whole = (are.count, (are.form samples).frames_are)

  pub journal_form : HasRanges (journal_of noted log) → IsJournal (journal_of noted log)
  journal_form ranges = record {
    rounds = subst (λ (n : ℕ). All (IsRound n) (journal_of noted log).rounds) (sym are.tracks_are) (rounds_form tracks (entries_seen log.frames log.entries) noted.rounds are.each);
    entries = subst (AreEntries 0) (sym (dealt noted log are.count)) (are.form samples).form;
    numbers = ranges;
  }

-- ## Sound

-- the journal sounds as the log does
pub journal_sounds : (len : ℕ) (noted : RoundsNoted) (log : Logged) → IsWhole noted log → journal_pcm len (journal_of noted log) ≡ pcm_of len log
journal_sounds len noted log whole =
    ap (λ (es : List EntrySeen). entries_pcm len (frames_of es) (map (λ (x : EntrySeen). x.entry) es)) (dealt noted log whole.0)
    ∙ ap (λ (es : List CycleEntry). entries_pcm len (frames_of (entries_seen log.frames log.entries)) es) (same_entries log.frames log.entries)
    ∙ ap (λ (fs : List Frame). entries_pcm len fs log.entries) whole.1
