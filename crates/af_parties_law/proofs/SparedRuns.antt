-- Renders and plays spare the tracks whose clients have not poked, by all of their rounds.
use Rattle.std.proofs.Common.{◌≡◌, ℕ, ◌+◌, Bool, List, [], ◌∷◌, ◌++◌, length, sym, ap, subst, ◌∙◌, append-nil, append_assoc, arith}
use Rattle.af_parties_law.proofs.Common.{EndsState, Frame, Given, JournalData, MixerState, RoundNoted, ScriptData, SessionState, TurnSpec, cycles_of}
use Rattle.af_playing.specs.PlayedRuns.{IsRunOfAll}
use Rattle.af_render_law.proofs.TurnsSoFar.{rounds_count}
use Rattle.af_session.specs.Rounds.{IsTurnRun}
use Rattle.af_parties_law.specs.Hostile.{PokesSpareEntries, PokesSpareOthers}
use Rattle.af_parties_law.specs.Sparing.{PlaysSpareOthers, RendersSpareOthers, shown_back}
use Rattle.af_parties_law.proofs.Spared.{spares_first, spares_shown}
use Rattle.af_parties_law.proofs.SparedEntries.{entries_spare}
use Rattle.af_parties_law.proofs.SparedFast.{FastSparesSoFar, fast_first, fast_round_spares}
use Rattle.af_parties_law.proofs.SparedOfAll.{spares_of_all}
use Rattle.af_parties_law.proofs.SparedRounds.{SparesSoFar, spares_round}

-- ## Rounds, one after the other

-- the turns of a render, behind rounds that were done
turns_spare : (g : Given) (turns : List TurnSpec) (s : SessionState) (done rounds : List RoundNoted) (bytes : List ℕ) (t : SessionState) → IsTurnRun g turns s rounds bytes t → SparesSoFar done s → SparesSoFar (done ++ rounds) t
turns_spare g [] s done rounds bytes t (none, silent, same) so_far =
    subst (λ (x : List RoundNoted × SessionState). SparesSoFar x.0 x.1) (λ i. ((sym (append-nil done) ∙ ap (λ (rs : List RoundNoted). done ++ rs) (sym none)) i, sym same i)) so_far
turns_spare g (turn ∷ turns) s done rounds bytes t (r, rs, front, back, m, rounds_are, bytes_are, round, rest) so_far =
    subst (λ (xs : List RoundNoted). SparesSoFar xs t) (append_assoc done (r ∷ []) rs ∙ ap (λ (xs : List RoundNoted). done ++ xs) (sym rounds_are))
    (turns_spare g turns m (done ++ r ∷ []) rs back t rest (spares_round g s m front turn r done round so_far))

-- the same by the fast mixer's log
turns_spare_entries : (g : Given) (turns : List TurnSpec) (s : SessionState) (rounds : List RoundNoted) (bytes : List ℕ) (t : SessionState) → IsTurnRun g turns s rounds bytes t → FastSparesSoFar s → FastSparesSoFar t
turns_spare_entries g [] s rounds bytes t run so_far = subst FastSparesSoFar (sym run.2) so_far
turns_spare_entries g (turn ∷ turns) s rounds bytes t (r, rs, front, back, m, rounds_are, bytes_are, round, rest) so_far =
    turns_spare_entries g turns m rs back t rest (fast_round_spares g s m front so_far turn r round)

-- the rounds of a play, behind rounds that were done
rounds_spare : (g : Given) (s : SessionState) (done rounds : List RoundNoted) (bytes : List ℕ) (t : SessionState) → IsRunOfAll g s rounds bytes t → SparesSoFar done s → SparesSoFar (done ++ rounds) t
rounds_spare g s done [] bytes t (silent, same) so_far = subst (λ (x : List RoundNoted × SessionState). SparesSoFar x.0 x.1) (λ i. (sym (append-nil done) i, sym same i)) so_far
rounds_spare g s done (r ∷ rs) bytes t (front, back, m, goes, bytes_are, round, rest) so_far =
    subst (λ (xs : List RoundNoted). SparesSoFar xs t) (append_assoc done (r ∷ []) rs)
    (rounds_spare g m (done ++ r ∷ []) rs back t rest (spares_of_all g s r front m round done so_far))

-- ## What is handed back

module _ (script : ScriptData) (files : List (List Frame)) where
  abbrev g : Given
  g = record { tracks = script.tracks; files = files }

  pub renders_spare : (journal : JournalData) (ends : EndsState) → RendersSpareOthers script files journal ends
  renders_spare journal ends back =
      let t : SessionState = back.parties in
      let run = back.rendered in
      let long : length t.clients ≡ length script.tracks = ap (λ (e : EndsState). length e.clients) (sym back.ends_are) ∙ back.count in
      let all = rounds_count g script.turns run.start back.rounds run.bytes t run.run in
      let none : length run.start.fast.log.entries ≡ 0 = ap (λ (m : MixerState). length m.log.entries) run.new.fast in
      let count : cycles_of back.rounds ≡ length t.fast.log.entries = omega (arith, all, none) in
      let so_far : SparesSoFar back.rounds t = turns_spare g script.turns run.start [] back.rounds run.bytes t run.run (spares_first script run.shared run.start run.new) in
      let fast : FastSparesSoFar t = turns_spare_entries g script.turns run.start back.rounds run.bytes t run.run (fast_first script run.shared run.start run.new) in
      subst (λ (x : JournalData × EndsState). PokesSpareOthers (shown_back script x.0 x.1) × PokesSpareEntries (shown_back script x.0 x.1)) (λ k. (sym back.journal_is k, sym back.ends_are k))
      (spares_shown script back.rounds t long so_far, entries_spare script back.rounds t long count so_far fast)

-- of a play whether all parties have ended or not
pub plays_spare : (ended : Bool) (script : ScriptData) (files : List (List Frame)) (journal : JournalData) (ends : EndsState) → PlaysSpareOthers ended script files journal ends
plays_spare ended script files journal ends back =
    let t : SessionState = back.parties in
    let run = back.played in
    let long : length t.clients ≡ length script.tracks = ap (λ (e : EndsState). length e.clients) (sym back.ends_are) ∙ back.count in
    let so_far : SparesSoFar back.rounds t = rounds_spare (record { tracks = script.tracks; files = files }) run.start [] back.rounds run.bytes t run.run (spares_first script run.shared run.start run.new) in
    subst (λ (x : JournalData × EndsState). PokesSpareOthers (shown_back script x.0 x.1)) (λ k. (sym back.journal_is k, sym back.ends_are k)) (spares_shown script back.rounds t long so_far)
