-- The summary of a play is that of its journal alone, if the journal is that of a legal run or of a cut one.
use Rattle.std.proofs.Common.{◌≡◌, ℕ, suc, Bool, true, false, List, [], ◌∷◌, length, map, option_map, slice_get, Some, refl, sym, ap, subst, ◌∙◌, arith}
use Rattle.af_parties_law.proofs.Common.{EndsState, Frame, Given, HasLegalRounds, JournalData, LegalRounds, PartyState, Played, Run, ScriptData, Session, TrackTold, Words, entries_of, frames_of, length-map, marks_of, new_run, pushed_states, released_by, run_from, run_of, same_Some, session_of, shown_by, shows, slice_get-map, summary_of, track_words}
use Rattle.af_rendering.specs.Alone.{shown_from}
use Rattle.af_parties_law.specs.PlayedAlone.{IsToldAlone}
use Rattle.af_playing.specs.PlayedRuns.{HandsBackRun}
use Rattle.af_parties_law.specs.Telling.{CutPlaysAreToldAlone, DonePlaysAreToldAlone}
use Rattle.af_parties_law.proofs.RunFollows.{Follows, client_words, new_follows, run_follows}
use Rattle.af_parties_law.proofs.RunReleased.{AreInOrder, new_order, run_order}

-- two lists give the same if each place does
same_maps : (ps : List PartyState) (ts : List TrackTold) → length ps ≡ length ts → ((i : ℕ) (p : PartyState) (t : TrackTold) → slice_get ps i ≡ Some p → slice_get ts i ≡ Some t → p.stream.released ≡ length t.stream.released)
    → released_by ps ≡ map (λ (t : TrackTold). length t.stream.released) ts
same_maps [] [] long each = refl
same_maps [] (t ∷ ts) long each = absurd (omega (arith, long))
same_maps (p ∷ ps) [] long each = absurd (omega (arith, long))
same_maps (p ∷ ps) (t ∷ ts) long each = λ j. each 0 p t refl refl j ∷ same_maps ps ts (omega (arith, long)) (λ i q u is at. each (suc i) q u is at) j

module _ (ended : Bool) (script : ScriptData) (files : List (List Frame)) (j : JournalData) (e : EndsState) (h : HandsBackRun ended script files j e) (cut : Bool) (legal : HasLegalRounds cut script files j) where
  abbrev s : Session
  s = session_of script files

  abbrev g : Given
  g = record { tracks = script.tracks; files = files }

  abbrev run : Run
  run = run_of script files j

  follows : Follows script files h.parties run
  follows =
      let played = h.played in
      let rounds : LegalRounds cut s (marks_of j.rounds) (new_run s) _ = subst (λ (x : JournalData). LegalRounds cut s (marks_of j.rounds) (new_run s) x.rounds) h.journal_is legal.rounds in
      subst (λ (x : JournalData). Follows script files h.parties (run_from s (new_run s) x.rounds)) (sym h.journal_is)
      (run_follows script files cut (marks_of j.rounds) played.start h.rounds played.bytes h.parties played.run _ (new_run s) (new_follows script files played.shared played.start played.new) rounds)

  order : AreInOrder h.parties
  order = run_order g h.played.start h.rounds h.played.bytes h.parties h.played.run (new_order script h.played.shared h.played.start h.played.new)

  one_released : (i : ℕ) (p : PartyState) (t : TrackTold) → slice_get e.clients i ≡ Some p → slice_get run.tracks i ≡ Some t → p.stream.released ≡ length t.stream.released
  one_released i p t is at =
      let here : slice_get h.parties.clients i ≡ Some p = ap (λ (x : EndsState). slice_get x.clients i) (sym h.ends_are) ∙ is in
      let same : track_words t ≡ client_words script files i p = same_Some (track_words t) (client_words script files i p) (sym (slice_get-map track_words run.tracks i ∙ ap (option_map track_words) at) ∙ follows.clients i p here) in
      (order i p here).released_is ∙ ap (λ (y : Words). length y.1) (sym same)

  all_released : released_by e.clients ≡ map (λ (t : TrackTold). length t.stream.released) run.tracks
  all_released = same_maps e.clients run.tracks (h.count ∙ sym follows.long ∙ length-map run.tracks track_words) one_released

  shown_alone : shown_by script.frames j e.normal.mutator.past.events ≡ shown_from script j run
  shown_alone =
      let seen = entries_of j.rounds in
      let states : pushed_states e.normal.mutator.past.events ≡ run.states = ap (λ (x : EndsState). pushed_states x.normal.mutator.past.events) h.ends_are ∙ follows.normal.pushed in
      λ k. shows (states k) script.frames j.tracks (map (λ r. r.calls) j.rounds) (map (λ r. r.turn) j.rounds) (frames_of seen) (map (λ x. x.entry) seen)

  told_alone : IsToldAlone script files j e
  told_alone = record { summary = λ k. summary_of (shown_alone k) (all_released k); shown = shown_alone }

-- what a play that is done hands back is told alone
pub done_alone : (script : ScriptData) (files : List (List Frame)) (p : Played) → DonePlaysAreToldAlone script files p
done_alone script files p done = told_alone true script files p.journal p.ends done.played false done.promises.legal.rounds

-- what a play that was cut off hands back is told alone
pub cut_alone : (script : ScriptData) (files : List (List Frame)) (j : JournalData) (e : EndsState) → CutPlaysAreToldAlone script files j e
cut_alone script files j e limit = told_alone false script files j e limit.played true limit.cut_run.rounds
