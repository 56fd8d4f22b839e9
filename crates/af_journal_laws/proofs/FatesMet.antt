-- By each meeting of its stream block's proxies each frame that a client released has one fate.
use Rattle.std.proofs.Common.{◌≡◌, ℕ, ◌<◌, Bool, false, true, List, ◌++◌, refl, ap, ◌∙◌}
use Rattle.af_journal_laws.proofs.Common.{Frame, HasFates, HasLegalRounds, IsScript, IsSpared, IsTurnRun, JournalData, Run, ScriptData, Session, TrackTold, fates_told, file_words, new_run, recorded, run_alone, run_from, session_of, takes_part, told_at, told_new, track_count}
use Rattle.af_journal_laws.specs.Alone.{IsSparedAlone, recorded_alone}
use Rattle.af_journal_laws.specs.Fates.{EachMetFrameHasOneFate, EachMetFrameHasOneFateAlone}
use Rattle.af_journal_laws.proofs.AtMeetings.{HasHistoryMet, has_history, stands_met_so}
use Rattle.af_journal_laws.proofs.SparedMet as rounds
use Rattle.af_journal_laws.proofs.Steps.{Goes}
use Rattle.af_journal_laws.proofs.Turns as turns

module _ (s : Session) (script : IsScript s.script) (n : ℕ) (low : n < track_count s) (run : Run) (words : List ℕ) (S : Type 0) (goes : Goes false s n (new_run s) run words S) (part : takes_part s run n ≡ true) (history : HasHistoryMet false s n run) where
  taken_are : (told_at run n).stream.taken ≡ words
  taken_are = goes.track.taken ∙ ap (λ (t : TrackTold). t.stream.taken ++ words) (told_new s n low)

  fates_met : HasFates (file_words s n) words (told_at run n).stream
  fates_met = fates_told (file_words s n) words (told_at run n) (stands_met_so false s script n low run words S goes part history refl) (has_history false s script n low run words S goes part history) taken_are

-- in legal rounds each frame released has one fate by each meeting
pub met-frames-have-fates : (cut : Bool) (script : ScriptData) (files : List (List Frame)) (j : JournalData) → IsScript script → HasLegalRounds cut script files j → EachMetFrameHasOneFate script files j
met-frames-have-fates cut script files j is legal now later begins n low part lawful =
    let s = session_of script files in
    fates_met s is n low (run_from s (new_run s) now) (recorded s (new_run s) now n) (IsSpared false s (new_run s) now n)
    (rounds.goes_now cut script files j is legal now later begins false n low lawful) part (rounds.history_now cut script files j is legal now later begins false n low lawful)

-- in a turn run each frame released has one fate by each meeting
pub met-frames-have-fates-alone : (script : ScriptData) (files : List (List Frame)) (j : JournalData) → IsScript script → IsTurnRun script files j → EachMetFrameHasOneFateAlone script files j
met-frames-have-fates-alone script files j is run_is now later begins n low part lawful =
    let s = session_of script files in
    fates_met s is n low (run_alone s (new_run s) script.turns now) (recorded_alone s (new_run s) script.turns now n) (IsSparedAlone false s (new_run s) script.turns now n)
    (turns.goes_now script files j is run_is now later begins false n low lawful) part (turns.history_now script files j is run_is now later begins false n low lawful)
