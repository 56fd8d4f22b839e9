-- A play of a script with enough cycles has ended once its log is full: its rounds are legal by marks that call the command blocks lawful, and of the streams nothing is asked.
use Rattle.std.proofs.Common.{◌≡◌, ℕ, ◌<◌, true, false, true≢false, List, [], ◌∷◌, length, sym, ap, ◌∙◌}
use Rattle.af_play_law.proofs.Common.{AreFewer, LegalRounds, Marks, RoundSeen, Run, Session, Tells, after_round, legal_for_less, marks_of, new_run, no_deeds, run_from, session_of}
use Rattle.af_enough_law.proofs.NeverCut.{rounds_end_in_time}
use Rattle.af_enough_law.proofs.RunMarks.{run_lawful}
use Rattle.af_play_law.specs.InTime.{PlaysEndInTime}
use Rattle.af_play_law.specs.PlayRuns.{RunIsTold, SureRounds, sure_marks}
use Rattle.af_play_law.proofs.GoingOn.{over}
use Rattle.af_play_law.proofs.PlayTold.{holds_first}
use Rattle.af_play_law.proofs.RunTold.{runs_told}

-- the marks of the command blocks, and of no stream
abbrev commands_alone : Marks → Marks
commands_alone marks = record { streams = λ track. false; commands = marks.commands }

-- rounds that are legal up to the last meetings of the streams are legal if nothing is asked of the streams
commands_legal : (s : Session) (marks : Marks) (rounds : List RoundSeen) (run : Run) → SureRounds s marks run rounds → LegalRounds true s (commands_alone marks) run rounds
commands_legal s marks [] run sure = tt
commands_legal s marks (round ∷ rounds) run sure =
    let fewer : AreFewer (sure_marks s marks run (round ∷ rounds)) (commands_alone marks) = record {
      streams = (λ i on. absurd (true≢false (sym on)));
      commands = (λ i on. on);
    } in
    (legal_for_less true s (sure_marks s marks run (round ∷ rounds)) (commands_alone marks) run round fewer sure.0, commands_legal s marks rounds (after_round s run round) sure.1)

pub plays_end : PlaysEndInTime
plays_end script files shared x t rounds is enough new plays full =
    let s : Session = session_of script files in
    let marks : Marks = marks_of rounds in
    let run_is : RunIsTold s marks (new_run s) no_deeds rounds t = runs_told s marks rounds (new_run s) no_deeds x t (holds_first script files shared x new marks) plays in
    let last : Run = run_from s (new_run s) rounds in
    let told : Tells s last run_is.deeds t = run_is.holds.stands.told in
    let legal : LegalRounds true s (commands_alone marks) (new_run s) rounds = commands_legal s marks rounds (new_run s) run_is.sure in
    let lawful : (i : ℕ) → i < length script.tracks → marks.commands i ≡ true = λ i named. run_lawful true true script files (commands_alone marks) rounds i is enough.form named legal in
    let filled : length last.entries ≡ script.cycles = sym (ap length told.fast.entries) ∙ full ∙ told.fast.cycles in
    over s last run_is.deeds t told (rounds_end_in_time script files (commands_alone marks) rounds is enough lawful legal filled)
