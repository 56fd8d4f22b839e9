-- In the last meeting of a legal run each stream proxy takes part, so that what holds at each meeting holds of the whole journal.
use Rattle.std.proofs.Common.{◌≡◌, ℕ, Bool, true, false, List, [], ◌∷◌, refl, sym, append-nil}
use Rattle.af_journal_laws.proofs.Common.{Frame, IsLegalRun, JournalData, LegalRounds, Marks, RoundSeen, Run, ScriptData, Session, after_round, both_first, observer_holds, is_home, is_lawful_block, marks_of, new_run, normal_ended, or_left, run_from, run_of, session_of, setup_of, takes_part, track_at}
use Rattle.af_audit.proofs.MixerEnds.{EndsHome, all_home, new_ends}
use Rattle.af_audit.proofs.MixerRounds.{round_ends}
use Rattle.af_journal_laws.specs.Laws.{HoldsToTheEnd}
use Rattle.af_journal_laws.specs.Meetings.{EachProxyMeetsLast, meets_on}

rounds_home : (cut : Bool) (s : Session) (marks : Marks) (rounds : List RoundSeen) (run : Run) → LegalRounds cut s marks run rounds → EndsHome run.normal → EndsHome (run_from s run rounds).normal
rounds_home cut s marks [] run legal h = h
rounds_home cut s marks (round ∷ rounds) run legal h = rounds_home cut s marks rounds (after_round s run round) legal.1 (round_ends cut s marks run round legal.0 h)

-- ## The last meeting

meets-last : (script : ScriptData) (files : List (List Frame)) (j : JournalData) → IsLegalRun script files j → EachProxyMeetsLast script files j
meets-last script files j legal track low =
    let s = session_of script files in
    let run = run_of script files j in
    or_left (is_home (track_at run.normal.tracks track).holder) (observer_holds s run track)
    (all_home run.normal (rounds_home false s (marks_of j.rounds) j.rounds (new_run s) legal.rounds.rounds (new_ends (setup_of s))) (normal_ended s run legal.ends) track)

meets_so : (commands : Bool) (s : Session) (run : Run) (track : ℕ) → takes_part s run track ≡ true → meets_on commands s run track ≡ true
meets_so true s run track part = refl
meets_so false s run track part = part

-- what holds at each meeting holds of the whole journal
pub holds-to-the-end : (script : ScriptData) (files : List (List Frame)) (j : JournalData) → IsLegalRun script files j → HoldsToTheEnd script files j
holds-to-the-end script files j legal =
    let s = session_of script files in
    let run = run_of script files j in
    let last = meets-last script files j legal in
    record {
      last = last;
      spared = (λ spared commands track low lawful. spared j.rounds [] (sym (append-nil j.rounds)) commands track low (meets_so commands s run track (last track low)) lawful);
      fates = (λ fates track low lawful. fates j.rounds [] (sym (append-nil j.rounds)) track low (last track low) (both_first (is_lawful_block false j.rounds track) (is_lawful_block true j.rounds track) lawful));
      drained = (λ drained. drained j.rounds [] (sym (append-nil j.rounds)));
      settled = (λ settled. settled j.rounds [] (sym (append-nil j.rounds)));
    }
