-- A script without pokes has one turn run that ends with all stream proxies met.
use Rattle.std.proofs.Common.{◌≡◌, ℕ, zero, suc, ◌+◌, true, List, [], ◌∷◌, ◌++◌, length, All, refl, sym, ◌∙◌, subst, arith}
use Rattle.af_one_turn_run.proofs.Common.{All-head, All-tail, AreEntries, AreTurns, EntrySeen, Frame, IsHistoryAsTold, IsRound, IsScript, IsTurnRun, JournalData, Marks, RoundSeen, Session, Shape, TrackTold, entries_of, file_words, kept_new, marks_of, new_at, new_block, new_long, new_run, no_spec, session_of, slice_index_or, taken_by, track_count}
use Rattle.af_script.specs.Data.{ScriptData}
use Rattle.af_script.specs.declared.track.TrackSpec.{TrackSpec}
use Rattle.af_one_turn_run.proofs.Growing.{takes_in}
use Rattle.af_one_turn_run.specs.MetLast.{AllMetLast}
use Rattle.af_one_turn_run.specs.NoPokes.{PlainOps, PlainTracks}
use Rattle.af_one_turn_run.proofs.AllTold.{AllForms, all_told}
use Rattle.af_one_turn_run.proofs.OneFast.{AreForms}
use Rattle.af_one_turn_run.proofs.OneRounds.{AllTold, one_rounds}
use Rattle.af_one_turn_run.proofs.PlainRuns.{IsTrackPlain, IsRunPlain, ops_pokeless, rounds_plain, all_lawful}
use Rattle.af_one_turn_run.proofs.RoundFollows.{RoundReady}
use Rattle.af_one_turn_run.proofs.RunFiles.{IsOfFile, AreOfFiles}

-- ## Before the first round

-- a block on which nothing was done has its history as told
new_history : (k : Shape) → IsHistoryAsTold (new_block k)
new_history k = (record { order = []; legal = tt; client_is = refl; server_is = refl; hand_is = refl; released_is = omega arith; taken_is = refl }, refl)

new_ready : (s : Session) → RoundReady s (track_count s) (new_run s)
new_ready s = record {
  tracks = new_long s;
  count = refl;
  kept = kept_new s;
  counted = λ n low. subst (λ (t : TrackTold). length t.stream.taken ≡ takes_in t.stream.told) (sym (new_at s n low)) refl;
  commands = λ n low. subst (λ (t : TrackTold). IsHistoryAsTold t.commands) (sym (new_at s n low)) (new_history _);
}

new_files : (s : Session) → AreOfFiles s (new_run s)
new_files s n low = subst (IsOfFile (file_words s n)) (sym (new_at s n (let l = new_long s in omega (arith, l, low)))) (record { file_is = refl; first = refl })

plain_at : (tracks : List TrackSpec) (n : ℕ) → PlainTracks tracks → PlainOps (slice_index_or tracks n no_spec).ops
plain_at [] n h = tt
plain_at (track ∷ tracks) zero h = h.0
plain_at (track ∷ tracks) (suc n) h = plain_at tracks n h.1

pub new_plain : (s : Session) → PlainTracks s.script.tracks → IsRunPlain (new_run s)
new_plain s h n low = subst IsTrackPlain (sym (new_at s n (let l = new_long s in omega (arith, l, low)))) (record { client = record { due = refl; ops = ops_pokeless (slice_index_or s.script.tracks n no_spec).ops (plain_at s.script.tracks n h) }; stream = refl; commands = refl })

-- ## The form of a journal

record FormedParts (xs ys : List EntrySeen) : Type 0 where
  first : AreForms xs
  place : ℕ
  rest : AreEntries place ys

formed_parts : (place : ℕ) (xs ys : List EntrySeen) → AreEntries place (xs ++ ys) → FormedParts xs ys
unfolding taken_by
formed_parts place [] ys h = record { first = tt; place = place; rest = h }
formed_parts place (e ∷ xs) ys h = let r = formed_parts (place + length e.frames) xs ys h.3 in record { first = (h.1, h.2, r.first); place = r.place; rest = r.rest }

formed : (s : Session) (form : IsScript s.script) (many : ℕ) (marks : Marks) (rounds : List RoundSeen) (place : ℕ) → All (IsRound many) rounds → AreEntries place (entries_of rounds) → AllForms s form many marks rounds
formed s form many marks [] place h entries = tt
formed s form many marks (round ∷ rounds) place h entries =
    let parts = formed_parts place round.entries (entries_of rounds) entries in
    (record { form = All-head (IsRound many) round rounds h; entries = parts.first }, formed s form many marks rounds parts.place (All-tail (IsRound many) round rounds h) parts.rest)

-- ## The law

abbrev all_marks : Marks
all_marks = record { streams = λ n. true; commands = λ n. true }

-- all that is needed of a turn run
record Shown (script : ScriptData) (files : List (List Frame)) (form : IsScript script) (j : JournalData) : Type 0 where
  turns : AreTurns (session_of script files) all_marks (new_run (session_of script files)) script.turns j.rounds
  told : AllTold (session_of script files) form (length script.tracks) (file_words (session_of script files)) (new_run (session_of script files)) script.turns j.rounds

shown : (script : ScriptData) (files : List (List Frame)) (form : IsScript script) (j : JournalData) → PlainTracks script.tracks → IsTurnRun script files j → AllMetLast script files j → Shown script files form j
shown script files form j plain run met =
    let s = session_of script files in
    let many = length script.tracks in
    let marks = marks_of j.rounds in
    let forms = formed s form many marks j.rounds 0 (subst (λ n. All (IsRound n) j.rounds) run.tracks run.form.rounds) run.form.entries in
    let are = rounds_plain s form many marks (new_run s) script.turns j.rounds (new_long s) (new_plain s plain) forms run.turns in
    record {
      turns = subst (λ m. AreTurns s m (new_run s) script.turns j.rounds) (all_lawful j.rounds are.0) run.turns;
      told = all_told s form many marks (new_run s) script.turns j.rounds (new_ready s) (new_files s) forms run.turns are.1 met;
    }

-- two turn runs of one script without pokes, in each of which each stream proxy takes part in the last meeting, are the same journal
pub one_turn_run : (script : ScriptData) (files : List (List Frame)) (j k : JournalData) → IsScript script → PlainTracks script.tracks → IsTurnRun script files j → IsTurnRun script files k → AllMetLast script files j → AllMetLast script files k → j ≡ k
one_turn_run script files j k form plain run run_k met met_k =
    let s = session_of script files in
    let h = shown script files form j plain run met in
    let g = shown script files form k plain run_k met_k in
    let rounds = one_rounds s form (length script.tracks) (file_words s) all_marks (λ n. refl) (λ n. refl) (new_run s) script.turns j.rounds k.rounds (new_ready s) h.turns g.turns h.told g.told in
    let tracks : j.tracks ≡ k.tracks = run.tracks ∙ sym run_k.tracks in
    λ i. let z : JournalData = record { tracks = tracks i; rounds = rounds i } in z
