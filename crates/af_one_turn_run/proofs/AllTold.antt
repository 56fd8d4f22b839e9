-- In a turn run in which each stream proxy takes part in the last meeting all rounds are told.
use Rattle.std.proofs.Common.{◌≡◌, ℕ, ◌<◌, true, List, [], ◌∷◌, length, sym, ap, ◌∙◌, subst, arith}
use Rattle.af_one_turn_run.proofs.Common.{AreTurns, IsHistoryAsTold, IsScript, Marks, RoundSeen, Run, Session, TrackTold, TurnSpec, ends_part, file_words, met_alone, run_alone, taken_of, takes_part, told_at, track_count, with_ends, ends_blocks}
use Rattle.af_runs.specs.Blocks.{is_tame}
use Rattle.af_one_turn_run.proofs.FileWords.{taken_of_file}
use Rattle.af_one_turn_run.proofs.Growing.{told_before}
use Rattle.af_one_turn_run.proofs.OneRounds.{AllTold}
use Rattle.af_one_turn_run.proofs.OneTurn.{IsBlockTold}
use Rattle.af_one_turn_run.proofs.RoundFollows.{told_legally, told_taken_of, told_frames, RoundReady, RoundForm, round_follows, met_alone_follows, round_ready}
use Rattle.af_one_turn_run.proofs.RunFiles.{IsOfFile, AreOfFiles, met_alone_files, ends_files}
use Rattle.af_one_turn_run.proofs.RunFollows.{Follows, follows_not, follows_then, ends_follow}

-- a stream block with a history as told took the frames of its file
block_of_file : (file : List ℕ) (t : TrackTold) → IsOfFile file t → IsHistoryAsTold t.stream → IsBlockTold file t.stream
block_of_file file t is h =
    let b = t.stream in
    let legal = told_legally b h in
    record {
      legal = legal;
      taken = sym (taken_of_file b.shape file (length b.released) b.told legal (told_frames b h).within) ∙ ap (λ (ws : List ℕ). taken_of ws b.shape b.told) (sym is.first) ∙ told_taken_of b h;
    }

module _ (s : Session) (form : IsScript s.script) (many : ℕ) (marks : Marks) where
  -- each round has its form
  abbrev pub AllForms : List RoundSeen → Type 0
  AllForms [] = Unit {0}
  AllForms (round ∷ rounds) = RoundForm many round × AllForms rounds

  -- no block of the run was poked
  abbrev pub IsTame : Run → Type 0
  IsTame run = (n : ℕ) → n < many → (is_tame (told_at run n).stream ≡ true) × (is_tame (told_at run n).commands ≡ true)

  -- no block was poked up to the end of each round
  abbrev pub AllTame : Run → List TurnSpec → List RoundSeen → Type 0
  AllTame run [] rounds = Unit {0}
  AllTame run (turn ∷ turns) [] = Unit {0}
  AllTame run (turn ∷ turns) (round ∷ rounds) = IsTame (met_alone s run turn round) × AllTame (with_ends (met_alone s run turn round)) turns rounds

  rounds_follow : (run : Run) (turns : List TurnSpec) (rounds : List RoundSeen) → AllForms rounds → Follows run (run_alone s run turns rounds)
  rounds_follow run [] rounds forms = follows_not run
  rounds_follow run (turn ∷ turns) [] forms = follows_not run
  rounds_follow run (turn ∷ turns) (round ∷ rounds) forms =
      let next = with_ends (met_alone s run turn round) in
      follows_then run next (run_alone s next turns rounds) (round_follows s form many run turn round forms.0) (rounds_follow next turns rounds forms.1)

  -- the streams are told at the end
  abbrev StreamsTold : Run → Type 0
  StreamsTold run = (n : ℕ) → n < many → IsBlockTold (file_words s n) (told_at run n).stream

  abbrev AllMet : Run → Type 0
  AllMet run = (n : ℕ) → n < many → takes_part s run n ≡ true

  last_told : (run : Run) (turn : TurnSpec) (turns : List TurnSpec) (rounds : List RoundSeen) → RoundReady s many run → AreOfFiles s run → AllForms rounds → AreTurns s marks run (turn ∷ turns) rounds → AllTame run (turn ∷ turns) rounds
      → AllMet (run_alone s run (turn ∷ turns) rounds) → StreamsTold (run_alone s run (turn ∷ turns) rounds)
  last_told run turn turns [] h files forms are tame part = absurd are
  last_told run turn [] (round ∷ rounds) h files forms are tame part = λ n low.
      let last = met_alone s run turn round in
      let f = met_alone_follows s form many run turn round forms.0 in
      let few : n < length last.tracks = (let l = f.long in let t = h.tracks in omega (arith, l, t, low)) in
      let counted : n < track_count s = (let c = h.count in omega (arith, c, low)) in
      let here : IsBlockTold (file_words s n) (told_at last n).stream = block_of_file (file_words s n) (told_at last n) (met_alone_files s run turn round files n few)
      (are.1.streams n counted (sym (ends_part s last n) ∙ part n low) (tame.0 n low).0) in
      subst (IsBlockTold (file_words s n)) (sym (ends_blocks last n few).0) here
  last_told run turn (next_turn ∷ turns) (round ∷ rounds) h files forms are tame part =
      let last = met_alone s run turn round in
      let f = met_alone_follows s form many run turn round forms.0 in
      last_told (with_ends last) next_turn turns rounds
      (round_ready s form many (file_words s) run turn round forms.0 h (λ n low. are.1.commands n (let c = h.count in omega (arith, c, low)) (tame.0 n low).1))
      (ends_files s last (met_alone_files s run turn round files)) forms.1 are.2 tame.1 part

  told_from : (run : Run) (turns : List TurnSpec) (rounds : List RoundSeen) → RoundReady s many run → AllForms rounds → AreTurns s marks run turns rounds → AllTame run turns rounds → StreamsTold (run_alone s run turns rounds) → AllTold s form many (file_words s) run turns rounds
  told_from run [] rounds h forms are tame last = tt
  told_from run (turn ∷ turns) [] h forms are tame last = tt
  told_from run (turn ∷ turns) (round ∷ rounds) h forms are tame streams =
      let last = met_alone s run turn round in
      let next = with_ends last in
      let end = run_alone s next turns rounds in
      let f = met_alone_follows s form many run turn round forms.0 in
      let g = follows_then last next end (ends_follow last) (rounds_follow next turns rounds forms.1) in
      let commands : (n : ℕ) → n < many → IsHistoryAsTold (told_at last n).commands = λ n low. are.1.commands n (let c = h.count in omega (arith, c, low)) (tame.0 n low).1 in (
        forms.0,
        record {
          streams = λ n low.
              let few : n < length run.tracks = (let t = h.tracks in omega (arith, t, low)) in
              let few_last : n < length last.tracks = (let l = f.long in omega (arith, l, few)) in
              let counted = f.counted n few (h.counted n low) in
              told_before (file_words s n) (told_at last n).stream (told_at end n).stream (g.streams n few_last) counted (g.counted n few_last counted) (streams n low);
          commands = commands;
          queue = are.1.queue;
          report = are.1.report;
          pipe = are.1.pipe;
        },
        told_from next turns rounds (round_ready s form many (file_words s) run turn round forms.0 h commands) forms.1 are.2 tame.1 streams,
      )

  -- all rounds are told
  pub all_told : (run : Run) (turns : List TurnSpec) (rounds : List RoundSeen) → RoundReady s many run → AreOfFiles s run → AllForms rounds → AreTurns s marks run turns rounds → AllTame run turns rounds → AllMet (run_alone s run turns rounds)
      → AllTold s form many (file_words s) run turns rounds
  all_told run [] rounds h files forms are tame part = tt
  all_told run (turn ∷ turns) rounds h files forms are tame part = told_from run (turn ∷ turns) rounds h forms are tame (last_told run turn turns rounds h files forms are tame part)
