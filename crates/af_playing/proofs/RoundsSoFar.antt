-- The rounds of a play that was cut off are legal one by one, up to the last meetings, and its sound is that of their journal.
use Rattle.std.proofs.Common.{◌≡◌, ℕ, ◌+◌, ◌*◌, List, [], ◌∷◌, length, refl, sym, ap, subst, arith}
use Rattle.af_playing.proofs.Common.{Frame, Given, GrowsBy, IsRoundOfAll, JournalData, Marks, MixerState, RoundNoted, ScriptData, Session, SessionState, cycles_of, grows_none, grows_then, journal_of, journal_pcm, journal_sounds, marks_of, new_run, pcm_of, session_of}
use Rattle.af_told_law.proofs.LogDealt.{dealt_whole}
use Rattle.af_told_law.proofs.NewTold.{no_deeds}
use Rattle.af_play_law.proofs.PlayTold.{holds_first}
use Rattle.af_play_law.proofs.RunTold.{runs_told}
use Rattle.af_playing.specs.PlayedRuns.{IsRunOfAll, Plays}
use Rattle.af_playing.specs.RoundsSoFar.{AreRoundsOf}
use Rattle.af_playing.proofs.PlayedOn.{turn_grows}
use Rattle.af_playing.proofs.RoundsOfAll.{log_of_turns, notes_of_all}
use Rattle.af_playing.proofs.RoundsTold.{rounds_told, seen}

-- ## How the log grows

round_grows : (g : Given) (s : SessionState) (r : RoundNoted) (bytes : List ℕ) (t : SessionState) → IsRoundOfAll g s r bytes t → GrowsBy 16 s.fast.log t.fast.log
round_grows g s r bytes t round = subst (GrowsBy 16 s.fast.log) (sym (log_of_turns g s r bytes t round)) (turn_grows round.links s.fast bytes round.turned.fast round.plays.fast)

run_grows : (g : Given) (s : SessionState) (rounds : List RoundNoted) (bytes : List ℕ) (t : SessionState) → IsRunOfAll g s rounds bytes t → GrowsBy (16 * length rounds) s.fast.log t.fast.log
run_grows g s [] bytes t (silent, same) = grows_none 0 s.fast.log t.fast.log (ap (λ (x : SessionState). x.fast.log) same)
run_grows g s (r ∷ rs) bytes t (front, back, m, goes, bytes_are, round, rest) =
    grows_then 16 (16 * length rs) (16 * length (r ∷ rs)) s.fast.log m.fast.log t.fast.log (omega arith) (round_grows g s r front m round) (run_grows g m rs back t rest)

rounds_count : (g : Given) (s : SessionState) (rounds : List RoundNoted) (bytes : List ℕ) (t : SessionState) → IsRunOfAll g s rounds bytes t → length s.fast.log.entries + cycles_of rounds ≡ length t.fast.log.entries
rounds_count g s [] bytes t (silent, same) =
    let log : length t.fast.log.entries ≡ length s.fast.log.entries = ap (λ (x : SessionState). length x.fast.log.entries) same in
    omega (arith, log)
rounds_count g s (r ∷ rs) bytes t (front, back, m, goes, bytes_are, round, rest) =
    let here = (notes_of_all g s r front m round).count in
    let later = rounds_count g m rs back t rest in
    omega (arith, here, later)

-- ## What was played

module _ (script : ScriptData) (files : List (List Frame)) (rounds : List RoundNoted) (t : SessionState) (played : Plays script files rounds t) where
  abbrev g : Given
  g = record { tracks = script.tracks; files = files }

  abbrev s : Session
  s = session_of script files

  abbrev pub journal : JournalData
  journal = journal_of (record { tracks = length script.tracks; rounds = rounds }) t.fast.log

  no_entries : played.start.fast.log.entries ≡ []
  no_entries = ap (λ (m : MixerState). m.log.entries) played.new.fast

  no_frames : played.start.fast.log.frames ≡ []
  no_frames = ap (λ (m : MixerState). m.log.frames) played.new.fast

  -- the rounds note as many cycles as the log has entries
  pub count : cycles_of rounds ≡ length t.fast.log.entries
  count =
      let all = rounds_count g played.start rounds played.bytes t played.run in
      let none : length played.start.fast.log.entries ≡ 0 = ap length no_entries in
      omega (arith, all, none)

  pub sounds : journal_pcm script.frames journal ≡ pcm_of script.frames t.fast.log
  sounds = journal_sounds script.frames (record { tracks = length script.tracks; rounds = rounds }) t.fast.log
      (count, dealt_whole (16 * length rounds) played.start.fast.log t.fast.log no_entries no_frames (run_grows g played.start rounds played.bytes t played.run))

  abbrev marks : Marks
  marks = marks_of (seen script files rounds t played)

  pub are_rounds : AreRoundsOf script files journal
  are_rounds = record {
    tracks = refl;
    rounds = (runs_told s marks (seen script files rounds t played) (new_run s) no_deeds played.start t (holds_first script files played.shared played.start played.new marks) (rounds_told script files rounds t played)).sure;
  }
