-- The rounds of a render that was cut off are the first turns of its script, one by one, and its sound is that of their journal.
use Rattle.std.proofs.Common.{◌≡◌, ℕ, zero, suc, ◌+◌, ◌≤◌, List, [], ◌∷◌, length, take, refl, ap, arith}
use Rattle.af_render_law.proofs.Common.{All-take, Frame, Given, IsScript, IsTurn, JournalData, MixerState, Renders, RoundNoted, ScriptData, Session, SessionState, TurnSpec, all_asked, cycles_of, fast_cycles, journal_of, length-take, parts_told, round_notes, run_grows, session_of}
use Rattle.af_runs.specs.Pcm.{journal_pcm}
use Rattle.af_session.specs.Rounds.{IsTurnRun}
use Rattle.af_rendering.proofs.JournalSound.{journal_sounds}
use Rattle.af_tally.specs.Sound.{pcm_of}
use Rattle.af_told_law.proofs.LogDealt.{dealt_whole}
use Rattle.af_render_law.specs.TurnsSoFar.{AreTurnsOf}
use Rattle.af_render_law.proofs.FastStep.{fast_turns_step}
use Rattle.af_render_law.proofs.NormalStep.{normal_turns_step}
use Rattle.af_render_law.proofs.RenderTold.{turns_seen}

-- ## The first turns of a script are a script

first_asked : (n : ℕ) (turns : List TurnSpec) → fast_cycles (take n turns) ≤ fast_cycles turns
first_asked zero turns = omega arith
first_asked (suc n) [] = omega arith
first_asked (suc n) (turn ∷ turns) = let more = first_asked n turns in omega (arith, more)

first_script : (n : ℕ) (script : ScriptData) → IsScript script → IsScript (record script { turns = take n script.turns })
first_script n script form = record {
  version = form.version;
  frames = form.frames;
  normal = form.normal;
  cycles = form.cycles;
  product = form.product;
  track_count = form.track_count;
  tracks = form.tracks;
  turn_count = (let few = length-take n script.turns in let most = form.turn_count in omega (arith, few, most));
  turns = All-take (IsTurn (length script.tracks)) n script.turns form.turns;
  asked = (let few = first_asked n script.turns in let most = form.asked in omega (arith, few, most));
}

-- ## How many entries the rounds have

pub rounds_count : (g : Given) (turns : List TurnSpec) (s : SessionState) (rounds : List RoundNoted) (bytes : List ℕ) (t : SessionState) → IsTurnRun g turns s rounds bytes t → length s.fast.log.entries + cycles_of rounds ≡ length t.fast.log.entries
rounds_count g [] s rounds bytes t (none, silent, same) =
    let count : cycles_of rounds ≡ 0 = ap cycles_of none in
    let log : length t.fast.log.entries ≡ length s.fast.log.entries = ap (λ (x : SessionState). length x.fast.log.entries) same in
    omega (arith, count, log)
rounds_count g (turn ∷ turns) s rounds bytes t (r, rs, front, back, m, rounds_are, bytes_are, round, rest) =
    let count : cycles_of rounds ≡ r.cycles + cycles_of rs = ap cycles_of rounds_are in
    let here = (round_notes g turn s r front m round).count in
    let later = rounds_count g turns m rs back t rest in
    omega (arith, count, here, later)

-- ## What was played

module _ (script : ScriptData) (files : List (List Frame)) (n : ℕ) (rounds : List RoundNoted) (t : SessionState) (rendered : Renders script files (take n script.turns) rounds t) where
  abbrev g : Given
  g = record { tracks = script.tracks; files = files }

  abbrev pub journal : JournalData
  journal = journal_of (record { tracks = length script.tracks; rounds = rounds }) t.fast.log

  no_entries : rendered.start.fast.log.entries ≡ []
  no_entries = ap (λ (m : MixerState). m.log.entries) rendered.new.fast

  no_frames : rendered.start.fast.log.frames ≡ []
  no_frames = ap (λ (m : MixerState). m.log.frames) rendered.new.fast

  count : cycles_of rounds ≡ length t.fast.log.entries
  count =
      let all = rounds_count g (take n script.turns) rendered.start rounds rendered.bytes t rendered.run in
      let none : length rendered.start.fast.log.entries ≡ 0 = ap length no_entries in
      omega (arith, all, none)

  pub sounds : journal_pcm script.frames journal ≡ pcm_of script.frames t.fast.log
  sounds = journal_sounds script.frames (record { tracks = length script.tracks; rounds = rounds }) t.fast.log
      (count, dealt_whole (all_asked (take n script.turns)) rendered.start.fast.log t.fast.log no_entries no_frames (run_grows g (take n script.turns) rendered.start rounds rendered.bytes t rendered.run))

  module _ (form : IsScript script) where
    abbrev first : ScriptData
    first = record script { turns = take n script.turns }

    abbrev s : Session
    s = session_of first files

    -- the parties of the script are those of its first turns
    of_first : Renders first files first.turns rounds t
    of_first = record {
      shared = rendered.shared;
      start = rendered.start;
      new = record { tracks = rendered.new.tracks; ends = rendered.new.ends; normal = rendered.new.normal; setup = rendered.new.setup; kept = rendered.new.kept; fast = rendered.new.fast };
      bytes = rendered.bytes;
      run = rendered.run;
      sound = rendered.sound;
    }

    pub are_turns : AreTurnsOf first files journal
    are_turns = record {
      tracks = refl;
      turns = turns_seen first files (first_script n script form) (λ marks. normal_turns_step s marks (parts_told s)) (λ marks. fast_turns_step s marks) rounds t of_first;
    }
