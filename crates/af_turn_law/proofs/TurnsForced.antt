-- Turns of which the lists have legal orders are turns in which each event sees what all before it left.
use Rattle.std.proofs.Common.{◌≡◌, inl, inr, ℕ, ◌≤◌, Bool, true, false, true≢false, MatchOption, if◌then◌else◌, fold, is_some, List, [], ◌∷◌, length, All, Option, Some, None, refl, sym, ap, ◌∙◌, subst, arith}
use Rattle.af_turn_law.proofs.Common.{AreTurns, EntrySeen, HaveHistories, IsMadeBy, LegalAlone, LegalTurnBy, LegalTurnIn, Marks, RoundSeen, Run, SeesAllBefore, Session, Setting, Sound, TrackTold, Turn, TurnSpec, calls_alone, cases_lt, cycle_alone, cycle_frames, each_track, ends, fast_ended, found_before, get_or_past, is_tame, learnt, loaded, made_alone, met, met_alone, no_track, outside_of, pipe_size, setup_of, sound_turn, told_at, turn_alone, turn_len, turned, with_ends, with_load, with_mix, with_poll, with_turn}
use Rattle.af_script.specs.declared.op.TurnSpec.TheVariants as makes
use Rattle.af_turn_law.specs.Acting.{FindsShutUnseen}
use Rattle.af_turn_law.specs.ListTurns.{AreListTurns, FindShutUnseen}
use Rattle.af_turn_law.specs.Phased.{IsBlockPhased}
use Rattle.af_turn_law.proofs.BlockForced.{block_forced}
use Rattle.af_turn_law.proofs.Marked.{by_flag}
use Rattle.af_turn_law.proofs.RunBlocks.{RunReady, RunDone, run_met, run_ends, run_calls}
use Rattle.af_turn_law.proofs.RunPolls.{AsTold, pushed_in, begin, legal_parts, all_find, all_cycles}
use Rattle.af_turn_law.proofs.RunShared.{SharedReady, SharedDone, shared_rest, shared_mixed, shared_met, shared_ends, shared_calls, shared_turn, shared_cycles}
use Rattle.af_turn_law.proofs.RunTurns.{run_turn}
use Rattle.af_turn_law.proofs.SharedForced.{queue_forced, report_forced, pipe_forced}
use Rattle.af_turn_law.proofs.TurnActs.{NormalReady, acts}
use Rattle.af_model.specs.StateQueue as queued

-- all that is kept between two rounds
pub record TurnsReady (s : Session) (run : Run) : Type 0 where
  pub blocks : RunReady s run
  pub shared : SharedReady run
  pub normal : NormalReady s run

-- ## The normal mixer

normal_same : (s : Session) (run after : Run) → after.normal ≡ run.normal → after.handed ≡ run.handed → NormalReady s run → NormalReady s after
normal_same s run after same hand h = record {
  sound = subst (λ m. Sound m) (sym same) h.sound;
  long = ap (λ m. length m.tracks) same ∙ h.long;
  new = λ e. same ∙ h.new (sym hand ∙ e);
}

cycles_same : (s : Session) (entries : List EntrySeen) (run : Run) → ((fold (cycle_alone s) run entries).normal ≡ run.normal) × ((fold (cycle_alone s) run entries).handed ≡ run.handed)
unfolding with_mix with_poll met
cycles_same s [] run = (refl, refl)
cycles_same s (e ∷ entries) run = cycles_same s entries (cycle_alone s run e)

normal_turned : (s : Session) (round : RoundSeen) (run : Run) → All (λ (x : Setting). x.scale ≤ 4096) (setup_of s).settings → NormalReady s run → NormalReady s (turn_alone s run round)
unfolding with_turn with_load
normal_turned s round run scales h = by_turn round.turn
  where
    by_turn : (o : Option Turn) → NormalReady s (loaded o (turned s (found_before s run []) o run))
    by_turn None = h
    by_turn (Some e) =
        let k = learnt (outside_of (setup_of s) (found_before s run [] e) e) in
        record {
          sound = sound_turn (setup_of s) scales k run.normal e (let l = h.long in omega (arith, l)) h.sound;
          long = turn_len (setup_of s) k run.normal e ∙ h.long;
          new = λ off. absurd (true≢false off);
        }

normal_met : (s : Session) (run : Run) → NormalReady s run → NormalReady s (with_ends (met s run))
unfolding met with_ends
normal_met s run h = by_end run.normal.ended
  where
    by_end : (b : Bool) → NormalReady s (if b then each_track (λ track t. record t { client = ends t.client }) (met s run) else met s run)
    by_end true = normal_same s run (each_track (λ track t. record t { client = ends t.client }) (met s run)) refl refl h
    by_end false = normal_same s run (met s run) refl refl h

-- ## A round

module _ (s : Session) (marks : Marks) (scales : All (λ (x : Setting). x.scale ≤ 4096) (setup_of s).settings) where
  -- what is told before the meetings
  record MadeSo (made : Run) : Type 0 where
    blocks : RunDone s made
    shared : SharedDone made
    normal : NormalReady s made

  -- the turn of a normal mixer that goes on, by what it found
  pub turn_by : (run : Run) (round : RoundSeen) (e : Turn) → round.turn ≡ Some e → LegalTurnIn s marks (found_before s run []) run round → LegalTurnBy (setup_of s) marks (found_before s run [] e) run.normal e
  turn_by run round e is legal = elim (by_flag run.normal.ended legal) [
    | inl (ended, none) ↦ absurd (true≢false (sym (ap is_some (sym none ∙ is))))
    | inr (goes, made) ↦ subst (λ o. MatchOption o ⊥ (λ e. LegalTurnBy (setup_of s) marks (found_before s run [] e) run.normal e)) is made
  ]

  -- the entries of the fast mixer's turn, if there are any, are legal one after the other
  pub legal_alone : (run : Run) (cycles : ℕ) (round : RoundSeen) → IsMadeBy s marks run (makes.Fast cycles) round → LegalAlone s marks run round.entries
  legal_alone run cycles round made = elim (by_flag (fast_ended run) made.2) [
    | inl (ended, none) ↦ subst (LegalAlone s marks run) (sym none) tt
    | inr (goes, both) ↦ both.1
  ]

  -- the queue is as told up to the meetings
  pub queue_told : (made : Run) → SharedDone made → HaveHistories s (met s made) → AsTold s made.queue
  unfolding met
  queue_told made shared h = (legal_parts queued.legal queued.next (begin s) made.queue _ (queue_forced (cycle_frames s) (met s made).queue (shared_met s made shared).queue.phased h.shared.queue)).0

  made_so : (run : Run) (turn : TurnSpec) (round : RoundSeen) → TurnsReady s run → IsMadeBy s marks run turn round → HaveHistories s (met_alone s run turn round) → ((e : Turn) → round.turn ≡ Some e → FindsShutUnseen s run (found_before s run [] e) e) → MadeSo (made_alone s run turn round)
  made_so run (makes.Client track) round h made histories unseen = record {
    blocks = run_calls s track round run h.blocks;
    shared = shared_calls track round run h.shared;
    normal = normal_same s run (calls_alone track round run) refl refl h.normal;
  }
  made_so run makes.Normal round h made histories unseen = record {
    blocks = run_turn s round run (λ e is. acts s marks run (found_before s run [] e) e scales (turn_by run round e is made.2) h.normal (unseen e is)) h.blocks;
    shared = shared_turn s round run h.shared;
    normal = normal_turned s round run scales h.normal;
  }
  made_so run (makes.Fast cycles) round h made histories unseen =
      let shared : SharedDone (fold (cycle_alone s) run round.entries) = shared_mixed (fold (cycle_alone s) run round.entries) (shared_cycles s round.entries run (shared_rest run h.shared)) in
      let same = cycles_same s round.entries run in
      record {
        blocks = all_cycles s marks round.entries run (pushed_in s run.queue) (all_find s round.entries run (pushed_in s run.queue) refl (queue_told (fold (cycle_alone s) run round.entries) shared histories)) (legal_alone run cycles round made) h.blocks;
        shared = shared;
        normal = normal_same s run (fold (cycle_alone s) run round.entries) same.0 same.1 h.normal;
      }

  -- the blocks are told in phases, also those of tracks that aren't there
  all_phased : (run : Run) (n : ℕ) → RunReady s run → (is_tame (told_at run n).stream ≡ true → IsBlockPhased (told_at run n).stream.told) × IsBlockPhased (told_at run n).commands.told
  all_phased run n h = elim (cases_lt n (length run.tracks)) [
    | inl low ↦ (λ tame. (h.streams n low tame).phased, (h.commands n low).phased)
    | inr high ↦ (let none : told_at run n ≡ no_track = get_or_past run.tracks n no_track high in
        subst (λ (t : TrackTold). (is_tame t.stream ≡ true → IsBlockPhased t.stream.told) × IsBlockPhased t.commands.told) (sym none) (λ tame. tt, tt))
  ]

  sees_all : (run : Run) → RunReady s run → SharedReady run → HaveHistories s run → SeesAllBefore s run
  sees_all run blocks shared h = record {
    streams = λ n there part tame. block_forced (told_at run n).stream ((all_phased run n blocks).0 tame) ((h.blocks n there).stream part tame);
    commands = λ n there tame. block_forced (told_at run n).commands (all_phased run n blocks).1 ((h.blocks n there).commands refl tame);
    queue = queue_forced (cycle_frames s) run.queue shared.queue.phased h.shared.queue;
    report = report_forced run.report shared.report.phased h.shared.report;
    pipe = pipe_forced (pipe_size (setup_of s)) run.pipe shared.pipe.phased h.shared.pipe;
  }

  pub round_forced : (run : Run) (turn : TurnSpec) (round : RoundSeen) → TurnsReady s run → IsMadeBy s marks run turn round → HaveHistories s (met_alone s run turn round) → ((e : Turn) → round.turn ≡ Some e → FindsShutUnseen s run (found_before s run [] e) e)
      → SeesAllBefore s (met_alone s run turn round) × TurnsReady s (with_ends (met_alone s run turn round))
  round_forced run turn round h made histories unseen =
      let m = made_alone s run turn round in
      let so = made_so run turn round h made histories unseen in
      let blocks = run_met s m so.blocks in
      let shared = shared_met s m so.shared in
      (sees_all (met s m) blocks shared histories, record { blocks = run_ends s (met s m) blocks; shared = shared_ends (met s m) shared; normal = normal_met s m so.normal })

  -- ## All rounds

  pub turns_forced : (turns : List TurnSpec) (rounds : List RoundSeen) (run : Run) → TurnsReady s run → AreListTurns s marks run turns rounds → FindShutUnseen s run turns rounds → AreTurns s marks run turns rounds
  turns_forced [] rounds run h are unseen = are
  turns_forced (turn ∷ turns) [] run h are unseen = are
  turns_forced (turn ∷ turns) (round ∷ rounds) run h are unseen =
      let one = round_forced run turn round h are.0 are.1 unseen.0 in
      (are.0, one.0, turns_forced turns rounds (with_ends (met_alone s run turn round)) one.1 are.2 unseen.1)
