-- The journal of a render is by itself a turn run, and the run that it tells tells the parties.
use Rattle.std.proofs.Common.{List, [], ap, arith, inl, length, refl, slice_get, subst, sym, ℕ, ◌+◌, ◌<◌, ◌∙◌, ◌∷◌, ◌≡◌}
use Rattle.af_render_law.proofs.Common.{AreListTurns, AreRoundsMarked, AreTurns, ClientPart, EndsState, EntrySeen, FindShutUnseen, Frame, HandsBack, IsScript, IsTurnRun, JournalData, Logged, Marks, MixerState, NormalState, PartyState, Renders, RoundNoted, RoundSeen, ScriptData, Session, SessionState, TurnSpec, all_asked, entries_grown, entries_seen, fast_cycles, forced_run, known_new, marks_free, marks_of, new_marked, new_run, new_small, none-some, rounds_seen, run_alone, same_Some, session_of, slice_get_within}
use Rattle.af_script.specs.declared.op.TurnSpec.TheVariants as makes
use Rattle.af_judge.proofs.StatesRuns.{scales_of}
use Rattle.af_render_law.proofs.AwayKnown.{KnowsAway}
use Rattle.af_render_law.proofs.Chain.{AreCounted, FastTurnIsAStep, Holds, NormalTurnIsAStep}
use Rattle.af_render_law.proofs.OwnKept.{ToldBy}
use Rattle.af_render_law.proofs.StepTurns.{AreSteps, steps_turns}
use Rattle.af_told_law.proofs.FirstSteps.{stands_first}
use Rattle.af_render_law.proofs.InvalidKept.{invalid_new}
use Rattle.af_told_law.proofs.NewTold.{new_told, no_deeds}
use Rattle.af_told_law.proofs.PipeCells.{cells_new}
use Rattle.af_render_law.proofs.TameRounds.{tame_new}
use Rattle.af_render_law.proofs.TurnChain.{chain}

-- the cycles that the turns of a script ask for
asked_is : (turns : List TurnSpec) → all_asked turns ≡ fast_cycles turns
asked_is [] = refl
asked_is (makes.Client i ∷ turns) = ap (λ (n : ℕ). 0 + n) (asked_is turns)
asked_is (makes.Normal ∷ turns) = ap (λ (n : ℕ). 0 + n) (asked_is turns)
asked_is (makes.Fast count ∷ turns) = ap (λ (n : ℕ). count + n) (asked_is turns)

module _ (script : ScriptData) (files : List (List Frame)) (form : IsScript script) (normal_step : (marks : Marks) → NormalTurnIsAStep (session_of script files) marks) (fast_step : (marks : Marks) → FastTurnIsAStep (session_of script files) marks) where
  abbrev s : Session
  s = session_of script files

  module _ (rounds : List RoundNoted) (t : SessionState) (rendered : Renders script files script.turns rounds t) where
    abbrev seen : List RoundSeen
    seen = rounds_seen (entries_seen t.fast.log.frames t.fast.log.entries) rounds

    abbrev first : Logged
    first = rendered.start.fast.log

    -- no client has released a frame
    counted_new : AreCounted rendered.start
    counted_new i p is =
        let inside : i < length script.tracks = (let w = slice_get_within rendered.start.clients i p is in let n = rendered.new.tracks.parties in omega (arith, w, n)) in
        let one = rendered.new.tracks.each i inside in
        let same : one.party ≡ p = same_Some one.party p (sym one.party_at ∙ is) in
        subst (λ (q : PartyState). q.stream.released ≡ length q.stream.pass.part.frames) same (one.new.party.stream.kept.1 ∙ ap (λ (c : ClientPart). length c.frames) (sym one.new.party.stream.part))

    -- there are no hands yet
    away_new : KnowsAway rendered.start
    away_new i p h is has away gone = absurd (none-some h (sym (ap (λ (m : NormalState). slice_get m.hands i) rendered.new.normal.is) ∙ has))

    -- the marks of the journal
    abbrev marks : Marks
    marks = marks_of seen

    holds_first : Holds s marks (new_run s) rendered.start (all_asked script.turns)
    holds_first = record {
      told = record { deeds = no_deeds; told = new_told script files rendered.shared rendered.start rendered.new; saw = record { streams = (λ i low tame. tt); commands = (λ i low tame. tt) } };
      stands = stands_first script rendered.shared rendered.start rendered.new;
      marked = new_marked marks s (new_small script files rendered.shared rendered.start rendered.new);
      queue = known_new script files rendered.shared rendered.start rendered.new;
      report = inl refl;
      small = new_small script files rendered.shared rendered.start rendered.new;
      cells = cells_new script files rendered.shared rendered.start rendered.new;
      counted = counted_new;
      aware = away_new;
      tame = tame_new s form;
      invalid = invalid_new s;
      room = omega (arith, asked_is script.turns, form.asked);
    }

    all_grown : entries_grown first t.fast.log ≡ entries_seen t.fast.log.frames t.fast.log.entries
    all_grown = ap (λ (m : MixerState). entries_grown m.log t.fast.log) rendered.new.fast

    free : AreRoundsMarked marks rounds
    free = marks_free marks (entries_seen t.fast.log.frames t.fast.log.entries) rounds (λ i. (λ on. on, λ on. on))

    chained : AreSteps s marks (new_run s) script.turns seen t × AreCounted t
    chained = subst (λ (es : List EntrySeen). AreSteps s marks (new_run s) script.turns (rounds_seen es rounds) t × AreCounted t) all_grown
        (chain s marks (scales_of s form) (normal_step marks) (fast_step marks) (length script.tracks) script.turns (new_run s) rendered.start rounds rendered.bytes t form.turns free holds_first rendered.run)

    turns : AreListTurns s marks (new_run s) script.turns seen × FindShutUnseen s (new_run s) script.turns seen × ToldBy s (run_alone s (new_run s) script.turns seen) t
    turns = steps_turns s marks (new_run s) script.turns seen t chained.0

    -- the rounds that were played are the turns of the script, one by one
    pub turns_seen : AreTurns s marks (new_run s) script.turns seen
    turns_seen = forced_run s marks script.turns seen form turns.0 turns.1

  module _ (j : JournalData) (ends : EndsState) (back : HandsBack script files j ends) where
    rounds_are : j.rounds ≡ seen back.rounds back.parties back.rendered
    rounds_are = ap (λ (k : JournalData). k.rounds) back.journal_is

    -- the journal is by itself a turn run
    pub turn_run : IsTurnRun script files j
    turn_run = record {
      tracks = ap (λ (k : JournalData). k.tracks) back.journal_is;
      form = back.form;
      turns = subst (λ (rounds : List RoundSeen). AreTurns s (marks_of rounds) (new_run s) script.turns rounds) (sym rounds_are) (turns_seen back.rounds back.parties back.rendered);
    }

    -- the run that the journal tells tells the parties
    pub parties_told : ToldBy s (run_alone s (new_run s) script.turns j.rounds) back.parties
    parties_told = subst (λ (rs : List RoundSeen). ToldBy s (run_alone s (new_run s) script.turns rs) back.parties) (sym rounds_are) (turns back.rounds back.parties back.rendered).2

    pub parties_counted : AreCounted back.parties
    parties_counted = (chained back.rounds back.parties back.rendered).1
