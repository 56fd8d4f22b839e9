-- A turn of the normal mixer that hadn't ended is a step of the run, and the queue is known again.
use Rattle.std.proofs.Common.{Bool, List, MatchBool, MatchOption, None, Option, Some, [], ap, arith, false, inr, length, refl, subst, sym, take, true, true≢false, ℕ, ◌++◌, ◌+◌, ◌<◌, ◌∙◌, ◌∷◌, ◌≡◌}
use Rattle.af_render_law.proofs.Common.{AreSmall, AreTogether, Deeds, EntrySeen, FindsShutUnseen, IsLegal, IsMadeBy, IsRound, LegalTurnBy, Links, Load, Marks, MatchBool-at_false, Met, NormalKept, NormalState, NormalTurned, OnlyCalls, PartsAreTold, PartsTold, Pushes, QueueKnown, Quiet, RoundNoted, RoundSeen, Run, SawOwnBy, SeesOwn, ServerState, Session, SessionState, StandsBefore, StreamNames, Tells, Track, TrackTold, Turn, TurnFound, TurnMade, TurnShown, answer_of, cycle_frames, did_by, ends_keep, found_before, given_of, going, known_same, loaded, made_alone, meetings_show, met_alone, normal_round, quiet_ends, quiet_met, quiet_then, report_of, same_Some, setup_of, client_side, sides_of, slice_index_or, small_told, still_round, tame_marks, told_at, turn_of, turned, with_ends, with_load, with_turn}
use Rattle.af_enough_law.proofs.Basics.{load_told as same_track}
use Rattle.af_runs.specs.Runs as run_of
use Rattle.af_script.specs.declared.op.TurnSpec.TheVariants as makes
use Rattle.af_render_law.proofs.Chain.{Holds, NormalTurnIsAStep, StepIsTold, round_of}
use Rattle.af_render_law.proofs.OwnKept.{ToldBy, left_histories, left_met, saw_loaded, saw_now, saw_sides, turned_own}
use Rattle.af_render_law.proofs.BetweenRounds.{leads_turned}
use Rattle.af_render_law.proofs.ClientRound.{none_else}
use Rattle.af_told_law.proofs.NormalRound.{known_now, legal_now, sides_same, tells_turned, then_at, then_long}
use Rattle.af_render_law.proofs.ShutUnseen.{shut_unseen}
use Rattle.af_told_law.proofs.TurnCounts.{turns_made}
use Rattle.af_base.specs.declared.report.Report.{Report}
use Rattle.af_told_law.proofs.LoadTold.{known_loaded, load_told}
use Rattle.af_render_law.proofs.TurnMet.{load_is, turn_shown}

-- one turn more is counted
made_turns : (x y : NormalState) → TurnMade (answer_of (turn_of y.entry)) x y → y.turns ≡ x.turns + 1
made_turns x y made = turns_made (answer_of (turn_of y.entry)) x y made

same_many : (e : Turn) (run : Run) → length (with_load e run).tracks ≡ length run.tracks
unfolding with_load
same_many e run = refl

-- a turn stores no report
same_reports : (s : Session) (f : TurnFound) (e : Turn) (run : Run) → run.reports ≡ (with_turn s f e run).reports
unfolding with_turn
same_reports s f e run = refl

module _ (s : Session) (marks : Marks) (parts : PartsAreTold s) (run : Run) (x : SessionState) (r : RoundNoted) (bytes : List ℕ) (y : SessionState) (entries : List EntrySeen) (left : ℕ) (holds : Holds s marks run x left) (runs : x.normal.ended ≡ false) (w : IsRound (given_of s) makes.Normal x r bytes y) where
  abbrev one : (e : Turn) × (r ≡ normal_round x e) × NormalTurned x w.turned e
  one = MatchBool-at_false ((r ≡ still_round x) × (w.turned ≡ x)) ((e : Turn) × (r ≡ normal_round x e) × NormalTurned x w.turned e) runs w.turns.1

  abbrev n : NormalState
  n = w.turned.normal

  abbrev e : Turn
  e = turn_of n.entry

  abbrev links : Links
  links = w.together.links

  abbrev round : RoundSeen
  round = round_of r entries

  -- the session after the turn
  abbrev then_x : SessionState
  then_x = record x { normal = n }

  leaves : w.turned ≡ then_x
  leaves = one.2.leaves

  is_round : r ≡ normal_round x e
  is_round = one.1 ∙ ap (normal_round x) one.2.told

  after : AreTogether links then_x
  after = subst (AreTogether links) leaves w.together.turned

  meets : Met then_x w.met
  meets = subst (λ (q : SessionState). Met q w.met) leaves w.meets

  legal : IsLegal one.2.outside x.normal n
  legal = one.2.legal

  made : TurnMade (answer_of e) x.normal n
  made = subst (λ (t : Turn). TurnMade (answer_of t) x.normal n) one.2.told one.2.made

  before_turn : StandsBefore x
  before_turn = let step = holds.stands.step in record { step = record { tells = step.tells; few = step.few; same = step.same }; history = holds.stands.history; leads = holds.stands.leads; quiet = holds.stands.quiet }

  -- the meetings show that each front was a server's own
  own : SeesOwn then_x
  own =
      let small : AreSmall x = small_told s run x holds.told.told holds.small in
      meetings_show links then_x w.met (record { streams = small.streams; commands = small.commands }) after w.together.met
      (leads_turned links x n w.met one.2.outside w.together.before legal holds.stands meets w.together.met).state
      meets

  -- what the turn finds, which is what the run tells, and what the meetings show of it
  abbrev found : TurnFound
  found = found_before s run [] e

  seen : TurnShown s run x n one.2.outside found
  seen = turn_shown s run x n w.met links one.2.outside w.together.before holds.told.told holds.report legal made meets

  all_parts : PartsTold s run holds.told.deeds x n one.2.outside found legal
  all_parts = parts links run holds.told.deeds x n one.2.outside found w.together.before after holds.told.told before_turn legal made seen holds.queue runs

  -- the number of turns rises
  turns : n.turns ≡ x.normal.turns + 1
  turns = made_turns x.normal n made

  -- the run after the turn, and after its load
  abbrev turned_run : Run
  turned_run = with_turn s found e run

  abbrev then_run : Run
  then_run = with_load e turned_run

  -- what the servers did up to the end of the turn
  abbrev then_deeds : Deeds
  then_deeds = did_by one.2.outside x n holds.told.deeds

  told_turned : Tells s turned_run then_deeds (record x { normal = record n { reader = x.normal.reader } })
  told_turned = tells_turned s run x n links one.2.outside found holds.told.told w.together.before after legal made seen before_turn holds.queue runs holds.cells all_parts turns

  told : Tells s then_run then_deeds then_x
  told = load_told s turned_run then_x x.normal.reader e told_turned
      (load_is s run x n w.met links one.2.outside w.together.before holds.told.told holds.report legal made meets ∙ ap (λ (rs : List Report). x.normal.reader.events ++ going e (Load e.cycle (report_of rs e.cycle) ∷ [])) (same_reports s found e run))

  -- the turn leaves the clients' sides
  many_turned : length turned_run.tracks ≡ length run.tracks
  many_turned = then_long s run x n links one.2.outside found holds.told.told w.together.before after legal made seen before_turn holds.queue runs holds.cells all_parts

  turned_sides : (i : ℕ) → i < length run.tracks → sides_of (told_at turned_run i) ≡ sides_of (told_at run i)
  turned_sides i low =
      ap sides_of (then_at s run x n links one.2.outside found holds.told.told w.together.before after legal made seen before_turn holds.queue runs holds.cells all_parts i low)
      ∙ sides_same s run x n links one.2.outside found holds.told.told w.together.before after legal made seen before_turn holds.queue runs holds.cells all_parts i

  same_sides : (i : ℕ) → i < length run.tracks → (client_side (told_at turned_run i).stream ≡ client_side (told_at run i).stream) × (client_side (told_at turned_run i).commands ≡ client_side (told_at run i).commands)
  same_sides i low = (ap (λ (y : Track). y.stream) (turned_sides i low), ap (λ (y : Track). y.commands) (turned_sides i low))

  -- each front seen up to the end of the turn is its own: one whose proxy isn't home was not looked at
  old_saw : SawOwnBy (tame_marks then_run) then_run holds.told.deeds
  old_saw = saw_loaded e turned_run holds.told.deeds (saw_sides run turned_run holds.told.deeds many_turned same_sides holds.told.saw)

  then_saw : SawOwnBy (tame_marks then_run) then_run then_deeds
  then_saw = saw_now links s then_run then_x after told own (λ i low gone none tame. turned_own links x n one.2.outside w.together.before legal i (told_at then_run i).stream.shape (holds.told.deeds.streams i) gone (old_saw.streams i low tame))

  -- each front seen is a server's own by the run before the turn too
  before_saw : SawOwnBy marks run then_deeds
  before_saw =
      let loaded_many : length then_run.tracks ≡ length turned_run.tracks = same_many e turned_run in
      let same : (i : ℕ) → i < length then_run.tracks → (client_side (told_at run i).stream ≡ client_side (told_at then_run i).stream) × (client_side (told_at run i).commands ≡ client_side (told_at then_run i).commands) =
      (λ i low. let both = same_sides i (let a = many_turned in omega (arith, low, a, loaded_many)) in (sym (ap (λ (t : TrackTold). client_side t.stream) (same_track e turned_run i) ∙ both.0), sym (ap (λ (t : TrackTold). client_side t.commands) (same_track e turned_run i) ∙ both.1))) in
      let saw = saw_sides then_run run then_deeds (let a = many_turned in omega (arith, a, loaded_many)) same then_saw in
      record { streams = (λ i low on. saw.streams i low ((holds.marked i low).stream on)); commands = (λ i low on. saw.commands i low ((holds.marked i low).commands on)) }

  -- the run after the turn of this round
  run_is : made_alone s run makes.Normal round ≡ then_run
  run_is = ap (λ (o : Option Turn). loaded o (turned s (found_before s run []) o run)) (ap (λ (q : RoundNoted). q.turn) is_round)

  left_made : ToldBy s (made_alone s run makes.Normal round) w.turned
  left_made = subst (λ (q : Run × SessionState). ToldBy s q.0 q.1) (λ i. (sym run_is i, sym leaves i)) (record { deeds = then_deeds; told = told; saw = then_saw })

  only : OnlyCalls (λ t. ⊥) round
  only j = inr (ap (λ (q : RoundNoted). slice_index_or q.calls j []) is_round ∙ none_else (length x.clients) j)

  legal_turn : IsMadeBy s marks run makes.Normal round
  legal_turn =
      let is : LegalTurnBy (setup_of s) marks (found_before s run [] e) run.normal e =
      legal_now s run x n links one.2.outside found holds.told.told w.together.before after legal made seen before_turn holds.queue runs holds.cells all_parts marks before_saw in
      let ended : run.normal.ended ≡ false = sym (ap (λ (k : NormalKept). k.ended) holds.told.told.normal.kept) ∙ runs in (
        only,
        ap (λ (q : RoundNoted). take q.cycles entries) is_round,
        subst (λ (b : Bool). MatchBool b (round.turn ≡ None) (MatchOption round.turn ⊥ (λ e. LegalTurnBy (setup_of s) marks (found_before s run [] e) run.normal e))) (sym ended)
            (subst (λ (o : Option Turn). MatchOption o ⊥ (λ e. LegalTurnBy (setup_of s) marks (found_before s run [] e) run.normal e)) (sym (ap (λ (q : RoundNoted). q.turn) is_round)) is),
      )

  -- the entry of the round tells this turn
  unseen : (t : Turn) → round.turn ≡ Some t → FindsShutUnseen s run (found_before s run [] t) t
  unseen t is = subst (λ (u : Turn). FindsShutUnseen s run (found_before s run [] u) u) (same_Some e t (sym (ap (λ (q : RoundNoted). q.turn) is_round) ∙ is)) (by_end e.ended refl)
    where
      by_end : (b : Bool) → e.ended ≡ b → FindsShutUnseen s run (found_before s run [] e) e
      by_end true over = λ goes. absurd (true≢false (sym over ∙ goes))
      by_end false goes =
          shut_unseen links s run x n one.2.outside holds.told.told holds.told.saw w.together.before legal goes found seen.finds (seen.hears goes) (all_parts.comers goes) holds.aware holds.invalid holds.tame.is_open

  step : StepIsTold s marks run makes.Normal round y
  step = record {
    made = legal_turn;
    histories = left_histories links s (made_alone s run makes.Normal round) w.turned w.met w.together.turned w.together.met w.meets left_made;
    left = subst (ToldBy s (with_ends (met_alone s run makes.Normal round))) (sym w.ends) (left_met links s (made_alone s run makes.Normal round) w.turned w.met w.together.turned w.together.met w.meets left_made);
    unseen = unseen;
  }

  known_turned : QueueKnown (cycle_frames s) then_run n
  known_turned = known_loaded (cycle_frames s) turned_run e n (known_now s run x n links one.2.outside found holds.told.told w.together.before after legal made seen before_turn holds.queue runs holds.cells all_parts)

  known : QueueKnown (cycle_frames s) (with_ends (met_alone s run makes.Normal round)) y.normal
  known =
      let made_run : Run = made_alone s run makes.Normal round in
      let quiet : Quiet made_run (with_ends (run_of.met s made_run)) = quiet_then made_run (run_of.met s made_run) _ (quiet_met s made_run) (quiet_ends (run_of.met s made_run)) in
      let same : y.normal ≡ w.met.normal = ap (λ (q : SessionState). q.normal) w.ends ∙ (ends_keep w.met).normal in
      let past = ap (λ (m : NormalState). m.mutator.past) (same ∙ w.meets.ends.normal) in
      known_same (cycle_frames s) made_run (with_ends (run_of.met s made_run)) n y.normal quiet.states quiet.looks (ap (λ (q : Pushes ServerState StreamNames). q.clear) past) (ap (λ (q : Pushes ServerState StreamNames). q.before) past)
      (subst (λ (q : Run). QueueKnown (cycle_frames s) q n) (sym run_is) known_turned)

pub normal_turns_step : (s : Session) (marks : Marks) → PartsAreTold s → NormalTurnIsAStep s marks
normal_turns_step s marks parts run x r bytes y entries left holds runs w = (step s marks parts run x r bytes y entries left holds runs w, known s marks parts run x r bytes y entries left holds runs w)
