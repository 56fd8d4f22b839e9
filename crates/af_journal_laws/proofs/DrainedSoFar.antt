-- In legal rounds, and in a turn run, each track that is reported drained has reached its STOP.
use Rattle.std.proofs.Common.{◌≡◌, ℕ, ◌<◌, ◌≤◌, Bool, true, false, fold, List, [], ◌∷◌, ◌++◌, take, All, Option, Some, None, refl, sym, ap, ◌∙◌, subst, arith}
use Rattle.af_journal_laws.proofs.Common.{All-head, All-tail, AreTurns, BlockTold, EntrySeen, Frame, HasBlockHistory, HasLegalRounds, HasReachedStop, IsDrainedBy, IsMadeBy, IsRound, IsScript, IsTrim, IsTurnRun, JournalData, LegalRounds, LegalTurnBy, LifeStep, Marks, NormalKept, RoundSeen, Run, RunGrows, ScriptData, SeesAllBefore, Sent, Session, Shape, StoppedAt, TellsSo, Turn, TurnSpec, both_right, calls_in, client_list, commands_at, consumed_of, cycle_alone, found_before, hand_list, is_lawful_block, is_lawful_track, is_poke_on, learnt, list_any, made_alone, marks_of, met, met_alone, most_heard, neither, new_run, new_there, new_trim, no, not_true, outside_of, run_none, says_drained, sent_in, server_list, session_of, setup_of, stop_sent, told_at, track_count, track_told, turn_after, turned, with_ends, with_mix, with_poll, with_turn}
use Rattle.std.proofs.lemmas.Option.{none-some}
use Rattle.af_script.specs.declared.op.TurnSpec.TheVariants as makes
use Rattle.af_audit.proofs.CommandDrops.{taken_first}
use Rattle.af_audit.proofs.Consumed.{consumed}
use Rattle.af_audit.proofs.DrainedTold.{AreCalm, new_sends, rounds-drained}
use Rattle.af_audit.proofs.MixerTurns.{ends_normal, loaded_normal, met_normal}
use Rattle.af_audit.proofs.Reached.{Keeps, new_keeps, steps_heard}
use Rattle.af_audit.proofs.Stopped.{AreTurns as AreSoFar, Reaches, same_turns, turn_drained, turn_turns}
use Rattle.af_journal_laws.specs.Drained.{EachDrainedTrackHasStopped, EachDrainedTrackHasStoppedAlone, WhereDrainedAlone, steps_alone}
use Rattle.af_journal_laws.proofs.AtMeetings.{HasHistoryMet, history_ends}
use Rattle.af_journal_laws.proofs.Own.{grows_kept}
use Rattle.af_journal_laws.proofs.Rounds.{turn_legal}
use Rattle.af_journal_laws.proofs.SentAlone.{SentAt, sent_round_alone}
use Rattle.af_journal_laws.proofs.SettlesAlone.{SettlesAlone, new_settles_alone, settles_kept}
use Rattle.af_journal_laws.proofs.SparedMet.{forms_first, legal_first}
use Rattle.af_journal_laws.proofs.Steps.{goes_ended}
use Rattle.af_journal_laws.proofs.TellsAlone.{heard_alone, tells_kept}
use Rattle.af_journal_laws.proofs.Turns.{goes_met_alone}
use Rattle.af_journal_laws.proofs.Walk.{round_keeps}

-- ## Rounds of all parties

pub drained-so-far : Reaches → (cut : Bool) (script : ScriptData) (files : List (List Frame)) (j : JournalData) → IsScript script → HasLegalRounds cut script files j → EachDrainedTrackHasStopped script files j
drained-so-far reached cut script files j is legal now later begins =
    let s : Session = session_of script files in
    rounds-drained reached cut s (marks_of j.rounds) j.tracks now is
    (forms_first j.tracks now later (subst (All (IsRound j.tracks)) begins legal.form.rounds))
    (legal_first cut s (marks_of j.rounds) now later (new_run s) (subst (LegalRounds cut s (marks_of j.rounds) (new_run s)) begins legal.rounds))

-- ## The normal mixer in a turn run

module _ (s : Session) (run : Run) where
  -- the mixer after a turn, if one was made
  abbrev mixer_alone : Option Turn → NormalKept
  mixer_alone o = elim o as (λ o. NormalKept) [ None ↦ run.normal | Some e ↦ turn_after (setup_of s) (learnt (outside_of (setup_of s) (found_before s run [] e) e)) run.normal e ]

  turned_normal : (o : Option Turn) → (turned s (found_before s run []) o run).normal ≡ mixer_alone o
  unfolding with_turn
  turned_normal None = refl
  turned_normal (Some e) = refl

cycle_normal : (s : Session) (run : Run) (e : EntrySeen) → (cycle_alone s run e).normal ≡ run.normal
unfolding with_mix with_poll met
cycle_normal s run e = refl

cycles_normal : (s : Session) (es : List EntrySeen) (run : Run) → (fold (cycle_alone s) run es).normal ≡ run.normal
cycles_normal s [] run = refl
cycles_normal s (e ∷ es) run = cycles_normal s es (cycle_alone s run e) ∙ cycle_normal s run e

made_normal : (s : Session) (marks : Marks) (run : Run) (turn : TurnSpec) (round : RoundSeen) → IsMadeBy s marks run turn round → (made_alone s run turn round).normal ≡ mixer_alone s run round.turn
made_normal s marks run (makes.Client track) round made = sym (ap (mixer_alone s run) made.1)
made_normal s marks run makes.Normal round made = loaded_normal s run round round.turn (turned s (found_before s run []) round.turn run) ∙ turned_normal s run round.turn
made_normal s marks run (makes.Fast cycles) round made = cycles_normal s round.entries run ∙ sym (ap (mixer_alone s run) made.1)

module _ (s : Session) (marks : Marks) (run : Run) (turn : TurnSpec) (round : RoundSeen) (made : IsMadeBy s marks run turn round) where
  after_normal : (with_ends (met_alone s run turn round)).normal ≡ mixer_alone s run round.turn
  after_normal =
      let r : Run = made_alone s run turn round in
      ends_normal s run round (met s r) ∙ met_normal s run round r ∙ made_normal s marks run turn round made

  -- a turn that was made was legal
  own_legal : (e : Turn) → round.turn ≡ Some e → LegalTurnBy (setup_of s) marks (found_before s run [] e) run.normal e
  own_legal e is = by turn made
    where
      by : (turn : TurnSpec) → IsMadeBy s marks run turn round → LegalTurnBy (setup_of s) marks (found_before s run [] e) run.normal e
      by (makes.Client track) made = absurd (none-some e (sym made.1 ∙ is))
      by makes.Normal made = turn_legal run.normal.ended (λ e. LegalTurnBy (setup_of s) marks (found_before s run [] e) run.normal e) round.turn e made.2 is
      by (makes.Fast cycles) made = absurd (none-some e (sym made.1 ∙ is))

-- ## A round of a turn run

module _ (s : Session) (script : IsScript s.script) (marks : Marks) (tracks n : ℕ) (low : n < track_count s) (run : Run) (turn : TurnSpec) (round : RoundSeen) (form : IsRound tracks round) (made : IsMadeBy s marks run turn round) where
  abbrev after : Run
  after = with_ends (met_alone s run turn round)

  abbrev now_steps : List LifeStep → List LifeStep
  now_steps steps = steps_alone s run round.turn n steps

  module _ (steps : List LifeStep) (h : Keeps s n run steps) where
    more : consumed_of run n ≤ consumed_of after n
    more = track_told consumed run after n (round_keeps s marks tracks n (RunGrows n run) (grows_kept s marks tracks n run) turn round run form made (run_none n run h.tells.low))

    now_heard : (o : Option Turn) → round.turn ≡ o → most_heard (steps_alone s run o n steps) ≤ consumed_of after n
    now_heard None is = let a = h.heard_so in let b = more in omega (arith, a, b)
    now_heard (Some e) is =
        let b = more in
        let now = heard_alone consumed s script marks tracks n e run h.tells in
        let before = h.heard_so in
        steps_heard (setup_of s) (learnt (outside_of (setup_of s) (found_before s run [] e) e)) run.normal e n (consumed_of after n) steps (omega (arith, now, b)) (omega (arith, before, b))

    now_turns : (o : Option Turn) → round.turn ≡ o → after.normal ≡ mixer_alone s run o → AreSoFar s n after (steps_alone s run o n steps)
    now_turns None is same = same_turns s marks run n steps h.turns after same
    now_turns (Some e) is same = turn_turns s marks run n steps h.turns (found_before s run [] e) e (own_legal s marks run turn round made e is) after same

    keeps_alone : Keeps s n after (now_steps steps)
    keeps_alone = record {
      tells = round_keeps s marks tracks n (TellsSo consumed s n) (tells_kept consumed s script marks tracks n) turn round run form made h.tells;
      turns = now_turns round.turn refl (after_normal s marks run turn round made);
      heard_so = now_heard round.turn refl;
    }

    drained_by : Reaches → (o : Option Turn) → round.turn ≡ o → says_drained o n ≡ true → IsDrainedBy (steps_alone s run o n steps)
    drained_by reached None is says = no says
    drained_by reached (Some e) is says = turn_drained s marks run n steps h.turns (found_before s run [] e) e (own_legal s marks run turn round made e is) reached low says

    -- if the track is reported drained, its STOP's count is consumed
    reached_alone : Reaches → says_drained round.turn n ≡ true → (count : ℕ) × StoppedAt count (now_steps steps) × (count ≤ consumed_of after n)
    reached_alone reached says = let d = drained_by reached round.turn refl says in (d.0, d.1, (let a = d.2 in let b = now_heard round.turn refl in omega (arith, a, b)))

-- ## A track whose command block has no poke

pub record SendsAlone (s : Session) (n : ℕ) (run : Run) (steps : List LifeStep) (sent : List Sent) : Type 0 where
  pub settles : SettlesAlone s n run
  pub trim : IsTrim true (told_at run n)
  pub so : SentAt n steps sent run

module _ (s : Session) (script : IsScript s.script) (marks : Marks) (tracks n : ℕ) (low : n < track_count s) (run : Run) (turn : TurnSpec) (round : RoundSeen) (form : IsRound tracks round) (made : IsMadeBy s marks run turn round)
    (calm : list_any (is_poke_on true) (calls_in round n) ≡ false) where
  abbrev last : BlockTold
  last = commands_at n (with_ends (met_alone s run turn round))

  module _ (steps : List LifeStep) (sent : List Sent) (h : SendsAlone s n run steps sent) where
    pub sends_alone : SendsAlone s n (with_ends (met_alone s run turn round)) (steps_alone s run round.turn n steps) (sent ++ sent_in run round n)
    sends_alone =
        let one = goes_met_alone true s marks n turn round tracks run h.so.there form calm made in
        record {
          settles = round_keeps s marks tracks n (SettlesAlone s n) (settles_kept s script marks tracks n) turn round run form made h.settles;
          trim = (goes_ended true s n (met_alone s run turn round) one.there).track.trim (one.track.trim h.trim);
          so = sent_round_alone s marks n steps sent turn round run made h.so;
        }

    -- the words taken by the end of the round begin those released
    taken_begins : SeesAllBefore s (met_alone s run turn round) → (count : ℕ) × (last.taken ≡ take count last.released)
    taken_begins sees =
        let now = sends_alone in
        let commands = now.settles.commands.commands in
        let flat : last.shape.wrap ≡ 0 = ap (λ (k : Shape). k.wrap) commands.shape in
        let one = goes_met_alone true s marks n turn round tracks run h.so.there form calm made in
        let met_so : HasHistoryMet true s n (met_alone s run turn round) = λ meets tame. (sees.commands n low tame).0 in
        let history : HasBlockHistory last = history_ends true s n (met_alone s run turn round) one.there met_so refl (now.trim.tame refl) in
        taken_first last.shape (omega (arith, flat)) (client_list last) last.released (server_list last) last.taken (hand_list last) history commands.calm commands.drops

-- ## Turns

drained_turns : Reaches → (s : Session) → IsScript s.script → (marks : Marks) (tracks n : ℕ) (lawful : Bool) (turns : List TurnSpec) (now later : List RoundSeen) (run : Run) (steps : List LifeStep) (sent : List Sent) → n < track_count s → All (IsRound tracks) now
    → AreTurns s marks run turns (now ++ later) → (lawful ≡ true → AreCalm n now) → Keeps s n run steps → (lawful ≡ true → SendsAlone s n run steps sent)
    → WhereDrainedAlone (λ run steps sent. HasReachedStop lawful (consumed_of run n) steps sent) s run turns steps sent now n
drained_turns reached s script marks tracks n lawful [] now later run steps sent low forms are calm h so = tt
drained_turns reached s script marks tracks n lawful (turn ∷ turns) [] later run steps sent low forms are calm h so = tt
drained_turns reached s script marks tracks n lawful (turn ∷ turns) (round ∷ now) later run steps sent low forms are calm h so =
    let form = All-head (IsRound tracks) round now forms in
    let next : List LifeStep = steps_alone s run round.turn n steps in
    let all : List Sent = sent ++ sent_in run round n in
    let after : Run = with_ends (met_alone s run turn round) in
    let two = λ (is : lawful ≡ true). neither (list_any (is_poke_on true) (calls_in round n)) _ (calm is) in
    let further = λ (is : lawful ≡ true). sends_alone s script marks tracks n low run turn round form are.0 (two is).0 steps sent (so is) in
    let begins = λ (is : lawful ≡ true). taken_begins s script marks tracks n low run turn round form are.0 (two is).0 steps sent (so is) are.1 in (
      (λ says. let d = reached_alone s script marks tracks n low run turn round form are.0 steps h reached says in
          record { count = d.0; stopped = d.1; reached = d.2; is_sent = λ is. stop_sent (commands_at n after) next all d.0 (begins is).0 (further is).so.so (begins is).1 d.1 }),
      drained_turns reached s script marks tracks n lawful turns now later after next all low (All-tail (IsRound tracks) round now forms) are.2 (λ is. (two is).1) (keeps_alone s script marks tracks n low run turn round form are.0 steps h) further,
    )

new_sends_alone : (s : Session) (n : ℕ) → IsScript s.script → n < track_count s → SendsAlone s n (new_run s) [] []
new_sends_alone s n script low = record {
  settles = new_settles_alone s script (marks_of []) 0 n low;
  trim = new_trim s script n low true;
  so = record { there = new_there s n low; so = (new_sends s n script low).so };
}

pub drained-so-far-alone : Reaches → (script : ScriptData) (files : List (List Frame)) (j : JournalData) → IsScript script → IsTurnRun script files j → EachDrainedTrackHasStoppedAlone script files j
drained-so-far-alone reached script files j is run_is now later begins track low =
    let s : Session = session_of script files in
    let marks : Marks = marks_of j.rounds in
    let calm = λ (lawful : is_lawful_track now track ≡ true). not_true (list_any (λ (round : RoundSeen). list_any (is_poke_on true) (calls_in round track)) now) (both_right (is_lawful_block false now track) (is_lawful_block true now track) lawful) in
    drained_turns reached s is marks j.tracks track (is_lawful_track now track) script.turns now later (new_run s) [] [] low
    (forms_first j.tracks now later (subst (All (IsRound j.tracks)) begins run_is.form.rounds))
    (subst (AreTurns s marks (new_run s) script.turns) begins run_is.turns) calm (new_keeps s track low) (λ lawful. new_sends_alone s track is low)
