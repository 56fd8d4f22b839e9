-- By the end of a legal run all that the normal mixer put into the pipe was taken: an Exit comes into its draft only if it sees the whole room, and from then on it puts nothing.
use Rattle.std.proofs.Common.{◌≡◌, ℕ, ◌*◌, ◌<◌, ◌≤◌, Bool, true, false, if◌then◌else◌, map, List, [], ◌∷◌, ◌++◌, length, take, Option, Some, None, refl, sym, ap, ◌∙◌, subst, append_assoc, append-nil, arith}
use Rattle.af_audit.proofs.Common.{ClientEvent, Frame, HasPipeTold, IsLegalRun, IsScript, JournalData, LegalRound, LegalRounds, Marks, RoundSeen, Run, ScriptData, Session, TakeSeen, Turn, after_round, ends_pipe, commands_exit, marks_of, met_after, mul-le-mul, new_run, ones, packed_word, pipe_cells, pipe_size, put_by, releases_of, run_from, session_of, setup_of, take_all, twos, wrapped}
use Rattle.af_base.specs.declared.event.ClientEvent.TheVariants as client
use Rattle.af_life.specs.TurnEvents.{front_by_room}
use Rattle.af_audit.specs.Emptied.{PipeIsEmptied}
use Rattle.af_audit.proofs.FatesTold.{normal_ended}
use Rattle.af_audit.proofs.MixerEnds.{EndsHome, new_ends}
use Rattle.af_audit.proofs.MixerRounds.{mixed_none, round_ends, said_ended, said_without, saw_room}
use Rattle.af_audit.proofs.PipeDrains.{all_taken}
use Rattle.af_audit.proofs.PipeRounds.{RoundFlows, round_flows, turn_events, turn_words}

-- the frames taken begin those put, and if the draft says Exit they are no fewer
record Empties (run : Run) : Type 0 where
  mixer : EndsHome run.normal
  begins : run.pipe.taken ≡ take (length run.pipe.taken) run.pipe.put
  emptied : commands_exit run.normal.draft ≡ true → length run.pipe.put ≤ length run.pipe.taken

some_room : (s : Session) → IsScript s.script → 0 < pipe_size (setup_of s)
some_room s form =
    let normal = form.normal.0 in
    let frames = form.frames.0 in
    let product : 1 * 1 ≤ s.script.normal * s.script.frames = mul-le-mul normal frames in
    omega (arith, product)

-- ## A round

module _ (cut : Bool) (s : Session) (form : IsScript s.script) (marks : Marks) (run : Run) (round : RoundSeen) (legal : LegalRound cut s marks run round) (h : Empties run) where
  abbrev after : Run
  after = after_round s run round

  history : HasPipeTold (pipe_size (setup_of s)) after.pipe
  history = subst (HasPipeTold (pipe_size (setup_of s))) (sym (ends_pipe (met_after s run round))) legal.histories.shared.pipe

  flows : RoundFlows s run round
  flows = round_flows s run round

  -- all was taken, if nothing was put and the draft had said Exit
  was_emptied : turn_words s round.turn ≡ [] → commands_exit run.normal.draft ≡ true → length after.pipe.put ≤ length after.pipe.taken
  was_emptied none exit =
      let a = h.emptied exit in
      let b = ap length (flows.put ∙ ap (λ (l : List ℕ). run.pipe.put ++ l) none ∙ append-nil run.pipe.put) in
      let c = flows.grows in
      omega (arith, a, b, c)

  -- all was taken, if the turn that orders the Exit saw the whole room
  now_emptied : (e : Turn) → round.turn ≡ Some e → e.ended ≡ false → e.mixes ≡ [] → e.room ≡ pipe_size (setup_of s) → turn_words s round.turn ≡ [] → length after.pipe.put ≤ length after.pipe.taken
  now_emptied e is runs mixes room none =
      let size : ℕ = pipe_size (setup_of s) in
      let put : ℕ = length run.pipe.put in
      let front : ℕ = front_by_room size put size in
      let events : turn_events s run.pipe round.turn ≡ client.SawFront front ∷ [] =
      ap (turn_events s run.pipe) is ∙ ap (λ (b : Bool). if b then [] else client.SawFront (front_by_room size put e.room) ∷ releases_of (pipe_cells (setup_of s)) put (length (put_by (setup_of s) e.mixes))) runs
      ∙ (λ i. client.SawFront (front_by_room size put (room i)) ∷ releases_of (pipe_cells (setup_of s)) put (length (put_by (setup_of s) (mixes i)))) in
      let list : ones after.pipe.told ≡ ones run.pipe.told ++ client.SawFront front ∷ client.Learn flows.learnt ∷ [] =
      flows.list ∙ ap (λ (l : List ClientEvent). (ones run.pipe.told ++ l) ++ client.Learn flows.learnt ∷ []) events ∙ append_assoc (ones run.pipe.told) (client.SawFront front ∷ []) (client.Learn flows.learnt ∷ []) in
      let same : length after.pipe.put ≡ put = ap length (flows.put ∙ ap (λ (l : List ℕ). run.pipe.put ++ l) none ∙ append-nil run.pipe.put) in
      let word : front ≡ wrapped (length after.pipe.put) = (let f : front ≡ wrapped put = omega arith in f) ∙ ap wrapped (sym same) in
      all_taken size (ones after.pipe.told) after.pipe.put (twos after.pipe.told) after.pipe.taken (ones run.pipe.told) front flows.learnt (some_room s form) history list word

  emptied_by : commands_exit after.normal.draft ≡ true → (o : Option Turn) → round.turn ≡ o → length after.pipe.put ≤ length after.pipe.taken
  emptied_by exit None is = was_emptied (ap (turn_words s) is) (said_without cut s marks run round legal h.mixer exit is)
  emptied_by exit (Some e) is = by_end e.ended refl
    where
      by_exit : (b : Bool) → commands_exit run.normal.draft ≡ b → e.ended ≡ false → e.mixes ≡ [] → turn_words s round.turn ≡ [] → length after.pipe.put ≤ length after.pipe.taken
      by_exit true said runs mixes none = was_emptied none said
      by_exit false not_yet runs mixes none = now_emptied e is runs mixes (saw_room cut s marks run round legal h.mixer exit e is runs not_yet) none

      by_end : (b : Bool) → e.ended ≡ b → length after.pipe.put ≤ length after.pipe.taken
      by_end true ended = was_emptied (ap (turn_words s) is ∙ ap (λ (b : Bool). if b then [] else map packed_word (put_by (setup_of s) e.mixes)) ended) (said_ended cut s marks run round legal h.mixer exit e is ended)
      by_end false runs =
          let mixes = mixed_none cut s marks run round legal h.mixer exit e is runs in
          by_exit (commands_exit run.normal.draft) refl runs mixes (ap (turn_words s) is ∙ ap (λ (b : Bool). if b then [] else map packed_word (put_by (setup_of s) e.mixes)) runs ∙ ap (λ (takes : List TakeSeen). map packed_word (put_by (setup_of s) takes)) mixes)

  empties_round : Empties after
  empties_round = record { mixer = round_ends cut s marks run round legal h.mixer; begins = history.begins; emptied = λ exit. emptied_by exit round.turn refl }

-- ## All rounds

rounds_empty : (cut : Bool) (s : Session) → IsScript s.script → (marks : Marks) (rounds : List RoundSeen) (run : Run) → LegalRounds cut s marks run rounds → Empties run → Empties (run_from s run rounds)
rounds_empty cut s form marks [] run legal h = h
rounds_empty cut s form marks (round ∷ rounds) run legal h = rounds_empty cut s form marks rounds (after_round s run round) legal.1 (empties_round cut s form marks run round legal.0 h)

-- by the end of a legal run all that was put is taken
pub pipe-is-emptied : (script : ScriptData) (files : List (List Frame)) (j : JournalData) → IsScript script → IsLegalRun script files j → PipeIsEmptied script files j
pipe-is-emptied script files j form legal =
    let s : Session = session_of script files in
    let run : Run = run_from s (new_run s) j.rounds in
    let h : Empties run = rounds_empty false s form (marks_of j.rounds) j.rounds (new_run s) legal.rounds.rounds (record { mixer = new_ends (setup_of s); begins = refl; emptied = λ exit. omega arith }) in
    let mixer = h.mixer in
    h.begins ∙ take_all (length run.pipe.taken) run.pipe.put (h.emptied (mixer.exits (mixer.ended (normal_ended s run legal.ends))))
