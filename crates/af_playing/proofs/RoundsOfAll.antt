-- What a journal notes of a round of all parties has its form, and the tally of their run.
use Rattle.std.proofs.Common.{◌≡◌, ℕ, zero, suc, Bool, true, false, if◌then◌else◌, MatchOption, List, [], ◌∷◌, ◌++◌, length, Some, None, refl, sym, ap, subst, ◌∙◌, arith}
use Rattle.af_playing.proofs.Common.{AreInStep, AreNoted, ClientPlayed, Cycle, CyclesOn, CyclesOnce, FastState, FastTurned, Given, HasFrames, IsNewSession, IsReady, IsRoundOfAll, IsTally, IsTurn, Links, Logged, MatchBool, MixerState, Notes, NotesFrames, PartyState, RoundNoted, RoundsNoted, ScriptData, SessionState, SharedState, Tallied, TurnPlayed, all_noted, ends_keep, in_step_met, in_step_new, is_mixed, kept_of, length-map, most_cycles, noted_more, polled_keeps, setup_of, shown_at, shown_in, tally_pushed, turn_of, zip_long}
use Rattle.af_life.proofs.TurnForms.{turn_form}
use Rattle.af_playing.specs.PlayedRuns.{IsRunOfAll, RunsOfAll}
use Rattle.af_rendering.proofs.LogGoes.{Goes, goes_not, goes_then, mix_goes}

-- ## The log

once_goes : (links : Links) (m m' : MixerState) (answer : Cycle) (bytes : List ℕ) → CyclesOnce links m answer bytes m' → Goes m.log m'.log
once_goes links m m' answer bytes w = subst (λ (l : Logged). Goes l m'.log) (polled_keeps m w.polled w.adopts).0 (mix_goes w.polled m' w.before w.after answer w.mixes)

goes_by : (m next m' : MixerState) (back : List ℕ) (mixed : Bool) → Goes m.log next.log → (mixed ≡ true → Goes next.log m'.log) → (mixed ≡ false → (back ≡ []) × (m' ≡ next)) → Goes m.log m'.log
goes_by m next m' back true first goes stops = goes_then m.log next.log m'.log first (goes refl)
goes_by m next m' back false first goes stops = subst (λ (x : MixerState). Goes m.log x.log) (sym (stops refl).1) first

cycles_go : (links : Links) (left : ℕ) (m m' : MixerState) (bytes : List ℕ) → CyclesOn links left m bytes m' → Goes m.log m'.log
cycles_go links zero m m' bytes turn = goes_not m.log m'.log (ap (λ (y : MixerState). y.log) turn.1)
cycles_go links (suc left) m m' bytes (answer, next, front, back, cycle, bytes_are, more, over) =
    goes_by m next m' back (is_mixed answer) (once_goes links m next answer front cycle) (λ yes. cycles_go links left next m' back (more yes)) over

turned_goes : (links : Links) (m m' : MixerState) (bytes : List ℕ) → FastTurned links m bytes m' → Goes m.log m'.log
turned_goes links m m' bytes turned = by_exit m.exited turned
  where
    by_exit : (exited : Bool) → MatchBool exited ((bytes ≡ []) × (m' ≡ m)) (CyclesOn links most_cycles m bytes m') → Goes m.log m'.log
    by_exit true done = goes_not m.log m'.log (ap (λ (y : MixerState). y.log) done.1)
    by_exit false done = cycles_go links most_cycles m m' bytes done

-- ## What is noted

turn_noted_form : (s t : SessionState) (ended : Bool) → MatchBool ended (t.normal ≡ s.normal) (TurnPlayed s.normal t.normal) → length s.normal.tracks ≡ length s.clients
    → MatchOption (if ended then None else Some (turn_of t.normal.entry)) (Unit {0}) HasFrames → MatchOption (if ended then None else Some (turn_of t.normal.entry)) (Unit {0}) (IsTurn (length s.clients))
turn_noted_form s t true played tracks frames = tt
turn_noted_form s t false played tracks frames = turn_form (setup_of s.normal) played.0 (kept_of s.normal) (turn_of t.normal.entry) (length s.clients) tracks frames played.1.legal

module _ (g : Given) (s : SessionState) (r : RoundNoted) (bytes : List ℕ) (t : SessionState) (round : IsRoundOfAll g s r bytes t) where
  -- the log is that of the turns
  pub log_of_turns : t.fast.log ≡ round.turned.fast.log
  log_of_turns = ap (λ (x : SessionState). x.fast.log) round.ends ∙ ap (λ (m : MixerState). m.log) ((ends_keep round.met).fast ∙ round.meets.ends.fast)

  pub notes_of_all : Notes s r t.fast.log
  notes_of_all =
      let x = round.turned in
      let goes : Goes s.fast.log x.fast.log = turned_goes round.links s.fast x.fast bytes round.plays.fast in
      let told : Notes s (all_noted s x) x.fast.log = record {
        goes = goes;
        count = (let more = goes.longer in omega arith);
        calls = length-map x.clients (λ (p : PartyState). p.calls.items) ∙ zip_long (ClientPlayed g) s.clients x.clients round.plays.clients;
        turn = (λ frames tracks. turn_noted_form s x s.normal.ended round.plays.normal tracks frames);
      } in
      subst (λ (y : RoundNoted × Logged). Notes s y.0 y.1) (λ k. (sym round.told k, sym log_of_turns k)) told

-- if one round more is noted, what is noted still has its form
pub noted_of_all : (links : Links) (g : Given) (n : ℕ) (s : SessionState) → IsReady links g n s → (r : RoundNoted) (bytes : List ℕ) (t : SessionState) → IsRoundOfAll g s r bytes t → NotesFrames r
    → (noted : RoundsNoted) → AreNoted (length g.tracks) noted s.fast.log → AreNoted (length g.tracks) (record noted { rounds = noted.rounds ++ r ∷ [] }) t.fast.log
noted_of_all links g n s ready r bytes t round frames noted are =
    let count : length g.tracks ≡ length s.clients = ready.given.0 in
    subst (λ (k : ℕ). AreNoted k (record noted { rounds = noted.rounds ++ r ∷ [] }) t.fast.log) (sym count)
    (noted_more s r noted t.fast.log (subst (λ (k : ℕ). AreNoted k noted s.fast.log) count are) (notes_of_all g s r bytes t round) frames (sym ready.together.count))

-- ## The tally

in_step_of_all : (g : Given) (s : SessionState) (r : RoundNoted) (bytes : List ℕ) (t : SessionState) → IsRoundOfAll g s r bytes t → AreInStep t
in_step_of_all g s r bytes t round =
    let met = in_step_met round.turned round.met round.meets in
    let keep = ends_keep round.met in
    let normal : t.normal ≡ round.met.normal = ap (λ (x : SessionState). x.normal) round.ends ∙ keep.normal in
    let fast : t.fast ≡ round.met.fast = ap (λ (x : SessionState). x.fast) round.ends ∙ keep.fast in
    subst AreInStep (λ i. record { clients = t.clients; normal = sym normal i; fast = sym fast i }) (record { missing = met.missing; states = met.states })

in_step_run : (g : Given) (s : SessionState) (rounds : List RoundNoted) (bytes : List ℕ) (t : SessionState) → IsRunOfAll g s rounds bytes t → AreInStep s → AreInStep t
in_step_run g s [] bytes t run before = subst AreInStep (sym run.1) before
in_step_run g s (r ∷ rs) bytes t run before = in_step_run g run.2 rs run.1 t run.6 (in_step_of_all g s r run.0 run.2 run.5)

-- the tally of all rounds of a script
pub tally_of_all : (script : ScriptData) (shared : SharedState) (s : SessionState) → IsNewSession script shared s → (links : Links) (g : Given) (n : ℕ) (rounds : RoundsNoted) (t : SessionState) (y : Tallied)
    → IsReady links g n t → RunsOfAll g s rounds.rounds t → rounds.tracks ≡ length g.tracks → t.fast.frames ≡ s.fast.frames → ((first : FastState) → IsTally (shown_at first (length g.tracks) rounds.rounds t.fast) y)
    → IsTally (shown_in script.frames rounds t.fast.log t.normal.mutator.past.events) y
tally_of_all script shared s new links g n rounds t y ready runs tracks frames is =
    let step = in_step_run g s rounds.rounds runs.bytes t runs.run (in_step_new script shared s new) in
    let whole = tally_pushed (length g.tracks) rounds.rounds t y ready.together.fast.0 step is in
    let len : t.fast.frames ≡ script.frames = frames ∙ ap (λ (m : MixerState). m.frames) new.fast in
    subst (λ (x : ℕ × ℕ). IsTally (shown_in x.0 (record { tracks = x.1; rounds = rounds.rounds }) t.fast.log t.normal.mutator.past.events) y) (λ i. (len i, sym tracks i)) whole
