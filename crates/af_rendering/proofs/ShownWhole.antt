-- What a run shows at its end, by its journal and by the states pushed.
use Rattle.std.proofs.Common.{◌≡◌, ℕ, ◌<◌, ◌≤◌, ◌^◌, All, get_or, List, [], ◌∷◌, ◌++◌, length, map, drop, replicate, refl, sym, ap, subst, ◌∙◌, append-nil, arith}
use Rattle.af_rendering.proofs.Common.{ClientCall, EndsState, EntrySeen, FastState, Frame, Given, HasPlaces, IsInOrder, IsNewSession, IsReady, IsRound, IsTally, IsTurnRun, IsWhole, JournalData, Links, Logged, Met, MixerState, MutatorEvent, NormalState, ObserverEvent, PartyState, RoundNoted, RoundSeen, RoundsNoted, ScriptData, ServerState, SessionState, SharedState, Shown, Tallied, TurnSpec, calls_over, empty_at, ends_keep, entries_seen, fill_by_all, frames_of, journal_of, last_used, length-replicate, no_call, nothing_shown, polled_states, pushed_states, range_with_len, released_by, rounds_seen, shown_at, shown_by, shown_in, shows, shows_more, shows_tracks, slice_get-get_or, summary_of, summary_told}
use Rattle.af_stateq.proofs.Prefix.{polled_in_order}
use Rattle.af_rendering.specs.Rendered.{Runs}
use Rattle.af_tally.specs.declared.summary.Summary.{Summary}
use Rattle.af_tally.specs.Steps.{AreFew}
use Rattle.af_rendering.proofs.JournalSound.{dealt, same_entries}

-- ## At the start

-- no rounds and an empty log show nothing
shows_none : (states : List FastState) (len tracks : ℕ) (frames : List Frame) → shows states len tracks [] [] frames [] ≡ nothing_shown len tracks
unfolding shows
shows_none states len tracks frames =
    let filled : replicate tracks no_call ≡ map (calls_over []) (range_with_len 0 tracks) = fill_by_all (calls_over []) (replicate tracks no_call) tracks no_call (length-replicate tracks no_call) (λ k lt. empty_at tracks k) in
    λ i. record { frames = len; calls = sym filled i; turns = []; entries = []; written = [] }

pub tally_first : (tracks : ℕ) (m : MixerState) (t : Tallied) → m.log.entries ≡ [] → IsTally (nothing_shown m.frames tracks) t → (first : FastState) → IsTally (shown_at first tracks [] m) t
tally_first tracks m t none is = λ first.
    let states : List FastState = polled_states first m.observer.past.events in
    subst (λ (run : Shown). IsTally run t) (sym (ap (shows states m.frames tracks [] [] m.log.frames) none ∙ shows_none states m.frames tracks m.log.frames)) is

pub places_first : (frames tracks clients entries : ℕ) (t : Tallied) → clients ≡ tracks → IsTally (nothing_shown frames tracks) t → HasPlaces 0 clients entries t
places_first frames tracks clients entries t same is = record {
  tracks_are = is.count ∙ length-replicate tracks no_call ∙ sym same;
  looks = (let none = is.looks in omega arith);
  cycles = (let none = is.cycles in omega arith);
}

-- ## States

-- The states pushed are those that were polled, and perhaps some more
pub record AreInStep (s : SessionState) : Type 0 where
  pub missing : List FastState
  pub states : pushed_states s.normal.mutator.past.events ≡ polled_states s.normal.mutator.past.first s.fast.observer.past.events ++ missing

-- the states are in step before the first turn
pub in_step_new : (script : ScriptData) (shared : SharedState) (s : SessionState) → IsNewSession script shared s → AreInStep s
in_step_new script shared s new = record {
  missing = [];
  states = ap pushed_states new.ends.mutator.silent.2
      ∙ sym (append-nil [])
      ∙ sym (ap (λ (es : List (ObserverEvent ServerState)). polled_states s.normal.mutator.past.first es ++ []) new.ends.observer.0.silent.1);
}

-- the states are in step once all have met
pub in_step_met : (a b : SessionState) → Met a b → AreInStep b
in_step_met a b met =
    let order = polled_in_order b.normal.mutator.past.first b.normal.mutator.past.events b.fast.observer.past.events met.ends.histories.queue in
    record { missing = order.0; states = order.2 }

in_step_round : (g : Given) (turn : TurnSpec) (s : SessionState) (r : RoundNoted) (bytes : List ℕ) (t : SessionState) → IsRound g turn s r bytes t → AreInStep t
in_step_round g turn s r bytes t round =
    let met = in_step_met round.turned round.met round.meets in
    let keep = ends_keep round.met in
    let same : (t.normal ≡ round.met.normal) × (t.fast ≡ round.met.fast) = (ap (λ (x : SessionState). x.normal) round.ends ∙ keep.normal, ap (λ (x : SessionState). x.fast) round.ends ∙ keep.fast) in
    record {
      missing = met.missing;
      states = subst (λ (x : NormalState × MixerState). pushed_states x.0.mutator.past.events ≡ polled_states x.0.mutator.past.first x.1.observer.past.events ++ met.missing) (λ i. (sym same.0 i, sym same.1 i)) met.states;
    }

-- the states are in step after each turn
pub in_step_run : (g : Given) (turns : List TurnSpec) (s : SessionState) (rounds : List RoundNoted) (bytes : List ℕ) (t : SessionState) → IsTurnRun g turns s rounds bytes t → AreInStep s → AreInStep t
in_step_run g [] s rounds bytes t run before = subst AreInStep (sym run.2) before
in_step_run g (turn ∷ turns) s rounds bytes t run before = in_step_run g turns run.4 run.1 run.3 t run.8 (in_step_round g turn s run.0 run.2 run.4 run.7)

-- a tally is that of the states pushed, if the states are in step
pub tally_pushed : (tracks : ℕ) (rounds : List RoundNoted) (t : SessionState) (y : Tallied) → IsInOrder t.fast → AreInStep t → ((first : FastState) → IsTally (shown_at first tracks rounds t.fast) y)
    → IsTally (shown_in t.fast.frames (record { tracks = tracks; rounds = rounds }) t.fast.log t.normal.mutator.past.events) y
tally_pushed tracks rounds t y order step is =
    let first : FastState = t.normal.mutator.past.first in
    let polled : List FastState = polled_states first t.fast.observer.past.events in
    let log = t.fast.log in
    let calls = map (λ (r : RoundNoted). r.calls) rounds in
    let turns = map (λ (r : RoundNoted). r.turn) rounds in
    let few : last_used log.entries ≤ length polled = let low = order.uses.low in omega (arith, order.observer.told.counted first) in
    let same : shown_in t.fast.frames (record { tracks = tracks; rounds = rounds }) log t.normal.mutator.past.events ≡ shown_at first tracks rounds t.fast =
    (λ i. shows (step.states i) t.fast.frames tracks calls turns log.frames log.entries)
    ∙ shows_more polled step.missing t.fast.frames tracks calls turns log.frames (last_used log.entries) log.entries few order.uses.used in
    subst (λ (run : Shown). IsTally run y) (sym same) (is first)

-- ## The journal

-- the calls and the turns of the journal are those noted
pub same_calls : (entries : List EntrySeen) (rounds : List RoundNoted) → map (λ (r : RoundSeen). r.calls) (rounds_seen entries rounds) ≡ map (λ (r : RoundNoted). r.calls) rounds
same_calls entries [] = refl
same_calls entries (r ∷ rs) = ap (λ (l : List (List (List ClientCall))). r.calls ∷ l) (same_calls (drop r.cycles entries) rs)

pub same_turns : (entries : List EntrySeen) (rounds : List RoundNoted) → map (λ (r : RoundSeen). r.turn) (rounds_seen entries rounds) ≡ map (λ (r : RoundNoted). r.turn) rounds
same_turns entries [] = refl
same_turns entries (r ∷ rs) = ap (λ l. r.turn ∷ l) (same_turns (drop r.cycles entries) rs)

-- the journal shows what the rounds and the log do
pub shown_journal : (len : ℕ) (noted : RoundsNoted) (log : Logged) (events : List (MutatorEvent ServerState)) → IsWhole noted log → shown_by len (journal_of noted log) events ≡ shown_in len noted log events
shown_journal len noted log events whole =
    let seen : List EntrySeen = entries_seen log.frames log.entries in
    let states : List FastState = pushed_states events in
    let rounds = (journal_of noted log).rounds in
    let calls = map (λ (r : RoundNoted). r.calls) noted.rounds in
    let turns = map (λ (r : RoundNoted). r.turn) noted.rounds in
    (λ i. shows states len noted.tracks (same_calls seen noted.rounds i) (same_turns seen noted.rounds i) (frames_of (dealt noted log whole.0 i)) (map (λ (x : EntrySeen). x.entry) (dealt noted log whole.0 i)))
    ∙ (λ i. shows states len noted.tracks calls turns (whole.1 i) (same_entries log.frames log.entries i))

-- ## What rounds leave

-- no client released more frames than its file has
pub released_few : (links : Links) (g : Given) (n : ℕ) (t : SessionState) → IsReady links g n t → All (λ (p : PartyState). p.stream.released < 2 ^ 58) t.clients
released_few links g n t ready = λ i d lt.
    let works = ready.works i (get_or t.clients i d) (slice_get-get_or t.clients i d lt) in
    let file = works.file in
    let few = works.few_frames in
    omega arith

-- the tally of all turns of a script
pub tally_end : (script : ScriptData) (shared : SharedState) (s : SessionState) → IsNewSession script shared s → (links : Links) (g : Given) (n : ℕ) (turns : List TurnSpec) (rounds : RoundsNoted) (t : SessionState) (y : Tallied)
    → IsReady links g n t → Runs g turns s rounds.rounds t → rounds.tracks ≡ length g.tracks → t.fast.frames ≡ s.fast.frames → ((first : FastState) → IsTally (shown_at first (length g.tracks) rounds.rounds t.fast) y)
    → IsTally (shown_in script.frames rounds t.fast.log t.normal.mutator.past.events) y
tally_end script shared s new links g n turns rounds t y ready runs tracks frames is =
    let step = in_step_run g turns s rounds.rounds runs.bytes t runs.run (in_step_new script shared s new) in
    let whole = tally_pushed (length g.tracks) rounds.rounds t y ready.together.fast.0 step is in
    let len : t.fast.frames ≡ script.frames = frames ∙ ap (λ (m : MixerState). m.frames) new.fast in
    subst (λ (x : ℕ × ℕ). IsTally (shown_in x.0 (record { tracks = x.1; rounds = rounds.rounds }) t.fast.log t.normal.mutator.past.events) y) (λ i. (len i, sym tracks i)) whole

-- ## The summary

-- the summary of a tally is that of the journal and the ends
pub is_told : (len : ℕ) (noted : RoundsNoted) (log : Logged) (events : List (MutatorEvent ServerState)) (clients : List PartyState) (t : Tallied) (summary : Summary) (j : JournalData) (ends : EndsState) → IsWhole noted log
    → j ≡ journal_of noted log → ends.clients ≡ clients → ends.normal.mutator.past.events ≡ events → IsTally (shown_in len noted log events) t → ((run : Shown) → IsTally run t → summary ≡ summary_of run (released_by clients))
    → summary ≡ summary_told len j ends
is_told len noted log events clients t summary j ends whole journal same pushed is sums =
    sums (shown_in len noted log events) is
    ∙ ap (λ (run : Shown). summary_of run (released_by clients)) (sym (shown_journal len noted log events whole))
    ∙ (λ i. summary_of (shown_by len (sym journal i) (sym pushed i)) (released_by (sym same i)))

-- the steps that a tally noted are those of the journal's cycles
pub steps_told : (len : ℕ) (noted : RoundsNoted) (log : Logged) (events : List (MutatorEvent ServerState)) (t : Tallied) (j : JournalData) (ends : EndsState) (steps : List (ℕ × ℕ)) → IsWhole noted log → j ≡ journal_of noted log
    → ends.normal.mutator.past.events ≡ events → IsTally (shown_in len noted log events) t → steps ≡ t.steps → AreFew (shown_by len j ends.normal.mutator.past.events) steps
steps_told len noted log events t j ends steps whole journal pushed is same =
    subst (AreFew (shown_by len j ends.normal.mutator.past.events)) (sym same)
    (subst (λ (run : Shown). AreFew run t.steps) (sym (shown_journal len noted log events whole) ∙ (λ i. shown_by len (sym journal i) (sym pushed i))) is.steps)

-- a tally has as many tracks as rounds were noted of
pub tally_tracks : (len : ℕ) (noted : RoundsNoted) (log : Logged) (events : List (MutatorEvent ServerState)) (t : Tallied) → IsTally (shown_in len noted log events) t → length t.tracks ≡ noted.tracks
tally_tracks len noted log events t is = is.count ∙ shows_tracks (pushed_states events) len noted.tracks (map (λ (r : RoundNoted). r.calls) noted.rounds) (map (λ (r : RoundNoted). r.turn) noted.rounds) log.frames log.entries
