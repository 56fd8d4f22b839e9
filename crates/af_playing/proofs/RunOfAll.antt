-- A run of all parties grows by a round at its end, and what it comes to for a session that was made new.
use Rattle.std.proofs.Common.{◌≡◌, ℕ, List, [], ◌∷◌, ◌++◌, false, true≢false, refl, sym, ap, subst, ◌∙◌, append-nil, append_assoc}
use Rattle.af_playing.proofs.Common.{Frame, Given, IsNewSession, IsQuiet, IsRoundOfAll, MixerState, MutatorEvent, NormalState, RoundNoted, ScriptData, ServerState, SessionState, Setup, SharedState, frames_first, has_exit, new_normal, pcm_of, pushed_states, script_setup, silent_first}
use Rattle.af_playing.specs.PlayedRuns.{GoesOn, IsRunOfAll, Plays, RunsOfAll}
use Rattle.af_playing.proofs.ExitSeen.{Knowing}
use Rattle.af_playing.proofs.PushedRuns.{PushedRuns, new_pushes}

-- ## Growing

-- if no rounds were played, that is a run
pub run_of_none : (g : Given) (s : SessionState) → RunsOfAll g s [] s
run_of_none g s = record { bytes = []; run = (refl, refl); sound = sym (append-nil (pcm_of s.fast.frames s.fast.log)) }

run_behind : (g : Given) (s m t : SessionState) (rounds : List RoundNoted) (out : List ℕ) → IsRunOfAll g s rounds out m → GoesOn m → (r : RoundNoted) (bytes : List ℕ) → IsRoundOfAll g m r bytes t
    → IsRunOfAll g s (rounds ++ r ∷ []) (out ++ bytes) t
run_behind g s m t [] out run goes r bytes round = (
  bytes,
  [],
  t,
  subst GoesOn run.1 goes,
  ap (λ (xs : List ℕ). xs ++ bytes) run.0 ∙ sym (append-nil bytes),
  subst (λ (x : SessionState). IsRoundOfAll g x r bytes t) run.1 round,
  (refl, refl),
)
run_behind g s m t (x ∷ xs) out run goes r bytes round = (
  run.0,
  run.1 ++ bytes,
  run.2,
  run.3,
  ap (λ (ys : List ℕ). ys ++ bytes) run.4 ∙ append_assoc run.0 run.1 bytes,
  run.5,
  run_behind g run.2 m t xs run.1 run.6 goes r bytes round,
)

-- a run with one round more is a run, if it went on before that round
pub run_of_more : (g : Given) (s m t : SessionState) (rounds : List RoundNoted) → RunsOfAll g s rounds m → GoesOn m → (r : RoundNoted) (bytes : List ℕ) → IsRoundOfAll g m r bytes t
    → pcm_of s.fast.frames m.fast.log ++ bytes ≡ pcm_of s.fast.frames t.fast.log → RunsOfAll g s (rounds ++ r ∷ []) t
run_of_more g s m t rounds runs goes r bytes round sound =
    let len = s.fast.frames in
    record {
      bytes = runs.bytes ++ bytes;
      run = run_behind g s m t rounds runs.bytes runs.run goes r bytes round;
      sound = sym sound ∙ ap (λ (xs : List ℕ). xs ++ bytes) runs.sound ∙ append_assoc (pcm_of len s.fast.log) runs.bytes bytes;
    }

-- ## Runs of a new session

module _ (script : ScriptData) (shared : SharedState) (s : SessionState) (new : IsNewSession script shared s) where
  -- rounds that were played since the session was made are a run of the script
  pub plays : (files : List (List Frame)) (rounds : List RoundNoted) (t : SessionState) → RunsOfAll (record { tracks = script.tracks; files = files }) s rounds t → Plays script files rounds t
  plays files rounds t runs =
      let len = s.fast.frames in
      let heard : pcm_of len t.fast.log ≡ runs.bytes = runs.sound ∙ ap (λ (xs : List ℕ). xs ++ runs.bytes) (silent_first script shared s new files len) in
      record {
        shared = shared;
        start = s;
        new = new;
        bytes = runs.bytes;
        run = runs.run;
        sound = sym heard ∙ ap (λ (n : ℕ). pcm_of n t.fast.log) (frames_first script shared s new files);
      }

  -- no rounds are a run of the script
  pub plays_none : (files : List (List Frame)) → Plays script files [] s
  plays_none files = record { shared = shared; start = s; new = new; bytes = []; run = (refl, refl); sound = sym (silent_first script shared s new files script.frames) }

  new_quiet : (c : Setup) → IsQuiet (new_normal c)
  new_quiet c = record { over = (λ exit. absurd (true≢false (sym exit))); rests = (λ exit. absurd (true≢false (sym exit))) }

  no_exit : has_exit s.fast.log.entries ≡ false
  no_exit = ap (λ (m : MixerState). has_exit m.log.entries) new.fast

  -- a new session has what holds between two rounds
  pub knowing_first : Knowing s
  knowing_first =
      let m : NormalState = s.normal in
      let silent = new.ends.mutator.silent in
      record {
        normal = record {
          quiet = subst IsQuiet (sym new.kept) (new_quiet (script_setup script));
          runs = subst (λ (x : ℕ × List (MutatorEvent ServerState)). PushedRuns x.0 m.mutator.past.last (pushed_states x.1)) (λ i. (sym silent.0 i, sym silent.2 i)) (new_pushes m.mutator.past.last);
        };
        fast = record {
          told = new.ends.observer.1.told;
          exit = (λ exit. absurd (true≢false (sym exit ∙ no_exit)));
        };
        met = (λ exit. absurd (true≢false (sym exit ∙ no_exit)));
      }
