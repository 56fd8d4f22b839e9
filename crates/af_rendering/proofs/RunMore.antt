-- A turn run grows by a round at its end.
use Rattle.std.proofs.Common.{◌≡◌, ℕ, ◌+◌, ◌<◌, List, [], ◌∷◌, ◌++◌, take, length, get_or, refl, sym, ap, subst, ◌∙◌, append-nil, append_assoc}
use Rattle.af_rendering.proofs.Common.{Given, IsRound, IsTurnRun, RoundNoted, SessionState, TurnSpec, pcm_of, take_more}
use Rattle.af_rendering.specs.Rendered.{Runs}

-- a run of no turns
pub run_none : (g : Given) (s : SessionState) → Runs g [] s [] s
run_none g s = record { bytes = []; run = (refl, refl, refl); sound = sym (append-nil (pcm_of s.fast.frames s.fast.log)) }

run_behind : (g : Given) (turns : List TurnSpec) (turn : TurnSpec) (s m t : SessionState) (rounds : List RoundNoted) (out : List ℕ) → IsTurnRun g turns s rounds out m → (r : RoundNoted) (bytes : List ℕ) → IsRound g turn m r bytes t
    → IsTurnRun g (turns ++ turn ∷ []) s (rounds ++ r ∷ []) (out ++ bytes) t
run_behind g [] turn s m t rounds out run r bytes round = (
  r,
  [],
  bytes,
  [],
  t,
  ap (λ (xs : List RoundNoted). xs ++ r ∷ []) run.0,
  ap (λ (xs : List ℕ). xs ++ bytes) run.1 ∙ sym (append-nil bytes),
  subst (λ (x : SessionState). IsRound g turn x r bytes t) run.2 round,
  (refl, refl, refl),
)
run_behind g (x ∷ xs) turn s m t rounds out run r bytes round = (
  run.0,
  run.1 ++ r ∷ [],
  run.2,
  run.3 ++ bytes,
  run.4,
  ap (λ (ys : List RoundNoted). ys ++ r ∷ []) run.5,
  ap (λ (ys : List ℕ). ys ++ bytes) run.6 ∙ append_assoc run.2 run.3 bytes,
  run.7,
  run_behind g xs turn run.4 m t run.1 run.3 run.8 r bytes round,
)

-- a run of one turn more, whatever stands for a turn that isn't there
pub run_more : (d : TurnSpec) (g : Given) (turns : List TurnSpec) (i : ℕ) (s m t : SessionState) (rounds : List RoundNoted) → i < length turns → Runs g (take i turns) s rounds m
    → (r : RoundNoted) (bytes : List ℕ) → IsRound g (get_or turns i d) m r bytes t → pcm_of s.fast.frames m.fast.log ++ bytes ≡ pcm_of s.fast.frames t.fast.log → Runs g (take (i + 1) turns) s (rounds ++ r ∷ []) t
run_more d g turns i s m t rounds lt runs r bytes round sound =
    let turn = get_or turns i d in
    let more = run_behind g (take i turns) turn s m t rounds runs.bytes runs.run r bytes round in
    let len = s.fast.frames in
    let heard : pcm_of len t.fast.log ≡ pcm_of len s.fast.log ++ (runs.bytes ++ bytes) =
    sym sound ∙ ap (λ (xs : List ℕ). xs ++ bytes) runs.sound ∙ append_assoc (pcm_of len s.fast.log) runs.bytes bytes in
    subst (λ (xs : List TurnSpec). Runs g xs s (rounds ++ r ∷ []) t) (sym (take_more turns i d lt)) (record { bytes = runs.bytes ++ bytes; run = more; sound = heard })
