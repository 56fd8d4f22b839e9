-- A round adds just its bytes to the sound of the log.
use Rattle.std.proofs.Common.{◌≡◌, ℕ, Bool, true, false, MatchBool, List, [], ◌++◌, sym, ap, ◌∙◌, append-nil}
use Rattle.af_rendering.proofs.Common.{Given, IsFastTurn, IsRound, Logged, NormalTurned, RoundNoted, SessionState, Turn, TurnSpec, Turns, fast_round, normal_round, pcm_of, still_round, turn_adds}
use Rattle.af_script.specs.declared.op.TurnSpec.TheVariants as spec
use Rattle.af_tally.specs.Sound.{IsWhole}
use Rattle.af_rendering.proofs.RoundTold.{log_turned}

still_sound : (len : ℕ) (a b : Logged) (bytes : List ℕ) → bytes ≡ [] → b ≡ a → pcm_of len a ++ bytes ≡ pcm_of len b
still_sound len a b bytes none same = ap (λ (xs : List ℕ). pcm_of len a ++ xs) none ∙ append-nil (pcm_of len a) ∙ ap (pcm_of len) (sym same)

turn_sounds : (g : Given) (turn : TurnSpec) (s : SessionState) (r : RoundNoted) (bytes : List ℕ) (t : SessionState) → IsWhole s.fast.log → Turns g turn s r bytes t → pcm_of s.fast.frames s.fast.log ++ bytes ≡ pcm_of s.fast.frames t.fast.log
turn_sounds g (spec.Client i) s r bytes t whole turns = still_sound s.fast.frames s.fast.log t.fast.log bytes turns.0 (ap (λ (x : SessionState). x.fast.log) turns.3.leaves)
turn_sounds g spec.Normal s r bytes t whole turns = by_ended s.normal.ended turns.1
  where
    by_ended : (ended : Bool) → MatchBool ended ((r ≡ still_round s) × (t ≡ s)) ((e : Turn) × (r ≡ normal_round s e) × NormalTurned s t e) → pcm_of s.fast.frames s.fast.log ++ bytes ≡ pcm_of s.fast.frames t.fast.log
    by_ended true h = still_sound s.fast.frames s.fast.log t.fast.log bytes turns.0 (ap (λ (x : SessionState). x.fast.log) h.1)
    by_ended false h = still_sound s.fast.frames s.fast.log t.fast.log bytes turns.0 (ap (λ (x : SessionState). x.fast.log) h.2.leaves)
turn_sounds g (spec.Fast count) s r bytes t whole turns = by_exit s.fast.exited turns
  where
    by_exit : (exited : Bool) → MatchBool exited ((r ≡ still_round s) × (bytes ≡ []) × (t ≡ s)) ((r ≡ fast_round s t) × IsFastTurn count s bytes t) → pcm_of s.fast.frames s.fast.log ++ bytes ≡ pcm_of s.fast.frames t.fast.log
    by_exit true h = still_sound s.fast.frames s.fast.log t.fast.log bytes h.1 (ap (λ (x : SessionState). x.fast.log) h.2)
    by_exit false h = sym (turn_adds count s t bytes whole h.1).grows.sound

pub round_sounds : (g : Given) (turn : TurnSpec) (s : SessionState) (r : RoundNoted) (bytes : List ℕ) (t : SessionState) → IsWhole s.fast.log → IsRound g turn s r bytes t → pcm_of s.fast.frames s.fast.log ++ bytes ≡ pcm_of s.fast.frames t.fast.log
round_sounds g turn s r bytes t whole round =
    turn_sounds g turn s r bytes round.turned whole round.turns ∙ ap (pcm_of s.fast.frames) (sym (log_turned g turn s r bytes t round))
