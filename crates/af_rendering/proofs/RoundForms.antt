-- The rounds that are noted, and the log of their cycles, keep the form of a journal.
use Rattle.std.proofs.Common.{◌≡◌, ℕ, ◌+◌, Bool, true, false, MatchBool, MatchOption, All, List, [], ◌∷◌, ◌++◌, length, refl, sym, ap, subst, ◌∙◌, arith}
use Rattle.af_rendering.proofs.Common.{All-append, All-cons, All-nil, AreWhole, ClientCall, CycleEntry, Frame, Given, IsFastTurn, IsFrame, IsReady, IsRound, LegalTurn, Links, Logged, NormalTurned, NotesFrames, RoundNoted, RoundsNoted, SessionState, Turn, TurnSpec, Turns, client_round, cycles_more, fast_round, kept_of, length-replicate, length-set, no_calls, none_whole, normal_round, setup_of, still_round}
use Rattle.af_life.proofs.TurnForms.{turn_form}
use Rattle.af_model.specs.JournalForm.{IsTurn}
use Rattle.af_script.specs.declared.op.TurnSpec.TheVariants as spec
use Rattle.af_rendering.specs.SoFar.{AreNoted, HasRoundForm}
use Rattle.af_rendering.proofs.LogGoes.{Goes, all_front, fast_goes, goes_not}
use Rattle.af_rendering.proofs.RoundTold.{log_turned}

-- ## A round

-- a round between the parties s and a log
pub record Notes (s : SessionState) (r : RoundNoted) (log : Logged) : Type 0 where
  pub goes : Goes s.fast.log log
  pub count : length s.fast.log.entries + r.cycles ≡ length log.entries
  pub calls : length r.calls ≡ length s.clients
  pub turn : NotesFrames r → length s.normal.tracks ≡ length s.clients → MatchOption r.turn (Unit {0}) (IsTurn (length s.clients))

quiet : (s : SessionState) → length (no_calls s) ≡ length s.clients
quiet s = length-replicate (length s.clients) []

client_notes : (s : SessionState) (i : ℕ) (calls : List ClientCall) → Notes s (client_round s i calls) s.fast.log
client_notes s i calls = record { goes = goes_not s.fast.log s.fast.log refl; count = omega arith; calls = length-set (no_calls s) i calls ∙ quiet s; turn = (λ frames tracks. tt) }

still_notes : (s : SessionState) → Notes s (still_round s) s.fast.log
still_notes s = record { goes = goes_not s.fast.log s.fast.log refl; count = omega arith; calls = quiet s; turn = (λ frames tracks. tt) }

normal_notes : (s t : SessionState) (e : Turn) → NormalTurned s t e → Notes s (normal_round s e) s.fast.log
normal_notes s t e n = record {
  goes = goes_not s.fast.log s.fast.log refl;
  count = omega arith;
  calls = quiet s;
  turn = (λ frames tracks. turn_form (setup_of s.normal) n.outside (kept_of s.normal) e (length s.clients) tracks frames
      (subst (LegalTurn (setup_of s.normal) n.outside (kept_of s.normal)) (sym n.told) n.legal.legal));
}

fast_notes : (s t : SessionState) → Goes s.fast.log t.fast.log → Notes s (fast_round s t) t.fast.log
fast_notes s t goes = record { goes = goes; count = (let more = goes.longer in omega arith); calls = quiet s; turn = (λ frames tracks. tt) }

-- what was noted of a round, if the parties end up with that log
noted_as : (s t : SessionState) (r x : RoundNoted) (log : Logged) → r ≡ x → t.fast.log ≡ log → Notes s x log → Notes s r t.fast.log
noted_as s t r x log is same n = subst (λ (y : RoundNoted × Logged). Notes s y.0 y.1) (λ k. (sym is k, sym same k)) n

pub turn_notes : (g : Given) (turn : TurnSpec) (s : SessionState) (r : RoundNoted) (bytes : List ℕ) (t : SessionState) → Turns g turn s r bytes t → Notes s r t.fast.log
turn_notes g (spec.Client i) s r bytes t turns =
    noted_as s t r (client_round s i turns.1) s.fast.log turns.2 (ap (λ (x : SessionState). x.fast.log) turns.3.leaves) (client_notes s i turns.1)
turn_notes g spec.Normal s r bytes t turns = by_ended s.normal.ended turns.1
  where
    by_ended : (ended : Bool) → MatchBool ended ((r ≡ still_round s) × (t ≡ s)) ((e : Turn) × (r ≡ normal_round s e) × NormalTurned s t e) → Notes s r t.fast.log
    by_ended true h = noted_as s t r (still_round s) s.fast.log h.0 (ap (λ (x : SessionState). x.fast.log) h.1) (still_notes s)
    by_ended false h = noted_as s t r (normal_round s h.0) s.fast.log h.1 (ap (λ (x : SessionState). x.fast.log) h.2.leaves) (normal_notes s t h.0 h.2)
turn_notes g (spec.Fast count) s r bytes t turns = by_exit s.fast.exited turns
  where
    by_exit : (exited : Bool) → MatchBool exited ((r ≡ still_round s) × (bytes ≡ []) × (t ≡ s)) ((r ≡ fast_round s t) × IsFastTurn count s bytes t) → Notes s r t.fast.log
    by_exit true h = noted_as s t r (still_round s) s.fast.log h.0 (ap (λ (x : SessionState). x.fast.log) h.2) (still_notes s)
    by_exit false h = noted_as s t r (fast_round s t) t.fast.log h.0 refl (fast_notes s t (fast_goes count s t bytes h.1))

pub round_notes : (g : Given) (turn : TurnSpec) (s : SessionState) (r : RoundNoted) (bytes : List ℕ) (t : SessionState) → IsRound g turn s r bytes t → Notes s r t.fast.log
round_notes g turn s r bytes t round =
    noted_as s t r r round.turned.fast.log refl (log_turned g turn s r bytes t round) (turn_notes g turn s r bytes round.turned round.turns)

-- ## All rounds

-- no rounds were noted
pub noted_none : (tracks : ℕ) (log : Logged) → log.entries ≡ [] → log.frames ≡ [] → AreNoted tracks (record { tracks = tracks; rounds = [] }) log
noted_none tracks log entries frames = record {
  tracks_are = refl;
  each = All-nil (HasRoundForm tracks);
  count = ap length (sym entries);
  form = (λ samples. subst (λ (x : List Frame × List CycleEntry). AreWhole 0 x.0 x.1) (λ k. (sym frames k, sym entries k)) (none_whole 0));
}

-- one more round was noted
pub noted_more : (s : SessionState) (r : RoundNoted) (noted : RoundsNoted) (log : Logged) → AreNoted (length s.clients) noted s.fast.log → Notes s r log → NotesFrames r → length s.normal.tracks ≡ length s.clients
    → AreNoted (length s.clients) (record noted { rounds = noted.rounds ++ r ∷ [] }) log
noted_more s r noted log are n frames tracks = record {
  tracks_are = are.tracks_are;
  each = All-append (HasRoundForm (length s.clients)) noted.rounds (r ∷ []) are.each (All-cons (HasRoundForm (length s.clients)) r [] (record { calls = n.calls; turn = n.turn frames tracks }) (All-nil (HasRoundForm (length s.clients))));
  count = (let more = cycles_more noted.rounds r in let before = are.count in let here = n.count in omega arith);
  form = (λ samples. n.goes.form samples (are.form (all_front IsFrame s.fast.log.frames n.goes.frames.0 (subst (All IsFrame) n.goes.frames.1 samples))));
}

pub noted_round : (links : Links) (g : Given) (n : ℕ) (s : SessionState) → IsReady links g n s → (turn : TurnSpec) (r : RoundNoted) (bytes : List ℕ) (t : SessionState) → IsRound g turn s r bytes t → NotesFrames r
    → (noted : RoundsNoted) → AreNoted (length g.tracks) noted s.fast.log → AreNoted (length g.tracks) (record noted { rounds = noted.rounds ++ r ∷ [] }) t.fast.log
noted_round links g n s ready turn r bytes t round frames noted are =
    let count : length g.tracks ≡ length s.clients = ready.given.0 in
    subst (λ (k : ℕ). AreNoted k (record noted { rounds = noted.rounds ++ r ∷ [] }) t.fast.log) (sym count)
    (noted_more s r noted t.fast.log (subst (λ (k : ℕ). AreNoted k noted s.fast.log) count are) (round_notes g turn s r bytes t round) frames (sym ready.together.count))
