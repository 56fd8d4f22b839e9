-- What is noted of a round is what the parties before it and after it show.
use Rattle.std.proofs.Common.{◌≡◌, ℕ, ◌-◌, ◌<◌, Bool, true, false, if◌then◌else◌, MatchBool, List, [], length, map, slice_get, get_or, Some, refl, sym, ap, ◌∙◌, arith}
use Rattle.af_rendering.proofs.Common.{Given, IsFastTurn, IsRound, Logged, NormalTurned, PartyState, RoundNoted, SessionState, Turn, TurnSpec, calls_in, client_round, end_party, fast_round, get_set_same, length-map, length-set, normal_round, round_told, slice_get-get_or, slice_get-map, slice_get_within, still_round, turn_of}
use Rattle.af_script.specs.declared.op.TurnSpec.TheVariants as spec
use Rattle.af_session.proofs.Basics.{calls_end}

-- ## What the meetings and the ends leave

log_ended : (m : SessionState) (ended : Bool) → (if ended then record m { clients = map end_party m.clients } else m).fast.log ≡ m.fast.log
log_ended m true = refl
log_ended m false = refl

normal_ended : (m : SessionState) (ended : Bool) → (if ended then record m { clients = map end_party m.clients } else m).normal.entry ≡ m.normal.entry
normal_ended m true = refl
normal_ended m false = refl

long_ended : (m : SessionState) (ended : Bool) → length (if ended then record m { clients = map end_party m.clients } else m).clients ≡ length m.clients
long_ended m true = length-map m.clients end_party
long_ended m false = refl

calls_ended : (m : SessionState) (i : ℕ) (ended : Bool) → calls_in (slice_get (if ended then record m { clients = map end_party m.clients } else m).clients i) ≡ calls_in (slice_get m.clients i)
calls_ended m i true = ap calls_in (slice_get-map end_party m.clients i) ∙ calls_end (slice_get m.clients i)
calls_ended m i false = refl

module _ (g : Given) (turn : TurnSpec) (s : SessionState) (r : RoundNoted) (bytes : List ℕ) (t : SessionState) (round : IsRound g turn s r bytes t) where
  -- the log after a round is that of the turn
  pub log_turned : t.fast.log ≡ round.turned.fast.log
  log_turned =
      ap (λ (x : SessionState). x.fast.log) round.ends
      ∙ log_ended round.met round.met.normal.ended
      ∙ ap (λ m. m.log) round.meets.ends.fast

  -- the normal mixer's entry after a round is that of the turn
  pub entry_turned : t.normal.entry ≡ round.turned.normal.entry
  entry_turned =
      ap (λ (x : SessionState). x.normal.entry) round.ends
      ∙ normal_ended round.met round.met.normal.ended
      ∙ ap (λ m. m.entry) round.meets.ends.normal

  -- a client that made calls still has them
  calls_turned : (i : ℕ) (p : PartyState) → slice_get round.turned.clients i ≡ Some p → length t.clients ≡ length round.turned.clients → calls_in (slice_get t.clients i) ≡ p.calls.items
  calls_turned i p at long =
      let a = round.turned in
      let b = round.met in
      let count : length t.clients ≡ length b.clients = ap (λ (x : SessionState). length x.clients) round.ends ∙ long_ended b b.normal.ended in
      let lt : i < length a.clients = slice_get_within a.clients i p at in
      let q : PartyState = get_or b.clients i p in
      let there : slice_get b.clients i ≡ Some q = slice_get-get_or b.clients i p (omega (arith, lt, long, count)) in
      let one = round.meets.tracks.met i p q lt at there in
      ap (λ (x : SessionState). calls_in (slice_get x.clients i)) round.ends
      ∙ calls_ended b i b.normal.ended
      ∙ ap calls_in there
      ∙ ap (λ (x : PartyState). x.calls.items) one.same

-- ## What is noted

pub round_is_told : (g : Given) (turn : TurnSpec) (s : SessionState) (r : RoundNoted) (bytes : List ℕ) (t : SessionState) → IsRound g turn s r bytes t → length t.clients ≡ length s.clients → r ≡ round_told turn s t
round_is_told g (spec.Client i) s r bytes t round long =
    let calls = round.turns.1 in
    let one = round.turns.3 in
    let here : slice_get round.turned.clients i ≡ Some one.after =
    ap (λ (x : SessionState). slice_get x.clients i) one.leaves ∙ get_set_same s.clients i one.after (slice_get_within s.clients i one.before one.was) in
    let count : length round.turned.clients ≡ length s.clients = ap (λ (x : SessionState). length x.clients) one.leaves ∙ length-set s.clients i one.after in
    let same = calls_turned g (spec.Client i) s r bytes t round i one.after here (long ∙ sym count) in
    round.turns.2 ∙ ap (client_round s i) (one.made ∙ sym same)
round_is_told g spec.Normal s r bytes t round long = by_ended s.normal.ended round.turns.1
  where
    by_ended : (ended : Bool) → MatchBool ended ((r ≡ still_round s) × (round.turned ≡ s)) ((e : Turn) × (r ≡ normal_round s e) × NormalTurned s round.turned e)
        → r ≡ (if ended then still_round s else normal_round s (turn_of t.normal.entry))
    by_ended true h = h.0
    by_ended false h = h.1 ∙ ap (normal_round s) (h.2.told ∙ ap turn_of (sym (entry_turned g spec.Normal s r bytes t round)))
round_is_told g (spec.Fast count) s r bytes t round long = by_exit s.fast.exited round.turns
  where
    log : t.fast.log ≡ round.turned.fast.log
    log = log_turned g (spec.Fast count) s r bytes t round

    by_exit : (exited : Bool) → MatchBool exited ((r ≡ still_round s) × (bytes ≡ []) × (round.turned ≡ s)) ((r ≡ fast_round s round.turned) × IsFastTurn count s bytes round.turned) → r ≡ fast_round s t
    by_exit true h =
        let none = ap (λ (l : Logged). length l.entries) (log ∙ ap (λ (x : SessionState). x.fast.log) h.2) in
        h.0 ∙ ap (λ (n : ℕ). record (still_round s) { cycles = n }) (let e : 0 ≡ length t.fast.log.entries - length s.fast.log.entries = omega (arith, none) in e)
    by_exit false h = h.0 ∙ ap (λ (l : Logged). record (still_round s) { cycles = length l.entries - length s.fast.log.entries }) (sym log)
