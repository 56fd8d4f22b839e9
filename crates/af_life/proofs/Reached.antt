-- What a track that is reported drained has reached.
use Rattle.std.proofs.Common.{◌≡◌, ℕ, ◌+◌, ◌*◌, ◌<◌, Bool, true, false, if◌then◌else◌, true≢false, sym, refl, ap, ◌∙◌, MatchBool, Option, Some, None, List, ◌∷◌, length, arith}
use Rattle.af_life.proofs.Common.{CommandLook, TrackSeen, Turn, not_both}
use Rattle.std.specs.Prelude.{◌==◌, ◌%◌}
use Rattle.std.specs.Int.{bit_at}
use Rattle.af_life.specs.declared.state.LifeState.{LifeState}
use Rattle.af_life.specs.declared.state.LifeState.TheVariants.{Absent, Idle, Active, Pausing, Paused, Resuming, Stopping1, Stopping2, Stopped, Flushed}
use Rattle.af_life.specs.declared.track.Life.{Life}
use Rattle.af_life.specs.State.{life_code}
use Rattle.af_life.specs.declared.kept.Heard.{Heard}
use Rattle.af_life.specs.declared.kept.TrackKept.{TrackKept}
use Rattle.af_life.specs.Kept.{Setup, NormalKept, Outside, track_at, track_in, nothing_seen}
use Rattle.af_life.specs.Heard.{learnt, heard, ready}
use Rattle.af_life.specs.Obeys.{slot_for}
use Rattle.af_life.specs.Serves.{state_code, status_word, is_found_shut, status_due, after_report, IsServed}
use Rattle.af_life.specs.Turn.{LegalTurn, GoesOn}
use Rattle.af_life.specs.TurnEvents.{tracks_at}
use Rattle.af_life.specs.Drained.{reports_drained, Turned, life_of, kept_after, steps_of, DrainedIsReached}
use Rattle.af_life.proofs.Lives.{lives_are, turns_len, report_step}
use Rattle.af_life.proofs.Drains.{drains_in_order}

code_low : (state : LifeState) → life_code state < 16
code_low Absent = omega arith
code_low Idle = omega arith
code_low Active = omega arith
code_low Pausing = omega arith
code_low Paused = omega arith
code_low Resuming = omega arith
code_low Stopping1 = omega arith
code_low Stopping2 = omega arith
code_low Stopped = omega arith
code_low Flushed = omega arith

state_low : (shut : Bool) (l : Life) → state_code shut l < 16
state_low true l = omega arith
state_low false l = code_low l.state

no_bit : (code n : ℕ) → code < 16 → (bit_at (code + 0 + 256 * n) 4 == 1) ≡ false
no_bit code n h = grind arith

-- the mark of a drained track
marked : (code n : ℕ) (drained : Bool) → code < 16 → (bit_at (code + (if drained then 16 else 0) + 256 * n) 4 == 1) ≡ true → drained ≡ true
marked code n true low h = refl
marked code n false low h = absurd (true≢false (sym h ∙ no_bit code n low))

-- a status that carries it
has_mark : Option ℕ → Bool
has_mark status = elim status as (λ status. Bool) [ None ↦ false | Some word ↦ bit_at word 4 == 1 ]

stored_mark : (b : Bool) (word : ℕ) → has_mark (if b then None else Some word) ≡ true → (bit_at word 4 == 1) ≡ true
unfolding has_mark
stored_mark true word h = absurd (true≢false (sym h))
stored_mark false word h = h

module _ (c : Setup) (o : Outside) (m : NormalKept) (e : Turn) (i : ℕ) (is_drained : reports_drained (track_in e i) ≡ true) where
  -- a track that was passed over reports nothing
  not_passed : track_in e i ≡ nothing_seen → ⊥
  unfolding has_mark
  not_passed p = not_both (has_mark (track_in e i).status) is_drained (ap (λ (seen : TrackSeen). has_mark seen.status) p)

  abbrev served_by : TrackKept → Type 0
  served_by s = IsServed (slot_for c (tracks_at c (learnt o) m e i) i) (heard (learnt o) i s) (track_in e i) (ready (learnt o) i s)

  abbrev life_by : TrackKept → Life
  life_by s = (after_report (slot_for c (tracks_at c (learnt o) m e i) i) (heard (learnt o) i s) (track_in e i).looks (ready (learnt o) i s)).life

  life_drained : (s : TrackKept) → served_by s → (life_by s).drained ≡ true
  unfolding has_mark status_word
  life_drained s is = let h : Heard = heard (learnt o) i s in let given : Option ℕ = slot_for c (tracks_at c (learnt o) m e i) i in let r : TrackKept = ready (learnt o) i s in
      let looks : List CommandLook = (track_in e i).looks in let shut : Bool = is_found_shut h looks in let after : TrackKept = after_report given h looks r in
      marked (state_code shut after.life) (after.settled % 16777216) after.life.drained (state_low shut after.life)
      (stored_mark (status_due given h looks r == r.status) (status_due given h looks r) (sym (ap has_mark is.status) ∙ is_drained))

  -- it had not ended, and its life is drained after the report
  by_life : (s : TrackKept) (ended : Bool) → MatchBool ended (track_in e i ≡ nothing_seen) (served_by s) → (ended ≡ false) × ((life_by s).drained ≡ true)
  by_life s true p = absurd (not_passed p)
  by_life s false p = (refl, life_drained s p)

  -- an ended turn reports nothing
  goes : (ended : Bool) → e.ended ≡ ended → LegalTurn c o m e → (e.ended ≡ false) × GoesOn c o m e
  unfolding has_mark
  goes true h legal = absurd (not_both (has_mark (track_in e i).status) is_drained
      (ap (λ (x : Turn). has_mark (track_in x i).status) (legal.still h)))
  goes false h legal = (h, legal.goes_on h)

pub reached : (c : Setup) (m : NormalKept) (turn : Turned) (turns : List Turned) (i consumed : ℕ) → DrainedIsReached c m turn turns i consumed
reached c m turn turns i consumed lt new legal within is_drained =
    let last : NormalKept = kept_after c m turns in
    let runs = goes c turn.0 last turn.1 i is_drained turn.1.ended refl legal.0 in
    let here : i < length last.tracks = (let l : length (kept_after c m turns).tracks ≡ length m.tracks = turns_len c m turns in omega arith) in
    let s : TrackKept = track_at (tracks_at c (learnt turn.0) last turn.1 i) i in
    let found = by_life c turn.0 last turn.1 i is_drained s s.life.ended (runs.1.tracks i here) in
    let same = report_step c (learnt turn.0) last turn.1 i (steps_of c m turns i) runs.0 found.0 (lives_are c m turns i lt new) in
    let is : (life_of (steps_of c m (turn ∷ turns) i)).drained ≡ true = sym (ap (λ (l : Life). l.drained) same) ∙ found.1 in
    let ordered = (drains_in_order (steps_of c m (turn ∷ turns) i)).drained is in
    ((life_of (steps_of c m (turn ∷ turns) i)).stop_at, ordered.0, (let a = ordered.1 in omega (arith, within)))
