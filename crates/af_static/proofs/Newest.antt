-- A load behind a meeting shows the last setting made before it.
use Rattle.std.proofs.Common.{◌≡◌, ℕ, zero, suc, ◌+◌, ◌-◌, ◌≤◌, max, Bool, true, false, if◌then◌else◌, List, [], ◌∷◌, ◌++◌, length, take, refl, sym, ap, ◌∙◌, subst, arith, append_assoc, length-append}
use Rattle.std.proofs.Math.Seq.{take-append-add, take-append_seam}
use Rattle.af_model.specs.declared.newest.WriterEvent.{WriterEvent}
use Rattle.af_model.specs.declared.newest.WriterEvent.TheVariants.{Store}
use Rattle.af_model.specs.declared.newest.WriterEvent.TheVariants as writes
use Rattle.af_model.specs.declared.newest.ReaderEvent.{ReaderEvent}
use Rattle.af_model.specs.declared.newest.ReaderEvent.TheVariants.{Load}
use Rattle.af_model.specs.declared.newest.ReaderEvent.TheVariants as reads
use Rattle.af_model.specs.Order.{Event, one, two, ones, twos, Legal}
use Rattle.af_model.specs.NewestValue.{CellPoint, start_value, legal_value, next_value, HasValueHistory}
use Rattle.af_latest.specs.Laws.{last_of}
use Rattle.af_static.specs.declared.setting.Setting.{Setting}
use Rattle.af_static.specs.Ends.{Kept, Sets, Plays}
use Rattle.af_static.specs.InStep.{IsInStep}
use Rattle.af_static.specs.Loops.{is_valid, opening}

module _ {T : Type 0} (first : T) where
  -- each load shows the last value of the events of the writer that stand before it, no fewer than were learnt
  Shows : List (WriterEvent T) → ℕ → List (ReaderEvent T) → Type 0
  Shows ws low [] = Unit {0}
  Shows ws low (Load n x ∷ rs) = (count : ℕ) × (low ≤ count) × (count ≤ length ws) × (x ≡ last_of first (take count ws)) × Shows ws count rs
  Shows ws low (reads.Learn c ∷ rs) = Shows ws (max low c) rs

  last_of-append : (x : T) (xs ys : List (WriterEvent T)) → last_of x (xs ++ ys) ≡ last_of (last_of x xs) ys
  last_of-append x [] ys = refl
  last_of-append x (Store y ∷ xs) ys = last_of-append y xs ys
  last_of-append x (writes.Learn c ∷ xs) ys = last_of-append x xs ys

  in_order : (done : List (WriterEvent T)) (p : CellPoint T) (es : List (Event (WriterEvent T) (ReaderEvent T))) (low : ℕ) → Legal legal_value next_value p es → p.value ≡ last_of first done → p.writes ≡ length done → low ≤ length done
      → Shows (done ++ ones es) low (twos es)
  unfolding Shows
  in_order done p [] low l value count le = tt
  in_order done p (one (Store y) ∷ es) low l value count le =
      let many = length-append done (Store y ∷ []) in
      subst (λ (ws : List (WriterEvent T)). Shows ws low (twos es)) (append_assoc done (Store y ∷ []) (ones es))
      (in_order (done ++ Store y ∷ []) (next_value p (one (Store y))) es low l.1 (sym (last_of-append first done (Store y ∷ []))) (omega arith) (omega arith))
  in_order done p (one (writes.Learn c) ∷ es) low l value count le =
      let many = length-append done (writes.Learn c ∷ []) in
      subst (λ (ws : List (WriterEvent T)). Shows ws low (twos es)) (append_assoc done (writes.Learn c ∷ []) (ones es))
      (in_order (done ++ writes.Learn c ∷ []) (next_value p (one (writes.Learn c))) es low l.1 (value ∙ sym (last_of-append first done (writes.Learn c ∷ []))) (omega arith) (omega arith))
  in_order done p (two (Load n x) ∷ es) low l value count le =
      let many = length-append done (ones es) in
      (length done, le, omega arith, l.0.1 ∙ value ∙ ap (last_of first) (sym (take-append_seam done (ones es))), in_order done (next_value p (two (Load n x))) es (length done) l.1 value count (omega arith))
  in_order done p (two (reads.Learn c) ∷ es) low l value count le =
      let known : c ≤ length done = (let m = l.0 in omega arith) in
      in_order done (next_value p (two (reads.Learn c))) es (max low c) l.1 value count (omega arith)

  shows : (ws : List (WriterEvent T)) (rs : List (ReaderEvent T)) → HasValueHistory first ws rs → Shows ws 0 rs
  shows ws rs h =
      subst (λ (x : List (WriterEvent T) × List (ReaderEvent T)). Shows x.0 0 x.1) (λ i. (h.of_one i, h.of_two i)) (in_order [] (start_value first) h.order 0 h.is_legal refl refl (omega arith))

  behind : (ws : List (WriterEvent T)) (xs ys : List (ReaderEvent T)) (low : ℕ) → Shows ws low (xs ++ ys) → (later : ℕ) × (low ≤ later) × Shows ws later ys
  unfolding Shows
  behind ws [] ys low s = (low, omega arith, s)
  behind ws (Load n x ∷ xs) ys low s =
      let on = behind ws xs ys s.0 s.4 in
      let a = s.1 in
      let b = on.1 in
      (on.0, omega arith, on.2)
  behind ws (reads.Learn c ∷ xs) ys low s =
      let on = behind ws xs ys (max low c) s in
      let a = on.1 in
      (on.0, omega arith, on.2)

  -- meetings set nothing
  met_last : (c d more : ℕ) (x : T) → last_of x (take more (writes.Learn c ∷ writes.Learn d ∷ [])) ≡ x
  met_last c d zero x = refl
  met_last c d (suc zero) x = refl
  met_last c d (suc (suc zero)) x = refl
  met_last c d (suc (suc (suc more))) x = refl

  -- the load that follows a meeting, behind which the writer only met
  pub newest_shown : (ws : List (WriterEvent T)) (c d n : ℕ) (x : T) (readers rest : List (ReaderEvent T)) → HasValueHistory first ((ws ++ writes.Learn c ∷ []) ++ writes.Learn d ∷ []) ((readers ++ reads.Learn (length ws) ∷ []) ++ Load n x ∷ rest)
      → x ≡ last_of first (ws ++ writes.Learn c ∷ [])
  unfolding Shows
  newest_shown ws c d n x readers rest h =
      let all : List (WriterEvent T) = (ws ++ writes.Learn c ∷ []) ++ writes.Learn d ∷ [] in
      let met : List (WriterEvent T) = writes.Learn c ∷ writes.Learn d ∷ [] in
      let plain : all ≡ ws ++ met = append_assoc ws (writes.Learn c ∷ []) (writes.Learn d ∷ []) in
      let seen = behind all readers (reads.Learn (length ws) ∷ Load n x ∷ rest) 0
      (subst (λ (rs : List (ReaderEvent T)). Shows all 0 rs) (append_assoc readers (reads.Learn (length ws) ∷ []) (Load n x ∷ rest)) (shows all ((readers ++ reads.Learn (length ws) ∷ []) ++ Load n x ∷ rest) h)) in
      let t = seen.2 in
      let low = t.1 in
      let high = t.2 in
      let long = ap length plain ∙ length-append ws met in
      t.3 ∙ ap (λ (rs : List (WriterEvent T)). last_of first (take t.0 rs)) plain ∙ after_all t.0 (omega arith) (omega arith) ∙ sym (last_of-append first ws (writes.Learn c ∷ []))
    where
      after_all : (count : ℕ) → length ws ≤ count → count ≤ length ws + 2 → last_of first (take count (ws ++ writes.Learn c ∷ writes.Learn d ∷ [])) ≡ last_of first ws
      after_all count low high =
          let more : ℕ = count - length ws in
          let is : count ≡ length ws + more = omega arith in
          ap (λ (n : ℕ). last_of first (take n (ws ++ writes.Learn c ∷ writes.Learn d ∷ []))) is
          ∙ ap (last_of first) (take-append-add ws (writes.Learn c ∷ writes.Learn d ∷ []) more)
          ∙ last_of-append first ws (take more (writes.Learn c ∷ writes.Learn d ∷ []))
          ∙ met_last c d more (last_of first ws)

-- what was set last, behind a meeting, and behind a setting and a meeting
pub last_met : (c : ℕ) (ws : List (WriterEvent Setting)) → last_of opening (ws ++ writes.Learn c ∷ []) ≡ last_of opening ws
last_met c ws = last_of-append opening opening ws (writes.Learn c ∷ [])

pub last_set : (c : ℕ) (s : Setting) (ws : List (WriterEvent Setting)) → last_of opening ((ws ++ Store s ∷ []) ++ writes.Learn c ∷ []) ≡ s
last_set c s ws = last_met c (ws ++ Store s ∷ []) ∙ last_of-append opening opening ws (Store s ∷ [])

-- with both ends in one hand a call that isn't shut uses the last setting made
pub used_exact : (shared : Kept) (s t : Sets) (p q r : Plays) → IsInStep shared s p → (is_valid p.size p.setting ≡ true → (n : ℕ) × (q.events ≡ p.events ++ Load n q.setting ∷ [])) → (is_valid p.size p.setting ≡ false → q ≡ p)
    → t.events ≡ s.events ++ writes.Learn (length q.events) ∷ [] → r.events ≡ q.events ++ reads.Learn (length s.events) ∷ [] → r.setting ≡ q.setting → HasValueHistory opening t.events r.events
    → r.setting ≡ (if is_valid (length shared.frames) p.setting then last_of opening s.events else p.setting)
used_exact shared s t p q r step load shut to from same h =
    same ∙ go (is_valid p.size p.setting) refl ∙ ap (λ (n : ℕ). if is_valid n p.setting then last_of opening s.events else p.setting) step.player.1
  where
    go : (b : Bool) → is_valid p.size p.setting ≡ b → q.setting ≡ (if is_valid p.size p.setting then last_of opening s.events else p.setting)
    go false e = ap (λ (x : Plays). x.setting) (shut e) ∙ sym (ap (λ (b : Bool). if b then last_of opening s.events else p.setting) e)
    go true e =
        let seen = load e in
        let writers : List (WriterEvent Setting) = step.writers in
        let readers : List (ReaderEvent Setting) = step.readers in
        let ws : t.events ≡ (writers ++ writes.Learn (length readers) ∷ []) ++ writes.Learn (length q.events) ∷ [] =
        to ∙ ap (λ (es : List (WriterEvent Setting)). es ++ writes.Learn (length q.events) ∷ []) step.writers_are in
        let rs : r.events ≡ (readers ++ reads.Learn (length writers) ∷ []) ++ Load seen.0 q.setting ∷ reads.Learn (length s.events) ∷ [] =
        from ∙ ap (λ (es : List (ReaderEvent Setting)). es ++ reads.Learn (length s.events) ∷ []) seen.1
        ∙ append_assoc p.events (Load seen.0 q.setting ∷ []) (reads.Learn (length s.events) ∷ [])
        ∙ ap (λ (es : List (ReaderEvent Setting)). es ++ Load seen.0 q.setting ∷ reads.Learn (length s.events) ∷ []) step.readers_are in
        let history = subst (λ (x : List (WriterEvent Setting) × List (ReaderEvent Setting)). HasValueHistory opening x.0 x.1) (λ i. (ws i, rs i)) h in
        newest_shown opening writers (length readers) (length q.events) seen.0 q.setting readers (reads.Learn (length s.events) ∷ []) history
        ∙ ap (last_of opening) (sym step.writers_are)
        ∙ sym (ap (λ (b : Bool). if b then last_of opening s.events else p.setting) e)
