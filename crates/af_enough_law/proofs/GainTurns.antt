-- A turn of a client among its gains and writes brings it to a write, or does 64 of the gains ahead of it.
use Rattle.std.proofs.Common.{◌≡◌, inl, inr, ℕ, suc, ◌+◌, ◌-◌, ◌*◌, ◌%◌, ◌^◌, ◌≤◌, ◌<◌, ◌==◌, min, Bool, true, true≢false, if◌then◌else◌, bit_and, Some, List, [], ◌∷◌, length, fold, refl, sym, ap, ◌∙◌, subst, arith, length-append}
use Rattle.af_enough_law.proofs.Common.{AreCalls, Client, ClientCall, IsMade, Mode, Op, Track, Want, after_answer, after_call, ahead, begun, commands_sent, mod-lt, next_want, some_same, wanted_of, with_call, wrapped}
use Rattle.af_base.specs.declared.event.ClientCall.TheVariants as call
use Rattle.af_script.specs.declared.op.Op.TheVariants as op
use Rattle.af_runs.specs.declared.want.ClientCommand.TheVariants as command
use Rattle.af_runs.specs.declared.want.Mode.TheVariants as mode
use Rattle.af_runs.specs.declared.want.Want.TheVariants as want
use Rattle.af_enough_law.proofs.NearWords.{is_started, calls_ahead, gains_ahead}
use Rattle.af_enough_law.proofs.Playing.{IsWay, Doing, opening, starting, settling, setting, writing, clearing, clearing_more, stopping, draining, removing, IsFair, AreFair, position, SeesFrom, AllSeeFrom}
use Rattle.af_enough_law.proofs.Advancing.{IsBlock, full_fills, positions_rise, still_block}
use Rattle.af_enough_law.proofs.Doing.{at, next_op, sent_of, sent_is, write_is, clear_is, codes_sent}
use Rattle.af_enough_law.proofs.SeesStopped.{spoken_long}
use Rattle.af_enough_law.proofs.Started.{next_started}
use Rattle.af_enough_law.proofs.Turning.{words_of, shape_after, wanted_first, none_some, client_after, spoken_after, position_after}

-- ## How many gains there are at most

way_gains : (gains : ℕ) (ops : List Op) → gains ≤ 1024 → IsWay gains ops → gains_ahead ops + gains ≤ 1024
way_gains gains (op.Gain left right ∷ ops) low way = let below = way.0 in let rest = way_gains (gains + 1) ops (omega (arith, below)) way.1 in omega (arith, rest)
way_gains gains (op.Write count ∷ ops) low way = omega (arith, low)
way_gains gains (op.Stop ∷ op.Drain ∷ op.Remove ∷ []) low way = omega (arith, low)
way_gains gains _ low way = absurd way

few_by : (gains : ℕ) (ops : List Op) → IsWay gains ops → gains_ahead ops ≤ 1024
few_by gains (op.Gain left right ∷ ops) way = let below = way.0 in let rest = way_gains (gains + 1) ops (omega (arith, below)) way.1 in omega (arith, rest)
few_by gains (op.Write count ∷ ops) way = omega arith
few_by gains (op.Stop ∷ op.Drain ∷ op.Remove ∷ []) way = omega arith
few_by gains _ way = absurd way

-- no more than 1025 calls are ahead of a write
pub calls_few : (due : List Want) (ops : List Op) (m : Mode) → Doing due ops m → calls_ahead due ops ≤ 1025
calls_few _ _ _ (opening ops way) = omega arith
calls_few _ _ _ (starting ops way) = omega arith
calls_few _ _ _ (settling ops way) = omega arith
calls_few _ _ _ (setting left right gains ops way) = let few = few_by gains ops way in omega (arith, few)
calls_few _ _ _ (writing count ops some way) = omega arith
calls_few _ _ _ (clearing ops way) = let few = few_by 0 ops way in omega (arith, few)
calls_few _ _ _ (clearing_more count ops some way) = omega arith
calls_few _ _ _ stopping = omega arith
calls_few _ _ _ draining = omega arith
calls_few _ _ _ removing = omega arith

next_ahead : (gains : ℕ) (ops : List Op) (way : IsWay gains ops) → calls_ahead (next_op gains ops way).due (next_op gains ops way).rest ≡ gains_ahead ops
unfolding next_op
next_ahead gains (op.Gain left right ∷ ops) way = refl
next_ahead gains (op.Write count ∷ ops) way = refl
next_ahead gains (op.Stop ∷ op.Drain ∷ op.Remove ∷ []) way = refl
next_ahead gains _ way = absurd way

-- ## One call

-- frames lie in the block past what was known to be taken, the STOP was sent, or one call less is ahead
data Came (from r : ℕ) (u : Track) : Type 0 where
  wrote : from + 1 ≤ position u.stream → Came from r u
  stopped : 6 ≤ length u.commands.released → Came from r u
  nearer : (due : List Want) (ops : List Op) (m : Mode) → begun u.client ≡ at due ops m → Doing due ops m → is_started due ≡ true → calls_ahead due ops + 1 ≤ r → length u.commands.released ≡ 2 * length (codes_sent due m) → Came from r u

-- a write puts a frame at least
puts_some : (N cells pos p asked count filled : ℕ) → 1 ≤ cells → 1 ≤ asked → filled < N → count ≡ min asked (min (N - filled) (cells - pos % cells)) → 1 ≤ count
puts_some N cells pos p asked count filled wide some room puts = let lt : pos % cells < cells = mod-lt pos (omega (arith, wide)) in omega (arith, lt, some, room, puts)

module _ (from : ℕ) (t : Track) (block : IsBlock t) (frames : 1 ≤ t.stream.shape.frames) (low : position t.stream < from + 2 ^ 32) where
  released_by : (answer : ClientCall) → IsFair answer → length (after_call t answer).commands.released ≡ length t.commands.released + length (words_of (sent_of answer))
  released_by answer fair = ap (λ (ws : List ℕ). length ws) (spoken_after t answer fair) ∙ length-append t.commands.released (words_of (sent_of answer))

  quiet : (answer : ClientCall) → IsFair answer → sent_of answer ≡ [] → length t.commands.released ≡ 4 → length (after_call t answer).commands.released ≡ 4
  quiet answer fair none four = let a = released_by answer fair in let b = ap (λ (xs : List (ℕ × ℕ)). length (words_of xs)) none in omega (arith, a, b, four)

  came_next : (gains : ℕ) (ops : List Op) (answer : ClientCall) → IsWay gains ops → (after_call t answer).client ≡ at [] ops mode.Active → length (after_call t answer).commands.released ≡ 4 → Came from (suc (gains_ahead ops)) (after_call t answer)
  came_next gains ops answer way is four =
      let b = next_op gains ops way in
      let same = next_ahead gains ops way in
      let codes = ap (λ (cs : List ℕ). length cs) b.codes in
      nearer b.due b.rest mode.Active (ap (λ (c : Client). begun c) is ∙ b.is) b.doing (next_started gains ops way) (omega (arith, same)) (omega (arith, codes, four))

  step : (w : Want) (wants : List Want) (ops : List Op) (m : Mode) (answer : ClientCall) → Doing (w ∷ wants) ops m → is_started (w ∷ wants) ≡ true → begun t.client ≡ at (w ∷ wants) ops m → wanted_of t ≡ Some w → IsMade t w answer → IsFair answer → SeesFrom from t answer
      → length t.commands.released ≡ 2 * length (codes_sent (w ∷ wants) m) → Came from (calls_ahead (w ∷ wants) ops) (after_call t answer)
  step _ _ _ _ answer (opening ops way) started is wanted made fair sees long = absurd (true≢false (sym started))
  step _ _ _ _ answer (starting ops way) started is wanted made fair sees long = absurd (true≢false (sym started))
  step _ _ _ _ answer (settling ops way) started is wanted made fair sees long = absurd (true≢false (sym started))
  step _ _ _ _ answer (setting left right gains ops way) started is wanted made fair sees long =
      came_next gains ops answer way (client_after t (want.Gain left right ∷ []) ops mode.Active (want.Gain left right) answer is wanted) (quiet answer fair (ap sent_of made.0) long)
  step _ _ _ _ answer (writing asked ops some way) started is wanted made fair sees long = elim (write_is answer made.0 fair) as (λ _. Came from 0 (after_call t answer)) [
    | inl put ↦ subst (λ (a : ClientCall). IsMade t (want.Write asked) a → IsFair a → SeesFrom from t a → Came from 0 (after_call t a)) (sym put.2)
        (λ h f s.
        let room = h.1.0.1 in
        let puts = h.1.2 in
        let one = puts_some t.stream.shape.frames t.stream.shape.cells (position t.stream) 0 asked put.1 (ahead put.0 (wrapped (position t.stream))) block.cells some room puts in
        let moved = position_after t (call.Put put.0 put.1) f in
        let a = s.2 in
        let b = s.3 in
        wrote (omega (arith, one, moved, a, b))) made fair sees
    | inr full ↦ subst (λ (a : ClientCall). IsMade t (want.Write asked) a → IsFair a → SeesFrom from t a → Came from 0 (after_call t a)) (sym full.1)
        (λ h f s.
        let all = full_fills from 0 0 asked full.0 t h.1 s low in
        let moved = position_after t (call.Full full.0) f in
        wrote (omega (arith, all, moved, frames))) made fair sees
  ]
  step _ _ _ _ answer (clearing ops way) started is wanted made fair sees long =
      let s = clear_is answer made.0 in
      let calm : (bit_and s.0 8 == 0) ≡ true = subst IsFair s.1 fair in
      came_next 0 ops answer way
      (client_after t (want.Clear ∷ []) ops mode.Active want.Clear answer is wanted
      ∙ ap (λ (a : ClientCall). after_answer (commands_sent (with_call t answer)) want.Clear [] (at (want.Clear ∷ []) ops mode.Active) a) s.1
      ∙ ap (λ (b : Bool). at (if b then [] else want.Send command.Start ∷ []) ops mode.Active) calm) (quiet answer fair (ap sent_of s.1) long)
  step _ _ _ _ answer (clearing_more count ops some way) started is wanted made fair sees long =
      let s = clear_is answer made.0 in
      let calm : (bit_and s.0 8 == 0) ≡ true = subst IsFair s.1 fair in
      let client : (after_call t answer).client ≡ at (want.Write count ∷ []) ops mode.Active =
      client_after t (want.Clear ∷ want.Write count ∷ []) ops mode.Active want.Clear answer is wanted
      ∙ ap (λ (a : ClientCall). after_answer (commands_sent (with_call t answer)) want.Clear (want.Write count ∷ []) (at (want.Clear ∷ want.Write count ∷ []) ops mode.Active) a) s.1
      ∙ ap (λ (b : Bool). at (if b then want.Write count ∷ [] else want.Send command.Start ∷ want.Write count ∷ []) ops mode.Active) calm in
      nearer (want.Write count ∷ []) ops mode.Active (ap (λ (c : Client). begun c) client) (writing count ops some way) refl (omega arith) (quiet answer fair (ap sent_of s.1) long)
  step _ _ _ _ answer stopping started is wanted made fair sees long =
      let s = sent_is _ _ answer made.0 fair in
      let a = released_by answer fair in
      let two : length (words_of (sent_of answer)) ≡ 2 = ap (λ (x : ClientCall). length (words_of (sent_of x))) s.3 in
      stopped (omega (arith, a, two, long))
  step _ _ _ _ answer draining started is wanted made fair sees long = let a = released_by answer fair in stopped (omega (arith, long, a))
  step _ _ _ _ answer removing started is wanted made fair sees long = let a = released_by answer fair in stopped (omega (arith, long, a))

-- ## A turn

-- what a turn of gains came to, with so many calls left
pub data Turned (from r left : ℕ) (u : Track) : Type 0 where
  writes : from + 1 ≤ position u.stream → Turned from r left u
  stops : 6 ≤ length u.commands.released → Turned from r left u
  nears : (due : List Want) (ops : List Op) (m : Mode) → begun u.client ≡ at due ops m → Doing due ops m → calls_ahead due ops + left ≤ r → Turned from r left u

pub gain_calls : (from left : ℕ) (t : Track) (calls : List ClientCall) (due : List Want) (ops : List Op) (m : Mode) → IsBlock t → 1 ≤ t.stream.shape.frames → position (fold after_call t calls).stream < from + 2 ^ 32 → begun t.client ≡ at due ops m → Doing due ops m → is_started due ≡ true
    → length t.commands.released ≡ 2 * length (codes_sent due m) → AreCalls left t calls → AreFair calls → AllSeeFrom from t calls → Turned from (calls_ahead due ops) left (fold after_call t calls)
gain_calls from left t [] due ops m block frames low is doing started long (inl none) fair sees = nears due ops m is doing (omega (arith, none))
gain_calls from left t [] due ops m block frames low is doing started long (inr none) fair sees = let first = wanted_first due ops m doing in none_some (wanted_of t) first.0 none (ap (λ (c : Client). next_want c) is ∙ first.3)
gain_calls from left t (answer ∷ calls) due ops m block frames low is doing started long made fair sees =
    let first = wanted_first due ops m doing in
    let w = first.0 in
    let rest = first.1 in
    let wanted = made.1 in
    let same : wanted ≡ w = some_same wanted w (sym made.2 ∙ ap (λ (c : Client). next_want c) is ∙ first.3) in
    let next = after_call t answer in
    let rise = positions_rise t (answer ∷ calls) fair in
    let later = positions_rise next calls fair.1 in
    let now : Came from (calls_ahead (w ∷ rest) ops) next =
    step from t block frames (omega (arith, rise, low)) w rest ops m answer (subst (λ (d : List Want). Doing d ops m) first.2 doing) (sym (ap is_started first.2) ∙ started) (is ∙ ap (λ (d : List Want). at d ops m) first.2)
    (made.2 ∙ ap (λ (x : Want). Some x) same) (subst (λ (x : Want). IsMade t x answer) same made.3) fair.0 sees.0 (long ∙ ap (λ (d : List Want). 2 * length (codes_sent d m)) first.2) in
    let ahead_is : calls_ahead due ops ≡ calls_ahead (w ∷ rest) ops = ap (λ (d : List Want). calls_ahead d ops) first.2 in
    elim now as (λ _. Turned from (calls_ahead due ops) left (fold after_call next calls)) [
      | wrote some ↦ writes (omega (arith, some, later))
      | stopped six ↦ stops (let more = spoken_long next calls fair.1 in omega (arith, six, more))
      | nearer due' ops' m' is' doing' started' less long' ↦
          let block' = still_block t answer fair.0 block in
          let shape : next.stream.shape.frames ≡ t.stream.shape.frames = ap (λ k. k.frames) (shape_after t answer fair.0) in
          less_ahead from (calls_ahead due ops) left (calls_ahead due' ops') (fold after_call next calls) made.0 (omega (arith, less, ahead_is))
          (gain_calls from (left - 1) next calls due' ops' m' block' (omega (arith, shape, frames)) low is' doing' started' long' made.4 fair.1 sees.1)
    ]
  where
    less_ahead : (from r left r' : ℕ) (u : Track) → 1 ≤ left → r' + 1 ≤ r → Turned from r' (left - 1) u → Turned from r left u
    less_ahead from r left r' u some le (writes a) = writes a
    less_ahead from r left r' u some le (stops a) = stops a
    less_ahead from r left r' u some le (nears due ops m is doing fall) = nears due ops m is doing (omega (arith, some, le, fall))
