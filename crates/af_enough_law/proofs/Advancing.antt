-- A turn of a client among its gains and writes does an op, or fills its block.
use Rattle.std.proofs.Common.{◌≡◌, ◌⊎◌, inl, inr, ℕ, zero, suc, ◌+◌, ◌-◌, ◌*◌, ◌%◌, ◌/◌, ◌^◌, ◌≤◌, ◌<◌, ◌==◌, nat_le, Bool, true, false, List, [], ◌∷◌, ◌++◌, min, fold, refl, sym, ap, ◌∙◌, subst, arith, true≢false, Some, if◌then◌else◌, bit_and}
use Rattle.af_enough_law.proofs.Common.{AnswersOn, AreCalls, Client, ClientCall, IsMade, Mode, Op, Track, Want, add-mod_right, after_answer, after_call, ahead, append-nil, begun, commands_sent, div-add-mod, mod-lt, more, mul-mod_right, next_want, some_same, wanted_of, with_call, wrapped}
use Rattle.af_base.specs.declared.event.ClientCall.TheVariants as call
use Rattle.af_script.specs.declared.op.Op.TheVariants as op
use Rattle.af_runs.specs.declared.want.ClientCommand.TheVariants as command
use Rattle.af_runs.specs.declared.want.Mode.TheVariants as mode
use Rattle.af_runs.specs.declared.want.Want.TheVariants as want
use Rattle.af_enough_law.proofs.Playing.{IsWay, Doing, opening, starting, settling, setting, writing, clearing, clearing_more, stopping, draining, removing, way_ops, way_frames, IsFair, AreFair, position, SeesFrom, AllSeeFrom}
use Rattle.af_enough_law.proofs.Doing.{at, codes_of, next_op, put_of, sent_of, sent_is, write_is, clear_is, put_least}
use Rattle.af_enough_law.proofs.Turning.{words_of, words_append, codes_append, spoken_after, position_after, shape_after, wanted_first, client_after, none_some, Left, Came, still, call_made, turn_came}

-- ## Numbers

-- a word lies as far past another one as its position does, if that is less than 2 ^ 32
pub ahead-far : (a b : ℕ) → a ≤ b → b < a + 2 ^ 32 → ahead (wrapped a) (wrapped b) ≡ b - a
ahead-far a b low high = omega arith

put_by : (N cells pos p from count asked : ℕ) (near : Bool) → nat_le (N - (pos - p)) (cells - pos % cells) ≡ near → 1 ≤ cells → N ≤ cells → from ≤ p → p ≤ pos → pos < p + N
    → count ≡ min asked (min (N - (pos - p)) (cells - pos % cells)) → count < asked → (from + N ≤ pos + count) ⊎ ((((pos + count) % cells == 0) ≡ true) × ((pos % cells == 0) ≡ false))
put_by N cells pos p from count asked true is some wide low high room puts less = let le : N - (pos - p) ≤ cells - pos % cells = search (arith, is) in inl (omega arith)
put_by N cells pos p from count asked false is some wide low high room puts less =
    let gt : cells - pos % cells < N - (pos - p) = search (arith, is) in
    let lt : pos % cells < cells = mod-lt pos (omega arith) in
    let whole : cells * (pos / cells) + pos % cells ≡ pos = div-add-mod pos cells in
    let next : pos + count ≡ cells * (pos / cells) + cells = omega arith in
    let none : (pos + count) % cells ≡ 0 = ap (λ n. n % cells) next ∙ add-mod_right (cells * (pos / cells)) cells ∙ mul-mod_right cells (pos / cells) in
    inr (search (arith, none), search (arith, gt, lt, wide))

-- a write that doesn't put all that was asked fills the block as far as it was known to be free, or reaches the last cell
pub put_near : (N cells pos p from count asked : ℕ) → 1 ≤ cells → N ≤ cells → from ≤ p → p ≤ pos → pos < p + N
    → count ≡ min asked (min (N - (pos - p)) (cells - pos % cells)) → count < asked → (from + N ≤ pos + count) ⊎ ((((pos + count) % cells == 0) ≡ true) × ((pos % cells == 0) ≡ false))
put_near N cells pos p from count asked = put_by N cells pos p from count asked (nat_le (N - (pos - p)) (cells - pos % cells)) refl

-- ## How many calls it takes at most

unfoldable pub rank : List Want → Bool → ℕ
rank (want.Gain left right ∷ wants) b = 1
rank (want.Write count ∷ wants) b = if b then 1 else 3
rank (want.Clear ∷ []) b = 4
rank (want.Clear ∷ w ∷ wants) b = if b then 2 else 4
rank (want.Send command.Stop ∷ wants) b = 1
rank _ b = 0

next_rank : (gains : ℕ) (ops : List Op) (way : IsWay gains ops) (b : Bool) → (1 ≤ rank (next_op gains ops way).due b) × (rank (next_op gains ops way).due b ≤ 3)
unfolding rank next_op
next_rank gains (op.Gain left right ∷ ops) way b = (omega arith, omega arith)
next_rank gains (op.Write count ∷ ops) way true = (omega arith, omega arith)
next_rank gains (op.Write count ∷ ops) way false = (omega arith, omega arith)
next_rank gains (op.Stop ∷ op.Drain ∷ op.Remove ∷ []) way b = (omega arith, omega arith)
next_rank gains _ way b = absurd way

rank_more : (count : ℕ) (b : Bool) → (1 ≤ rank (want.Write count ∷ []) b) × (rank (want.Write count ∷ []) b < rank (want.Clear ∷ want.Write count ∷ []) b)
unfolding rank
rank_more count true = (omega arith, omega arith)
rank_more count false = (omega arith, omega arith)

rank_end : (asked left : ℕ) (now before : Bool) → now ≡ true → before ≡ false → (1 ≤ rank (want.Clear ∷ want.Write left ∷ []) now) × (rank (want.Clear ∷ want.Write left ∷ []) now < rank (want.Write asked ∷ []) before)
unfolding rank
rank_end asked left true false n b = (omega arith, omega arith)
rank_end asked left true true n b = absurd (true≢false b)
rank_end asked left false before n b = absurd (true≢false (sym n))

-- ## One call

-- the position is at the last cell's end
abbrev pub at_end : Track → Bool
at_end t = position t.stream % t.stream.shape.cells == 0

-- the sizes of a block
pub record IsBlock (t : Track) : Type 0 where
  pub cells : 1 ≤ t.stream.shape.cells
  pub frames : t.stream.shape.frames ≤ t.stream.shape.cells

-- a call filled the block, or did the op, or brought it nearer
pub data Advanced (from most total r : ℕ) (t : Track) : Type 0 where
  filled : from + t.stream.shape.frames ≤ position t.stream → Came t (suc most) total → Advanced from most total r t
  fell : Came t most total → Advanced from most total r t
  nearer : (due : List Want) (ops : List Op) (m : Mode) → begun t.client ≡ at due ops m → Left t due ops m (suc most) total → 1 ≤ rank due (at_end t) → rank due (at_end t) < r → Advanced from most total r t

came_next : (t : Track) (gains : ℕ) (ops : List Op) (most total : ℕ) → IsWay gains ops → t.client ≡ at [] ops mode.Active → way_ops ops ≤ most → way_frames ops + position t.stream ≡ total
    → (sent : List (ℕ × ℕ)) → t.commands.released ≡ words_of sent → codes_of sent ≡ 1 ∷ 2 ∷ [] → Came t most total
came_next t gains ops most total way is few sum sent words codes = let b = next_op gains ops way in
    still b.due b.rest mode.Active (ap (λ (c : Client). begun c) is ∙ b.is) (record { doing = b.doing; few = (let same = b.ops_same in omega arith); sum = (let same = b.frames_same in omega arith); sent = sent; words = words; codes = codes ∙ sym b.codes })

-- a client that found its block full has filled it
pub full_fills : (from most total asked front : ℕ) (t : Track) → AnswersOn t.stream asked (call.Full front) → SeesFrom from t (call.Full front) → position t.stream < from + 2 ^ 32 → from + t.stream.shape.frames ≤ position t.stream
full_fills from most total asked front t answers sees low =
    let pos = position t.stream in
    let far : ahead front (wrapped pos) ≡ pos - sees.0 = ap (λ (f : ℕ). ahead f (wrapped pos)) sees.1 ∙ ahead-far sees.0 pos sees.3 (let a = sees.2 in omega arith) in
    let all : ahead front (wrapped pos) ≡ t.stream.shape.frames = answers.1 in
    let a = sees.2 in
    let b = sees.3 in
    omega arith

-- a write that puts some frames brings the client on
put_advances : (from most total asked count left : ℕ) (t u : Track) (ops : List Op) (near : (from + t.stream.shape.frames ≤ position t.stream + count) ⊎ ((((position t.stream + count) % t.stream.shape.cells == 0) ≡ true) × (at_end t ≡ false)) ⊎ (left ≡ 0))
    → IsWay 0 ops → left + count ≡ asked → u.client ≡ at (want.Clear ∷ more left []) ops mode.Active → position u.stream ≡ position t.stream + count → u.stream.shape ≡ t.stream.shape → u.commands.released ≡ t.commands.released
    → Left t (want.Write asked ∷ []) ops mode.Active (suc most) total → Came u (suc most) total → Advanced from most total (rank (want.Write asked ∷ []) (at_end t)) u
put_advances from most total asked count zero t u ops near way sum is moved shape quiet l came =
    fell (still (want.Clear ∷ []) ops mode.Active (ap (λ (c : Client). begun c) is) (record { doing = clearing ops way; few = (let a = l.few in omega arith); sum = (let a = l.sum in omega arith); sent = l.sent; words = quiet ∙ l.words; codes = l.codes }))
put_advances from most total asked count (suc k) t u ops (inl full) way sum is moved shape quiet l came =
    filled (let same : u.stream.shape.frames ≡ t.stream.shape.frames = ap (λ s. s.frames) shape in omega arith) came
put_advances from most total asked count (suc k) t u ops (inr (inl end)) way sum is moved shape quiet l came =
    let some : (suc k == 0) ≡ false = search arith in
    let now : at_end u ≡ true = (λ i. moved i % (shape i).cells == 0) ∙ end.0 in
    let r = rank_end asked (suc k) (at_end u) (at_end t) now end.1 in
    nearer (want.Clear ∷ want.Write (suc k) ∷ []) ops mode.Active
    (ap (λ (c : Client). begun c) is ∙ ap (λ (b : Bool). at (want.Clear ∷ (if b then [] else want.Write (suc k) ∷ [])) ops mode.Active) some)
    (record { doing = clearing_more (suc k) ops (omega arith) way; few = (let a = l.few in omega arith); sum = (let a = l.sum in omega arith); sent = l.sent; words = quiet ∙ l.words; codes = l.codes }) r.0 r.1
put_advances from most total asked count (suc k) t u ops (inr (inr none)) way sum is moved shape quiet l came = absurd (omega arith)

-- whether all that was asked for was put
all_or : {A B : Type 0} (asked count : ℕ) (left : ℕ) → left + count ≡ asked → (count < asked → A ⊎ B) → A ⊎ B ⊎ (left ≡ 0)
all_or asked count zero sum near = inr (inr refl)
all_or {A} {B} asked count (suc k) sum near = elim (near (omega arith)) as (λ _. A ⊎ B ⊎ (suc k ≡ 0)) [ inl a ↦ inl a | inr b ↦ inr (inl b) ]

-- what is known if a write saw the front
put_sees : (from asked front count : ℕ) (t : Track) → IsBlock t → AnswersOn t.stream asked (call.Put front count) → SeesFrom from t (call.Put front count) → position t.stream < from + 2 ^ 32 → count < asked
    → (from + t.stream.shape.frames ≤ position t.stream + count) ⊎ ((((position t.stream + count) % t.stream.shape.cells == 0) ≡ true) × (at_end t ≡ false))
put_sees from asked front count t block answers sees low less =
    let pos = position t.stream in
    let N = t.stream.shape.frames in
    let cells = t.stream.shape.cells in
    let p = sees.0 in
    let far : ahead front (wrapped pos) ≡ pos - p = ap (λ (f : ℕ). ahead f (wrapped pos)) sees.1 ∙ ahead-far p pos sees.3 (let a = sees.2 in omega arith) in
    let unfilled : ahead front (wrapped pos) < N = answers.0.1 in
    let puts : count ≡ min asked (min (N - (pos - p)) (cells - pos % cells)) = answers.2 ∙ ap (λ (d : ℕ). min asked (min (N - d) (cells - pos % cells))) far in
    let a = sees.2 in
    let b = sees.3 in
    put_near N cells pos p from count asked block.cells block.frames a b (omega arith) puts less

-- nothing is put by another answer
put_none : (t : Track) (answer : ClientCall) → IsFair answer → put_of answer ≡ 0 → position (after_call t answer).stream ≡ position t.stream
put_none t answer fair none = position_after t answer fair ∙ ap (λ n. position t.stream + n) none ∙ omega arith

-- nothing is sent by another answer
quiet_after : (t : Track) (answer : ClientCall) → IsFair answer → sent_of answer ≡ [] → (after_call t answer).commands.released ≡ t.commands.released
quiet_after t answer fair none = spoken_after t answer fair ∙ ap (λ s. t.commands.released ++ words_of s) none ∙ append-nil t.commands.released

same_end : (t u : Track) → position u.stream ≡ position t.stream → u.stream.shape ≡ t.stream.shape → at_end u ≡ at_end t
same_end t u moved shape = λ i. moved i % (shape i).cells == 0

module _ (from most total : ℕ) (t : Track) (block : IsBlock t) (low : total < from + 2 ^ 32) where
  -- the position is low
  position_low : (due : List Want) (ops : List Op) (m : Mode) → Left t due ops m (suc most) total → position t.stream < from + 2 ^ 32
  position_low due ops m l = let a = l.sum in omega arith

  advance_write : (asked : ℕ) (ops : List Op) (answer : ClientCall) → IsWay 0 ops → begun t.client ≡ at (want.Write asked ∷ []) ops mode.Active → Left t (want.Write asked ∷ []) ops mode.Active (suc most) total
      → wanted_of t ≡ Some (want.Write asked) → IsMade t (want.Write asked) answer → IsFair answer → SeesFrom from t answer → Advanced from most total (rank (want.Write asked ∷ []) (at_end t)) (after_call t answer)
  advance_write asked ops answer way is l wants made fair sees =
      elim (write_is answer made.0 fair) as (λ _. Advanced from most total (rank (want.Write asked ∷ []) (at_end t)) (after_call t answer)) [
        | inl put ↦ subst (λ (a : ClientCall). IsMade t (want.Write asked) a → IsFair a → SeesFrom from t a → Advanced from most total (rank (want.Write asked ∷ []) (at_end t)) (after_call t a)) (sym put.2)
            (λ h f s.
            let count = put.1 in
            let least = put_least t asked put.0 count h.1 in
            let left = asked - count in
            let sum : left + count ≡ asked = omega arith in
            let a = call.Put put.0 count in
            put_advances from most total asked count left t (after_call t a) ops
            (all_or asked count left sum (put_sees from asked put.0 count t block h.1 s (position_low (want.Write asked ∷ []) ops mode.Active l)))
            way sum (client_after t (want.Write asked ∷ []) ops mode.Active (want.Write asked) a is wants) (position_after t a f) (shape_after t a f) refl l
            (call_made t (want.Write asked ∷ []) ops mode.Active (suc most) total (want.Write asked) a is l wants h f)) made fair sees
        | inr full ↦ subst (λ (a : ClientCall). IsMade t (want.Write asked) a → IsFair a → SeesFrom from t a → Advanced from most total (rank (want.Write asked ∷ []) (at_end t)) (after_call t a)) (sym full.1)
            (λ h f s.
            let a = call.Full full.0 in
            let fills = full_fills from most total asked full.0 t h.1 s (position_low (want.Write asked ∷ []) ops mode.Active l) in
            let same = put_none t a f refl in
            let shape : (after_call t a).stream.shape.frames ≡ t.stream.shape.frames = ap (λ x. x.frames) (shape_after t a f) in
            filled (omega arith) (call_made t (want.Write asked ∷ []) ops mode.Active (suc most) total (want.Write asked) a is l wants h f)) made fair sees
      ]

  -- a call of a client among its gains and writes brings it on
  advance : (w : Want) (wants : List Want) (ops : List Op) (m : Mode) (answer : ClientCall) → Doing (w ∷ wants) ops m → begun t.client ≡ at (w ∷ wants) ops m → Left t (w ∷ wants) ops m (suc most) total
      → wanted_of t ≡ Some w → IsMade t w answer → IsFair answer → SeesFrom from t answer → 1 ≤ rank (w ∷ wants) (at_end t) → Advanced from most total (rank (w ∷ wants) (at_end t)) (after_call t answer)
  unfolding rank
  advance _ _ _ _ answer (opening ops way) is l wants made fair sees some = absurd (omega arith)
  advance _ _ _ _ answer (starting ops way) is l wants made fair sees some = absurd (omega arith)
  advance _ _ _ _ answer (settling ops way) is l wants made fair sees some = absurd (omega arith)
  advance _ _ _ _ answer (setting left right gains ops way) is l wants made fair sees some =
      let same = put_none t answer fair (ap put_of made.0) in
      let few = l.few in
      let sum = l.sum in
      fell (came_next (after_call t answer) gains ops most total way (client_after t (want.Gain left right ∷ []) ops mode.Active (want.Gain left right) answer is wants) (omega arith) (omega arith) l.sent (quiet_after t answer fair (ap sent_of made.0) ∙ l.words) l.codes)
  advance _ _ _ _ answer (writing asked ops one way) is l wants made fair sees some = advance_write asked ops answer way is l wants made fair sees
  advance _ _ _ _ answer (clearing ops way) is l wants made fair sees some =
      let s = clear_is answer made.0 in
      let same = put_none t answer fair (ap put_of s.1) in
      let calm : (bit_and s.0 8 == 0) ≡ true = subst IsFair s.1 fair in
      let client : (after_call t answer).client ≡ at [] ops mode.Active =
      client_after t (want.Clear ∷ []) ops mode.Active want.Clear answer is wants
      ∙ ap (λ (a : ClientCall). after_answer (commands_sent (with_call t answer)) want.Clear [] (at (want.Clear ∷ []) ops mode.Active) a) s.1
      ∙ ap (λ (b : Bool). at (if b then [] else want.Send command.Start ∷ []) ops mode.Active) calm in
      let b = next_op 0 ops way in
      let near = next_rank 0 ops way (at_end (after_call t answer)) in
      let low = near.1 in
      nearer b.due b.rest mode.Active (ap (λ (c : Client). begun c) client ∙ b.is)
      (record { doing = b.doing; few = (let c = b.ops_same in let d = l.few in omega arith); sum = (let c = b.frames_same in let d = l.sum in omega arith); sent = l.sent; words = quiet_after t answer fair (ap sent_of s.1) ∙ l.words; codes = l.codes ∙ sym b.codes }) near.0 (omega arith)
  advance _ _ _ _ answer (clearing_more count ops one way) is l wants made fair sees some =
      let s = clear_is answer made.0 in
      let same = put_none t answer fair (ap put_of s.1) in
      let calm : (bit_and s.0 8 == 0) ≡ true = subst IsFair s.1 fair in
      let client : (after_call t answer).client ≡ at (want.Write count ∷ []) ops mode.Active =
      client_after t (want.Clear ∷ want.Write count ∷ []) ops mode.Active want.Clear answer is wants
      ∙ ap (λ (a : ClientCall). after_answer (commands_sent (with_call t answer)) want.Clear (want.Write count ∷ []) (at (want.Clear ∷ want.Write count ∷ []) ops mode.Active) a) s.1
      ∙ ap (λ (b : Bool). at (if b then want.Write count ∷ [] else want.Send command.Start ∷ want.Write count ∷ []) ops mode.Active) calm in
      let r = rank_more count (at_end t) in
      let ends : at_end (after_call t answer) ≡ at_end t = same_end t (after_call t answer) same (shape_after t answer fair) in
      nearer (want.Write count ∷ []) ops mode.Active (ap (λ (c : Client). begun c) client)
      (record { doing = writing count ops one way; few = (let d = l.few in omega arith); sum = (let d = l.sum in omega arith); sent = l.sent; words = quiet_after t answer fair (ap sent_of s.1) ∙ l.words; codes = l.codes })
      (subst (λ (b : Bool). 1 ≤ rank (want.Write count ∷ []) b) (sym ends) r.0) (subst (λ (b : Bool). rank (want.Write count ∷ []) b < rank (want.Clear ∷ want.Write count ∷ []) (at_end t)) (sym ends) r.1)
  advance _ _ _ _ answer stopping is l wants made fair sees some =
      let s = sent_is _ _ answer made.0 fair in
      let same = put_none t answer fair (ap put_of s.3) in
      let client : (after_call t answer).client ≡ at [] (op.Drain ∷ op.Remove ∷ []) mode.Stopped =
      client_after t (want.Send command.Stop ∷ []) (op.Drain ∷ op.Remove ∷ []) mode.Active (want.Send command.Stop) answer is wants
      ∙ ap (λ (a : ClientCall). after_answer (commands_sent (with_call t answer)) (want.Send command.Stop) [] (at (want.Send command.Stop ∷ []) (op.Drain ∷ op.Remove ∷ []) mode.Active) a) s.3 in
      fell (still (want.Drained ∷ []) (op.Remove ∷ []) mode.Stopped (ap (λ (c : Client). begun c) client)
      (record {
        doing = draining;
        few = omega arith;
        sum = (let d = l.sum in omega arith);
        sent = l.sent ++ sent_of answer;
        words = spoken_after t answer fair ∙ ap (λ z. z ++ words_of (sent_of answer)) l.words ∙ sym (words_append l.sent (sent_of answer));
        codes = codes_append l.sent (sent_of answer) ∙ (λ i. l.codes i ++ codes_of (sent_of (s.3 i))) ∙ ap (λ c. 1 ∷ 2 ∷ c ∷ []) s.4;
      }))
  advance _ _ _ _ answer draining is l wants made fair sees some = absurd (omega arith)
  advance _ _ _ _ answer removing is l wants made fair sees some = absurd (omega arith)

-- ## The turn

-- positions only rise
pub positions_rise : (t : Track) (calls : List ClientCall) → AreFair calls → position t.stream ≤ position (fold after_call t calls).stream
positions_rise t [] fair = omega arith
positions_rise t (answer ∷ calls) fair = let rest = positions_rise (after_call t answer) calls fair.1 in let now = position_after t answer fair.0 in omega arith

pub shapes_stay : (t : Track) (calls : List ClientCall) → AreFair calls → (fold after_call t calls).stream.shape ≡ t.stream.shape
shapes_stay t [] fair = refl
shapes_stay t (answer ∷ calls) fair = shapes_stay (after_call t answer) calls fair.1 ∙ shape_after t answer fair.0

-- what a turn came to: the block was filled as far as it was known to be free, or an op was done
pub data Progress (from most total : ℕ) (t : Track) : Type 0 where
  fills : from + t.stream.shape.frames ≤ position t.stream → Came t (suc most) total → Progress from most total t
  falls : Came t most total → Progress from most total t

pub still_block : (t : Track) (answer : ClientCall) → IsFair answer → IsBlock t → IsBlock (after_call t answer)
still_block t answer fair b = record {
  cells = subst (λ s. 1 ≤ s.cells) (sym (shape_after t answer fair)) b.cells;
  frames = subst (λ s. s.frames ≤ s.cells) (sym (shape_after t answer fair)) b.frames;
}

pub progress : (from most total left : ℕ) (t : Track) (calls : List ClientCall) (due : List Want) (ops : List Op) (m : Mode) → IsBlock t → total < from + 2 ^ 32 → begun t.client ≡ at due ops m → Left t due ops m (suc most) total
    → 1 ≤ rank due (at_end t) → rank due (at_end t) ≤ left → AreCalls left t calls → AreFair calls → AllSeeFrom from t calls → Progress from most total (fold after_call t calls)
progress from most total left t [] due ops m block low is l some within (inl none) fair sees = absurd (omega arith)
progress from most total left t [] due ops m block low is l some within (inr none) fair sees = let first = wanted_first due ops m l.doing in none_some (wanted_of t) first.0 none (ap (λ (c : Client). next_want c) is ∙ first.3)
progress from most total left t (answer ∷ calls) due ops m block low is l some within made fair sees =
    let first = wanted_first due ops m l.doing in
    let w = first.0 in
    let rest = first.1 in
    let wanted = made.1 in
    let same : wanted ≡ w = some_same wanted w (sym made.2 ∙ ap (λ (c : Client). next_want c) is ∙ first.3) in
    let next = after_call t answer in
    let now : Advanced from most total (rank (w ∷ rest) (at_end t)) next =
    advance from most total t block low w rest ops m answer (subst (λ (d : List Want). Doing d ops m) first.2 l.doing) (is ∙ ap (λ (d : List Want). at d ops m) first.2)
    (subst (λ (d : List Want). Left t d ops m (suc most) total) first.2 l) (made.2 ∙ ap (λ (x : Want). Some x) same) (subst (λ (x : Want). IsMade t x answer) same made.3) fair.0 sees.0
    (subst (λ (d : List Want). 1 ≤ rank d (at_end t)) first.2 some) in
    elim now as (λ _. Progress from most total (fold after_call next calls)) [
      | filled full came ↦ fills (let rise = positions_rise next calls fair.1 in let shape : (fold after_call next calls).stream.shape.frames ≡ next.stream.shape.frames = ap (λ s. s.frames) (shapes_stay next calls fair.1) in omega arith)
          (turn_came (left - 1) next calls (suc most) total came made.4 fair.1)
      | fell came ↦ falls (turn_came (left - 1) next calls most total came made.4 fair.1)
      | nearer due' ops' m' is' l' some' less ↦
          let before : rank due (at_end t) ≡ rank (w ∷ rest) (at_end t) = ap (λ (d : List Want). rank d (at_end t)) first.2 in
          progress from most total (left - 1) next calls due' ops' m' (still_block t answer fair.0 block) low is' l' some' (omega arith) made.4 fair.1 sees.1
    ]
