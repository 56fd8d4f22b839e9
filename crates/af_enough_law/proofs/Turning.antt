-- A turn of a client whose ops play through.
use Rattle.std.proofs.Common.{◌≡◌, ◌⊎◌, inl, inr, ℕ, ◌+◌, ◌-◌, ◌≤◌, ◌==◌, ◌||◌, Bool, true, false, List, [], ◌∷◌, ◌++◌, length, fold, refl, sym, ap, ◌∙◌, subst, arith, true≢false, Option, Some, None, if◌then◌else◌}
use Rattle.af_enough_law.proofs.Common.{AreCalls, Client, ClientCall, ClientEvent, IsMade, Mode, Op, Side, Track, Want, after_answer, after_call, append-nil, asked_first, at_next_turn, begins, begins_ended, begun, client_begins, client_keeps, client_kept, commands_sent, fold-append, next_want, rest_of, rested, some_same, wanted_of, wants_of, with_call}
use Rattle.af_base.specs.declared.event.ClientCall.TheVariants as call
use Rattle.af_enough_law.proofs.Playing.{Doing, opening, starting, settling, setting, writing, clearing, clearing_more, stopping, draining, removing, IsFair, AreFair, position}
use Rattle.af_enough_law.proofs.Doing.{at, waiting_at, ops_count, frames_count, codes_sent, codes_of, all_codes, After, goes, waits, over, put_of, sent_of, step}
use Rattle.af_enough_law.proofs.PlainClients.{answered_by}

-- ## Positions

-- a side's list grows by these events
kept_more : (b : Side) (events : List ClientEvent) → position (record b { events = b.events ++ events }) ≡ (fold (client_keeps b.shape.frames) (client_kept b.shape.frames b.shape.base b.events) events).position
kept_more b events = ap (λ k. k.position) (fold-append (client_keeps b.shape.frames) (client_begins b.shape.base) b.events events)

-- a fair call moves the position by what it puts
pub position_after : (t : Track) (answer : ClientCall) → IsFair answer → position (after_call t answer).stream ≡ position t.stream + put_of answer
position_after t (call.Put front count) fair = kept_more t.stream _
position_after t (call.Full front) fair = kept_more t.stream _ ∙ omega arith
position_after t (call.Cleared flags) fair = kept_more t.stream _ ∙ omega arith
position_after t (call.Gain word) fair = kept_more t.stream _ ∙ omega arith
position_after t (call.Sent front code argument) fair = omega arith
position_after t (call.Status word) fair = omega arith
position_after t _ fair = absurd fair

-- a fair call leaves the block's sizes
pub shape_after : (t : Track) (answer : ClientCall) → IsFair answer → (after_call t answer).stream.shape ≡ t.stream.shape
shape_after t (call.Put front count) fair = refl
shape_after t (call.Full front) fair = refl
shape_after t (call.Cleared flags) fair = refl
shape_after t (call.Gain word) fair = refl
shape_after t (call.Sent front code argument) fair = refl
shape_after t (call.Status word) fair = refl
shape_after t _ fair = absurd fair

-- ## The call that is wanted

-- something is due
pub wanted_first : (due : List Want) (ops : List Op) (m : Mode) → Doing due ops m → (w : Want) × (wants : List Want) × (due ≡ w ∷ wants) × (next_want (at due ops m) ≡ Some w)
wanted_first _ _ _ (opening ops way) = (_, _, refl, refl)
wanted_first _ _ _ (starting ops way) = (_, _, refl, refl)
wanted_first _ _ _ (settling ops way) = (_, _, refl, refl)
wanted_first _ _ _ (setting left right gains ops way) = (_, _, refl, refl)
wanted_first _ _ _ (writing count ops some way) = (_, _, refl, refl)
wanted_first _ _ _ (clearing ops way) = (_, _, refl, refl)
wanted_first _ _ _ (clearing_more count ops some way) = (_, _, refl, refl)
wanted_first _ _ _ stopping = (_, _, refl, refl)
wanted_first _ _ _ draining = (_, _, refl, refl)
wanted_first _ _ _ removing = (_, _, refl, refl)

-- the client after a call that it wanted
pub client_after : (t : Track) (due : List Want) (ops : List Op) (m : Mode) (w : Want) (answer : ClientCall) → begun t.client ≡ at due ops m → wanted_of t ≡ Some w
    → (after_call t answer).client ≡ after_answer (commands_sent (with_call t answer)) w (rest_of due) (at due ops m) answer
unfolding answered_by
client_after t due ops m w answer is wanted = ap (answered_by t answer) wanted ∙ ap (λ (c : Client). after_answer (commands_sent (with_call t answer)) w (rest_of c.due) c answer) is

-- ## A turn

-- the words of some commands
abbrev pub words_of : List (ℕ × ℕ) → List ℕ
words_of [] = []
words_of (c ∷ sent) = c.0 ∷ c.1 ∷ words_of sent

pub words_append : (xs ys : List (ℕ × ℕ)) → words_of (xs ++ ys) ≡ words_of xs ++ words_of ys
words_append [] ys = refl
words_append (x ∷ xs) ys = ap (λ z. x.0 ∷ x.1 ∷ z) (words_append xs ys)

pub codes_append : (xs ys : List (ℕ × ℕ)) → codes_of (xs ++ ys) ≡ codes_of xs ++ codes_of ys
codes_append [] ys = refl
codes_append (x ∷ xs) ys = ap (λ z. x.0 ∷ z) (codes_append xs ys)

words_more : {before now : List ℕ} (xs ys : List (ℕ × ℕ)) → before ≡ words_of xs → now ≡ before ++ words_of ys → now ≡ words_of (xs ++ ys)
words_more xs ys is more = more ∙ ap (λ z. z ++ words_of ys) is ∙ sym (words_append xs ys)

-- what a fair call sends
pub spoken_after : (t : Track) (answer : ClientCall) → IsFair answer → (after_call t answer).commands.released ≡ t.commands.released ++ words_of (sent_of answer)
spoken_after t (call.Put front count) fair = sym (append-nil t.commands.released)
spoken_after t (call.Full front) fair = sym (append-nil t.commands.released)
spoken_after t (call.Cleared flags) fair = sym (append-nil t.commands.released)
spoken_after t (call.Gain word) fair = sym (append-nil t.commands.released)
spoken_after t (call.Sent front code argument) fair = refl
spoken_after t (call.Status word) fair = refl
spoken_after t _ fair = absurd fair

-- a client does this, has at most so many ops left, and its frames left and its position make this sum
pub record Left (t : Track) (due : List Want) (ops : List Op) (m : Mode) (most total : ℕ) : Type 0 where
  pub doing : Doing due ops m
  pub few : ops_count due ops ≤ most
  pub sum : frames_count due ops + position t.stream ≡ total
  -- the commands sent, with their arguments
  pub sent : List (ℕ × ℕ)
  pub words : t.commands.released ≡ words_of sent
  pub codes : codes_of sent ≡ codes_sent due m

-- a client within a turn goes on, waits, or has ended
pub data Came (t : Track) (most total : ℕ) : Type 0 where
  still : (due : List Want) (ops : List Op) (m : Mode) → begun t.client ≡ at due ops m → Left t due ops m most total → Came t most total
  blocked : (due : List Want) (ops : List Op) (m : Mode) → t.client ≡ waiting_at due ops m → Left t due ops m most total → Came t most total
  gone : t.client.ended ≡ true → (sent : List (ℕ × ℕ)) → t.commands.released ≡ words_of sent → codes_of sent ≡ all_codes → Came t most total

came_after : (t : Track) (due : List Want) (ops : List Op) (m : Mode) (most total put : ℕ) (sent : List (ℕ × ℕ)) (u : Track) → Left t due ops m most total → position u.stream ≡ position t.stream + put
    → u.commands.released ≡ t.commands.released ++ words_of sent → After due ops m put sent u.client → Came u most total
came_after t due ops m most total put sent u l moved spoke (goes due' ops' m' is doing few sum codes) =
    still due' ops' m' is (record { doing = doing; few = (let a = l.few in omega arith); sum = (let a = l.sum in omega arith); sent = l.sent ++ sent; words = words_more l.sent sent l.words spoke; codes = codes_append l.sent sent ∙ ap (λ c. c ++ codes_of sent) l.codes ∙ sym codes })
came_after t due ops m most total put sent u l moved spoke (waits is none silent) =
    blocked due ops m is (record { doing = l.doing; few = l.few; sum = (let a = l.sum in omega arith); sent = l.sent; words = spoke ∙ ap (λ s. t.commands.released ++ words_of s) silent ∙ append-nil t.commands.released ∙ l.words; codes = l.codes })
came_after t due ops m most total put sent u l moved spoke (over ended all) =
    gone ended (l.sent ++ sent) (words_more l.sent sent l.words spoke) (codes_append l.sent sent ∙ ap (λ c. c ++ codes_of sent) l.codes ∙ all)

-- what a call makes of a client that goes on
pub call_made : (t : Track) (due : List Want) (ops : List Op) (m : Mode) (most total : ℕ) (wanted : Want) (answer : ClientCall) → begun t.client ≡ at due ops m → Left t due ops m most total
    → wanted_of t ≡ Some wanted → IsMade t wanted answer → IsFair answer → Came (after_call t answer) most total
call_made t due ops m most total wanted answer is l wants made fair =
    let first = wanted_first due ops m l.doing in
    let w = first.0 in
    let rest = first.1 in
    let same : wanted ≡ w = some_same wanted w (sym wants ∙ ap (λ (c : Client). next_want c) is ∙ first.3) in
    let doing : Doing (w ∷ rest) ops m = subst (λ (d : List Want). Doing d ops m) first.2 l.doing in
    let now : After (w ∷ rest) ops m (put_of answer) (sent_of answer) (after_answer (commands_sent (with_call t answer)) w rest (at (w ∷ rest) ops m) answer) =
    step (commands_sent (with_call t answer)) t w rest ops m answer doing (subst (λ (x : Want). IsMade t x answer) same made) fair in
    let client : (after_call t answer).client ≡ after_answer (commands_sent (with_call t answer)) w rest (at (w ∷ rest) ops m) answer =
    client_after t (w ∷ rest) ops m w answer (is ∙ ap (λ (d : List Want). at d ops m) first.2) (wants ∙ ap (λ (x : Want). Some x) same) in
    came_after t due ops m most total (put_of answer) (sent_of answer) (after_call t answer) l (position_after t answer fair) (spoken_after t answer fair)
    (subst (λ (d : List Want). After d ops m (put_of answer) (sent_of answer) (after_call t answer).client) (sym first.2) (subst (λ (c : Client). After (w ∷ rest) ops m (put_of answer) (sent_of answer) c) (sym client) now))

pub begins_rested : (c : Client) (b : Bool) (wants : List Want) (ops : List Op) → begins (record c { waiting = b }) wants ops ≡ record (begins c wants ops) { waiting = b }
begins_rested c b (w ∷ wants) ops = refl
begins_rested c b [] [] = refl
begins_rested c b [] (o ∷ ops) = begins_rested c b (wants_of c.mode o) ops

-- a client that waits, or has ended, wants nothing
pub none_waiting : (due : List Want) (ops : List Op) (m : Mode) → Doing due ops m → next_want (begun (waiting_at due ops m)) ≡ None
none_waiting _ _ _ (opening ops way) = refl
none_waiting _ _ _ (starting ops way) = refl
none_waiting _ _ _ (settling ops way) = refl
none_waiting _ _ _ (setting left right gains ops way) = refl
none_waiting _ _ _ (writing count ops some way) = refl
none_waiting _ _ _ (clearing ops way) = refl
none_waiting _ _ _ (clearing_more count ops some way) = refl
none_waiting _ _ _ stopping = refl
none_waiting _ _ _ draining = refl
none_waiting _ _ _ removing = refl

-- a client at its next turn does what it did
pub rested_at : (due : List Want) (ops : List Op) (m : Mode) → Doing due ops m → begun (at due ops m) ≡ at due ops m
rested_at _ _ _ (opening ops way) = refl
rested_at _ _ _ (starting ops way) = refl
rested_at _ _ _ (settling ops way) = refl
rested_at _ _ _ (setting left right gains ops way) = refl
rested_at _ _ _ (writing count ops some way) = refl
rested_at _ _ _ (clearing ops way) = refl
rested_at _ _ _ (clearing_more count ops some way) = refl
rested_at _ _ _ stopping = refl
rested_at _ _ _ draining = refl
rested_at _ _ _ removing = refl

none_if : (waiting ended : Bool) (due : List Want) → ended ≡ true → (if waiting || ended then None else asked_first due) ≡ None
none_if true ended due e = refl
none_if false true due e = refl
none_if false false due e = absurd (true≢false (sym e))

pub none_ended : (c : Client) → c.ended ≡ true → next_want (begun c) ≡ None
none_ended c e = none_if (begun c).waiting (begun c).ended (begun c).due (begins_ended c c.due c.ops ∙ e)

pub none_some : {X A : Type 0} (o : Option X) (x : X) → o ≡ None → o ≡ Some x → A
none_some {X} {A} o x n s = let e : None ≡ Some x = sym n ∙ s in absurd (true≢false (ap (λ (z : Option X). elim z as (λ _. Bool) [ None ↦ true | Some y ↦ false ]) e))

-- a client comes so by all calls of a turn
pub turn_came : (left : ℕ) (t : Track) (calls : List ClientCall) (most total : ℕ) → Came t most total → AreCalls left t calls → AreFair calls → Came (fold after_call t calls) most total
turn_came left t [] most total came made fair = came
turn_came left t (answer ∷ calls) most total (still due ops m is l) made fair =
    turn_came (left - 1) (after_call t answer) calls most total (call_made t due ops m most total made.1 answer is l made.2 made.3 fair.0) made.4 fair.1
turn_came left t (answer ∷ calls) most total (blocked due ops m is l) made fair = none_some (wanted_of t) made.1 (ap (λ (c : Client). next_want (begun c)) is ∙ none_waiting due ops m l.doing) made.2
turn_came left t (answer ∷ calls) most total (gone ended sent words codes) made fair = none_some (wanted_of t) made.1 (none_ended t.client ended) made.2

-- a turn has all its calls, or ends since nothing is wanted
pub turn_whole : (left : ℕ) (t : Track) (calls : List ClientCall) → AreCalls left t calls → (length calls ≡ left) ⊎ (wanted_of (fold after_call t calls) ≡ None)
turn_whole left t [] (inl none) = inl (sym none)
turn_whole left t [] (inr none) = inr none
turn_whole left t (answer ∷ calls) made = elim (turn_whole (left - 1) (after_call t answer) calls made.4) as (λ _. (length (answer ∷ calls) ≡ left) ⊎ (wanted_of (fold after_call t (answer ∷ calls)) ≡ None)) [
  | inl all ↦ inl (let some = made.0 in omega arith)
  | inr none ↦ inr none
]

-- a client between two turns goes on, or has ended
pub data Stands (t : Track) (most total : ℕ) : Type 0 where
  on : (due : List Want) (ops : List Op) (m : Mode) → begun t.client ≡ at due ops m → Left t due ops m most total → Stands t most total
  gone_for_good : t.client.ended ≡ true → (sent : List (ℕ × ℕ)) → t.commands.released ≡ words_of sent → codes_of sent ≡ all_codes → Stands t most total

pub next_cut : (c : Client) (waiting ended : Bool) → (if waiting || ended || true then record c { waiting = false } else record (begun c) { due = rested (begun c).due }) ≡ record c { waiting = false }
next_cut c true ended = refl
next_cut c false true = refl
next_cut c false false = refl

pub next_ended : (c : Client) (waiting ended cut : Bool) → ended ≡ true → c.ended ≡ true → (if waiting || ended || cut then record c { waiting = false } else record (begun c) { due = rested (begun c).due }).ended ≡ true
next_ended c true ended cut e is = is
next_ended c false true cut e is = is
next_ended c false false cut e is = absurd (true≢false (sym e))

-- the track after a turn
abbrev after_turn : Track → List ClientCall → Track
after_turn t calls = let last = fold after_call t calls in record last { client = at_next_turn (length calls == 64) last.client }

pub stands_after : (last : Track) (count : ℕ) (most total : ℕ) → Came last most total → (count ≡ 64) ⊎ (wanted_of last ≡ None) → Stands (record last { client = at_next_turn (count == 64) last.client }) most total
stands_after last count most total (still due ops m is l) (inl all) =
    let cut : (count == 64) ≡ true = search (arith, all) in
    let next : at_next_turn (count == 64) last.client ≡ record last.client { waiting = false } = ap (λ (b : Bool). at_next_turn b last.client) cut ∙ next_cut last.client last.client.waiting last.client.ended in
    on due ops m
    (ap (λ (c : Client). begun c) next ∙ begins_rested last.client false last.client.due last.client.ops ∙ ap (λ (c : Client). record c { waiting = false }) is)
    (record { doing = l.doing; few = l.few; sum = l.sum; sent = l.sent; words = l.words; codes = l.codes })
stands_after last count most total (still due ops m is l) (inr none) = let first = wanted_first due ops m l.doing in none_some (wanted_of last) first.0 none (ap (λ (c : Client). next_want c) is ∙ first.3)
stands_after last count most total (blocked due ops m is l) why =
    on due ops m (ap (λ (c : Client). begun (at_next_turn (count == 64) c)) is ∙ rested_at due ops m l.doing) (record { doing = l.doing; few = l.few; sum = l.sum; sent = l.sent; words = l.words; codes = l.codes })
stands_after last count most total (gone ended sent words codes) why = gone_for_good (next_ended last.client last.client.waiting last.client.ended (count == 64) ended ended) sent words codes

-- A whole turn: a client on its way stays on it, with no more to do than before, and each frame that it puts is one less
pub turn_stands : (t : Track) (calls : List ClientCall) (due : List Want) (ops : List Op) (m : Mode) (most total : ℕ) → begun t.client ≡ at due ops m → Left t due ops m most total
    → AreCalls 64 t calls → AreFair calls → Stands (after_turn t calls) most total
turn_stands t calls due ops m most total is l made fair = stands_after (fold after_call t calls) (length calls) most total (turn_came 64 t calls most total (still due ops m is l) made fair) (turn_whole 64 t calls made)
