-- A turn of a client on calm blocks is fair.
use Rattle.std.proofs.Common.{◌≡◌, ◌⊎◌, inl, inr, ℕ, ◌+◌, ◌-◌, ◌*◌, ◌≤◌, ◌<◌, ◌==◌, Bool, true, false, List, [], ◌∷◌, ◌++◌, length, fold, refl, sym, ap, ◌∙◌, subst, arith, append_assoc, length-append, Option, Some, None, is_some, if◌then◌else◌}
use Rattle.af_enough_law.proofs.Common.{AnswersOn, AreCalls, Client, ClientCall, ClientEvent, HandEvent, HasHistory, IsClientList, IsMade, IsOutside, MatchOption, Mode, Op, ServerEvent, Shape, Side, Track, Want, after_call, ahead, append-nil, begun, client_events_of, client_kept, filled_by, is_clear, is_of_commands, is_send, is_status, is_write, next_want, no, released_by, side_of, some_same, state_in, wanted_of, wrapped}
use Rattle.af_base.specs.declared.event.ClientCall.TheVariants as call
use Rattle.af_base.specs.declared.event.ClientEvent.TheVariants as client
use Rattle.af_enough_law.proofs.Basics.{put-append}
use Rattle.af_runs.specs.declared.want.Want.TheVariants as want
use Rattle.af_runs.specs.ClientTurns.{called}
use Rattle.af_enough_law.specs.Seen.{Stands, frames_put, frames_taken}
use Rattle.af_enough_law.proofs.Calm.{are_calm, are_hands_calm}
use Rattle.af_enough_law.proofs.Playing.{Doing, opening, starting, settling, setting, writing, clearing, clearing_more, stopping, draining, removing, IsFair, AreFair, SeesFrom, AllSeeFrom}
use Rattle.af_enough_law.proofs.Advancing.{ahead-far}
use Rattle.af_enough_law.proofs.Doing.{at, codes_sent, codes_of, status_is, clear_is}
use Rattle.af_enough_law.proofs.Fair.{no_dead, cleared_calm, no_corrupt, front_at, status_at, unshut, position_is, calm_split, status_calm}
use Rattle.af_enough_law.proofs.Turning.{shape_after, words_of, wanted_first, none_some, none_waiting, none_ended, Left, Came, still, blocked, gone, call_made}
use Rattle.af_enough_law.proofs.SilentCalls.{words_long}

-- a block whose lists have a history and stay calm, of whose server's events these were known
pub record IsCalm (k : Shape) (ce : List ClientEvent) (known : List ServerEvent) : Type 0 where
  pub released : List ℕ
  pub server : List ServerEvent
  pub taken : List ℕ
  pub hands : List HandEvent
  pub history : HasHistory k ce released server taken hands
  pub spelled : IsClientList k.frames k.cells k.base ce
  pub calm : are_calm server ≡ true
  pub calm_hands : are_hands_calm hands ≡ true
  pub few : k.frames ≤ 65536
  pub later : List ServerEvent
  pub knows : server ≡ known ++ later

-- these events were learnt of
abbrev pub IsKnown : List ServerEvent → List ClientEvent → Type 0
IsKnown known events = (length known ≡ 0) ⊎ Stands (client.Learn (length known)) events

pub still_known : (known : List ServerEvent) (xs ys : List ClientEvent) → IsKnown known xs → IsKnown known (xs ++ ys)
still_known known xs ys (inl none) = inl none
still_known known xs ys (inr s) = inr (record { before = s.before; behind = s.behind ++ ys; whole = ap (λ z. z ++ ys) s.whole ∙ append_assoc s.before (client.Learn (length known) ∷ s.behind) ys })

-- ## Which wants come

abbrev is_way_want : Want → Bool
is_way_want (want.Send sending) = true
is_way_want want.Settled = true
is_way_want want.Drained = true
is_way_want (want.Gain left right) = true
is_way_want (want.Write count) = true
is_way_want want.Clear = true
is_way_want _ = false

way_want : (w : Want) (wants : List Want) (ops : List Op) (m : Mode) → Doing (w ∷ wants) ops m → is_way_want w ≡ true
way_want _ _ _ _ (opening ops way) = refl
way_want _ _ _ _ (starting ops way) = refl
way_want _ _ _ _ (settling ops way) = refl
way_want _ _ _ _ (setting left right gains ops way) = refl
way_want _ _ _ _ (writing count ops some way) = refl
way_want _ _ _ _ (clearing ops way) = refl
way_want _ _ _ _ (clearing_more count ops some way) = refl
way_want _ _ _ _ stopping = refl
way_want _ _ _ _ draining = refl
way_want _ _ _ _ removing = refl

pub codes_few : (due : List Want) (ops : List Op) (m : Mode) → Doing due ops m → length (codes_sent due m) ≤ 3
codes_few _ _ _ (opening ops way) = omega arith
codes_few _ _ _ (starting ops way) = omega arith
codes_few _ _ _ (settling ops way) = omega arith
codes_few _ _ _ (setting left right gains ops way) = omega arith
codes_few _ _ _ (writing count ops some way) = omega arith
codes_few _ _ _ (clearing ops way) = omega arith
codes_few _ _ _ (clearing_more count ops some way) = omega arith
codes_few _ _ _ stopping = omega arith
codes_few _ _ _ draining = omega arith
codes_few _ _ _ removing = omega arith

-- ## One call

-- no answer is outside the room
outside_not : (k : Shape) (ce : List ClientEvent) (known : List ServerEvent) (c : IsCalm k ce known) (events tail : List ClientEvent) (front rear : ℕ) (kept : Option (ℕ × ℕ)) → (client_kept k.frames k.base events).shut ≡ kept
    → ce ≡ (events ++ (if is_some kept then [] else client.SawFlags 0 ∷ client.SawFront front ∷ [])) ++ tail → IsOutside k.frames (client_kept k.frames k.base events) front rear → ⊥
outside_not k ce known c events tail front rear None is whole out =
    let o : (rear ≡ wrapped (client_kept k.frames k.base events).position) × (k.frames < filled_by (client_kept k.frames k.base events) front) =
    subst (λ (s : Option (ℕ × ℕ)). MatchOption s ((rear ≡ wrapped (client_kept k.frames k.base events).position) × (k.frames < filled_by (client_kept k.frames k.base events) front)) (λ words. words ≡ (front, rear))) is out in
    no_corrupt k c.few ce c.released c.server c.taken c.hands c.history c.spelled c.calm c.calm_hands events tail front (whole ∙ append_assoc events (client.SawFlags 0 ∷ client.SawFront front ∷ []) tail) o.1
outside_not k ce known c events tail front rear (Some words) is whole out =
    let open_still = unshut k c.few ce c.released c.server c.taken c.hands c.history c.spelled c.calm c.calm_hands events tail (whole ∙ ap (λ z. z ++ tail) (append-nil events)) in
    none_some (client_kept k.frames k.base events).shut words open_still is

module _ (ce_stream ce_commands : List ClientEvent) (known_stream known_commands : List ServerEvent) (t : Track) (stream : IsCalm t.stream.shape ce_stream known_stream) (commands : IsCalm t.commands.shape ce_commands known_commands)
    (knows_stream : IsKnown known_stream t.stream.events) (knows_commands : IsKnown known_commands t.commands.events) (small : t.commands.shape.frames ≡ 128) (words : frames_put t.commands.events ≤ 6) where
  abbrev Fairly : ClientCall → Type 0
  Fairly answer = IsFair answer × SeesFrom (t.stream.shape.base + frames_taken known_stream) t answer

  -- the call's events stand in both lists
  record Follows (answer : ClientCall) : Type 0 where
    stream_tail : List ClientEvent
    commands_tail : List ClientEvent
    stream_is : ce_stream ≡ (after_call t answer).stream.events ++ stream_tail
    commands_is : ce_commands ≡ (after_call t answer).commands.events ++ commands_tail

  fair_send : (code argument asked : ℕ) (answer : ClientCall) → is_send code argument answer ≡ true → AnswersOn (side_of t answer) asked answer → Follows answer → Fairly answer
  fair_send code argument asked (call.Put front count) h a f = no h
  fair_send code argument asked (call.Full front) h a f = no h
  fair_send code argument asked (call.Dead flags) h a f = no h
  fair_send code argument asked (call.Corrupt front rear) h a f = no h
  fair_send code argument asked (call.Cleared flags) h a f = no h
  fair_send code argument asked (call.Flush count) h a f = no h
  fair_send code argument asked (call.Gain word) h a f = no h
  fair_send code argument asked (call.Sent front sent_code sent_argument) h a f = (tt, tt)
  fair_send code argument asked (call.SendFull front) h a f =
      let c = commands in
      let k = t.commands.shape in
      let events = t.commands.events in
      let whole : ce_commands ≡ events ++ client.SawFlags 0 ∷ client.SawFront front ∷ f.commands_tail = f.commands_is ∙ append_assoc events (client.SawFlags 0 ∷ client.SawFront front ∷ []) f.commands_tail in
      let seen = front_at k c.few ce_commands c.released c.server c.taken c.hands c.history c.spelled c.calm c.calm_hands events f.commands_tail front known_commands c.later whole c.knows knows_commands in
      let own = position_is k c.few ce_commands c.released c.server c.taken c.hands c.history c.spelled c.calm c.calm_hands events (client.SawFlags 0 ∷ client.SawFront front ∷ f.commands_tail) whole in
      let pos = (client_kept k.frames k.base events).position in
      let low = seen.2 in
      let far : ahead front (wrapped pos) ≡ pos - seen.0 = ap (λ (x : ℕ). ahead x (wrapped pos)) seen.1 ∙ ahead-far seen.0 pos seen.3 (omega arith) in
      let full : k.frames < ahead front (wrapped pos) + 2 = a.1.1 in
      absurd (omega arith)
  fair_send code argument asked (call.SendDead flags) h a f =
      let c = commands in
      absurd (no_dead t.commands.shape c.few ce_commands c.released c.server c.taken c.hands c.history c.spelled c.calm c.calm_hands t.commands.events f.commands_tail flags
      (f.commands_is ∙ append_assoc t.commands.events (client.SawFlags flags ∷ []) f.commands_tail) a.1)
  fair_send code argument asked (call.SendCorrupt front rear) h a f =
      absurd (outside_not t.commands.shape ce_commands known_commands commands t.commands.events f.commands_tail front rear (client_kept t.commands.shape.frames t.commands.shape.base t.commands.events).shut refl f.commands_is a)
  fair_send code argument asked (call.Status word) h a f = no h
  fair_send code argument asked (call.Poke in_command word value) h a f = no h

  fair_write : (asked : ℕ) (answer : ClientCall) → is_write answer ≡ true → AnswersOn (side_of t answer) asked answer → Follows answer → Fairly answer
  fair_write asked (call.Put front count) h a f =
      let c = stream in (
        tt,
        front_at t.stream.shape c.few ce_stream c.released c.server c.taken c.hands c.history c.spelled c.calm c.calm_hands t.stream.events (client.Release count ∷ f.stream_tail) front known_stream c.later
            (f.stream_is ∙ append_assoc t.stream.events (client.SawFlags 0 ∷ client.SawFront front ∷ client.Release count ∷ []) f.stream_tail) c.knows knows_stream,
      )
  fair_write asked (call.Full front) h a f =
      let c = stream in (
        tt,
        front_at t.stream.shape c.few ce_stream c.released c.server c.taken c.hands c.history c.spelled c.calm c.calm_hands t.stream.events f.stream_tail front known_stream c.later
            (f.stream_is ∙ append_assoc t.stream.events (client.SawFlags 0 ∷ client.SawFront front ∷ []) f.stream_tail) c.knows knows_stream,
      )
  fair_write asked (call.Dead flags) h a f =
      let c = stream in
      absurd (no_dead t.stream.shape c.few ce_stream c.released c.server c.taken c.hands c.history c.spelled c.calm c.calm_hands t.stream.events f.stream_tail flags
      (f.stream_is ∙ append_assoc t.stream.events (client.SawFlags flags ∷ []) f.stream_tail) a.1)
  fair_write asked (call.Corrupt front rear) h a f =
      absurd (outside_not t.stream.shape ce_stream known_stream stream t.stream.events f.stream_tail front rear (client_kept t.stream.shape.frames t.stream.shape.base t.stream.events).shut refl f.stream_is a)
  fair_write asked (call.Cleared flags) h a f = no h
  fair_write asked (call.Flush count) h a f = no h
  fair_write asked (call.Gain word) h a f = no h
  fair_write asked (call.Sent front code argument) h a f = no h
  fair_write asked (call.SendFull front) h a f = no h
  fair_write asked (call.SendDead flags) h a f = no h
  fair_write asked (call.SendCorrupt front rear) h a f = no h
  fair_write asked (call.Status word) h a f = no h
  fair_write asked (call.Poke in_command word value) h a f = no h

  fair_status : (answer : ClientCall) → is_status answer ≡ true → Follows answer → Fairly answer
  fair_status answer h f = let s = status_is answer h in
      subst (λ (a : ClientCall). Follows a → Fairly a) (sym s.1) (λ g.
      let c = commands in
      let seen = status_at t.commands.shape c.few ce_commands c.released c.server c.taken c.hands c.history c.spelled c.calm c.calm_hands t.commands.events g.commands_tail s.0 known_commands c.later
      (g.commands_is ∙ append_assoc t.commands.events (client.SawStatus s.0 ∷ []) g.commands_tail) c.knows knows_commands in
      (ap (λ w. state_in w == 15) seen.4 ∙ status_calm 0 seen.0 (calm_split seen.0 seen.1 (ap are_calm (sym seen.2) ∙ c.calm)).0 refl, tt)) f

  fair_clear : (answer : ClientCall) → is_clear answer ≡ true → Follows answer → Fairly answer
  fair_clear answer h f = let s = clear_is answer h in
      subst (λ (a : ClientCall). Follows a → Fairly a) (sym s.1) (λ g.
      let c = stream in (
        cleared_calm t.stream.shape c.few ce_stream c.released c.server c.taken c.hands c.history c.spelled c.calm c.calm_hands t.stream.events g.stream_tail s.0
            (g.stream_is ∙ append_assoc t.stream.events (client.ClearFlags s.0 ∷ []) g.stream_tail),
        tt,
      )) f

  fair_call : (w : Want) (answer : ClientCall) → is_way_want w ≡ true → IsMade t w answer → Follows answer → Fairly answer
  fair_call (want.Send sending) answer way made f = fair_send _ _ _ answer made.0 made.1 f
  fair_call want.Settled answer way made f = fair_status answer made.0 f
  fair_call want.Drained answer way made f = fair_status answer made.0 f
  fair_call (want.Gain left right) answer way made f = subst (λ (a : ClientCall). Fairly a) (sym made.0) (tt, tt)
  fair_call (want.Write count) answer way made f = fair_write count answer made.0 made.1 f
  fair_call want.Clear answer way made f = fair_clear answer made.0 f
  fair_call _ answer way made f = no way

-- ## A turn

-- lists only grow
grown : (b : Bool) (t : Track) (s c : Side) (more : List ClientEvent) → s.events ≡ t.stream.events ++ more → (n : List ClientEvent) × ((if b then record t { commands = c } else record t { stream = s }).stream.events ≡ t.stream.events ++ n)
grown true t s c more is = ([], sym (append-nil t.stream.events))
grown false t s c more is = (more, is)

grown_commands : (b : Bool) (t : Track) (s c : Side) (more : List ClientEvent) → c.events ≡ t.commands.events ++ more → (n : List ClientEvent) × ((if b then record t { commands = c } else record t { stream = s }).commands.events ≡ t.commands.events ++ n)
grown_commands true t s c more is = (more, is)
grown_commands false t s c more is = ([], sym (append-nil t.commands.events))

pub stream_grows : (t : Track) (calls : List ClientCall) → (n : List ClientEvent) × ((fold after_call t calls).stream.events ≡ t.stream.events ++ n)
stream_grows t [] = ([], sym (append-nil t.stream.events))
stream_grows t (answer ∷ calls) =
    let first = grown (is_of_commands answer) t (called answer (released_by t answer) t.stream) (called answer (released_by t answer) t.commands) (client_events_of t.stream.shape.frames t.stream.shape.base t.stream.events answer) refl in
    let rest = stream_grows (after_call t answer) calls in
    (first.0 ++ rest.0, rest.1 ∙ ap (λ z. z ++ rest.0) first.1 ∙ append_assoc t.stream.events first.0 rest.0)

pub commands_grow : (t : Track) (calls : List ClientCall) → (n : List ClientEvent) × ((fold after_call t calls).commands.events ≡ t.commands.events ++ n)
commands_grow t [] = ([], sym (append-nil t.commands.events))
commands_grow t (answer ∷ calls) =
    let first = grown_commands (is_of_commands answer) t (called answer (released_by t answer) t.stream) (called answer (released_by t answer) t.commands) (client_events_of t.commands.shape.frames t.commands.shape.base t.commands.events answer) refl in
    let rest = commands_grow (after_call t answer) calls in
    (first.0 ++ rest.0, rest.1 ∙ ap (λ z. z ++ rest.0) first.1 ∙ append_assoc t.commands.events first.0 rest.0)

-- a fair call leaves the command block's sizes
pub commands_shape_after : (t : Track) (answer : ClientCall) → IsFair answer → (after_call t answer).commands.shape ≡ t.commands.shape
commands_shape_after t (call.Put front count) fair = refl
commands_shape_after t (call.Full front) fair = refl
commands_shape_after t (call.Cleared flags) fair = refl
commands_shape_after t (call.Gain word) fair = refl
commands_shape_after t (call.Sent front code argument) fair = refl
commands_shape_after t (call.Status word) fair = refl
commands_shape_after t _ fair = absurd fair

-- as many words were sent as the client's list says
pub words_counted : (t : Track) (answer : ClientCall) → IsFair answer → frames_put t.commands.events ≡ length t.commands.released → frames_put (after_call t answer).commands.events ≡ length (after_call t answer).commands.released
words_counted t (call.Put front count) fair is = is
words_counted t (call.Full front) fair is = is
words_counted t (call.Dead flags) fair is = absurd fair
words_counted t (call.Corrupt front rear) fair is = absurd fair
words_counted t (call.Cleared flags) fair is = is
words_counted t (call.Flush count) fair is = absurd fair
words_counted t (call.Gain word) fair is = is
words_counted t (call.Sent front code argument) fair is =
    let a = put-append t.commands.events (client.SawFlags 0 ∷ client.SawFront front ∷ client.Release 2 ∷ []) in
    let b = length-append t.commands.released (code ∷ argument ∷ []) in
    omega arith
words_counted t (call.SendFull front) fair is = absurd fair
words_counted t (call.SendDead flags) fair is = absurd fair
words_counted t (call.SendCorrupt front rear) fair is = absurd fair
words_counted t (call.Status word) fair is = let a = put-append t.commands.events (client.SawStatus word ∷ []) in let b = length-append t.commands.released [] in omega arith
words_counted t (call.Poke in_command word value) fair is = absurd fair

pub codes_long : (sent : List (ℕ × ℕ)) (codes : List ℕ) → codes_of sent ≡ codes → length (words_of sent) ≡ 2 * length codes
codes_long sent codes is = words_long sent ∙ ap (λ c. 2 * length c) is

module _ (ks kc : Shape) (ce_stream ce_commands : List ClientEvent) (known_stream known_commands : List ServerEvent) (stream : IsCalm ks ce_stream known_stream) (commands : IsCalm kc ce_commands known_commands) (small : kc.frames ≡ 128) where
  -- a track whose lists these are to be
  pub record Within (t : Track) : Type 0 where
    pub stream_shape : t.stream.shape ≡ ks
    pub commands_shape : t.commands.shape ≡ kc
    pub words : frames_put t.commands.events ≡ length t.commands.released
    pub knows_stream : IsKnown known_stream t.stream.events
    pub knows_commands : IsKnown known_commands t.commands.events

  abbrev pub FairTurn : Track → List ClientCall → Type 0
  FairTurn t calls = AreFair calls × AllSeeFrom (ks.base + frames_taken known_stream) t calls

  stays_within : (t : Track) (answer : ClientCall) → IsFair answer → Within t → Within (after_call t answer)
  stays_within t answer fair w =
      let s = stream_grows t (answer ∷ []) in
      let c = commands_grow t (answer ∷ []) in
      record {
        stream_shape = shape_after t answer fair ∙ w.stream_shape;
        commands_shape = commands_shape_after t answer fair ∙ w.commands_shape;
        words = words_counted t answer fair w.words;
        knows_stream = subst (IsKnown known_stream) (sym s.1) (still_known known_stream t.stream.events s.0 w.knows_stream);
        knows_commands = subst (IsKnown known_commands) (sym c.1) (still_known known_commands t.commands.events c.0 w.knows_commands);
      }

  fair_rest : (left : ℕ) (t : Track) (calls : List ClientCall) (most total : ℕ) (stream_tail commands_tail : List ClientEvent) → Came t most total → Within t
      → AreCalls left t calls → ce_stream ≡ (fold after_call t calls).stream.events ++ stream_tail → ce_commands ≡ (fold after_call t calls).commands.events ++ commands_tail → FairTurn t calls
  fair_rest left t [] most total stream_tail commands_tail came w made s c = (tt, tt)
  fair_rest left t (answer ∷ calls) most total stream_tail commands_tail (still due ops m is l) w made s c =
      let first = wanted_first due ops m l.doing in
      let wanted = made.1 in
      let same : wanted ≡ first.0 = some_same wanted first.0 (sym made.2 ∙ ap (λ (x : Client). next_want x) is ∙ first.3) in
      let way = way_want first.0 first.1 ops m (subst (λ (d : List Want). Doing d ops m) first.2 l.doing) in
      let next = after_call t answer in
      let more_stream = stream_grows next calls in
      let more_commands = commands_grow next calls in
      let long : length (words_of l.sent) ≡ 2 * length (codes_sent due m) = codes_long l.sent (codes_sent due m) l.codes in
      let few = codes_few due ops m l.doing in
      let said : length t.commands.released ≡ length (words_of l.sent) = ap length l.words in
      let counted = w.words in
      let fairly : IsFair answer × SeesFrom (t.stream.shape.base + frames_taken known_stream) t answer =
      fair_call ce_stream ce_commands known_stream known_commands t (subst (λ k. IsCalm k ce_stream known_stream) (sym w.stream_shape) stream) (subst (λ k. IsCalm k ce_commands known_commands) (sym w.commands_shape) commands)
      w.knows_stream w.knows_commands (ap (λ k. k.frames) w.commands_shape ∙ small) (omega arith) first.0 answer way (subst (λ (x : Want). IsMade t x answer) same made.3)
      (record {
        stream_tail = more_stream.0 ++ stream_tail;
        commands_tail = more_commands.0 ++ commands_tail;
        stream_is = s ∙ ap (λ z. z ++ stream_tail) more_stream.1 ∙ append_assoc next.stream.events more_stream.0 stream_tail;
        commands_is = c ∙ ap (λ z. z ++ commands_tail) more_commands.1 ∙ append_assoc next.commands.events more_commands.0 commands_tail;
      }) in
      let sees = subst (λ (k : Shape). SeesFrom (k.base + frames_taken known_stream) t answer) w.stream_shape fairly.1 in
      let came = call_made t due ops m most total wanted answer is l made.2 made.3 fairly.0 in
      let rest : FairTurn next calls = fair_rest (left - 1) next calls most total stream_tail commands_tail came (stays_within t answer fairly.0 w) made.4 s c in
      ((fairly.0, rest.0), (sees, rest.1))
  fair_rest left t (answer ∷ calls) most total stream_tail commands_tail (blocked due ops m is l) w made s c = none_some (wanted_of t) made.1 (ap (λ (x : Client). next_want (begun x)) is ∙ none_waiting due ops m l.doing) made.2
  fair_rest left t (answer ∷ calls) most total stream_tail commands_tail (gone ended sent words codes) w made s c = none_some (wanted_of t) made.1 (none_ended t.client ended) made.2

  pub fair_turn : (left : ℕ) (t : Track) (calls : List ClientCall) (due : List Want) (ops : List Op) (m : Mode) (most total : ℕ) (stream_tail commands_tail : List ClientEvent) → begun t.client ≡ at due ops m → Left t due ops m most total → Within t
      → AreCalls left t calls → ce_stream ≡ (fold after_call t calls).stream.events ++ stream_tail → ce_commands ≡ (fold after_call t calls).commands.events ++ commands_tail → FairTurn t calls
  fair_turn left t calls due ops m most total stream_tail commands_tail is l w made s c = fair_rest left t calls most total stream_tail commands_tail (still due ops m is l) w made s c
