-- A client whose START was seen to be settled stays past its start in each fair turn.
use Rattle.std.proofs.Common.{◌≤◌, ◌&&◌, ◌++◌, not, nat_le, ◌≡◌, ◌⊎◌, inl, inr, ℕ, zero, suc, ◌-◌, ◌==◌, ◌||◌, Bool, true, false, true≢false, Some, None, List, [], ◌∷◌, length, fold, refl, sym, ap, ◌∙◌, subst, arith, if◌then◌else◌}
use Rattle.af_enough_law.proofs.Common.{AreCalls, Client, ClientCall, IsMade, Mode, Op, Track, Want, after_answer, after_call, append-nil, at_next_turn, begun, commands_sent, more, next_want, settled_in, some_same, state_in, wanted_of, with_call}
use Rattle.af_base.specs.declared.event.ClientCall.TheVariants as call
use Rattle.af_script.specs.declared.op.Op.TheVariants as op
use Rattle.af_runs.specs.declared.want.ClientCommand.TheVariants as command
use Rattle.af_runs.specs.declared.want.Mode.TheVariants as mode
use Rattle.af_runs.specs.declared.want.Want.TheVariants as want
use Rattle.af_enough_law.proofs.Playing.{IsWay, Doing, opening, starting, settling, setting, writing, clearing, clearing_more, stopping, draining, removing, IsFair, AreFair}
use Rattle.af_enough_law.proofs.NearWords.{is_started, IsPast}
use Rattle.af_enough_law.proofs.Doing.{at, waiting_at, sent_of, next_op, sent_is, status_is, write_is, clear_is}
use Rattle.af_enough_law.proofs.Turning.{words_of, spoken_after, wanted_first, none_some, none_waiting, none_ended, client_after, next_ended, next_cut, rested_at, begins_rested}

-- a client within a turn that is past its start: it goes on, it waits, or it has ended
data Past (c : Client) : Type 0 where
  does : (due : List Want) (ops : List Op) (m : Mode) → begun c ≡ at due ops m → Doing due ops m → is_started due ≡ true → Past c
  rests : (due : List Want) (ops : List Op) (m : Mode) → c ≡ waiting_at due ops m → Doing due ops m → is_started due ≡ true → Past c
  over : c.ended ≡ true → Past c

-- ## One call

pub next_started : (gains : ℕ) (ops : List Op) (way : IsWay gains ops) → is_started (next_op gains ops way).due ≡ true
unfolding next_op
next_started gains (op.Gain left right ∷ ops) way = refl
next_started gains (op.Write count ∷ ops) way = refl
next_started gains (op.Stop ∷ op.Drain ∷ op.Remove ∷ []) way = refl
next_started gains _ way = absurd way

past_next : (gains : ℕ) (ops : List Op) → IsWay gains ops → Past (at [] ops mode.Active)
past_next gains ops way = let b = next_op gains ops way in does b.due b.rest mode.Active b.is b.doing (next_started gains ops way)

past_put : (left : ℕ) (ops : List Op) → IsWay 0 ops → Past (at (want.Clear ∷ more left []) ops mode.Active)
past_put zero ops way = does (want.Clear ∷ []) ops mode.Active refl (clearing ops way) refl
past_put (suc k) ops way =
    let some : (suc k == 0) ≡ false = search arith in
    does (want.Clear ∷ want.Write (suc k) ∷ []) ops mode.Active (ap (λ (b : Bool). at (want.Clear ∷ (if b then [] else want.Write (suc k) ∷ [])) ops mode.Active) some) (clearing_more (suc k) ops (omega arith) way) refl

past_clear : (calm : Bool) (wants owed : List Want) (ops : List Op) (m : Mode) → calm ≡ true → Past (at wants ops m) → Past (at (if calm then wants else owed) ops m)
past_clear true wants owed ops m fair next = next
past_clear false wants owed ops m fair next = absurd (true≢false (sym fair))

past_drained : (shut there : Bool) → shut ≡ false
    → Past (if shut then record (at (want.Drained ∷ []) (op.Remove ∷ []) mode.Stopped) { ended = true } else if there then at [] (op.Remove ∷ []) mode.Stopped else waiting_at (want.Drained ∷ []) (op.Remove ∷ []) mode.Stopped)
past_drained true there fair = absurd (true≢false fair)
past_drained false true fair = does (want.Send command.Remove ∷ []) [] mode.Stopped refl removing refl
past_drained false false fair = rests (want.Drained ∷ []) (op.Remove ∷ []) mode.Stopped refl draining refl

abbrev Leaves : ℕ → Want → List Want → List Op → Mode → ClientCall → Type 0
Leaves n w wants ops m answer = Past (after_answer n w wants (at (w ∷ wants) ops m) answer)

past_step : (n : ℕ) (t : Track) (w : Want) (wants : List Want) (ops : List Op) (m : Mode) (answer : ClientCall) → Doing (w ∷ wants) ops m → is_started (w ∷ wants) ≡ true → IsMade t w answer → IsFair answer → Leaves n w wants ops m answer
past_step n t _ _ _ _ answer (opening ops way) started made fair = absurd (true≢false (sym started))
past_step n t _ _ _ _ answer (starting ops way) started made fair = absurd (true≢false (sym started))
past_step n t _ _ _ _ answer (settling ops way) started made fair = absurd (true≢false (sym started))
past_step n t _ _ _ _ answer (setting left right gains ops way) started made fair = past_next gains ops way
past_step n t _ _ _ _ answer (writing asked ops some way) started made fair = elim (write_is answer made.0 fair) as (λ _. Leaves n (want.Write asked) [] ops mode.Active answer) [
  | inl put ↦ subst (Leaves n (want.Write asked) [] ops mode.Active) (sym put.2) (past_put (asked - put.1) ops way)
  | inr full ↦ subst (Leaves n (want.Write asked) [] ops mode.Active) (sym full.1) (rests (want.Write asked ∷ []) ops mode.Active refl (writing asked ops some way) refl)
]
past_step n t _ _ _ _ answer (clearing ops way) started made fair = let s = clear_is answer made.0 in
    subst (λ (a : ClientCall). IsFair a → Leaves n want.Clear [] ops mode.Active a) (sym s.1) (λ f. past_clear _ [] _ ops mode.Active f (past_next 0 ops way)) fair
past_step n t _ _ _ _ answer (clearing_more count ops some way) started made fair = let s = clear_is answer made.0 in
    subst (λ (a : ClientCall). IsFair a → Leaves n want.Clear (want.Write count ∷ []) ops mode.Active a)
    (sym s.1) (λ f. past_clear _ (want.Write count ∷ []) _ ops mode.Active f (does (want.Write count ∷ []) ops mode.Active refl (writing count ops some way) refl)) fair
past_step n t _ _ _ _ answer stopping started made fair = let s = sent_is _ _ answer made.0 fair in
    subst (Leaves n (want.Send command.Stop) [] (op.Drain ∷ op.Remove ∷ []) mode.Active) (sym s.3) (does (want.Drained ∷ []) (op.Remove ∷ []) mode.Stopped refl draining refl)
past_step n t _ _ _ _ answer draining started made fair = let s = status_is answer made.0 in
    subst (λ (a : ClientCall). IsFair a → Leaves n want.Drained [] (op.Remove ∷ []) mode.Stopped a) (sym s.1) (λ f. past_drained (state_in s.0 == 15) _ f) fair
past_step n t _ _ _ _ answer removing started made fair = let s = sent_is _ _ answer made.0 fair in
    subst (Leaves n (want.Send command.Remove) [] [] mode.Stopped) (sym s.3) (over refl)

past_call : (t : Track) (due : List Want) (ops : List Op) (m : Mode) (wanted : Want) (answer : ClientCall) → begun t.client ≡ at due ops m → Doing due ops m → is_started due ≡ true → wanted_of t ≡ Some wanted → IsMade t wanted answer → IsFair answer → Past (after_call t answer).client
past_call t due ops m wanted answer is doing started wants made fair =
    let first = wanted_first due ops m doing in
    let w = first.0 in
    let rest = first.1 in
    let same : wanted ≡ w = some_same wanted w (sym wants ∙ ap (λ (c : Client). next_want c) is ∙ first.3) in
    let now : Leaves (commands_sent (with_call t answer)) w rest ops m answer =
    past_step (commands_sent (with_call t answer)) t w rest ops m answer (subst (λ (d : List Want). Doing d ops m) first.2 doing) (sym (ap is_started first.2) ∙ started) (subst (λ (x : Want). IsMade t x answer) same made) fair in
    subst (λ (c : Client). Past c) (sym (client_after t (w ∷ rest) ops m w answer (is ∙ ap (λ (d : List Want). at d ops m) first.2) (wants ∙ ap (λ (x : Want). Some x) same))) now

-- ## A turn

past_calls : (left : ℕ) (t : Track) (calls : List ClientCall) → Past t.client → AreCalls left t calls → AreFair calls → Past (fold after_call t calls).client
past_calls left t [] past made fair = past
past_calls left t (answer ∷ calls) (does due ops m is doing started) made fair = past_calls (left - 1) (after_call t answer) calls (past_call t due ops m made.1 answer is doing started made.2 made.3 fair.0) made.4 fair.1
past_calls left t (answer ∷ calls) (rests due ops m is doing started) made fair = none_some (wanted_of t) made.1 (ap (λ (c : Client). next_want (begun c)) is ∙ none_waiting due ops m doing) made.2
past_calls left t (answer ∷ calls) (over ended) made fair = none_some (wanted_of t) made.1 (none_ended t.client ended) made.2

past_after : (last : Track) (count : ℕ) → Past last.client → (count ≡ 64) ⊎ (wanted_of last ≡ None) → IsPast (at_next_turn (count == 64) last.client)
past_after last count (does due ops m is doing started) (inl all) =
    let cut : (count == 64) ≡ true = search (arith, all) in
    let next : at_next_turn (count == 64) last.client ≡ record last.client { waiting = false } = ap (λ (b : Bool). at_next_turn b last.client) cut ∙ next_cut last.client last.client.waiting last.client.ended in
    inr (ap (λ (c : Client). is_started (begun c).due) next ∙ ap (λ (c : Client). is_started c.due) (begins_rested last.client false last.client.due last.client.ops) ∙ ap (λ (c : Client). is_started c.due) is ∙ started)
past_after last count (does due ops m is doing started) (inr none) = let first = wanted_first due ops m doing in none_some (wanted_of last) first.0 none (ap (λ (c : Client). next_want c) is ∙ first.3)
past_after last count (rests due ops m is doing started) why = inr (ap (λ (c : Client). is_started (begun (at_next_turn (count == 64) c)).due) is ∙ ap (λ (c : Client). is_started c.due) (rested_at due ops m doing) ∙ started)
past_after last count (over ended) why = inl (next_ended last.client last.client.waiting last.client.ended (count == 64) ended ended)

-- A whole fair turn leaves a client that is past its start so
pub turn_past : (t : Track) (calls : List ClientCall) (due : List Want) (ops : List Op) (m : Mode) → begun t.client ≡ at due ops m → Doing due ops m → is_started due ≡ true
    → AreCalls 64 t calls → AreFair calls → (length calls ≡ 64) ⊎ (wanted_of (fold after_call t calls) ≡ None) → IsPast (at_next_turn (length calls == 64) (fold after_call t calls).client)
turn_past t calls due ops m is doing started made fair whole = past_after (fold after_call t calls) (length calls) (past_calls 64 t calls (does due ops m is doing started) made fair) whole

-- ## The end of the start

settled_goes : (n word : ℕ) (ops : List Op) → 2 ≤ settled_in word → n ≤ 2 → (state_in word == 15) ≡ false → after_answer n want.Settled [] (at (want.Settled ∷ []) ops mode.Active) (call.Status word) ≡ at [] ops mode.Active
settled_goes n word ops some few fair =
    let c : nat_le n (settled_in word) ≡ true = search (arith, some, few) in
    λ j. if fair j then record (at (want.Settled ∷ []) ops mode.Active) { ended = true } else if c j && (not false || (state_in word == 8)) then at [] ops mode.Active else record (at (want.Settled ∷ []) ops mode.Active) { waiting = true }

starts_calls : (left : ℕ) (t : Track) (calls : List ClientCall) (ops : List Op) → begun t.client ≡ at (want.Settled ∷ []) ops mode.Active → IsWay 0 ops → length t.commands.released ≡ 4 → 1 ≤ left → AreCalls left t calls → AreFair calls
    → ((word : ℕ) (rest : List ClientCall) → calls ≡ call.Status word ∷ rest → 2 ≤ settled_in word) → Past (fold after_call t calls).client
starts_calls left t [] ops is way four some (inl none) fair says = absurd (let z : ⊥ = omega (arith, some, none) in z)
starts_calls left t [] ops is way four some (inr none) fair says = none_some (wanted_of t) want.Settled none (ap (λ (c : Client). next_want c) is)
starts_calls left t (answer ∷ calls) ops is way four some made fair says =
    let wanted = made.1 in
    let same : wanted ≡ want.Settled = some_same wanted want.Settled (sym made.2 ∙ ap (λ (c : Client). next_want c) is) in
    let one : IsMade t want.Settled answer = subst (λ (w : Want). IsMade t w answer) same made.3 in
    let s = status_is answer one.0 in
    let next = after_call t answer in
    let none : sent_of answer ≡ [] = ap sent_of s.1 in
    let spoken = ap (λ (ws : List ℕ). length ws) (spoken_after t answer fair.0 ∙ ap (λ (xs : List (ℕ × ℕ)). t.commands.released ++ words_of xs) none ∙ append-nil t.commands.released) in
    let released : length (with_call t answer).commands.released ≡ 4 = spoken ∙ four in
    let few : commands_sent (with_call t answer) ≤ 2 = omega (arith, released) in
    let client : next.client ≡ at [] ops mode.Active =
    client_after t (want.Settled ∷ []) ops mode.Active want.Settled answer is (made.2 ∙ ap (λ (x : Want). Some x) same)
    ∙ ap (λ (a : ClientCall). after_answer (commands_sent (with_call t answer)) want.Settled [] (at (want.Settled ∷ []) ops mode.Active) a) s.1
    ∙ settled_goes (commands_sent (with_call t answer)) s.0 ops (says s.0 calls (ap (λ (a : ClientCall). a ∷ calls) s.1)) few (subst IsFair s.1 fair.0) in
    past_calls (left - 1) next calls (subst (λ (c : Client). Past c) (sym client) (past_next 0 ops way)) made.4 fair.1

-- A whole fair turn of a client that waits for its START to be settled, and sees that it is, leaves it past its start
pub turn_starts : (t : Track) (calls : List ClientCall) (ops : List Op) → begun t.client ≡ at (want.Settled ∷ []) ops mode.Active → IsWay 0 ops → length t.commands.released ≡ 4 → AreCalls 64 t calls → AreFair calls
    → ((word : ℕ) (rest : List ClientCall) → calls ≡ call.Status word ∷ rest → 2 ≤ settled_in word) → (length calls ≡ 64) ⊎ (wanted_of (fold after_call t calls) ≡ None) → IsPast (at_next_turn (length calls == 64) (fold after_call t calls).client)
turn_starts t calls ops is way four made fair says whole = past_after (fold after_call t calls) (length calls) (starts_calls 64 t calls ops is way four (omega arith) made fair says) whole
