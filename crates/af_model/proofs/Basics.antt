-- Basic lemmas that several files here, and of the crates above, cite.
use Rattle.std.proofs.Common.{Bool, List, None, Option, Some, [], ap, append_assoc, arith, drop, false, fold, if◌then◌else◌, length, length-append, not, refl, suc, sym, take, true, true≢false, zero, ℕ, ◌%◌, ◌&&◌, ◌*◌, ◌++◌, ◌+◌, ◌-◌, ◌==◌, ◌∙◌, ◌∷◌, ◌≡◌, ◌≤◌}
use Rattle.af_model.proofs.Common.{ClientEvent, CycleEntry, FastState, Frame, HandEvent, ServerEvent, and_from, and_parts, fold-append, length-drop, no, positive_is, take-append-drop}
use Rattle.std.proofs.Math.Nat.{mod-eq_of_lt}
use Rattle.af_base.specs.declared.event.ClientEvent.TheVariants as client
use Rattle.af_base.specs.declared.event.HandEvent.TheVariants as hand
use Rattle.af_base.specs.declared.event.ServerEvent.TheVariants as server
use Rattle.af_model.specs.Cycles.{cycle_of, is_mixed, state_of}
use Rattle.af_model.specs.Fates.{keeps_all}
use Rattle.af_model.specs.History.{Moment, by_client, by_hand, by_server, client_of, clients_at, flushes_of, is_lawful, is_no_poke as is_tame_event}
use Rattle.af_model.specs.Journals.{EntrySeen, RoundNoted, cycles_of, entries_of, entries_seen, rounds_seen, taken_by}
use Rattle.af_model.specs.PipeHistory.{is_taking}
use Rattle.af_model.specs.Point.{HandMay, after_client, after_hand, after_server, wrapped}
use Rattle.af_model.specs.Reports.{one_if}
use Rattle.af_model.specs.ServerCalls.{server_begins, server_keeps, server_kept}
use Rattle.af_model.specs.declared.point.TrackPoint.{TrackPoint}
use Rattle.af_model.specs.declared.shape.Shape.{Shape}

-- all entries are dealt out if the rounds have as many
pub all_dealt : (entries : List EntrySeen) (rounds : List RoundNoted) → cycles_of rounds ≡ length entries → entries_of (rounds_seen entries rounds) ≡ entries
all_dealt [] [] same = refl
all_dealt (e ∷ es) [] same = absurd (omega arith)
all_dealt entries (r ∷ rs) same = let left = length-drop r.cycles entries in
    ap (λ l. take r.cycles entries ++ l) (all_dealt (drop r.cycles entries) rs (omega arith)) ∙ take-append-drop r.cycles entries

pub at_few : (order : List Moment) → clients_at order ≤ length (client_of order)
at_few [] = omega arith
at_few (by_client e ∷ order) = let r = at_few order in let l : length (client_of order ++ e ∷ []) ≡ length (client_of order) + 1 = length-append (client_of order) (e ∷ []) in omega arith
at_few (by_server e ∷ order) = at_few order
at_few (by_hand e ∷ order) = omega arith

pub both_first : (a b : Bool) → (a && b) ≡ true → a ≡ true
both_first true b e = refl
both_first false b e = no e

pub both_lawful : (xs ys : List ClientEvent) → is_lawful xs ≡ true → is_lawful ys ≡ true → is_lawful (xs ++ ys) ≡ true
both_lawful [] ys h g = g
both_lawful (x ∷ xs) ys h g = by_first (is_tame_event x) h (λ r. both_lawful xs ys r g)
  where
    by_first : (b : Bool) → (b && is_lawful xs) ≡ true → (is_lawful xs ≡ true → is_lawful (xs ++ ys) ≡ true) → (b && is_lawful (xs ++ ys)) ≡ true
    by_first true h more = more h
    by_first false h more = h

pub client_taken : (p : TrackPoint) (e : ClientEvent) → (after_client p e).consumed ≡ p.consumed
client_taken p (client.Release count) = refl
client_taken p _ = refl

-- one round more has its entries beside theirs
pub cycles_more : (rounds : List RoundNoted) (r : RoundNoted) → cycles_of (rounds ++ r ∷ []) ≡ cycles_of rounds + r.cycles
cycles_more [] r = omega arith
cycles_more (x ∷ xs) r = let e = cycles_more xs r in omega arith

pub flushes-append : (xs ys : List ClientEvent) → flushes_of (xs ++ ys) ≡ flushes_of xs + flushes_of ys
flushes-append [] ys = omega arith
flushes-append (x ∷ xs) ys = let rest = flushes-append xs ys in omega arith

pub hand_flush : (p : TrackPoint) (e : HandEvent) → (after_hand p e).flushes ≡ p.flushes
hand_flush p (hand.SetFlags bits) = refl
hand_flush p (hand.Met count) = refl

pub hand_met : (n met at : ℕ) (e : HandEvent) → HandMay n met at e → met ≤ n
hand_met n met at (hand.SetFlags bits) h = h
hand_met n met at (hand.Met k) h = h.0

pub keeps : (e : ServerEvent) → is_taking e ≡ true → keeps_all e ≡ true
keeps (server.Drop to) is = is
keeps _ is = refl

-- what a list says, after further events
pub kept_more : (k : Shape) (es more : List ServerEvent) → server_kept k (es ++ more) ≡ fold (server_keeps k) (server_kept k es) more
kept_more k es more = fold-append (server_keeps k) (server_begins k) es more

-- a list without a poke had none before
pub lawful_first : (es more : List ClientEvent) → is_lawful (es ++ more) ≡ true → is_lawful es ≡ true
lawful_first [] more h = refl
lawful_first (e ∷ es) more h = let parts = and_parts (is_tame_event e) (is_lawful (es ++ more)) h in and_from (is_tame_event e) (is_lawful es) parts.0 (lawful_first es more parts.1)

-- a cycle that mixes has a state
pub mixes_state : (done : ℕ) (state : Option FastState) → is_mixed (cycle_of done state) ≡ true → (x : FastState) × (state ≡ Some x)
mixes_state done None mixed = absurd (true≢false (sym mixed))
mixes_state done (Some x) mixed = (x, refl)

pub no_flush : (p : TrackPoint) (e : ServerEvent) → (after_server p e).flushes ≡ p.flushes
no_flush p (server.SawGain word) = refl
no_flush p _ = refl

-- before any flush the flush word is 0
pub none_as : (w : ℕ) (b : Bool) → (w == 0) ≡ b → 0 ≡ (if b then 0 else wrapped (0 * w + 0 % w))
none_as w true e = refl
none_as w false e =
    let place : 0 % w ≡ 0 = mod-eq_of_lt (positive_is w e) in
    let zero_is : 0 * w + 0 ≡ 0 = omega arith in
    sym (ap (λ (z : ℕ). wrapped (0 * w + z)) place ∙ ap wrapped zero_is)

pub not_true : (b : Bool) → not b ≡ true → b ≡ false
not_true true e = no e
not_true false e = refl

pub one_few : (b : Bool) → one_if b ≤ 1
one_few true = omega arith
one_few false = omega arith

-- the states before a further one keep their numbers
pub same_before : (xs : List FastState) (x : FastState) (k : ℕ) → k ≤ length xs → state_of (xs ++ x ∷ []) k ≡ state_of xs k
same_before xs x zero few = refl
same_before [] x (suc k) few = absurd (omega arith)
same_before (y ∷ xs) x (suc zero) few = refl
same_before (y ∷ xs) x (suc (suc k)) few = same_before xs x (suc k) (omega arith)

pub same_length : (frames : List Frame) (entries : List CycleEntry) → length (entries_seen frames entries) ≡ length entries
same_length frames [] = refl
same_length frames (e ∷ es) = ap suc (same_length (drop (taken_by e) frames) es)

-- a journal has the rounds that were noted
pub same_rounds : (entries : List EntrySeen) (rounds : List RoundNoted) → length (rounds_seen entries rounds) ≡ length rounds
same_rounds entries [] = refl
same_rounds entries (r ∷ rs) = ap suc (same_rounds (drop r.cycles entries) rs)

-- the new state has the next number
pub state_next : (xs : List FastState) (x : FastState) → state_of (xs ++ x ∷ []) (length xs + 1) ≡ Some x
state_next [] x = refl
state_next (y ∷ xs) x =
    let next : suc (length xs) + 1 ≡ suc (suc (length xs)) = omega arith in
    let here : suc (length xs) ≡ length xs + 1 = omega arith in
    ap (state_of (y ∷ xs ++ x ∷ [])) next ∙ ap (state_of (xs ++ x ∷ [])) here ∙ state_next xs x

pub three : (es : List ServerEvent) (a b d : ServerEvent) → ((es ++ a ∷ []) ++ b ∷ []) ++ d ∷ [] ≡ es ++ a ∷ b ∷ d ∷ []
three es a b d = append_assoc (es ++ a ∷ []) (b ∷ []) (d ∷ []) ∙ append_assoc es (a ∷ []) (b ∷ d ∷ [])
