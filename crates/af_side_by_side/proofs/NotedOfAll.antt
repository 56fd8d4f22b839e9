-- What a journal notes of a round of all parties is the same after the meetings.
use Rattle.std.proofs.Common.{◌≡◌, ℕ, ◌-◌, ◌<◌, if◌then◌else◌, Bool, true, false, List, [], ◌∷◌, length, map, option_map, slice_get, Some, None, refl, sym, ap, ◌∙◌, arith}
use Rattle.af_side_by_side.proofs.Common.{ClientCall, Logged, NormalState, PartyState, SessionState, all_noted, end_party, get_or_from_slice_get, length-map, met_keeps, same_lists, slice_get-map, slice_get_within, some_at, turn_of, with_ends}
use Rattle.af_session.specs.Met.{Met}

-- the calls of a client's last turn
abbrev calls_of : PartyState → List ClientCall
calls_of p = p.calls.items

-- two lists of values are the same if the items at the same places have the same value
same_map : {X Y : Type 0} (f : X → Y) (xs ys : List X) → length ys ≡ length xs → ((i : ℕ) (x y : X) → slice_get xs i ≡ Some x → slice_get ys i ≡ Some y → f y ≡ f x) → map f ys ≡ map f xs
same_map f xs ys long each = same_lists (map f ys) (map f xs) (length-map ys f ∙ long ∙ sym (length-map xs f)) (λ k d lt.
    let x = some_at xs k (omega (arith, lt, length-map ys f, long)) in
    let y = some_at ys k (omega (arith, lt, length-map ys f)) in
    get_or_from_slice_get (map f ys) k (f y.0) d (slice_get-map f ys k ∙ ap (option_map f) y.1)
    ∙ each k x.0 y.0 x.1 y.1
    ∙ sym (get_or_from_slice_get (map f xs) k (f x.0) d (slice_get-map f xs k ∙ ap (option_map f) x.1)))

-- the meetings leave the calls of each client as they are
pub calls_met : (a b : SessionState) → Met a b → length b.clients ≡ length a.clients → map calls_of b.clients ≡ map calls_of a.clients
calls_met a b met long = same_map calls_of a.clients b.clients long (λ i p q before after.
    let lt : i < length a.clients = slice_get_within a.clients i p before in
    let one = met.tracks.met i p q lt before after in
    ap calls_of one.same)

-- the ends of the clients leave the calls of each as they are
calls_ended : (ps : List PartyState) → map calls_of (map end_party ps) ≡ map calls_of ps
calls_ended [] = refl
calls_ended (p ∷ ps) = ap (λ (l : List (List ClientCall)). calls_of p ∷ l) (calls_ended ps)

-- what is noted of a round depends on the calls, the turn and the log alone
noted_by : (s t u : SessionState) → map calls_of u.clients ≡ map calls_of t.clients → turn_of u.normal.entry ≡ turn_of t.normal.entry → u.fast.log ≡ t.fast.log → all_noted s u ≡ all_noted s t
noted_by s t u calls entry log = λ i. record {
  calls = calls i;
  turn = (if s.normal.ended then None else Some (entry i));
  cycles = (let l : Logged = log i in length l.entries - length s.fast.log.entries);
}

-- what is noted of a round is the same after the meetings
noted_met : (s a b : SessionState) → Met a b → length b.clients ≡ length a.clients → all_noted s b ≡ all_noted s a
noted_met s a b met long = noted_by s a b (calls_met a b met long) (ap (λ (m : NormalState). turn_of m.entry) met.ends.normal) (met_keeps a b met).0

-- what is noted of a round is the same after the ends of the clients
noted_ends : (s a : SessionState) (ended : Bool) → all_noted s (if ended then record a { clients = map end_party a.clients } else a) ≡ all_noted s a
noted_ends s a true = noted_by s a (record a { clients = map end_party a.clients }) (calls_ended a.clients) refl refl
noted_ends s a false = refl

-- what is noted of a round, by the parties after it, is what was noted of their turns
pub noted_after : (s a b t : SessionState) → Met a b → length b.clients ≡ length a.clients → t ≡ with_ends b → all_noted s t ≡ all_noted s a
noted_after s a b t met long ends = ap (all_noted s) ends ∙ noted_ends s b b.normal.ended ∙ noted_met s a b met long
