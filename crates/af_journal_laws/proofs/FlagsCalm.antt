-- If neither server nor hand sets INVALID on a block, and no status is stored that says 15, its client sees neither in any history.
use Rattle.std.proofs.Common.{◌≡◌, ◌⊎◌, inl, inr, ℕ, ◌-◌, ◌==◌, not, Bool, true, false, true≢false, if◌then◌else◌, is_some, MatchBool, List, [], ◌∷◌, ◌++◌, refl, sym, ap, ◌∙◌, subst, eqb-true}
use Rattle.af_journal_laws.proofs.Common.{BlockTold, ClientEvent, ClientMay, HandEvent, HasBlockHistory, IsLegal, Listed, Moment, ServerEvent, after, after_client, after_hand, events_behind_look, after_server, bit_and, bit_or, both_first, both_right, both_true, by_client, by_hand, by_server, client_list, client_of, cycle_events, drops_of, hand_list, hand_of, is_shut, kept, list_all, look_events, server_list, server_of, start, state_in, tally}
use Rattle.std.proofs.lemmas.List.Folds.{list_all-append}
use Rattle.af_base.specs.declared.event.ClientEvent.TheVariants as client
use Rattle.af_base.specs.declared.event.HandEvent.TheVariants as hand
use Rattle.af_base.specs.declared.event.ServerEvent.TheVariants as server
use Rattle.af_base.specs.declared.log.SlotEntry.{SlotEntry}
use Rattle.af_base.specs.declared.seen.Seen.{Seen}
use Rattle.af_base.specs.declared.seen.Seen.TheVariants as seen
use Rattle.af_model.specs.declared.point.TrackPoint.{TrackPoint}

-- ## Calm lists

-- a server sets no flag but that of missing frames and stores no status that says 15
abbrev pub is_calm : ServerEvent → Bool
is_calm (server.SetFlags bits) = bits == 1
is_calm (server.SetStatus word) = not (state_in word == 15)
is_calm _ = true

-- a hand sets no flag but DISABLED
abbrev pub is_calm_hand : HandEvent → Bool
is_calm_hand (hand.SetFlags bits) = bits == 8
is_calm_hand (hand.Met count) = true

-- a client sees neither INVALID nor 15
abbrev pub is_valid : ClientEvent → Bool
is_valid (client.SawFlags flags) = bit_and flags 4 == 0
is_valid (client.SawStatus word) = not (state_in word == 15)
is_valid _ = true

-- two lists of which all items pass make one list of which all items pass
pub all_join : {A : Type 0} (p : A → Bool) (xs ys : List A) → list_all p xs ≡ true → list_all p ys ≡ true → list_all p (xs ++ ys) ≡ true
all_join p xs ys h g = list_all-append p xs ys ∙ both_true (list_all p xs) (list_all p ys) h g

pub all_left : {A : Type 0} (p : A → Bool) (xs ys : List A) → list_all p (xs ++ ys) ≡ true → list_all p xs ≡ true
all_left p xs ys h = both_first (list_all p xs) (list_all p ys) (sym (list_all-append p xs ys) ∙ h)

pub all_right : {A : Type 0} (p : A → Bool) (xs ys : List A) → list_all p (xs ++ ys) ≡ true → list_all p ys ≡ true
all_right p xs ys h = both_right (list_all p xs) (list_all p ys) (sym (list_all-append p xs ys) ∙ h)

calm_tally : (missing : ℕ) → list_all is_calm (tally missing) ≡ true
calm_tally missing = by_zero (missing == 0)
  where
    by_zero : (none : Bool) → list_all is_calm (if none then [] else server.Tally missing ∷ server.SetFlags 1 ∷ []) ≡ true
    by_zero true = refl
    by_zero false = refl

calm_after : (asked : ℕ) (was : Bool) (answer : Seen) → is_shut answer ≡ false → list_all is_calm (events_behind_look asked was answer) ≡ true
calm_after asked was (seen.Frames count) open_is = calm_tally (asked - count)
calm_after asked was seen.Empty open_is = calm_tally asked
calm_after asked was (seen.Shut front rear) open_is = absurd (true≢false open_is)
calm_after asked was seen.Absent open_is = refl
calm_after asked was (seen.Flushed dropped) open_is = refl

calm_drops : (answer : Seen) (front : ℕ) → list_all is_calm (drops_of answer front) ≡ true
calm_drops seen.Absent front = refl
calm_drops _ front = refl

pub calm_look : (was : Bool) (answer : Seen) (flush rear front : ℕ) → list_all is_calm (if was then [] else look_events answer flush rear front) ≡ true
calm_look true answer flush rear front = refl
calm_look false answer flush rear front = calm_drops answer front

-- the events of a cycle or of a take whose look isn't Shut
pub cycle_calm : (asked : ℕ) (s : Listed) (slot : SlotEntry) (front : ℕ) → is_shut slot.seen ≡ false → list_all is_calm (cycle_events asked s slot front) ≡ true
cycle_calm asked s slot front open_is =
    let was = is_some (kept s).shut in
    all_join is_calm (if was then [] else look_events slot.seen slot.flush slot.rear front) (events_behind_look asked was slot.seen) (calm_look was slot.seen slot.flush slot.rear front) (calm_after asked was slot.seen open_is)

-- ## Flags in a history

-- flags with no other bit than those of missing frames and DISABLED
AreCalmFlags : ℕ → Type 0
AreCalmFlags flags = (flags ≡ 0) ⊎ (flags ≡ 1) ⊎ (flags ≡ 8) ⊎ (flags ≡ 9)

by_flags : (P : ℕ → Type 0) (flags : ℕ) → P 0 → P 1 → P 8 → P 9 → AreCalmFlags flags → P flags
unfolding AreCalmFlags
by_flags P flags p q r t (inl is) = subst P (sym is) p
by_flags P flags p q r t (inr (inl is)) = subst P (sym is) q
by_flags P flags p q r t (inr (inr (inl is))) = subst P (sym is) r
by_flags P flags p q r t (inr (inr (inr is))) = subst P (sym is) t

with_missing : (flags bits : ℕ) → (bits == 1) ≡ true → AreCalmFlags flags → AreCalmFlags (bit_or flags bits)
unfolding AreCalmFlags
with_missing flags bits is calm = subst (λ b. AreCalmFlags (bit_or flags b)) (sym (eqb-true bits 1 is)) (by_flags (λ w. AreCalmFlags (bit_or w 1)) flags (inr (inl refl)) (inr (inl refl)) (inr (inr (inr refl))) (inr (inr (inr refl))) calm)

with_disabled : (flags bits : ℕ) → (bits == 8) ≡ true → AreCalmFlags flags → AreCalmFlags (bit_or flags bits)
unfolding AreCalmFlags
with_disabled flags bits is calm = subst (λ b. AreCalmFlags (bit_or flags b)) (sym (eqb-true bits 8 is)) (by_flags (λ w. AreCalmFlags (bit_or w 8)) flags (inr (inr (inl refl))) (inr (inr (inr refl))) (inr (inr (inl refl))) (inr (inr (inr refl))) calm)

cleared : (flags : ℕ) → AreCalmFlags flags → AreCalmFlags (bit_and flags 4294967287)
unfolding AreCalmFlags
cleared flags calm = by_flags (λ w. AreCalmFlags (bit_and w 4294967287)) flags (inl refl) (inr (inl refl)) (inl refl) (inr (inl refl)) calm

seen_calm : (flags seen_flags : ℕ) → MatchBool (bit_and seen_flags 4 == 0) (bit_and flags 4 ≡ 0) (seen_flags ≡ flags) → AreCalmFlags flags → (bit_and seen_flags 4 == 0) ≡ true
seen_calm flags seen_flags may calm = by_bit (bit_and seen_flags 4 == 0) refl may
  where
    by_bit : (b : Bool) → (bit_and seen_flags 4 == 0) ≡ b → MatchBool b (bit_and flags 4 ≡ 0) (seen_flags ≡ flags) → (bit_and seen_flags 4 == 0) ≡ true
    by_bit true is may = is
    by_bit false is may = ap (λ w. bit_and w 4 == 0) may ∙ by_flags (λ w. (bit_and w 4 == 0) ≡ true) flags refl refl refl refl calm

-- a block on which no INVALID is set, and whose status doesn't say 15
record IsCalmPoint (p : TrackPoint) : Type 0 where
  flags : AreCalmFlags p.flags
  status : not (state_in p.status == 15) ≡ true

server_calm : (p : TrackPoint) (e : ServerEvent) → is_calm e ≡ true → IsCalmPoint p → IsCalmPoint (after_server p e)
server_calm p (server.SetFlags bits) is h = record { flags = with_missing p.flags bits is h.flags; status = h.status }
server_calm p (server.SetStatus word) is h = record { flags = h.flags; status = is }
server_calm p _ is h = record { flags = h.flags; status = h.status }

hand_calm : (p : TrackPoint) (e : HandEvent) → is_calm_hand e ≡ true → IsCalmPoint p → IsCalmPoint (after_hand p e)
hand_calm p (hand.SetFlags bits) is h = record { flags = with_disabled p.flags bits is h.flags; status = h.status }
hand_calm p (hand.Met count) is h = record { flags = h.flags; status = h.status }

client_calm : (p : TrackPoint) (others : ℕ) (e : ClientEvent) → ClientMay p others e → IsCalmPoint p → IsCalmPoint (after_client p e) × (is_valid e ≡ true)
client_calm p others (client.ClearFlags old) may h = (record { flags = cleared p.flags h.flags; status = h.status }, refl)
client_calm p others (client.SawFlags flags) may h = (record { flags = h.flags; status = h.status }, seen_calm p.flags flags may h.flags)
client_calm p others (client.SawStatus word) may h = (record { flags = h.flags; status = h.status }, ap (λ (w : ℕ). not (state_in w == 15)) may ∙ h.status)
client_calm p others _ may h = (record { flags = h.flags; status = h.status }, refl)

calm_in : (p : TrackPoint) (order : List Moment) → IsCalmPoint p → IsLegal p order → list_all is_calm (server_of order) ≡ true → list_all is_calm_hand (hand_of order) ≡ true → IsCalmPoint (after p order) × (list_all is_valid (client_of order) ≡ true)
calm_in p [] zero legal servers hands = (zero, refl)
calm_in p (by_client e ∷ order) zero legal servers hands =
    let h = calm_in p order zero legal.1 servers hands in
    let one = client_calm (after p order) _ e legal.0 h.0 in
    (one.0, all_join is_valid (client_of order) (e ∷ []) h.1 (both_true (is_valid e) true one.1 refl))
calm_in p (by_server e ∷ order) zero legal servers hands =
    let h = calm_in p order zero legal.1 (all_left is_calm (server_of order) (e ∷ []) servers) hands in
    (server_calm (after p order) e (both_first (is_calm e) true (all_right is_calm (server_of order) (e ∷ []) servers)) h.0, h.1)
calm_in p (by_hand e ∷ order) zero legal servers hands =
    let h = calm_in p order zero legal.1 servers (all_left is_calm_hand (hand_of order) (e ∷ []) hands) in
    (hand_calm (after p order) e (both_first (is_calm_hand e) true (all_right is_calm_hand (hand_of order) (e ∷ []) hands)) h.0, h.1)

-- the client of a block whose server and hand are calm sees neither INVALID nor 15
pub valid_by_history : (b : BlockTold) → HasBlockHistory b → list_all is_calm (server_list b) ≡ true → list_all is_calm_hand (hand_list b) ≡ true → list_all is_valid (client_list b) ≡ true
unfolding AreCalmFlags
valid_by_history b h servers hands =
    ap (list_all is_valid) (sym h.client_is) ∙ (calm_in (start b.shape) h.order (record { flags = inl refl; status = refl }) h.legal (ap (list_all is_calm) h.server_is ∙ servers) (ap (list_all is_calm_hand) h.hand_is ∙ hands)).1
