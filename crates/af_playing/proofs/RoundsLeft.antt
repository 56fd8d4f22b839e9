-- How many rounds of all parties a session makes: each adds an entry to the log until all have ended.
use Rattle.std.proofs.Common.{◌≡◌, ℕ, zero, suc, ◌+◌, ◌<◌, ◌≤◌, ◌==◌, ◌||◌, Bool, true, false, true≢false, if◌then◌else◌, sym, refl, ap, subst, ◌∙◌, List, [], ◌∷◌, length, length-append, map, slice_get, Option, Some, is_some, unwrap_or, ne_eqb, arith}
use Rattle.af_playing.proofs.Common.{Cycle, CyclesOn, CyclesOnce, FastTurned, Given, IsRoundOfAll, Links, MatchBool-at_false, MatchBool-at_true, MixerState, NormalState, PartyState, RoundNoted, SessionState, TurnPlayed, end_party, ends_keep, has_exit, is_mixed, is_over, most_cycles, with_ends}
use Rattle.af_playing.proofs.ExitSeen.{Knowing, exit_seen, rests_over}

-- ## The log

-- a cycle takes no entry off the log, and adds one if the mixer wasn't over
once_adds : (links : Links) (m m' : MixerState) (answer : Cycle) (bytes : List ℕ) → CyclesOnce links m answer bytes m' → (length m.log.entries ≤ length m'.log.entries) × (is_over m ≡ false → length m.log.entries + 1 ≤ length m'.log.entries)
once_adds links m m' answer bytes w = by_over (is_over m) refl
  where
    by_over : (b : Bool) → is_over m ≡ b → (length m.log.entries ≤ length m'.log.entries) × (is_over m ≡ false → length m.log.entries + 1 ≤ length m'.log.entries)
    by_over true over =
        let polled : w.polled ≡ record m { adopted = true } = w.adopts.rests over in
        let left : m' ≡ record w.polled { adopted = false } = rests_over w.polled m' w.before w.after answer (ap is_over polled ∙ over) w.mixes in
        let same : length m'.log.entries ≡ length m.log.entries = ap (λ (y : MixerState). length y.log.entries) (left ∙ ap (λ (y : MixerState). record y { adopted = false }) polled) in
        (omega (arith, same), λ runs. absurd (true≢false (sym over ∙ runs)))
    by_over false runs =
        let added = w.mixes.adds (ap is_over w.adopts.same ∙ runs) in
        let more : length m'.log.entries ≡ length w.polled.log.entries + 1 = ap length added.2.entries ∙ length-append w.polled.log.entries (added.0 ∷ []) in
        let same : length w.polled.log.entries ≡ length m.log.entries = ap (λ (y : MixerState). length y.log.entries) w.adopts.same in
        (omega (arith, more, same), λ _. omega (arith, more, same))

on_answer : (answer : Cycle) (next m' : MixerState) (back : List ℕ) (n : ℕ) → n ≤ length next.log.entries → (is_mixed answer ≡ true → length next.log.entries ≤ length m'.log.entries) → (is_mixed answer ≡ false → (back ≡ []) × (m' ≡ next)) → n ≤ length m'.log.entries
on_answer answer next m' back n first more over = by_answer (is_mixed answer) refl
  where
    by_answer : (b : Bool) → is_mixed answer ≡ b → n ≤ length m'.log.entries
    by_answer true is = let rest = more is in omega (arith, first, rest)
    by_answer false is = let same : length m'.log.entries ≡ length next.log.entries = ap (λ (y : MixerState). length y.log.entries) (over is).1 in omega (arith, first, same)

cycles_grow : (links : Links) (left : ℕ) (m m' : MixerState) (bytes : List ℕ) → CyclesOn links left m bytes m' → length m.log.entries ≤ length m'.log.entries
cycles_grow links zero m m' bytes turn = let same : length m'.log.entries ≡ length m.log.entries = ap (λ (y : MixerState). length y.log.entries) turn.1 in omega (arith, same)
cycles_grow links (suc left) m m' bytes (answer, next, front, back, cycle, bytes_are, more, over) =
    on_answer answer next m' back (length m.log.entries) (once_adds links m next answer front cycle).0 (λ is. cycles_grow links left next m' back (more is)) over

cycles_add_one : (links : Links) (left : ℕ) (m m' : MixerState) (bytes : List ℕ) → is_over m ≡ false → CyclesOn links (suc left) m bytes m' → length m.log.entries + 1 ≤ length m'.log.entries
cycles_add_one links left m m' bytes runs (answer, next, front, back, cycle, bytes_are, more, over) =
    on_answer answer next m' back (length m.log.entries + 1) ((once_adds links m next answer front cycle).1 runs) (λ is. cycles_grow links left next m' back (more is)) over

-- a turn of a mixer that hasn't exited, with a log that isn't full, adds an entry
turn_adds : (links : Links) (m m' : MixerState) (bytes : List ℕ) → m.exited ≡ false → length m.log.entries < m.cycles → FastTurned links m bytes m' → length m.log.entries + 1 ≤ length m'.log.entries
turn_adds links m m' bytes runs room turned =
    let full : (length m.log.entries == m.cycles) ≡ false = ne_eqb (length m.log.entries) m.cycles (λ e. omega (arith, e, room)) in
    let over : is_over m ≡ false = ap (λ (b : Bool). b || (length m.log.entries == m.cycles)) runs ∙ full in
    cycles_add_one links 15 m m' bytes over (MatchBool-at_false ((bytes ≡ []) × (m' ≡ m)) (CyclesOn links most_cycles m bytes m') runs turned)

-- what a round leaves of the fast mixer
round_leaves : (g : Given) (s t : SessionState) (r : RoundNoted) (bytes : List ℕ) → (w : IsRoundOfAll g s r bytes t) → (t.fast.log ≡ w.turned.fast.log) × (t.fast.exited ≡ w.turned.fast.exited)
round_leaves g s t r bytes w =
    let fast : t.fast ≡ w.met.fast = ap (λ (y : SessionState). y.fast) w.ends ∙ (ends_keep w.met).fast in
    (ap (λ (y : MixerState). y.log) (fast ∙ w.meets.ends.fast), ap (λ (y : MixerState). y.exited) (fast ∙ w.meets.ends.fast))

-- Up to the Exit each round of all parties adds an entry to a log that isn't full
pub round_adds : (g : Given) (s t : SessionState) (r : RoundNoted) (bytes : List ℕ) → s.fast.exited ≡ false → length s.fast.log.entries < s.fast.cycles → IsRoundOfAll g s r bytes t → length s.fast.log.entries + 1 ≤ length t.fast.log.entries
round_adds g s t r bytes runs room w =
    let more = turn_adds w.links s.fast w.turned.fast bytes runs room w.plays.fast in
    let same = ap (λ l. length l) (ap (λ (y : MixerState). y.log.entries) (ap (λ (y : SessionState). y.fast) w.ends ∙ (ends_keep w.met).fast ∙ w.meets.ends.fast)) in
    omega (arith, more, same)

-- ## The parties

-- every party has ended
pub record AllEnded (s : SessionState) : Type 0 where
  pub normal : s.normal.ended ≡ true
  pub fast : s.fast.exited ≡ true
  pub clients : (i : ℕ) (p : PartyState) → slice_get s.clients i ≡ Some p → p.client.ended ≡ true

-- all have ended, or the log has at least so many entries
pub data IsGoing (i : ℕ) (s : SessionState) : Type 0 where
  has_ended : AllEnded s → IsGoing i s
  has_entries : i ≤ length s.fast.log.entries → IsGoing i s

pub going_first : (s : SessionState) → IsGoing 0 s
going_first s = has_entries (omega arith)

ended_at : (ps : List PartyState) (i : ℕ) (p : PartyState) → slice_get (map end_party ps) i ≡ Some p → p.client.ended ≡ true
ended_at [] i p e = absurd (true≢false (sym (ap is_some e)))
ended_at (q ∷ ps) zero p e = sym (ap (λ (o : Option PartyState). (unwrap_or o p).client.ended) e)
ended_at (q ∷ ps) (suc i) p e = ended_at ps i p e

-- with the ends, every client has ended if the normal mixer has
clients_ended : (s : SessionState) → s.normal.ended ≡ true → (i : ℕ) (p : PartyState) → slice_get (with_ends s).clients i ≡ Some p → p.client.ended ≡ true
clients_ended s ended i p e = ended_at s.clients i p (sym (ap (λ (b : Bool). slice_get (if b then record s { clients = map end_party s.clients } else s).clients i) ended) ∙ e)

-- the normal mixer stays ended
stays_ended : (g : Given) (s t : SessionState) (r : RoundNoted) (bytes : List ℕ) → s.normal.ended ≡ true → IsRoundOfAll g s r bytes t → t.normal.ended ≡ true
stays_ended g s t r bytes ended w =
    let still = MatchBool-at_true (w.turned.normal ≡ s.normal) (TurnPlayed s.normal w.turned.normal) ended w.plays.normal in
    ap (λ (y : SessionState). y.normal.ended) w.ends ∙ ap (λ (y : NormalState). y.ended) ((ends_keep w.met).normal ∙ w.meets.ends.normal) ∙ ap (λ (y : NormalState). y.ended) still ∙ ended

-- after the round in which the fast mixer had exited, all have ended
pub round_ends : (g : Given) (s t : SessionState) (r : RoundNoted) (bytes : List ℕ) → Knowing s → s.fast.exited ≡ has_exit s.fast.log.entries → s.fast.exited ≡ true → IsRoundOfAll g s r bytes t → AllEnded t
round_ends g s t r bytes knows is exited w = record {
  normal = ended;
  fast = (round_leaves g s t r bytes w).1 ∙ ap (λ (y : MixerState). y.exited) (MatchBool-at_true ((bytes ≡ []) × (w.turned.fast ≡ s.fast)) (CyclesOn w.links most_cycles s.fast bytes w.turned.fast) exited w.plays.fast).1 ∙ exited;
  clients = subst (λ (y : SessionState). (i : ℕ) (p : PartyState) → slice_get y.clients i ≡ Some p → p.client.ended ≡ true) (sym w.ends)
      (clients_ended w.met (sym (ap (λ (y : SessionState). y.normal.ended) w.ends ∙ ap (λ (y : NormalState). y.ended) (ends_keep w.met).normal) ∙ ended));
}
  where
    by_end : (b : Bool) → s.normal.ended ≡ b → t.normal.ended ≡ true
    by_end true was = stays_ended g s t r bytes was w
    by_end false was = exit_seen g s t r bytes knows is exited was w

    ended : t.normal.ended ≡ true
    ended = by_end s.normal.ended refl

-- If not all have ended and the log isn't full, after one round more all have ended or the log has one entry more
pub going_on : (g : Given) (i : ℕ) (s t : SessionState) (r : RoundNoted) (bytes : List ℕ) → Knowing s → s.fast.exited ≡ has_exit s.fast.log.entries → (AllEnded s → ⊥) → length s.fast.log.entries < s.fast.cycles → IsGoing i s → IsRoundOfAll g s r bytes t
    → IsGoing (i + 1) t
going_on g i s t r bytes knows is some room (has_ended all) w = absurd (some all)
going_on g i s t r bytes knows is some room (has_entries few) w = by_exit s.fast.exited refl
  where
    by_exit : (b : Bool) → s.fast.exited ≡ b → IsGoing (i + 1) t
    by_exit true exited = has_ended (round_ends g s t r bytes knows is exited w)
    by_exit false runs = has_entries (let more = round_adds g s t r bytes runs room w in omega (arith, few, more))
