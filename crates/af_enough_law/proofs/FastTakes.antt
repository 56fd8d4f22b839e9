-- What a round takes of a track that flows in a slot.
use Rattle.std.proofs.Common.{◌≡◌, ◌⊎◌, inl, inr, ℕ, ◌+◌, ◌-◌, ◌*◌, ◌≤◌, min, true, false, None, List, [], ◌∷◌, ◌++◌, length, take, fold, refl, sym, ap, ◌∙◌, subst, arith, append-nil}
use Rattle.af_enough_law.proofs.Common.{BlockTold, ClientEvent, EntrySeen, FastTrack, HasBlockHistory, IsClientList, LegalRound, Marks, RoundSeen, Run, ServerEvent, ServerKept, Session, Shape, after_round, after_turn, before_turn, calls_states, client_list, client_of, cycle_frames, drops_none, early_count, early_of, ends_part, flushes_of, fold-append, hand_list, in_turn, is_tame, late_of, met_after, server_begins, server_keeps, server_kept, server_list, server_of, take-append-drop, take-append-le, told_at, with_calls, with_cycles}
use Rattle.af_base.specs.declared.event.ServerEvent.TheVariants as server
use Rattle.af_enough_law.proofs.Basics.{asked_in-append, asked_is, taken-append}
use Rattle.af_enough_law.specs.Seen.{Stands, frames_put, frames_taken}
use Rattle.af_enough_law.proofs.FastWords.{taken_in, asked_in, AllShown, frames_left_in, FlowsIn, Flowed}
use Rattle.af_enough_law.proofs.FastFlows.{AllAlong, Later, later_both, Lies, lies_before, entries_take}
use Rattle.af_enough_law.proofs.FastMixes.{early_states, late_states, mixes_all}
use Rattle.af_enough_law.proofs.FastPolls.{parts_use, fast_parts}
use Rattle.af_enough_law.proofs.FastRounds.{Quiet, over}
use Rattle.af_enough_law.proofs.FastShows.{Setting, stands-more, none-append}
use Rattle.af_enough_law.proofs.SeenBlocks.{released_is, consumed_is}

-- ## Sums

taken_in-append : (i : ℕ) (xs ys : List EntrySeen) → taken_in i (xs ++ ys) ≡ taken_in i xs + taken_in i ys
taken_in-append i [] ys = omega arith
taken_in-append i (x ∷ xs) ys = let rest = taken_in-append i xs ys in omega arith

shown-append : (i : ℕ) (xs ys : List EntrySeen) → AllShown i xs → AllShown i ys → AllShown i (xs ++ ys)
shown-append i [] ys h t = t
shown-append i (x ∷ xs) ys h t = (h.0, shown-append i xs ys h.1 t)

-- ## Steps without a look

module _ (b later : BlockTold) (q : Quiet b later) where
  pub quiet_taken : frames_taken (server_list later) ≡ frames_taken (server_list b)
  quiet_taken = ap frames_taken q.is_later.server ∙ taken-append (server_list b) q.is_later.events ∙ by q.rests
    where
      by : (q.is_later.events ≡ []) ⊎ ((n : ℕ) × (q.is_later.events ≡ server.Learn n ∷ [])) → frames_taken (server_list b) + frames_taken q.is_later.events ≡ frames_taken (server_list b)
      by (inl none) = ap (λ l. frames_taken (server_list b) + frames_taken l) none ∙ (let e : frames_taken (server_list b) + 0 ≡ frames_taken (server_list b) = omega arith in e)
      by (inr learns) = ap (λ l. frames_taken (server_list b) + frames_taken l) learns.1 ∙ (let e : frames_taken (server_list b) + 0 ≡ frames_taken (server_list b) = omega arith in e)

  pub quiet_none : drops_none (server_list b) ≡ true → drops_none (server_list later) ≡ true
  quiet_none none = ap drops_none q.is_later.server ∙ none-append (server_list b) q.is_later.events none (by q.rests)
    where
      by : (q.is_later.events ≡ []) ⊎ ((n : ℕ) × (q.is_later.events ≡ server.Learn n ∷ [])) → drops_none q.is_later.events ≡ true
      by (inl is) = ap drops_none is
      by (inr learns) = ap drops_none learns.1

  pub quiet_unshut : (k : Shape) → (server_kept k (server_list b)).shut ≡ None → (server_kept k (server_list later)).shut ≡ None
  quiet_unshut k unshut =
      ap (λ l. (server_kept k l).shut) q.is_later.server ∙ ap (λ (s : ServerKept). s.shut) (fold-append (server_keeps k) (server_begins k) (server_list b) q.is_later.events) ∙ by q.rests
    where
      by : (q.is_later.events ≡ []) ⊎ ((n : ℕ) × (q.is_later.events ≡ server.Learn n ∷ [])) → (fold (server_keeps k) (server_kept k (server_list b)) q.is_later.events).shut ≡ None
      by (inl is) = ap (λ l. (fold (server_keeps k) (server_kept k (server_list b)) l).shut) is ∙ unshut
      by (inr learns) = ap (λ l. (fold (server_keeps k) (server_kept k (server_list b)) l).shut) learns.1 ∙ unshut

-- no more is taken than was released
taken_low : (b : BlockTold) → HasBlockHistory b → drops_none (server_list b) ≡ true → frames_taken (server_list b) ≤ frames_put (client_list b)
taken_low b h none =
    let turn = in_turn b.shape h.order h.legal in
    let low = turn.within in
    let put = released_is b.shape h.order in
    let took = consumed_is b.shape h.order (ap drops_none h.server_is ∙ none) in
    let low' : frames_taken (server_of h.order) ≤ frames_put (client_of h.order) = omega arith in
    subst (λ (x : List ServerEvent × List ClientEvent). frames_taken x.0 ≤ frames_put x.1) (λ j. (h.server_is j, h.client_is j)) low'

enough_by : (left f a b k t0 t1 t2 t3 t4 : ℕ) → t1 ≡ t0 → t3 ≡ t2 → t1 ≤ t2 → t3 ≤ t4 → ((t1 + a ≤ t2) ⊎ (k ≤ t2)) → ((t3 + b ≤ t4) ⊎ (k ≤ t4)) → f ≡ a + b → left ≡ k - t0 → t0 + min left f ≤ t4
enough_by left f a b k t0 t1 t2 t3 t4 e0 e2 l1 l3 (inl x) (inl y) is is' = omega arith
enough_by left f a b k t0 t1 t2 t3 t4 e0 e2 l1 l3 (inl x) (inr y) is is' = omega (arith, e0, e2, l1, l3, y, is', x, is)
enough_by left f a b k t0 t1 t2 t3 t4 e0 e2 l1 l3 (inr x) y is is' = omega (arith, e0, e2, l1, l3, x, is')

-- ## The round

-- what a round takes, and that its entries play the track all along and leave its server open, those before the turn and those after it
pub record FlowedOn (s : Session) (run : Run) (round : RoundSeen) (track i : ℕ) : Type 0 where
  pub flowed : Flowed s run round track i
  pub early : AllAlong s track i (early_of run round) (with_calls round run)
  pub late : AllAlong s track i (late_of run round) (after_turn s run round)

pub flowed_on : (s : Session) (marks : Marks) (run : Run) (round : RoundSeen) (track i : ℕ) (item : FastTrack) → LegalRound false s marks run round → FlowsIn s run round track i item → FlowedOn s run round track i
flowed_on s marks run round track i item legal f =
    let o = over s run round track f.there in
    let parts = fast_parts s marks run round legal f.fast in
    let uses = parts_use s marks run round legal f.fast f.knows_states in
    let after : Run = after_round s run round in
    let b0 : BlockTold = (told_at run track).stream in
    let b1 : BlockTold = (told_at (with_calls round run) track).stream in
    let b2 : BlockTold = (told_at (before_turn s run round) track).stream in
    let b3 : BlockTold = (told_at (after_turn s run round) track).stream in
    let b4 : BlockTold = (told_at (with_cycles s (late_of run round) (after_turn s run round)) track).stream in
    let b5 : BlockTold = (told_at (met_after s run round) track).stream in
    let b6 : BlockTold = (told_at after track).stream in
    let same : b6 ≡ b5 = o.whole in
    let to5 : Later b2 b5 = later_both b2 b3 b5 o.turn (later_both b3 b4 b5 o.late o.meeting.is_later) in
    let all5 : Later b0 b5 = later_both b0 b1 b5 o.calls.is_later (later_both b1 b2 b5 o.early to5) in
    let history : HasBlockHistory b5 = (legal.histories.blocks track f.named).stream (sym (ends_part s (met_after s run round) track) ∙ f.part) (ap is_tame (sym same) ∙ f.tame) in
    let k : Shape = b5.shape in
    let cs : List ClientEvent = client_list b5 in
    let h : Setting k cs (server_list b5) = record {
      few = (let a = f.few in let c : k.frames ≡ b0.shape.frames = ap (λ (z : Shape). z.frames) all5.shape in omega arith);
      spelled = subst (λ (b : BlockTold). IsClientList b.shape.frames b.shape.cells b.shape.base (client_list b)) same f.spelled;
      no_flush = ap (λ (b : BlockTold). flushes_of (client_list b)) (sym same) ∙ f.no_flush;
      released = b5.released;
      taken = b5.taken;
      hand = hand_list b5;
      history = history;
    } in
    let n : ℕ = f.knows_released.count in
    let first = early_states s run round in
    let last = late_states s run round in
    let lies5 : Lies s marks track i item f.slot f.item_is run after f.states k cs (server_list b5) h n b5 = record { shape = refl; rest = []; whole = sym (append-nil (server_list b5)) } in
    let lies4 = lies_before s marks track i item f.slot f.item_is run after f.states k cs (server_list b5) h n b4 b5 o.meeting.is_later lies5 in
    let lies2 = lies_before s marks track i item f.slot f.item_is run after f.states k cs (server_list b5) h n b2 b5 to5 lies5 in
    let shape0 : b0.shape ≡ k = sym all5.shape in
    let unshut0 : (server_kept k (server_list b0)).shut ≡ None = ap (λ z. (server_kept z (server_list b0)).shut) (sym shape0) ∙ f.is_open.unshut in
    let learnt1 = subst (Stands (server.Learn n)) (sym o.calls.is_later.server) (stands-more (server.Learn n) (server_list b0) o.calls.is_later.events f.knows_released.learnt) in
    let early_on = entries_take s marks track i item f.slot f.item_is run after f.states k cs (server_list b5) h n (length run.states) (early_of run round) (with_calls round run) first.more first.whole
    (let a = ap length (calls_states round run) in omega arith) o.first uses.early parts.early lies2 (quiet_none b0 b1 o.calls f.is_open.none) (quiet_unshut b0 b1 o.calls k unshut0) learnt1 in
    let early = early_on.0 in
    let learnt2 = subst (Stands (server.Learn n)) (sym o.early.server) (stands-more (server.Learn n) (server_list b1) o.early.events learnt1) in
    let late_on = entries_take s marks track i item f.slot f.item_is run after f.states k cs (server_list b5) h n (length (after_turn s run round).states) (late_of run round) (after_turn s run round) last.more last.whole
    (omega arith) o.last uses.late parts.late lies4 (ap drops_none f.lent ∙ early.none) (ap (λ l. (server_kept k l).shut) f.lent ∙ early.unshut) (subst (Stands (server.Learn n)) (sym f.lent) learnt2) in
    let late = late_on.0 in
    let mixes = mixes_all s marks run round legal f.fast f.knows_states (f.states.0, λ number x low is. (f.states.1 number x low is).mixes) in
    let cut : early_of run round ++ late_of run round ≡ round.entries = take-append-drop (early_count run round) round.entries in
    let t1 = quiet_taken b0 b1 o.calls in
    let t3 : frames_taken (server_list b3) ≡ frames_taken (server_list b2) = ap frames_taken f.lent in
    let t5 = quiet_taken b4 b5 o.meeting in
    let t6 : frames_taken (server_list b6) ≡ frames_taken (server_list b5) = ap (λ (b : BlockTold). frames_taken (server_list b)) same in
    let c6 : frames_put (client_list b6) ≡ frames_put (client_list b5) = ap (λ (b : BlockTold). frames_put (client_list b)) same in
    let sum : taken_in i round.entries ≡ taken_in i (early_of run round) + taken_in i (late_of run round) = ap (taken_in i) (sym cut) ∙ taken_in-append i (early_of run round) (late_of run round) in
    let asked : 16 * cycle_frames s ≡ asked_in (cycle_frames s) (early_of run round) + asked_in (cycle_frames s) (late_of run round) =
    ap (λ m. m * cycle_frames s) (sym mixes.count) ∙ sym (asked_is (cycle_frames s) round.entries) ∙ ap (asked_in (cycle_frames s)) (sym cut) ∙ asked_in-append (cycle_frames s) (early_of run round) (late_of run round) in
    let known : frames_put (take n cs) ≡ frames_put (client_list b0) =
    ap (λ l. frames_put (take n l)) all5.client ∙ ap frames_put (take-append-le n (client_list b0) all5.calls f.knows_released.within) ∙ f.knows_released.released in
    let te = early.taken in
    let tl = late.taken in
    let none5 = quiet_none b4 b5 o.meeting late.none in
    let enough = enough_by (frames_left_in b0) (16 * cycle_frames s) (asked_in (cycle_frames s) (early_of run round)) (asked_in (cycle_frames s) (late_of run round)) (frames_put (take n cs))
    (frames_taken (server_list b0)) (frames_taken (server_list b1)) (frames_taken (server_list b2)) (frames_taken (server_list b3)) (frames_taken (server_list b4)) t1 t3 (omega arith) (omega arith) early.reaches late.reaches asked (omega arith) in
    let low5 = taken_low b5 history none5 in
    record {
      flowed = record {
        mixes = mixes;
        shown = subst (AllShown i) cut (shown-append i (early_of run round) (late_of run round) early.shown late.shown);
        taken = omega arith;
        within = omega arith;
        enough = omega arith;
        is_open = record { none = ap (λ (b : BlockTold). drops_none (server_list b)) same ∙ none5; unshut = ap (λ (b : BlockTold). (server_kept b.shape (server_list b)).shut) same ∙ quiet_unshut b4 b5 o.meeting k late.unshut };
      };
      early = early_on.1;
      late = late_on.1;
    }

pub flowed : (s : Session) (marks : Marks) (run : Run) (round : RoundSeen) (track i : ℕ) (item : FastTrack) → LegalRound false s marks run round → FlowsIn s run round track i item → Flowed s run round track i
flowed s marks run round track i item legal f = (flowed_on s marks run round track i item legal f).flowed
