-- What an event of a server stands for in a history: what was consumed, released and learnt before it.
use Rattle.std.proofs.Common.{◌≡◌, ℕ, ◌+◌, ◌*◌, ◌%◌, ◌≤◌, ◌==◌, if◌then◌else◌, Bool, true, false, None, List, [], ◌∷◌, ◌++◌, length, refl, sym, ap, ◌∙◌, subst, arith}
use Rattle.af_enough_law.proofs.Common.{AllFit, ClientEvent, HandEvent, HasHistory, IsClientList, IsLegal, Moment, ServerEvent, ServerKept, ServerMay, Shape, TrackPoint, after, all_fit, by_client, by_hand, by_server, client_append, client_begins, client_of, drops_none, fit_split, flush_number, flush_word, flushes-append, flushes_are, flushes_of, fold-append, in_turn, legal_cut, room_in, server_begins, server_keeps, server_kept, server_of, start, wrapped, zero-mod}
use Rattle.af_base.specs.declared.event.ServerEvent.TheVariants as server
use Rattle.af_enough_law.proofs.Basics.{flush_none}
use Rattle.af_enough_law.specs.Seen.{Stands, frames_put, frames_taken}
use Rattle.af_enough_law.proofs.SeenBlocks.{server_cut, server_learnt, released_is, consumed_is}

-- ## Without flushes

number_none : (wrap : ℕ) (b : Bool) → (if b then 0 else wrapped (0 * wrap + 0 % wrap)) ≡ 0
number_none wrap true = refl
number_none wrap false = ap wrapped (let z : 0 % wrap ≡ 0 = zero-mod wrap in let e : 0 * wrap + 0 % wrap ≡ 0 = omega arith in e)

-- if the client never flushed, the flush word is 0
flush_word_none : (k : Shape) (order : List Moment) → flushes_of (client_of order) ≡ 0 → flush_word (after (start k) order) ≡ 0
flush_word_none k order none =
    ap (λ (x : ℕ × ℕ). flush_number (after (start k) order).wrap x.0 x.1) (λ i. ((flushes_are k order ∙ none) i, flush_none k order none i)) ∙ number_none (after (start k) order).wrap ((after (start k) order).wrap == 0)

keeps_flush : (k : Shape) (kept : ServerKept) (p : TrackPoint) (n : ℕ) (e : ServerEvent) → ServerMay p n e → flush_word p ≡ 0 → kept.flush ≡ 0 → (server_keeps k kept e).flush ≡ 0
keeps_flush k kept p n (server.SawFlush flush) may none is = may ∙ none
keeps_flush k kept p n _ may none is = is

-- if the client never flushed, the server never saw a flush
kept_flush_none : (k : Shape) (order : List Moment) → IsLegal (start k) order → flushes_of (client_of order) ≡ 0 → (server_kept k (server_of order)).flush ≡ 0
kept_flush_none k [] legal none = refl
kept_flush_none k (by_client e ∷ order) legal none = let both = flushes-append (client_of order) (e ∷ []) in kept_flush_none k order legal.1 (omega arith)
kept_flush_none k (by_server e ∷ order) legal none =
    ap (λ (x : ServerKept). x.flush) (fold-append (server_keeps k) (server_begins k) (server_of order) (e ∷ []))
    ∙ keeps_flush k (server_kept k (server_of order)) (after (start k) order) _ e legal.0 (flush_word_none k order none) (kept_flush_none k order legal.1 none)
kept_flush_none k (by_hand e ∷ order) legal none = kept_flush_none k order legal.1 none

-- ## The moment of an event

-- The point at which an event of the server stands, and the front of the client's list before it
pub record Moments (k : Shape) (cs : List ClientEvent) (before : List ServerEvent) (e : ServerEvent) : Type 0 where
  pub at : TrackPoint
  pub others : ℕ
  pub may : ServerMay at others e
  pub consumed : at.consumed ≡ k.base + frames_taken before
  pub low : at.consumed ≤ at.released
  pub high : at.released ≤ at.consumed + k.frames
  pub shown : at.rear_seen ≤ at.released
  pub front : List ClientEvent
  pub rest : List ClientEvent
  pub whole : cs ≡ front ++ rest
  pub released : at.released ≡ k.base + frames_put front
  pub learnt : (n : ℕ) → Stands (server.Learn n) before → n ≤ length front
  pub word : flush_word at ≡ 0
  pub kept_word : (server_kept k before).flush ≡ 0

pub moment : (k : Shape) → k.frames ≤ 65536 → (cs : List ClientEvent) → IsClientList k.frames k.cells k.base cs → flushes_of cs ≡ 0 → (before : List ServerEvent) (e : ServerEvent) (behind : List ServerEvent)
    → (released taken : List ℕ) (hs : List HandEvent) → HasHistory k cs released (before ++ e ∷ behind) taken hs → drops_none before ≡ true → Moments k cs before e
moment k few cs spelled no_flush before e behind released taken hs h none =
    let cut = server_cut h.order before e behind h.server_is in
    let legal = legal_cut (start k) cut.late (by_server e) cut.early (subst (IsLegal (start k)) cut.whole h.legal) in
    let whole : cs ≡ client_of cut.early ++ client_of cut.late = sym h.client_is ∙ ap client_of cut.whole ∙ client_append cut.late (by_server e ∷ cut.early) in
    let fit = fit_split k (client_begins k.base) None (client_of cut.early) (client_of cut.late) (subst (AllFit k (client_begins k.base) None) whole (all_fit k cs spelled)) in
    let room = room_in k few cut.early legal.1 fit.0 in
    let turn = in_turn k cut.early legal.1 in
    let flushes : flushes_of cs ≡ flushes_of (client_of cut.early) + flushes_of (client_of cut.late) = ap flushes_of whole ∙ flushes-append (client_of cut.early) (client_of cut.late) in
    record {
      at = after (start k) cut.early;
      others = length (client_of cut.early);
      may = legal.0;
      consumed = consumed_is k cut.early (ap drops_none cut.before ∙ none) ∙ ap (λ z. k.base + frames_taken z) cut.before;
      low = turn.within;
      high = room.fits;
      shown = turn.to_released;
      front = client_of cut.early;
      rest = client_of cut.late;
      whole = whole;
      released = released_is k cut.early;
      learnt = λ n s. server_learnt (start k) cut.early n legal.1 (subst (Stands (server.Learn n)) (sym cut.before) s);
      word = flush_word_none k cut.early (omega arith);
      kept_word = ap (λ z. (server_kept k z).flush) (sym cut.before) ∙ kept_flush_none k cut.early legal.1 (omega arith);
    }
