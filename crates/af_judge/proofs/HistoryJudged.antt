-- A block has a history exactly if its lists have a legal order, as many words were released as the releases say, and each word taken was released at its place.
use Rattle.std.proofs.Common.{◌≡◌, ℕ, suc, ◌+◌, ◌-◌, ◌<◌, ◌≤◌, min, Bool, true, false, fold, List, [], ◌∷◌, ◌++◌, length, take, drop, All, Some, None, slice_get, refl, sym, ap, ◌∙◌, subst, arith, true≢false, append_assoc, append-nil, length-drop, length-take-le}
use Rattle.af_judge.proofs.Common.{All-append, All-cons, All-head, All-nil, All-tail, ClientEvent, HasHistory, InTurn, IsClientList, IsLegal, Moment, ServerEvent, ServerKept, ServerMay, Shape, TrackPoint, after_client, after_server, ahead, ahead-between, by_client, by_hand, by_server, client_begins, client_of, client_taken, drop_at, drop_end, fold-append, server_begins, server_keeps, server_kept, server_of, start, take-append-drop, take_at, taken_of, with_taken, wrapped}
use Rattle.af_base.specs.declared.event.ClientEvent.TheVariants as client
use Rattle.af_base.specs.declared.event.ServerEvent.TheVariants as server
use Rattle.af_judge.proofs.Basics.{hand_puts, server_put}
use Rattle.af_model.specs.History.{after}
use Rattle.af_model.proofs.Fates.{drop_low, drop_released, in_turn}
use Rattle.af_model.proofs.OneFate.{hand_consumed}
use Rattle.af_model.proofs.RoomKept.{AllFit, all_fit, fit_split, room_in}
use Rattle.af_judge.specs.declared.words_judge.Taken.{Taken}
use Rattle.af_judge.specs.Blocks.{AllFollow, BlockJudged, FollowsLook, WholeTakes, saw_front, HasItsHistory, IsReleased, placed_from, raised_by, raised_in, taken_in}
use Rattle.af_judge.specs.Servers.{most_counted}
use Rattle.af_judge.proofs.BlockKept.{raised-more}
use Rattle.af_judge.proofs.TakenRuns.{drop-here, released-placed, slice_get-inside}

-- ## The words that takes cover, by the server's own count

abbrev covered_by : List ℕ → ServerKept → ServerEvent → List ℕ
covered_by released k (server.Take count) = take count (drop k.consumed released)
covered_by released k _ = []

abbrev covered : List ℕ → Shape → ServerKept → List ServerEvent → List ℕ
covered released shape k [] = []
covered released shape k (e ∷ es) = covered_by released k e ++ covered released shape (server_keeps shape k e) es

covered-more : (released : List ℕ) (shape : Shape) (k : ServerKept) (es : List ServerEvent) (e : ServerEvent) → covered released shape k (es ++ e ∷ []) ≡ covered released shape k es ++ covered_by released (fold (server_keeps shape) k es) e
covered-more released shape k [] e = append-nil (covered_by released k e)
covered-more released shape k (x ∷ es) e =
    ap (λ (ws : List ℕ). covered_by released k x ++ ws) (covered-more released shape (server_keeps shape k x) es e)
    ∙ sym (append_assoc (covered_by released k x) (covered released shape (server_keeps shape k x) es) (covered_by released (fold (server_keeps shape) (server_keeps shape k x) es) e))

-- ## How much was released

client-raises : (p : TrackPoint) (e : ClientEvent) → (after_client p e).released ≡ p.released + raised_by e
client-raises p (client.Release count) = refl
client-raises p _ = (let x : p.released ≡ p.released + 0 = omega arith in x)

released-in : (shape : Shape) (order : List Moment) → (after (start shape) order).released ≡ shape.base + raised_in (client_of order)
released-in shape [] = (let x : shape.base ≡ shape.base + 0 = omega arith in x)
released-in shape (by_client e ∷ order) =
    let a = client-raises (after (start shape) order) e in
    let b = released-in shape order in
    let c = raised-more (client_of order) e in
    omega (arith, a, b, c)
released-in shape (by_server e ∷ order) = server_put (after (start shape) order) e ∙ released-in shape order
released-in shape (by_hand e ∷ order) = hand_puts (after (start shape) order) e ∙ released-in shape order

-- ## How much was consumed

follow_split : (b : Bool) (xs ys : List ServerEvent) → AllFollow b (xs ++ ys) → AllFollow b xs × AllFollow (fold saw_front b xs) ys
follow_split b [] ys h = (tt, h)
follow_split b (x ∷ xs) ys h = let r = follow_split (saw_front b x) xs ys h.1 in ((h.0, r.0), r.1)

module _ (shape : Shape) (few : shape.frames ≤ 65536) where
  record Counts (k : ServerKept) (b : Bool) (p : TrackPoint) : Type 0 where
    count : shape.base + k.consumed ≡ p.consumed
    front_is : b ≡ true → k.front ≡ wrapped p.consumed

  drop_counts : (front to consumed sofar end : ℕ) → front ≡ wrapped consumed → to ≡ wrapped end → consumed ≤ end → end ≤ consumed + shape.frames → shape.base + sofar ≡ consumed
      → shape.base + (sofar + ahead front to) ≡ end
  drop_counts front to consumed sofar end f t low high is =
      let far : ahead front to ≡ end - consumed = ap (λ (x : ℕ × ℕ). ahead x.0 x.1) (λ i. (f i, t i)) ∙ ahead-between consumed end low (omega arith) in
      omega arith

  no : (k : ServerKept) (p : TrackPoint) → false ≡ true → k.front ≡ wrapped p.consumed
  no k p e = absurd (true≢false (sym e))

  server_counts : (k : ServerKept) (b : Bool) (p : TrackPoint) (others : ℕ) (e : ServerEvent) → ServerMay p others e → FollowsLook b e → InTurn shape p → p.released ≤ p.consumed + shape.frames → Counts k b p
      → Counts (server_keeps shape k e) (saw_front b e) (after_server p e)
  server_counts k b p others (server.SawGain word) may fit turn room c = record { count = c.count; front_is = no k p }
  server_counts k b p others (server.SawFlush flush) may fit turn room c = record { count = c.count; front_is = no k p }
  server_counts k b p others (server.SawRear rear) may fit turn room c = record { count = c.count; front_is = no k p }
  server_counts k b p others (server.SawFront front) may fit turn room c = record { count = c.count; front_is = (λ _. may) }
  server_counts k b p others (server.Drop to) may fit turn room c =
      record {
        count = drop_counts k.front to p.consumed k.consumed (drop_end p) (c.front_is fit) may (drop_low shape p turn) (let a = drop_released shape p turn in omega arith) c.count;
        front_is = (λ e. absurd (true≢false (sym e)));
      }
  server_counts k b p others (server.Take count) may fit turn room c = record { count = (let a = c.count in omega arith); front_is = (λ e. absurd (true≢false (sym e))) }
  server_counts k b p others (server.Tally missing) may fit turn room c = record { count = c.count; front_is = no k p }
  server_counts k b p others (server.SetFlags bits) may fit turn room c = record { count = c.count; front_is = no k p }
  server_counts k b p others (server.SetStatus word) may fit turn room c = record { count = c.count; front_is = no k p }
  server_counts k b p others (server.Learn count) may fit turn room c = record { count = c.count; front_is = no k p }

  kept_counts : (k : ServerKept) (b : Bool) (p q : TrackPoint) → q.consumed ≡ p.consumed → Counts k b p → Counts k b q
  kept_counts k b p q same c = record { count = c.count ∙ sym same; front_is = (λ e. c.front_is e ∙ ap wrapped (sym same)) }

  -- in a legal order the server's count is that of the frames from the base up to what was consumed
  counts_in : (order : List Moment) → IsLegal (start shape) order → AllFit shape (client_begins shape.base) None (client_of order) → AllFollow false (server_of order)
      → Counts (server_kept shape (server_of order)) (fold saw_front false (server_of order)) (after (start shape) order)
  counts_in [] h fit f = record { count = (let e : shape.base + 0 ≡ shape.base = omega arith in e); front_is = (λ e. absurd (true≢false (sym e))) }
  counts_in (by_client e ∷ order) h fit f =
      kept_counts _ _ (after (start shape) order) _ (client_taken (after (start shape) order) e) (counts_in order h.1 (fit_split shape (client_begins shape.base) None (client_of order) (e ∷ []) fit).0 f)
  counts_in (by_server e ∷ order) h fit f =
      let g = follow_split false (server_of order) (e ∷ []) f in
      let now = server_counts _ _ (after (start shape) order) _ e h.0 g.1.0 (in_turn shape order h.1) (room_in shape few order h.1 fit).fits (counts_in order h.1 fit g.0) in
      subst (λ (x : ServerKept × Bool). Counts x.0 x.1 (after (start shape) (by_server e ∷ order)))
      (λ i. (sym (fold-append (server_keeps shape) (server_begins shape) (server_of order) (e ∷ [])) i, sym (fold-append saw_front false (server_of order) (e ∷ [])) i)) now
  counts_in (by_hand e ∷ order) h fit f = kept_counts _ _ (after (start shape) order) _ (hand_consumed (after (start shape) order) e) (counts_in order h.1 fit f)

  -- ## The frames taken

  with-taken : (released taken : List ℕ) (k : ServerKept) (p : TrackPoint) (e : ServerEvent) → shape.base + k.consumed ≡ p.consumed → with_taken released shape.base p taken e ≡ taken ++ covered_by released k e
  with-taken released taken k p (server.Take count) is = ap (λ (n : ℕ). taken ++ take count (drop n released)) (let x : p.consumed - shape.base ≡ k.consumed = omega (arith, is) in x)
  with-taken released taken k p _ is = sym (append-nil taken)

  -- in a legal order the frames taken are those that the takes cover by the server's own count
  taken-covered : (released : List ℕ) (order : List Moment) → IsLegal (start shape) order → AllFit shape (client_begins shape.base) None (client_of order) → AllFollow false (server_of order)
      → taken_of released shape order ≡ covered released shape (server_begins shape) (server_of order)
  taken-covered released [] h fit f = refl
  taken-covered released (by_client e ∷ order) h fit f = taken-covered released order h.1 (fit_split shape (client_begins shape.base) None (client_of order) (e ∷ []) fit).0 f
  taken-covered released (by_server e ∷ order) h fit f =
      let g = follow_split false (server_of order) (e ∷ []) f in
      let k = server_kept shape (server_of order) in
      with-taken released (taken_of released shape order) k (after (start shape) order) e (counts_in order h.1 fit g.0).count
      ∙ (ap (λ (ws : List ℕ). ws ++ covered_by released k e) (taken-covered released order h.1 fit g.0) ∙ sym (covered-more released shape (server_begins shape) (server_of order) e))
  taken-covered released (by_hand e ∷ order) h fit f = taken-covered released order h.1 fit f

-- ## Takes within what was released

-- the take ends within so many frames
abbrev WithinAt : ℕ → ServerKept → ServerEvent → Type 0
WithinAt n k (server.Take count) = k.consumed + count ≤ n
WithinAt n k _ = Unit {0}

abbrev AllWithin : Shape → ℕ → ServerKept → List ServerEvent → Type 0
AllWithin shape n k [] = Unit {0}
AllWithin shape n k (e ∷ es) = WithinAt n k e × AllWithin shape n (server_keeps shape k e) es

within-more : (shape : Shape) (n : ℕ) (k : ServerKept) (es : List ServerEvent) (e : ServerEvent) → AllWithin shape n k es → WithinAt n (fold (server_keeps shape) k es) e → AllWithin shape n k (es ++ e ∷ [])
within-more shape n k [] e h w = (w, tt)
within-more shape n k (x ∷ es) e h w = (h.0, within-more shape n (server_keeps shape k x) es e h.1 w)

within-at : (shape : Shape) (n : ℕ) (k : ServerKept) (p : TrackPoint) (others : ℕ) (e : ServerEvent) → ServerMay p others e → InTurn shape p → shape.base + k.consumed ≡ p.consumed → p.released ≤ shape.base + n → WithinAt n k e
within-at shape n k p others (server.Take count) may turn is most = (let a = turn.to_released in omega (arith, may, a, is, most))
within-at shape n k p others _ may turn is most = tt

-- in a legal order each take is within what was released
all-within : (shape : Shape) → shape.frames ≤ 65536 → (n : ℕ) (order : List Moment) → IsLegal (start shape) order → AllFit shape (client_begins shape.base) None (client_of order) → AllFollow false (server_of order) → (after (start shape) order).released ≤ shape.base + n
    → AllWithin shape n (server_begins shape) (server_of order)
all-within shape few n [] h fit f most = tt
all-within shape few n (by_client e ∷ order) h fit f most =
    all-within shape few n order h.1 (fit_split shape (client_begins shape.base) None (client_of order) (e ∷ []) fit).0 f (let a = client-raises (after (start shape) order) e in omega (arith, a, most))
all-within shape few n (by_server e ∷ order) h fit f most =
    let g = follow_split false (server_of order) (e ∷ []) f in
    let low : (after (start shape) order).released ≤ shape.base + n = (let a = server_put (after (start shape) order) e in omega (arith, a, most)) in
    within-more shape n (server_begins shape) (server_of order) e (all-within shape few n order h.1 fit g.0 low)
    (within-at shape n (server_kept shape (server_of order)) (after (start shape) order) _ e h.0 (in_turn shape order h.1) (counts_in shape few order h.1 fit g.0).count low)
all-within shape few n (by_hand e ∷ order) h fit f most = all-within shape few n order h.1 fit f (let a = hand_puts (after (start shape) order) e in omega (arith, a, most))

-- ## Words at their places

-- the words at their places are those released there
placed-released : (released : List ℕ) (place : ℕ) (words : List ℕ) → length released < most_counted → All (IsReleased released) (placed_from place words) → take (length words) (drop place released) ≡ words
placed-released released place [] short all = refl
placed-released released place (w ∷ words) short all =
    let t : Taken = record { at = min most_counted place; word = w } in
    let here : slice_get released (min most_counted place) ≡ Some w = All-head (IsReleased released) t (placed_from (place + 1) words) all in
    let at : min most_counted place ≡ place = (let a = slice_get-inside released (min most_counted place) w here in omega (arith, a, short)) in
    let there : slice_get released place ≡ Some w = subst (λ (n : ℕ). slice_get released n ≡ Some w) at here in
    ap (take (suc (length words))) (drop-here released place w there)
    ∙ ap (λ (ws : List ℕ). w ∷ ws) (placed-released released (place + 1) words short (All-tail (IsReleased released) t (placed_from (place + 1) words) all))

-- ## All words taken

record Split (released : List ℕ) (xs ys : List Taken) : Type 0 where
  left : All (IsReleased released) xs
  right : All (IsReleased released) ys

all-split : (released : List ℕ) (xs ys : List Taken) → All (IsReleased released) (xs ++ ys) → Split released xs ys
all-split released [] ys all = record { left = All-nil (IsReleased released); right = all }
all-split released (x ∷ xs) ys all =
    let r = all-split released xs ys (All-tail (IsReleased released) x (xs ++ ys) all) in
    record { left = All-cons (IsReleased released) x xs (All-head (IsReleased released) x (xs ++ ys) all) r.left; right = r.right }

released-covered : (released : List ℕ) (shape : Shape) (k : ServerKept) (es : List ServerEvent) (words : List ℕ) → length released < most_counted → WholeTakes es words → All (IsReleased released) (taken_in shape k es words) → covered released shape k es ≡ words
released-covered released shape k [] words short whole all = sym whole
released-covered released shape k (server.Take count ∷ es) words short whole all =
    let s = all-split released (placed_from k.consumed (take count words)) (taken_in shape (server_keeps shape k (server.Take count)) es (drop count words)) all in
    let long : length (take count words) ≡ count = length-take-le count words whole.0 in
    let one : take count (drop k.consumed released) ≡ take count words =
    ap (λ (n : ℕ). take n (drop k.consumed released)) (sym long) ∙ placed-released released k.consumed (take count words) short s.left in
    let more = released-covered released shape (server_keeps shape k (server.Take count)) es (drop count words) short whole.1 s.right in
    ap (λ (x : List ℕ × List ℕ). x.0 ++ x.1) (λ i. (one i, more i)) ∙ take-append-drop count words
released-covered released shape k (server.SawGain word ∷ es) words short whole all = released-covered released shape k es words short whole all
released-covered released shape k (server.SawFlush flush ∷ es) words short whole all = released-covered released shape (server_keeps shape k (server.SawFlush flush)) es words short whole all
released-covered released shape k (server.SawRear rear ∷ es) words short whole all = released-covered released shape (server_keeps shape k (server.SawRear rear)) es words short whole all
released-covered released shape k (server.SawFront front ∷ es) words short whole all = released-covered released shape (server_keeps shape k (server.SawFront front)) es words short whole all
released-covered released shape k (server.Drop to ∷ es) words short whole all = released-covered released shape (server_keeps shape k (server.Drop to)) es words short whole all
released-covered released shape k (server.Tally missing ∷ es) words short whole all = released-covered released shape k es words short whole all
released-covered released shape k (server.SetFlags bits ∷ es) words short whole all = released-covered released shape k es words short whole all
released-covered released shape k (server.SetStatus word ∷ es) words short whole all = released-covered released shape k es words short whole all
released-covered released shape k (server.Learn count ∷ es) words short whole all = released-covered released shape k es words short whole all

covered-released : (released : List ℕ) (shape : Shape) (k : ServerKept) (es : List ServerEvent) (words : List ℕ) → length released < most_counted → WholeTakes es words → AllWithin shape (length released) k es → covered released shape k es ≡ words → All (IsReleased released) (taken_in shape k es words)
covered-released released shape k [] words short whole within is = All-nil (IsReleased released)
covered-released released shape k (server.Take count ∷ es) words short whole within is =
    let after = server_keeps shape k (server.Take count) in
    let piece = take count (drop k.consumed released) in
    let long : length piece ≡ count = (let a = length-drop k.consumed released in length-take-le count (drop k.consumed released) (let w = within.0 in omega (arith, a, w))) in
    let first : take count words ≡ piece = ap (take count) (sym is) ∙ take_at piece (covered released shape after es) count long in
    let rest : covered released shape after es ≡ drop count words = sym (ap (drop count) (sym is) ∙ drop_at piece (covered released shape after es) count long) in
    let size : length (take count words) ≡ count = length-take-le count words whole.0 in
    let here : take (length (take count words)) (drop k.consumed released) ≡ take count words = ap (λ (n : ℕ). take n (drop k.consumed released)) size ∙ sym first in
    All-append (IsReleased released) (placed_from k.consumed (take count words)) (taken_in shape after es (drop count words))
    (released-placed released k.consumed (take count words) short (let w = within.0 in let l = size in omega (arith, w, l)) here)
    (covered-released released shape after es (drop count words) short whole.1 within.1 rest)
covered-released released shape k (server.SawGain word ∷ es) words short whole within is = covered-released released shape k es words short whole within.1 is
covered-released released shape k (server.SawFlush flush ∷ es) words short whole within is = covered-released released shape (server_keeps shape k (server.SawFlush flush)) es words short whole within.1 is
covered-released released shape k (server.SawRear rear ∷ es) words short whole within is = covered-released released shape (server_keeps shape k (server.SawRear rear)) es words short whole within.1 is
covered-released released shape k (server.SawFront front ∷ es) words short whole within is = covered-released released shape (server_keeps shape k (server.SawFront front)) es words short whole within.1 is
covered-released released shape k (server.Drop to ∷ es) words short whole within is = covered-released released shape (server_keeps shape k (server.Drop to)) es words short whole within.1 is
covered-released released shape k (server.Tally missing ∷ es) words short whole within is = covered-released released shape k es words short whole within.1 is
covered-released released shape k (server.SetFlags bits ∷ es) words short whole within is = covered-released released shape k es words short whole within.1 is
covered-released released shape k (server.SetStatus word ∷ es) words short whole within is = covered-released released shape k es words short whole within.1 is
covered-released released shape k (server.Learn count ∷ es) words short whole within is = covered-released released shape k es words short whole within.1 is

-- ## Histories

-- a block whose client keeps to its calls, of which these words were taken
pub record Tells (j : BlockJudged) (words : List ℕ) : Type 0 where
  pub few : j.shape.frames ≤ 65536
  pub calls : IsClientList j.shape.frames j.shape.cells j.shape.base j.client
  pub follow : AllFollow false j.server
  pub taken : j.taken ≡ taken_in j.shape (server_begins j.shape) j.server words
  pub whole : WholeTakes j.server words
  pub short : length j.released < most_counted

fits-in : (j : BlockJudged) (words : List ℕ) (order : List Moment) → Tells j words → client_of order ≡ j.client → AllFit j.shape (client_begins j.shape.base) None (client_of order)
fits-in j words order t is = subst (λ (es : List ClientEvent). AllFit j.shape (client_begins j.shape.base) None es) (sym is) (all_fit j.shape j.client t.calls)

follows-in : (j : BlockJudged) (words : List ℕ) (order : List Moment) → Tells j words → server_of order ≡ j.server → AllFollow false (server_of order)
follows-in j words order t is = subst (AllFollow false) (sym is) t.follow

-- what the judge finds is a history
pub history_of : (j : BlockJudged) (words : List ℕ) → Tells j words → HasItsHistory j → HasHistory j.shape j.client j.released j.server words j.hand
history_of j words t h =
    let o = h.ordered in
    let k = j.shape in
    record {
      order = o.order;
      legal = o.legal;
      client_is = o.client_is;
      server_is = o.server_is;
      hand_is = o.hand_is;
      released_is = released-in k o.order ∙ ap (λ (n : ℕ). k.base + n) (ap raised_in o.client_is ∙ h.raised);
      taken_is =
          taken-covered k t.few j.released o.order o.legal (fits-in j words o.order t o.client_is) (follows-in j words o.order t o.server_is)
          ∙ (ap (covered j.released k (server_begins k)) o.server_is
          ∙ released-covered j.released k (server_begins k) j.server words t.short t.whole (subst (All (IsReleased j.released)) t.taken h.taken));
    }

-- a history is found by the judge
pub history_found : (j : BlockJudged) (words : List ℕ) → Tells j words → HasHistory j.shape j.client j.released j.server words j.hand → HasItsHistory j
history_found j words t h =
    let k = j.shape in
    let fit = fits-in j words h.order t h.client_is in
    let follow = follows-in j words h.order t h.server_is in
    let raised : raised_in j.client ≡ length j.released =
    (let a = released-in k h.order in let b = h.released_is in let c = ap raised_in h.client_is in omega (arith, a, b, c)) in
    let within : AllWithin k (length j.released) (server_begins k) j.server =
    subst (AllWithin k (length j.released) (server_begins k)) h.server_is (all-within k t.few (length j.released) h.order h.legal fit follow (let b = h.released_is in omega (arith, b))) in
    let is : covered j.released k (server_begins k) j.server ≡ words =
    sym (ap (covered j.released k (server_begins k)) h.server_is) ∙ (sym (taken-covered k t.few j.released h.order h.legal fit follow) ∙ h.taken_is) in
    record {
      ordered = record { order = h.order; legal = h.legal; client_is = h.client_is; server_is = h.server_is; hand_is = h.hand_is };
      raised = raised;
      taken = subst (All (IsReleased j.released)) (sym t.taken) (covered-released j.released k (server_begins k) j.server words t.short t.whole within is);
    }
