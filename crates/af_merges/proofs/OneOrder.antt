-- One order, step by step, and what stays of it when more events come.
use Rattle.std.proofs.Common.{◌≡◌, ◌∙◌, ◌+◌, Bool, if◌then◌else◌, List, [], ◌∷◌, ◌++◌, All, length, take, true, Option, Some, None, IfSome, slice_get, refl, sym, ap, subst, arith, length-append}
use Rattle.af_merges.proofs.Common.{All-contains, ClientEvent, Contains, HandEvent, ServerEvent, TrackPoint, option_and_then, take-append-le, take_all}
use Rattle.af_merges.specs.declared.search.Stage.{Stage}
use Rattle.af_merges.specs.declared.pieces.Search.{Search}
use Rattle.af_merges.specs.Stages.{Client, Lists, Who, begin, kept, keeps_mets, move, with_client, IsWhole, HasWalk, InBounds}
use Rattle.af_merges.specs.MergeSteps.{client_step}
use Rattle.af_merges.specs.Merges.{IsStart}
use Rattle.af_merges.specs.MergePieces.{IsFrontier, names_at_least, joined}
use Rattle.af_merges.specs.MergeSearch.{Knows, IsOnAnOrder, AreThere, SameLists, SameSearched, lists_in, searched}
use Rattle.af_merges.specs.OneOrder.{IsNextOf, LeadsTo}
use Rattle.af_merges.proofs.Levels.{walk-push, walk-append}
use Rattle.af_merges.proofs.StageCounts.{IsWithin}
use Rattle.af_merges.proofs.Extends.{lifts-walk, InBounds-first, InBounds-more}

pub is_next : (l : Lists) (w : Who) (m : Stage) (r : Option Stage) → r ≡ move l w m → IfSome r (IsNextOf l m)
is_next l w m None e = tt
is_next l w m (Some n) e = (w, sym e)

-- a look of the client leaves the point as it is
pub look_next : (l : Lists) (m : Stage) (e : ClientEvent) (k : Bool) (r : Option Stage) → slice_get l.client m.clients ≡ Some e → client_step m.point m.servers e ≡ Some m.point → k ≡ keeps_mets l.hand 0 (m.clients + 1) m.hands
    → r ≡ (if k then Some (with_client m m.point) else None) → r ≡ move l Client m
look_next l m e k r at step keeps is =
    is
    ∙ (ap (λ (b : Bool). if b then Some (with_client m m.point) else None) keeps
    ∙ sym (ap (λ (o : Option ClientEvent). option_and_then (λ e. option_and_then (λ p. kept l.hand (with_client m p)) (client_step m.point m.servers e)) o) at
    ∙ ap (λ (o : Option TrackPoint). option_and_then (λ p. kept l.hand (with_client m p)) o) step))

pub leads_more : (l : Lists) (m n k : Stage) → LeadsTo l m n → IsNextOf l n k → LeadsTo l m k
leads_more l m n k way next = (way.0 ++ next.0 ∷ [], walk-push (move l) way.0 next.0 m n k way.1 next.1)

-- each order begins at the beginning
pub order_first : (l : Lists) (from : TrackPoint) → IsStart from → IsOnAnOrder l from (begin from)
order_first l from p = record { way = ([], refl); bounds = InBounds-first l from p }

pub order_more : (l : Lists) (cs : List ClientEvent) (ss : List ServerEvent) (hs : List HandEvent) (from : TrackPoint) (m : Stage)
    → names_at_least (length l.client) hs ≡ true → IsOnAnOrder l from m → IsOnAnOrder (joined l cs ss hs) from m
order_more l cs ss hs from m names on =
    let none : IsWithin l (begin from) = record { clients = omega arith; servers = omega arith; hands = omega arith } in
    record {
      way = (on.way.0, lifts-walk l cs ss hs on.way.0 (begin from) m names none on.way.1);
      bounds = InBounds-more l cs ss hs m names on.bounds;
    }

order_on : (l : Lists) (from : TrackPoint) (m n : Stage) → IsOnAnOrder l from m → LeadsTo l m n → InBounds l n → IsOnAnOrder l from n
order_on l from m n on way bounds = record {
  way = (on.way.0 ++ way.0, walk-append (move l) on.way.0 way.0 (begin from) m n on.way.1 way.1);
  bounds = bounds;
}

pub ends_on : (l : Lists) (from : TrackPoint) (m : Stage) (end : Option Stage) → IsOnAnOrder l from m
    → IfSome end (LeadsTo l m) → IfSome end (InBounds l) → IfSome end (IsOnAnOrder l from)
ends_on l from m None on way bounds = tt
ends_on l from m (Some n) on way bounds = order_on l from m n on way bounds

-- what was found is on an order
pub found_on : (l : Lists) (from : TrackPoint) (found : List Stage) (end : Option Stage) → IfSome end (Contains found)
    → IsFrontier l from found → All (InBounds l) found → IfSome end (IsOnAnOrder l from)
found_on l from found None has frontier bounds = tt
found_on l from found (Some m) has frontier bounds = record { way = frontier.sound m has; bounds = All-contains (InBounds l) found m bounds has }

-- if there is no stage, nothing is said of it
pub at_no_end : (l : Lists) (from : TrackPoint) (end : Option Stage) → end ≡ None → IfSome end (IsOnAnOrder l from)
at_no_end l from end e = subst (λ (o : Option Stage). IfSome o (IsOnAnOrder l from)) (sym e) tt

-- the end of an order stays on one, whatever the client and the server did since, if the hand's new events let it
pub old_end : (l : Lists) (from : TrackPoint) (hs : List HandEvent) (end : Option Stage) → names_at_least (length l.client) hs ≡ true
    → IfSome end (IsOnAnOrder l from) → IfSome end (λ m. (cs : List ClientEvent) → (ss : List ServerEvent) → IsOnAnOrder (joined l cs ss hs) from m)
old_end l from hs None names on = tt
old_end l from hs (Some m) names on = λ cs ss. order_more l cs ss hs from m names on

-- an order that leads through all events is one of them all
pub walk_by_one : (l : Lists) (from : TrackPoint) (m : Stage) → IsOnAnOrder l from m → IsWhole l m → HasWalk l from
walk_by_one l from m on whole = (on.way.0, m, on.way.1, whole)

-- what was searched stays when more events come
pub searched_more : (old new : Search) (cs : List ClientEvent) (ss : List ServerEvent) (hs : List HandEvent)
    → lists_in new ≡ joined (lists_in old) cs ss hs → SameSearched old new → AreThere old → searched new ≡ searched old
searched_more old new cs ss hs more same there =
    let client : take new.clients new.client.items ≡ take old.clients old.client.items =
    (λ i. take (same.clients i) (more i).client) ∙ take-append-le old.clients old.client.items cs there.clients in
    let server : take new.servers new.server.items ≡ take old.servers old.server.items =
    (λ i. take (same.servers i) (more i).server) ∙ take-append-le old.servers old.server.items ss there.servers in
    let hand : take new.hands new.hand.items ≡ take old.hands old.hand.items =
    (λ i. take (same.hands i) (more i).hand) ∙ take-append-le old.hands old.hand.items hs there.hands in
    λ i. record { client = client i; server = server i; hand = hand i }

there_more : (old new : Search) (cs : List ClientEvent) (ss : List ServerEvent) (hs : List HandEvent)
    → lists_in new ≡ joined (lists_in old) cs ss hs → SameSearched old new → AreThere old → AreThere new
there_more old new cs ss hs more same there =
    let client : length new.client.items ≡ length (old.client.items ++ cs) = λ i. length (more i).client in
    let server : length new.server.items ≡ length (old.server.items ++ ss) = λ i. length (more i).server in
    let hand : length new.hand.items ≡ length (old.hand.items ++ hs) = λ i. length (more i).hand in
    record {
      clients = omega (arith, there.clients, same.clients, client, length-append old.client.items cs);
      servers = omega (arith, there.servers, same.servers, server, length-append old.server.items ss);
      hands = omega (arith, there.hands, same.hands, hand, length-append old.hand.items hs);
    }

-- what is so once the pieces have come
pub record AfterPieces (old new : Search) (cs : List ClientEvent) (ss : List ServerEvent) (hs : List HandEvent) : Type 0 where
  pub lists : lists_in new ≡ joined (lists_in old) cs ss hs
  pub searched : SameSearched old new
  pub end : (o : Option Stage) → IfSome o (λ m. (cs : List ClientEvent) → (ss : List ServerEvent) → IsOnAnOrder (joined (lists_in old) cs ss hs) old.from m)
      → IfSome o (IsOnAnOrder (lists_in new) new.from)

end_here : (l k : Lists) (from to : TrackPoint) (hs : List HandEvent) (cs : List ClientEvent) (ss : List ServerEvent) (o : Option Stage)
    → k ≡ joined l cs ss hs → to ≡ from
    → IfSome o (λ m. (cs : List ClientEvent) → (ss : List ServerEvent) → IsOnAnOrder (joined l cs ss hs) from m) → IfSome o (IsOnAnOrder k to)
end_here l k from to hs cs ss None a b on = tt
end_here l k from to hs cs ss (Some m) a b on =
    subst (λ (p : TrackPoint). IsOnAnOrder k p m) (sym b) (subst (λ (l : Lists). IsOnAnOrder l from m) (sym a) (on cs ss))

pub after_pieces : (old mid new : Search) (cs : List ClientEvent) (ss : List ServerEvent) (hs : List HandEvent)
    → SameLists old mid → SameSearched old mid → lists_in new ≡ joined (lists_in mid) cs ss hs → SameSearched mid new → AfterPieces old new cs ss hs
after_pieces old mid new cs ss hs same first more second =
    let lists = more ∙ (λ i. joined (record { client = (same.client i).items; server = (same.server i).items; hand = (same.hand i).items }) cs ss hs) in
    record {
      lists = lists;
      searched = record {
        from = second.from ∙ first.from;
        stages = second.stages ∙ first.stages;
        known = second.known ∙ first.known;
        clients = second.clients ∙ first.clients;
        servers = second.servers ∙ first.servers;
        hands = second.hands ∙ first.hands;
      };
      end = λ o on. end_here (lists_in old) (lists_in new) old.from new.from hs cs ss o lists (second.from ∙ first.from) on;
    }

-- what was known stays known when more events come
pub knows_more : (old new : Search) (cs : List ClientEvent) (ss : List ServerEvent) (hs : List HandEvent)
    → lists_in new ≡ joined (lists_in old) cs ss hs → SameSearched old new → IfSome new.end (IsOnAnOrder (lists_in new) new.from) → Knows old → Knows new
knows_more old new cs ss hs more same end knows =
    let was : new.known ≡ true → old.known ≡ true = λ k. sym same.known ∙ k in
    record {
      frontier = λ k.
          subst (λ (xs : List Stage). IsFrontier (searched new) new.from xs) (λ i. (sym same.stages i).items)
          (subst (λ (p : TrackPoint). IsFrontier (searched new) p old.open.items) (sym same.from)
          (subst (λ (l : Lists). IsFrontier l old.from old.open.items) (sym (searched_more old new cs ss hs more same (knows.there (was k)))) (knows.frontier (was k))));
      bounds = λ k.
          subst (λ (xs : List Stage). All (InBounds (searched new)) xs) (λ i. (sym same.stages i).items)
          (subst (λ (l : Lists). All (InBounds l) old.open.items) (sym (searched_more old new cs ss hs more same (knows.there (was k)))) (knows.bounds (was k)));
      there = λ k. there_more old new cs ss hs more same (knows.there (was k));
      end = end;
    }

-- the end of an order is no part of what was searched
pub same_but_end : (old new : Search) (end : Option Stage) → SameSearched old new → SameSearched old (record new { end = end })
same_but_end old new end same = record {
  from = same.from;
  stages = same.stages;
  known = same.known;
  clients = same.clients;
  servers = same.servers;
  hands = same.hands;
}

-- after a search of all events all are searched
pub searched_all : (s : Search) → s.clients ≡ length s.client.items → s.servers ≡ length s.server.items → s.hands ≡ length s.hand.items → searched s ≡ lists_in s
searched_all s c v h =
    let client = take_all s.clients s.client.items (omega (arith, c)) in
    let server = take_all s.servers s.server.items (omega (arith, v)) in
    let hand = take_all s.hands s.hand.items (omega (arith, h)) in
    λ i. record { client = client i; server = server i; hand = hand i }

pub knows_all : (s : Search) → s.clients ≡ length s.client.items → s.servers ≡ length s.server.items → s.hands ≡ length s.hand.items
    → IsFrontier (lists_in s) s.from s.open.items → All (InBounds (lists_in s)) s.open.items → IfSome s.end (Contains s.open.items) → Knows s
knows_all s c v h frontier bounds has = record {
  frontier = λ _. subst (λ (l : Lists). IsFrontier l s.from s.open.items) (sym (searched_all s c v h)) frontier;
  bounds = λ _. subst (λ (l : Lists). All (InBounds l) s.open.items) (sym (searched_all s c v h)) bounds;
  there = λ _. record { clients = omega (arith, c); servers = omega (arith, v); hands = omega (arith, h) };
  end = found_on (lists_in s) s.from s.open.items s.end has frontier bounds;
}
