-- Whether a server was ever shut, as far as its list says: a report, and what a mixer hears, say no more. In a history it never was.
use Rattle.std.proofs.Common.{◌≡◌, ℕ, ◌≤◌, ◌||◌, Bool, true, false, is_some, fold, List, [], ◌∷◌, ◌++◌, None, refl, sym, ap, ◌∙◌, subst, arith}
use Rattle.af_journal_laws.proofs.Common.{AllFit, AllFollowRear, BlockTold, HasBlockHistory, IsLegal, IsSpelled, Measure, Moment, ServerEvent, ServerKept, Shape, all_fit, by_client, by_hand, by_server, client_begins, client_list, client_of, fit_split, or_assoc, rear_split, sees_in, server_begins, server_keeps, server_kept, server_list, server_of, start}
use Rattle.std.proofs.lemmas.Grind.{fold-append}

-- after some of these events the server is shut
abbrev pub ever_shut : Shape → ServerKept → List ServerEvent → Bool
ever_shut k kept [] = is_some kept.shut
ever_shut k kept (e ∷ es) = is_some kept.shut || ever_shut k (server_keeps k kept e) es

-- 1 if a server was shut, else 0
abbrev pub mark : Bool → ℕ
mark true = 1
mark false = 0

or_twice : (b c : Bool) → (b || c) ≡ (b || (b || c))
or_twice true c = refl
or_twice false c = refl

or_self : (b : Bool) → b ≡ (b || b)
or_self true = refl
or_self false = refl

ever_more : (k : Shape) (kept : ServerKept) (es more : List ServerEvent) → ever_shut k kept (es ++ more) ≡ (ever_shut k kept es || ever_shut k (fold (server_keeps k) kept es) more)
ever_more k kept [] [] = or_self (is_some kept.shut)
ever_more k kept [] (e ∷ more) = or_twice (is_some kept.shut) (ever_shut k (server_keeps k kept e) more)
ever_more k kept (e ∷ es) more =
    let next : ServerKept = server_keeps k kept e in
    ap (λ (b : Bool). is_some kept.shut || b) (ever_more k next es more) ∙ or_assoc (is_some kept.shut) (ever_shut k next es) (ever_shut k (fold (server_keeps k) next es) more)

mark_or : (b c : Bool) → mark b ≤ mark (b || c)
mark_or true c = omega arith
mark_or false true = omega arith
mark_or false false = omega arith

mark_behind : (b c : Bool) → mark c ≤ mark (b || c)
mark_behind true true = omega arith
mark_behind true false = omega arith
mark_behind false c = omega arith

pub ever_grows : (k : Shape) (es more : List ServerEvent) → mark (ever_shut k (server_begins k) es) ≤ mark (ever_shut k (server_begins k) (es ++ more))
ever_grows k es more =
    subst (λ (b : Bool). mark (ever_shut k (server_begins k) es) ≤ mark b) (sym (ever_more k (server_begins k) es more))
    (mark_or (ever_shut k (server_begins k) es) (ever_shut k (fold (server_keeps k) (server_begins k) es) more))

-- a server that is shut now was shut after some of its events
pub now_ever : (k : Shape) (kept : ServerKept) (es : List ServerEvent) → mark (is_some (fold (server_keeps k) kept es).shut) ≤ mark (ever_shut k kept es)
now_ever k kept [] = omega arith
now_ever k kept (e ∷ es) = let a = now_ever k (server_keeps k kept e) es in let b = mark_behind (is_some kept.shut) (ever_shut k (server_keeps k kept e) es) in omega (arith, a, b)

pub mark_none : (b : Bool) → mark b ≤ 0 → b ≡ false
mark_none true low = absurd (omega (arith, low))
mark_none false low = refl

-- the measure of whether a server was shut
abbrev pub shut : Measure
shut = record {
  of_list = λ k es. mark (ever_shut k (server_begins k) es);
  of_report = λ r. mark r.shut;
  of_heard = λ h. mark h.known.shut;
  grows = ever_grows;
  none = refl;
  nothing = refl;
  reported = λ asked generation answer s before. now_ever s.shape (server_begins s.shape) s.events;
  own = λ s. now_ever s.shape (server_begins s.shape) s.events;
  home = λ h t. refl;
  away = λ r looks. refl;
}

-- ## In a history

module _ (k : Shape) (few : k.frames ≤ 65536) where
  one_more : (es : List ServerEvent) (e : ServerEvent) → ever_shut k (server_begins k) es ≡ false → (server_kept k es).shut ≡ None → (server_kept k (es ++ e ∷ [])).shut ≡ None → ever_shut k (server_begins k) (es ++ e ∷ []) ≡ false
  one_more es e before now next =
      let last : (server_keeps k (server_kept k es) e).shut ≡ None = ap (λ (x : ServerKept). x.shut) (sym (fold-append (server_keeps k) (server_begins k) es (e ∷ []))) ∙ next in
      ever_more k (server_begins k) es (e ∷ []) ∙ (λ i. before i || (is_some (now i) || is_some (last i)))

  never_in : (order : List Moment) → IsLegal (start k) order → AllFit k (client_begins k.base) None (client_of order) → AllFollowRear k false (server_of order) → ever_shut k (server_begins k) (server_of order) ≡ false
  never_in [] h fit follow = refl
  never_in (by_client e ∷ order) h fit follow = never_in order h.1 (fit_split k (client_begins k.base) None (client_of order) (e ∷ []) fit).0 follow
  never_in (by_server e ∷ order) h fit follow =
      let before = rear_split k false (server_of order) (e ∷ []) follow in
      one_more (server_of order) e (never_in order h.1 fit before.0) (sees_in k few order h.1 fit before.0).unshut (sees_in k few (by_server e ∷ order) h fit follow).unshut
  never_in (by_hand e ∷ order) h fit follow = never_in order h.1 fit follow

-- the server of a block that has a history was never shut
pub server_never_shut : (b : BlockTold) → b.shape.frames ≤ 65536 → HasBlockHistory b → IsSpelled b.shape (client_list b) → AllFollowRear b.shape false (server_list b) → ever_shut b.shape (server_begins b.shape) (server_list b) ≡ false
server_never_shut b few h spelled follow =
    let fit : AllFit b.shape (client_begins b.shape.base) None (client_of h.order) = subst (AllFit b.shape (client_begins b.shape.base) None) (sym h.client_is) (all_fit b.shape (client_list b) spelled) in
    ap (ever_shut b.shape (server_begins b.shape)) (sym h.server_is) ∙ never_in b.shape few h.order h.legal fit (subst (AllFollowRear b.shape false) (sym h.server_is) follow)
