-- What a look of the fast mixer did on a stream's proxy is told by its block, if each front that the proxy saw is its own.
use Rattle.std.proofs.Common.{List, [], ap, fold, subst, ℕ, ◌++◌, ◌∙◌, ◌∷◌, ◌≡◌}
use Rattle.af_told_law.proofs.Common.{AllSeeOwn, BlockTold, Listed, LooksBy, ServerEvent, ServerKept, ServerState, Shape, SlotEntry, TrackSlot, cycle_events, front_of, lawful_front, listed as told_list, server_begins, server_keeps, server_list}
use Rattle.af_server.specs.Slot.{listed}
use Rattle.af_told_law.specs.Tells.{TellsServer}
use Rattle.af_told_law.proofs.OwnFronts.{cycle_told}
use Rattle.af_told_law.specs.Deeds.{DeedTold, SawOwnOf, done_on}

-- if each front of a list is the server's own, so is each of its two parts
pub own_split : (k : Shape) (kept : ServerKept) (xs ys : List ServerEvent) → AllSeeOwn k kept (xs ++ ys) → AllSeeOwn k kept xs × AllSeeOwn k (fold (server_keeps k) kept xs) ys
own_split k kept [] ys h = (tt, h)
own_split k kept (x ∷ xs) ys h = let r = own_split k (server_keeps k kept x) xs ys h.1 in ((h.0, r.0), r.1)

-- the server that really was, by its block and its list
abbrev pub real_list : BlockTold → List ServerEvent → Listed
real_list b deed = record { shape = b.shape; events = deed }

-- what is listed of a proxy that did this
pub listed_real : (b : BlockTold) (deed : List ServerEvent) (s : ServerState) → TellsServer (done_on b deed) s → listed s ≡ real_list b deed
listed_real b deed s told = λ j. record { shape = told.shape j; events = told.events j }

module _ (asked : ℕ) (b : BlockTold) (deed : List ServerEvent) (slot : SlotEntry) where
  -- the proxy's list after the look
  module _ (s : ServerState) (told : TellsServer (done_on b deed) s) (events : List ServerEvent) (plays : TrackSlot asked (listed s) events slot) where
    pub looks_real : LooksBy asked (real_list b deed) slot plays.front
    looks_real = subst (λ (l : Listed). LooksBy asked l slot plays.front) (listed_real b deed s told) plays.looks

    pub list_grown : events ≡ deed ++ cycle_events asked (real_list b deed) slot plays.front
    list_grown = plays.list ∙ (λ j. told.events j ++ cycle_events asked (listed_real b deed s told j) slot plays.front)

  -- if each front seen is the proxy's own, its events are those by the front that the journal tells, and those by the front that a lawful block asks for
  module _ (did : DeedTold b deed) (front : ℕ) (looks : LooksBy asked (real_list b deed) slot front) (saw : SawOwnOf b.shape (deed ++ cycle_events asked (real_list b deed) slot front)) where
    parts : AllSeeOwn b.shape (server_begins b.shape) deed × AllSeeOwn b.shape (fold (server_keeps b.shape) (server_begins b.shape) deed) (cycle_events asked (real_list b deed) slot front)
    parts = own_split b.shape (server_begins b.shape) deed (cycle_events asked (real_list b deed) slot front) saw

    pub list_own : deed ≡ server_list b
    list_own = did.own parts.0

    both : (cycle_events asked (real_list b deed) slot front ≡ cycle_events asked (real_list b deed) slot (front_of asked (real_list b deed) slot)) × (cycle_events asked (real_list b deed) slot front ≡ cycle_events asked (real_list b deed) slot (lawful_front asked (real_list b deed) slot))
    both = cycle_told asked (real_list b deed) slot front looks parts.1

    pub front_own : cycle_events asked (real_list b deed) slot front ≡ cycle_events asked (told_list b) slot (front_of asked (told_list b) slot)
    front_own = both.0 ∙ ap (λ (es : List ServerEvent). cycle_events asked (real_list b es) slot (front_of asked (real_list b es) slot)) list_own

    pub front_lawful : cycle_events asked (real_list b deed) slot front ≡ cycle_events asked (told_list b) slot (lawful_front asked (told_list b) slot)
    front_lawful = both.1 ∙ ap (λ (es : List ServerEvent). cycle_events asked (real_list b es) slot (lawful_front asked (real_list b es) slot)) list_own
