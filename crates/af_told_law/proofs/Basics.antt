-- Basic lemmas that several files here, and of the crates above, cite.
use Rattle.std.proofs.Common.{List, None, Option, Some, [], ap, arith, false, fold, length, refl, suc, sym, true, true≢false, zero, ℕ, ◌++◌, ◌<◌, ◌∷◌, ◌≡◌}
use Rattle.af_told_law.proofs.Common.{AllSeeOwn, BlockTold, Busy, Clean, Cycle, CycleEntry, EntrySeen, FastState, Push, Pushed, ServerEvent, ServerKept, ServerState, Session, Shape, TrackTold, append_cancel_left, at, client_list, cycle_frames, in_queue, is_mixed, is_pushed, mixed_track, none-some, played, server_begins, server_keeps, slice_index_or}
use Rattle.af_base.specs.declared.event.ServerEvent.TheVariants as server
use Rattle.af_base.specs.declared.log.Cycle.TheVariants as cycle
use Rattle.af_model.specs.Cycles.{is_exit}
use Rattle.af_runs.specs.Runs.{slot_playing}
use Rattle.af_told_law.specs.Deeds.{SawOwnOf}

-- the list of a server that met its client
abbrev pub met_deed : BlockTold → List ServerEvent → List ServerEvent
met_deed b deed = deed ++ server.Learn (length (client_list b)) ∷ []

pub commands_stay : (s : Session) (x : FastState) (e : EntrySeen) (n : ℕ) (t : TrackTold) → (mixed_track s x e n t).commands ≡ t.commands
commands_stay s x e n t = by_slot (slot_playing x e.entry n)
  where
    by_slot : (o : Option ℕ) → (elim o as (λ o. TrackTold) [ None ↦ t | Some k ↦ record t { stream = played (cycle_frames s) e k t.stream } ]).commands ≡ t.commands
    by_slot None = refl
    by_slot (Some k) = refl

pub item_within : (items : List (Option ServerState)) (k : ℕ) (t : ServerState) → at items k ≡ Some t → k < length items
item_within [] k t e = absurd (none-some _ e)
item_within (o ∷ items) zero t e = omega arith
item_within (o ∷ items) (suc k) t e = let l : k < length items = item_within items k t e in omega arith

pub no_exit : (c : Cycle) → is_mixed c ≡ true → is_exit c ≡ false
no_exit cycle.Exit e = absurd (true≢false (sym e))
no_exit _ e = refl

-- if each front of two parts of a list is the server's own, so is each of the list
pub own_join : (k : Shape) (kept : ServerKept) (xs ys : List ServerEvent) → AllSeeOwn k kept xs → AllSeeOwn k (fold (server_keeps k) kept xs) ys → AllSeeOwn k kept (xs ++ ys)
own_join k kept [] ys a b = b
own_join k kept (x ∷ xs) ys a b = (a.0, own_join k (server_keeps k kept x) xs ys a.1 b)

-- a meeting sees no front
pub own_met : (b : BlockTold) (deed : List ServerEvent) → SawOwnOf b.shape deed → SawOwnOf b.shape (met_deed b deed)
own_met b deed saw = own_join b.shape (server_begins b.shape) deed (server.Learn (length (client_list b)) ∷ []) saw (tt, tt)

-- the last of two lists that are the same up to it
pub same_last : (xs : List CycleEntry) (a b : CycleEntry) → xs ++ a ∷ [] ≡ xs ++ b ∷ [] → a ≡ b
same_last xs a b is = ap (λ (l : List CycleEntry). slice_index_or l 0 a) (append_cancel_left xs (a ∷ []) (b ∷ []) is)

-- what isn't pushed stays in the queue
pub unpushed : (push : Push) (sent pending : List (Option ServerState)) → is_pushed push ≡ false → in_queue push sent pending ≡ pending
unpushed (Pushed number) sent pending e = absurd (true≢false e)
unpushed Clean sent pending e = refl
unpushed (Busy seen expected) sent pending e = refl

pub went : (push : Push) (sent pending : List (Option ServerState)) → is_pushed push ≡ true → in_queue push sent pending ≡ sent
went (Pushed number) sent pending e = refl
went Clean sent pending e = absurd (true≢false (sym e))
went (Busy seen expected) sent pending e = absurd (true≢false (sym e))
