-- What the report says of a server that dropped nothing: the frames that it took, and that it is open.
use Rattle.std.proofs.Common.{◌≡◌, ℕ, ◌+◌, min, is_some, true, false, true≢false, Option, List, [], ◌∷◌, fold, refl, sym, ap, ◌∙◌, arith}
use Rattle.af_enough_law.proofs.Common.{BlockTold, FastTrack, Run, ServerEvent, ServerKept, Shape, both_first, both_right, drops_none, keeps_all, kept, listed, server_begins, server_keeps, server_list, told_at}
use Rattle.af_base.specs.declared.event.ServerEvent.TheVariants as server
use Rattle.af_enough_law.specs.Seen.{taken_by, frames_taken}
use Rattle.af_enough_law.proofs.FastWords.{IsOpen, IsTold, slot_told}

keeps_taken : (k : Shape) (s : ServerKept) (e : ServerEvent) → keeps_all e ≡ true → (server_keeps k s e).consumed ≡ s.consumed + taken_by e
keeps_taken k s (server.Drop to) h = absurd (true≢false (sym h))
keeps_taken k s (server.Take count) h = refl
keeps_taken k s _ h = omega arith

kept_taken : (k : Shape) (s : ServerKept) (es : List ServerEvent) → drops_none es ≡ true → (fold (server_keeps k) s es).consumed ≡ s.consumed + frames_taken es
kept_taken k s [] none = omega arith
kept_taken k s (e ∷ es) none =
    let now = keeps_taken k s e (both_first (keeps_all e) (drops_none es) none) in
    let rest = kept_taken k (server_keeps k s e) es (both_right (keeps_all e) (drops_none es) none) in
    omega arith

-- a server that dropped nothing consumed what it took
pub open_consumed : (b : BlockTold) → IsOpen b → (kept (listed b)).consumed ≡ frames_taken (server_list b)
open_consumed b o = let a = kept_taken b.shape (server_begins b.shape) (server_list b) o.none in let z : 0 + frames_taken (server_list b) ≡ frames_taken (server_list b) = omega arith in a ∙ z

-- what the report says of a server that is open
pub record ToldOpen (run : Run) (track i : ℕ) : Type 0 where
  pub consumed : (slot_told run i).consumed ≡ min 9223372036854775807 (frames_taken (server_list (told_at run track).stream))
  pub shut : (slot_told run i).shut ≡ false

pub told_open : (run : Run) (track i : ℕ) (item : FastTrack) → IsTold run track i item → IsOpen (told_at run track).stream → ToldOpen run track i
told_open run track i item t o = record {
  consumed = t.consumed ∙ ap (min 9223372036854775807) (open_consumed (told_at run track).stream o);
  shut = t.shut ∙ ap (λ (x : Option (ℕ × ℕ)). is_some x) o.unshut;
}
