-- The stream proxies that come home in a turn of the normal mixer tell their blocks, if it is known how they come.
use Rattle.std.proofs.Common.{◌≡◌, ℕ, ◌<◌, ◌&&◌, Bool, true, false, true≢false, if◌then◌else◌, is_some, List, length, Option, Some, None, refl, sym, ◌∙◌, arith}
use Rattle.af_told_law.proofs.Common.{Home, Lent, Returning, Run, ServerState, Session, SessionState, Turn, after_ack, at, in_hand, is_home, is_returning, kept_of, slot_number, some_at, told_at, track_at}
use Rattle.af_life.specs.declared.kept.Holder.{Holder}
use Rattle.af_told_law.specs.Comers.{ComersTell}
use Rattle.af_told_law.specs.Tells.{Tells, TellsAway, TellsServer, held_slot, is_coming, items_given, none_comes}
use Rattle.af_told_law.specs.Deeds.{Deeds, done_on}

-- How the proxy of a returning track comes home with these items: the observer doesn't hold it, and it comes with the items that were given back, or was in the mutator's hand before
pub record ComesBy (x : SessionState) (i : ℕ) (back : List (Option ServerState)) : Type 0 where
  pub off : held_slot x.fast i ≡ None
  pub came : is_some (at back (slot_number (track_at x.normal.tracks i))) ≡ true → (is_coming x.normal x.fast ≡ true) × (at back (slot_number (track_at x.normal.tracks i)) ≡ at (items_given x.fast) (slot_number (track_at x.normal.tracks i)))
  pub stayed : is_some (at back (slot_number (track_at x.normal.tracks i))) ≡ false → none_comes x.normal x.fast (slot_number (track_at x.normal.tracks i))
  pub there : is_some (in_hand back x.normal.mutator.returned (slot_number (track_at x.normal.tracks i))) ≡ true

-- what is there if one of two is taken, by whether the first is there
either_there : {X : Type 0} (o p : Option X) → is_some (if is_some o then o else p) ≡ true → (b : Bool) → is_some o ≡ b → (t : X) × ((if is_some o then o else p) ≡ Some t)
either_there (Some t) p there b is = (t, refl)
either_there None (Some t) there b is = (t, refl)
either_there None None there b is = absurd (true≢false (sym there))

returning_gone : (a : Bool) (h : Holder) → (a && is_returning h) ≡ true → is_home h ≡ false
returning_gone true Home e = absurd (true≢false (sym e))
returning_gone true Lent e = absurd (true≢false (sym e))
returning_gone true Returning e = refl
returning_gone false h e = absurd (true≢false (sym e))

pub comers_told : (s : Session) (run : Run) (d : Deeds) (x : SessionState) (e : Turn) (back : List (Option ServerState)) → Tells s run d x → length x.clients ≡ length x.normal.tracks
    → ((i : ℕ) → i < length x.normal.tracks → (e.ack && is_returning (track_at x.normal.tracks i).holder) ≡ true → is_home (track_at (after_ack e.ack (kept_of x.normal)).tracks i).holder ≡ true → ComesBy x i back) → ComersTell run d x.normal e back
comers_told s run d x e back told count how i low returns home =
    let k : ℕ = slot_number (track_at x.normal.tracks i) in
    let by : ComesBy x i back = how i low returns home in
    let here = either_there (at back k) (at x.normal.mutator.returned k) by.there (is_some (at back k)) refl in
    let client = some_at x.clients i (omega (arith, low, count)) in
    let away : TellsAway x.normal x.fast i k (done_on (told_at run i).stream (d.streams i)) = (told.tracks i client.0 client.1).stream.away (returning_gone e.ack (track_at x.normal.tracks i).holder returns) in
    (here.0, here.1, by_back by away here.0 (is_some (at back k)) refl here.1)
  where
    slot : ℕ
    slot = slot_number (track_at x.normal.tracks i)

    by_back : ComesBy x i back → TellsAway x.normal x.fast i slot (done_on (told_at run i).stream (d.streams i)) → (t : ServerState) (b : Bool) → is_some (at back slot) ≡ b → (if b then at back slot else at x.normal.mutator.returned slot) ≡ Some t → TellsServer (done_on (told_at run i).stream (d.streams i)) t
    by_back by away t true is found = let came = by.came is in away.comes by.off came.0 t (sym came.1 ∙ found)
    by_back by away t false is found = away.back by.off (by.stayed is) t found
