-- The stream proxies that come home in a turn of the normal mixer that goes on come as the queue's history shows, and tell their blocks.
use Rattle.std.proofs.Common.{◌≡◌, ◌≢◌, ⊎_elim, ℕ, ◌<◌, ◌&&◌, not, Bool, true, false, true≢false, if◌then◌else◌, is_some, List, [], ◌∷◌, ◌++◌, length, Option, Some, None, refl, sym, ap, subst, ◌∙◌, arith}
use Rattle.af_told_law.proofs.Common.{AreTogether, FastState, HasStateHistory, Home, IsLegal, Links, NormalKept, NormalState, Outside, Run, ServerState, Session, SessionState, TrackKept, Turn, after_ack, and_parts, at, away_slot, carries, cases_eq, comes_home, home_stream, in_hand, is_home, is_returning, kept_of, returning_away, same_Some, slot_for, slot_number, slot_of, some_at, stream_at, told_at, track_at, turn_of, welcomed, welcomed_at}
use Rattle.af_model.specs.declared.states.MutatorEvent.TheVariants as mutator
use Rattle.af_model.specs.declared.states.ObserverEvent.TheVariants as observer
use Rattle.af_told_law.specs.Between.{StandsBefore}
use Rattle.af_told_law.specs.Comers.{ComersTell}
use Rattle.af_told_law.proofs.ComersTold.{ComesBy, comers_told}
use Rattle.af_told_law.proofs.Places.{StreamsGo}
use Rattle.af_told_law.specs.Tells.{Tells, TellsServer, held_slot, is_coming, items_given}
use Rattle.af_told_law.proofs.AckPlaces.{none_by}
use Rattle.af_told_law.proofs.LooksTurned.{all_polled, back_coming, back_given, back_same, coming_parts}
use Rattle.af_told_law.proofs.SlotHeld.{found_carries, found_track}
use Rattle.af_told_law.specs.Deeds.{Deeds, done_on}

-- what comes home the last state doesn't carry
comes_off : (last : FastState) (s : TrackKept) → is_returning s.holder ≡ true → is_home (welcomed last s).holder ≡ true → carries last (slot_number s) ≡ false
unfolding welcomed
comes_off last s returning home = by_carried (carries last (slot_number s)) refl
  where
    by_carried : (b : Bool) → carries last (slot_number s) ≡ b → carries last (slot_number s) ≡ false
    by_carried false is = is
    by_carried true is =
        let stays : comes_home last s ≡ false = (λ j. returning j && not (is j)) in
        absurd (true≢false (sym home ∙ ap (λ (b : Bool). is_home (if b then record s { holder = Home } else s).holder) stays ∙ returning_away s.holder returning))

-- what the last state doesn't carry comes home
off_comes : (last : FastState) (s : TrackKept) → is_returning s.holder ≡ true → carries last (slot_number s) ≡ false → is_home (welcomed last s).holder ≡ true
unfolding welcomed
off_comes last s returning off = let comes : comes_home last s ≡ true = (λ j. returning j && not (off j)) in ap (λ (b : Bool). is_home (if b then record s { holder = Home } else s).holder) comes

module _ (links : Links) (x : SessionState) (n : NormalState) (o : Outside) (legal : IsLegal o x.normal n) (runs : (turn_of n.entry).ended ≡ false) (goes : StreamsGo o x.normal n (turn_of n.entry)) (before : AreTogether links x) (stands : StandsBefore x) (c d : ℕ)
    (later : HasStateHistory x.normal.mutator.past.first (n.mutator.past.events ++ mutator.Learn c ∷ []) (x.fast.observer.past.events ++ observer.Learn d ∷ [])) where
  abbrev e : Turn
  e = turn_of n.entry

  abbrev k : NormalKept
  k = kept_of x.normal

  -- the observer has a track only if the last state has it, once that is acknowledged
  not_held : (i : ℕ) → e.ack ≡ true → carries k.last (slot_number (track_at k.tracks i)) ≡ false → (found : Option ℕ) → slot_for x.fast.observer.past.state i ≡ found → held_slot x.fast i ≡ None
  not_held i ack off None none = none
  not_held i ack off (Some j) found =
      let held = found_carries x.fast.observer.past.state i j found in
      let track = found_track x.fast.observer.past.state i j found in
      ⊎_elim
      (λ (zero_is : x.fast.observer.past.number ≡ 0). absurd (true≢false (sym held.1 ∙ before.fast.0.begins zero_is j held.0)))
      (λ (some : x.fast.observer.past.number ≢ 0).
      let all = all_polled x n o legal runs goes before.fast.0 stands.step stands.history c d later ack in
      let state : x.fast.observer.past.state ≡ k.last = stands.step.same (omega (arith, some, all)) all in
      let carried : carries k.last j ≡ true = ap (λ (y : FastState). carries y j) (sym state) ∙ held.1 in
      let leads = stands.leads.last j held.0 carried in
      let same : slot_number (track_at k.tracks i) ≡ j = ap (λ (l : ℕ). slot_number (track_at k.tracks l)) (sym track ∙ ap (λ (y : FastState). (slot_of y j).track) state) ∙ leads.1 in
      absurd (true≢false (sym carried ∙ ap (carries k.last) (sym same) ∙ off)))
      (cases_eq x.fast.observer.past.number 0)

  pub comes_by : (i : ℕ) → i < length x.normal.tracks → (e.ack && is_returning (track_at x.normal.tracks i).holder) ≡ true → is_home (track_at (after_ack e.ack k).tracks i).holder ≡ true → ComesBy x i goes.back
  comes_by i low returns home = record {
    off = not_held i ack last_off (slot_for x.fast.observer.past.state i) refl;
    came = (λ some. by_item (at goes.back slot) refl some);
    stayed = (λ none coming. ap (λ (is : List (Option ServerState)). at is slot) (sym (back_given x n o legal runs goes before.fast.0 stands.step stands.history c d later ack
        (coming_parts x n o legal runs goes before.fast.0 stands.step stands.history c d later coming).1)) ∙ none_by (at goes.back slot) none);
    there = goes.stands.there ack slot (away_slot k before.normal.tied.sound i gone).1 (before.normal.tied.out.of_track i gone) ((before.normal.tied.sound.drafted i).returning returning) last_off;
  }
    where
      slot : ℕ
      slot = slot_number (track_at x.normal.tracks i)

      ack : e.ack ≡ true
      ack = (and_parts e.ack (is_returning (track_at x.normal.tracks i).holder) returns).0

      returning : is_returning (track_at x.normal.tracks i).holder ≡ true
      returning = (and_parts e.ack (is_returning (track_at x.normal.tracks i).holder) returns).1

      gone : is_home (track_at x.normal.tracks i).holder ≡ false
      gone = returning_away (track_at x.normal.tracks i).holder returning

      last_off : carries k.last (slot_number (track_at k.tracks i)) ≡ false
      last_off = comes_off k.last (track_at k.tracks i) returning
          (ap (λ (s : TrackKept). is_home s.holder) (sym (welcomed_at k.last k.tracks i)) ∙ ap (λ (b : Bool). is_home (track_at (after_ack b k).tracks i).holder) (sym ack) ∙ home)

      by_item : (item : Option ServerState) → at goes.back slot ≡ item → is_some (at goes.back slot) ≡ true → (is_coming x.normal x.fast ≡ true) × (at goes.back slot ≡ at (items_given x.fast) slot)
      by_item None is some = absurd (true≢false (sym some ∙ ap is_some is))
      by_item (Some p) is some = let came = back_coming x n o legal runs goes before.fast.0 stands.step stands.history c d later slot p is in (came.0, is ∙ sym came.1)

  -- the proxies that come home are told
  module _ (s : Session) (run : Run) {deeds : Deeds} (told : Tells s run deeds x) where
    pub comers_tell : ComersTell run deeds x.normal e goes.back
    comers_tell = comers_told s run deeds x e goes.back told before.count comes_by

    pub comers_legal : ComersTell run deeds x.normal e legal.lists.back
    comers_legal = subst (ComersTell run deeds x.normal e) (back_same x n o legal runs goes before.fast.0 stands.step stands.history c d later) comers_tell

    -- each proxy that is home in the turn, of a track that is home once the acknowledgement was seen, tells its block
    pub home_told : (i : ℕ) (h : ServerState) → i < length x.normal.tracks → home_stream e.ack k goes.back x.normal i ≡ Some h → is_home (track_at (after_ack e.ack k).tracks i).holder ≡ true → TellsServer (done_on (told_at run i).stream (deeds.streams i)) h
    home_told i h low is home = by_back (e.ack && is_returning (track_at x.normal.tracks i).holder) refl is
      where
        by_back : (b : Bool) → (e.ack && is_returning (track_at x.normal.tracks i).holder) ≡ b
            → (if b then in_hand goes.back x.normal.mutator.returned (slot_number (track_at x.normal.tracks i)) else stream_at x.normal.streams i) ≡ Some h → TellsServer (done_on (told_at run i).stream (deeds.streams i)) h
        by_back true returns found = let here = comers_tell i low returns home in subst (TellsServer (done_on (told_at run i).stream (deeds.streams i))) (same_Some here.0 h (sym here.1 ∙ found)) here.2
        by_back false stays found = let client = some_at x.clients i (let count = before.count in omega (arith, low, count)) in (told.tracks i client.0 client.1).stream.home h found

    -- each proxy that is home in the turn tells its block, as a returning proxy is in hand only if the last state doesn't carry its slot
    pub all_home_told : (i : ℕ) (h : ServerState) → i < length x.normal.tracks → home_stream e.ack k goes.back x.normal i ≡ Some h → TellsServer (done_on (told_at run i).stream (deeds.streams i)) h
    all_home_told i h low is = by_back (e.ack && is_returning (track_at x.normal.tracks i).holder) refl is
      where
        slot : ℕ
        slot = slot_number (track_at x.normal.tracks i)

        off_by : is_home (track_at x.normal.tracks i).holder ≡ false → (item : Option ServerState) → at goes.back slot ≡ item → in_hand goes.back x.normal.mutator.returned slot ≡ Some h → carries k.last slot ≡ false
        off_by gone None none found = goes.stands.rests slot (away_slot k before.normal.tied.sound i gone).1
            (ap is_some (ap (λ (item : Option ServerState). if is_some item then item else at x.normal.mutator.returned slot) (sym none) ∙ found))
        off_by gone (Some p) came found = goes.stands.comes slot (away_slot k before.normal.tied.sound i gone).1 (ap is_some came)

        by_back : (b : Bool) → (e.ack && is_returning (track_at x.normal.tracks i).holder) ≡ b
            → (if b then in_hand goes.back x.normal.mutator.returned (slot_number (track_at x.normal.tracks i)) else stream_at x.normal.streams i) ≡ Some h → TellsServer (done_on (told_at run i).stream (deeds.streams i)) h
        by_back true returns found =
            let parts = and_parts e.ack (is_returning (track_at x.normal.tracks i).holder) returns in
            let off : carries k.last slot ≡ false = off_by (returning_away (track_at x.normal.tracks i).holder parts.1) (at goes.back slot) refl found in
            home_told i h low is (ap (λ (b : Bool). is_home (track_at (after_ack b k).tracks i).holder) parts.0 ∙ ap (λ (s : TrackKept). is_home s.holder) (welcomed_at k.last k.tracks i) ∙ off_comes k.last (track_at k.tracks i) parts.1 off)
        by_back false stays found = let client = some_at x.clients i (let count = before.count in omega (arith, low, count)) in (told.tracks i client.0 client.1).stream.home h found
