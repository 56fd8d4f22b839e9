-- What a mix leaves of a stream is told by the run's mix: if each front that its proxy saw is its own, what is told is what it did, and else each front by which it answers so leaves the same.
use Rattle.std.proofs.Common.{◌≡◌, ℕ, zero, suc, ◌+◌, ◌<◌, ◌==◌, ◌&&◌, not, nat_lt, Bool, true, false, true≢false, if◌then◌else◌, find, is_some, map, List, [], ◌∷◌, ◌++◌, length, Option, Some, None, refl, sym, ap, ◌∙◌, subst, arith, append-nil}
use Rattle.af_told_law.proofs.Common.{AreTogether, BlockTold, EntrySeen, FastState, Links, LooksBy, MixerState, NormalState, Observes, ServerEvent, ServerState, Session, SessionState, SlotPlayed, StartsWith, StreamNames, Takes, TrackTold, at, carries, cycle_events, cycle_frames, entry_slot, front_of, is_home, is_mixed, is_shown, is_slot_of, item_at, mixed_track, none-some, observed, or_else, packed_word, played, range_end, range_with_len, shown_if, slot_below, slot_for, slot_number, slot_of, slots, stream_at, track_at}
use Rattle.af_told_law.specs.Leads.{LeadAway}
use Rattle.af_runs.specs.Blocks as told_of
use Rattle.af_runs.specs.Runs.{shows_slot}
use Rattle.af_runs.specs.Runs as run_of
use Rattle.af_told_law.specs.Alike.{TellAlike}
use Rattle.af_told_law.specs.Tells.{TellsAway, TellsServer, TellsStream, held_slot, is_coming, is_going, items_given, mutated_by}
use Rattle.af_told_law.proofs.MixSaw.{SawTold}
use Rattle.af_told_law.proofs.KeptAlike.{cycle_told_alike}
use Rattle.af_told_law.proofs.MixLooks.{front_own, list_grown, list_own, looks_real, real_list}
use Rattle.af_told_law.proofs.MixSlots.{shape_same}
use Rattle.af_told_law.proofs.SlotHeld.{found_carries, found_track}
use Rattle.af_told_law.proofs.TrackMeets.{none_there, there_is}
use Rattle.af_told_law.specs.Deeds.{DeedTold, SawOwnOf, ServerDone, done_on}
use Rattle.af_enough_law.proofs.MoreTold.{server-hand, server-server}

abbrev Watching : Type 0
Watching = Observes ServerState StreamNames

-- ## The slot by which the run finds a track

find_end : (p : ℕ → Bool) (xs : List ℕ) (n : ℕ) → find p (xs ++ n ∷ []) ≡ or_else (find p xs) (if p n then Some n else None)
find_end p [] n = refl
find_end p (x ∷ xs) n = by_first (p x) (find_end p xs n)
  where
    by_first : (b : Bool) → find p (xs ++ n ∷ []) ≡ or_else (find p xs) (if p n then Some n else None)
        → (if b then Some x else find p (xs ++ n ∷ [])) ≡ or_else (if b then Some x else find p xs) (if p n then Some n else None)
    by_first true rest = refl
    by_first false rest = rest

first_found : (p : ℕ → Bool) (x : FastState) (i n : ℕ) → ((k : ℕ) → k < n → p k ≡ is_slot_of x i k) → find p (range_with_len 0 n) ≡ slot_below x i n
first_found p x i zero same = refl
first_found p x i (suc n) same =
    ap (find p) (range_end 0 n ∙ ap (λ (k : ℕ). range_with_len 0 n ++ k ∷ []) (let z : 0 + n ≡ n = omega arith in z))
    ∙ find_end p (range_with_len 0 n) n
    ∙ (λ j. or_else (first_found p x i n (λ k low. same k (omega (arith, low))) j) (if same n (omega arith) j then Some n else None))

-- ## The list of a stream's proxy after a mix

-- the list of an item that is there, or else the list before
abbrev pub list_of : Option ServerState → List ServerEvent → List ServerEvent
list_of None deed = deed
list_of (Some p) deed = p.pass.part.events

-- the list of the item in this slot
abbrev pub list_by : Option ℕ → MixerState → List ServerEvent → List ServerEvent
list_by None g deed = deed
list_by (Some k) g deed = list_of (at g.observer.items k) deed

abbrev pub list_mixed : FastState → MixerState → ℕ → List ServerEvent → List ServerEvent
list_mixed state g i deed = list_by (slot_for state i) g deed

-- A stream after a mix: its proxy is told by its list then, which goes on from the one before
pub record StreamMixed (m : NormalState) (g : MixerState) (i : ℕ) (b : BlockTold) (deed after : List ServerEvent) : Type 0 where
  pub told : TellsStream m g i b after
  pub did : DeedTold b after
  pub goes : StartsWith after deed

module _ (links : Links) (x : SessionState) (g : MixerState) (together : AreTogether links x) (after : AreTogether links (record x { fast = g })) (e : EntrySeen) (s : Session) (frames : x.fast.frames ≡ cycle_frames s)
    (current : x.fast.observer.current ≡ Some x.fast.observer.past.state) (mixed : is_mixed e.entry.cycle ≡ true) (takes : Takes x.fast g e.entry) (saw : SawTold x.fast g e) (lead : LeadAway x.fast.observer.past.state x.normal.tracks) where
  abbrev state : FastState
  state = x.fast.observer.past.state

  slot_played : (k : ℕ) → k < slots → carries state k ≡ true → SlotPlayed x.fast.frames (at x.fast.observer.items k) (at g.observer.items k) g.log.frames (entry_slot e.entry k)
  slot_played k low carried = takes.tracks mixed state current k low carried

  plays_is : (i k : ℕ) → k < slots → (shows_slot state e.entry k && ((slot_of state k).track == i)) ≡ is_slot_of state i k
  plays_is i k low = by_carried (carries state k) refl
    where
      by_carried : (c : Bool) → carries state k ≡ c → (shows_slot state e.entry k && ((slot_of state k).track == i)) ≡ is_slot_of state i k
      by_carried true is =
          let shown : is_shown (entry_slot e.entry k).seen ≡ true = shown_if (entry_slot e.entry k).seen (slot_played k low is).plays.looks.0 in
          (λ j. (is j && shown j) && ((slot_of state k).track == i)) ∙ sym (λ j. is j && ((slot_of state k).track == i))
      by_carried false is = (λ j. (is j && is_shown (entry_slot e.entry k).seen) && ((slot_of state k).track == i)) ∙ sym (λ j. is j && ((slot_of state k).track == i))

  -- the run finds the track in the slot in which the observer has it
  found_so : (i : ℕ) → run_of.slot_playing state e.entry i ≡ slot_for state i
  unfolding slot_for
  found_so i = first_found (λ k. shows_slot state e.entry k && ((slot_of state k).track == i)) state i slots (plays_is i)

  -- the observer did nothing but play its items
  only_items : g.observer ≡ record x.fast.observer { items = g.observer.items }
  only_items = takes.observer

  state_same : g.observer.past.state ≡ state
  state_same = ap (λ (o : Watching). o.past.state) only_items

  going_same : is_going x.normal g ≡ is_going x.normal x.fast
  going_same = ap (λ (o : Watching). nat_lt o.past.number x.normal.mutator.past.number) only_items

  coming_same : is_coming x.normal g ≡ is_coming x.normal x.fast
  coming_same = ap (λ (b : Bool). not b && not (mutated_by x.normal).clear) going_same

  given_same : items_given g ≡ items_given x.fast
  given_same = ap (λ (o : Watching). (observed o.past.events).given) only_items

  held_same : (i : ℕ) → held_slot g i ≡ slot_for state i
  held_same i = ap (λ (z : FastState). slot_for z i) state_same

  -- a proxy that isn't held stays
  away_still : (i k : ℕ) (b : ServerDone) → slot_for state i ≡ None → TellsAway x.normal x.fast i k b → TellsAway x.normal g i k b
  away_still i k b none h = record {
    held = none_there b (item_at g.observer.items (held_slot g i)) (ap (item_at g.observer.items) (held_same i ∙ none));
    goes = (λ off going. h.goes none (sym going_same ∙ going));
    comes = (λ off coming p item. h.comes none (sym coming_same ∙ coming) p (sym (ap (λ (is : List (Option ServerState)). at is k) given_same) ∙ item));
    waits = (λ off comes. h.waits none (λ coming. sym (ap (λ (is : List (Option ServerState)). at is k) given_same) ∙ comes (coming_same ∙ coming)));
    back = (λ off comes. h.back none (λ coming. sym (ap (λ (is : List (Option ServerState)). at is k) given_same) ∙ comes (coming_same ∙ coming)));
  }

  module _ (i : ℕ) (b : BlockTold) (deed : List ServerEvent) (h : TellsStream x.normal x.fast i b deed) (did : DeedTold b deed) (inside : i < length x.normal.tracks) where
    abbrev after_mix : ℕ → BlockTold
    after_mix k = played (cycle_frames s) e k b

    module _ (k : ℕ) (found : slot_for state i ≡ Some k) where
      low : k < slots
      low = (found_carries state i k found).0

      carried : carries state k ≡ true
      carried = (found_carries state i k found).1

      gone : is_home (track_at x.normal.tracks i).holder ≡ false
      gone = ap (λ (j : ℕ). is_home (track_at x.normal.tracks j).holder) (sym (found_track state i k found)) ∙ (lead k low carried).0

      abbrev one : SlotPlayed x.fast.frames (at x.fast.observer.items k) (at g.observer.items k) g.log.frames (entry_slot e.entry k)
      one = slot_played k low carried

      old_told : TellsServer (done_on b deed) one.old
      old_told = (h.away gone).held one.old (ap (item_at x.fast.observer.items) found ∙ one.was)

      same_block : one.new.pass.part.shape ≡ one.old.pass.part.shape
      same_block = shape_same links x g together after lead takes.observer k one.old one.new low one.was one.is

      -- what the proxy did, and what the run tells that it did
      abbrev more : List ServerEvent
      more = cycle_events x.fast.frames (real_list b deed) (entry_slot e.entry k) one.plays.front

      abbrev does : List ServerEvent
      does = cycle_events (cycle_frames s) (told_of.listed b) (entry_slot e.entry k) (front_of (cycle_frames s) (told_of.listed b) (entry_slot e.entry k))

      grown : told_of.server_list (after_mix k) ≡ told_of.server_list b ++ does
      grown = server-server b.told does

      looks : LooksBy x.fast.frames (real_list b deed) (entry_slot e.entry k) one.plays.front
      looks = looks_real x.fast.frames b deed (entry_slot e.entry k) one.old old_told one.new.pass.part.events one.plays

      list_now : one.new.pass.part.events ≡ deed ++ more
      list_now = list_grown x.fast.frames b deed (entry_slot e.entry k) one.old old_told one.new.pass.part.events one.plays

      alike_now : TellAlike b.shape (deed ++ more) (told_of.server_list b ++ does)
      alike_now = subst (λ (n : ℕ). TellAlike b.shape (deed ++ more) (told_of.server_list b ++ cycle_events n (told_of.listed b) (entry_slot e.entry k) (front_of n (told_of.listed b) (entry_slot e.entry k)))) frames
          (cycle_told_alike x.fast.frames (real_list b deed) (told_of.listed b) (entry_slot e.entry k) one.plays.front refl did.alike looks)

      own_now : SawOwnOf b.shape (deed ++ more) → deed ++ more ≡ told_of.server_list (after_mix k)
      own_now saw =
          let list : deed ≡ told_of.server_list b = list_own x.fast.frames b deed (entry_slot e.entry k) did one.plays.front looks saw in
          let events : more ≡ does = front_own x.fast.frames b deed (entry_slot e.entry k) did one.plays.front looks saw
          ∙ ap (λ (n : ℕ). cycle_events n (told_of.listed b) (entry_slot e.entry k) (front_of n (told_of.listed b) (entry_slot e.entry k))) frames in
          (λ j. list j ++ events j) ∙ sym grown

      did_now : DeedTold (after_mix k) one.new.pass.part.events
      did_now = subst (DeedTold (after_mix k)) (sym list_now) (record { alike = subst (TellAlike b.shape (deed ++ more)) (sym grown) alike_now; own = own_now })

      new_told : TellsServer (done_on (after_mix k) one.new.pass.part.events) one.new
      new_told = record { shape = same_block ∙ old_told.shape; events = refl; taken = one.frames_are ∙ (λ j. old_told.taken j ++ map packed_word (saw.frames k low j)) }

      there_none : (o : Option ServerState) → stream_at x.normal.streams i ≡ o → stream_at x.normal.streams i ≡ None
      there_none None is = is
      there_none (Some p) is = absurd (true≢false (sym (ap is_some is) ∙ together.normal.tied.proxies.there i inside ∙ gone))

      stream_played : TellsStream x.normal g i (after_mix k) one.new.pass.part.events
      stream_played = record {
        home = none_there (done_on (after_mix k) one.new.pass.part.events) (stream_at x.normal.streams i) (there_none (stream_at x.normal.streams i) refl);
        away = (λ off. record {
          held = there_is (done_on (after_mix k) one.new.pass.part.events) (item_at g.observer.items (held_slot g i)) one.new (ap (item_at g.observer.items) (held_same i ∙ found) ∙ one.is) new_told;
          goes = (λ none. absurd (none-some k (sym none ∙ held_same i ∙ found)));
          comes = (λ none. absurd (none-some k (sym none ∙ held_same i ∙ found)));
          waits = (λ none. absurd (none-some k (sym none ∙ held_same i ∙ found)));
          back = (λ none. absurd (none-some k (sym none ∙ held_same i ∙ found)));
        });
        hand = h.hand ∙ sym (server-hand b.told does);
      }

      item_list : list_of (at g.observer.items k) deed ≡ one.new.pass.part.events
      item_list = ap (λ (o : Option ServerState). list_of o deed) one.is

  -- the stream of each track after a mix
  pub stream_mixed : (i : ℕ) (t : TrackTold) (deed : List ServerEvent) → i < length x.normal.tracks → TellsStream x.normal x.fast i t.stream deed → DeedTold t.stream deed → StreamMixed x.normal g i (mixed_track s state e i t).stream deed (list_mixed state g i deed)
  stream_mixed i t deed inside h did = by_slot (slot_for state i) refl
    where
      stream_by : Option ℕ → BlockTold
      stream_by o = (elim o as (λ o. TrackTold) [ None ↦ t | Some k ↦ record t { stream = played (cycle_frames s) e k t.stream } ]).stream

      by_slot : (o : Option ℕ) → slot_for state i ≡ o → StreamMixed x.normal g i (mixed_track s state e i t).stream deed (list_mixed state g i deed)
      by_slot None none =
          subst (λ (y : Option ℕ × Option ℕ). StreamMixed x.normal g i (stream_by y.0) deed (list_by y.1 g deed)) (λ j. (sym (found_so i ∙ none) j, sym none j))
          (record { told = record { home = h.home; away = (λ gone. away_still i (slot_number (track_at x.normal.tracks i)) (done_on t.stream deed) none (h.away gone)); hand = h.hand }; did = did; goes = ([], append-nil deed) })
      by_slot (Some k) found =
          subst (λ (y : Option ℕ × Option ℕ). StreamMixed x.normal g i (stream_by y.0) deed (list_by y.1 g deed)) (λ j. (sym (found_so i ∙ found) j, sym found j))
          (subst (λ (es : List ServerEvent). StreamMixed x.normal g i (played (cycle_frames s) e k t.stream) deed es) (sym (item_list i t.stream deed h did inside k found))
          (record { told = stream_played i t.stream deed h did inside k found; did = did_now i t.stream deed h did inside k found; goes = (more i t.stream deed h did inside k found, sym (list_now i t.stream deed h did inside k found)) }))
