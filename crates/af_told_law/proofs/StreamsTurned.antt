-- After a turn of the normal mixer that goes on the run with that turn tells each track's proxies.
use Rattle.std.proofs.Common.{◌≡◌, inl, inr, ◌⊎◌, ⊎_elim, ℕ, ◌<◌, Bool, true, false, is_some, List, [], ◌∷◌, ◌++◌, append-nil, length, slice_get, Option, Some, None, refl, sym, ap, subst, ◌∙◌, arith}
use Rattle.af_told_law.proofs.Common.{AreTogether, BlockTold, GoesOnFrom, HasStateHistory, IsLegal, Links, Listed, NormalKept, NormalState, Outside, Run, ServerEvent, ServerState, Session, SessionState, Turn, TurnFound, after_ack, at, away_slot, cycle_frames, home_stream, in_queue, is_home, is_pushed, item_at, kept_of, learnt, listed_at, ltb-true, must_enter, none-some, outside_of, same_Some, served_tracks, setup_of as mixer_setup, slice_get_within, slot_number, slots, some_at, stream_at, stream_list, stream_turned, told_at, track_at, tracks_at, turn_after, turn_of, turned_track}
use Rattle.af_model.specs.declared.states.MutatorEvent.TheVariants as mutator
use Rattle.af_model.specs.declared.states.ObserverEvent.TheVariants as observer
use Rattle.af_runs.specs.Sessions.{setup_of}
use Rattle.af_told_law.proofs.Basics.{unpushed, went}
use Rattle.af_told_law.specs.Between.{StandsBefore}
use Rattle.af_told_law.specs.Comers.{ComersTell}
use Rattle.af_told_law.proofs.Places.{ComesFrom, IsLentBy, StaysAway, StreamsGo, events_by, slot_in, words_by}
use Rattle.af_told_law.specs.QueueTurned.{QueueKnown}
use Rattle.af_told_law.specs.Tells.{Tells, TellsAway, TellsCommands, TellsServer, TellsStream, held_slot, is_coming, is_going, items_given, items_sent, none_comes}
use Rattle.af_told_law.proofs.ComersBack.{comers_legal, home_told}
use Rattle.af_told_law.proofs.ComingTurned.{coming_before, coming_now, going_before, lent_back, lent_new, lent_off}
use Rattle.af_told_law.proofs.HomeBefore.{enters_before, turned_before}
use Rattle.af_told_law.proofs.LooksTurned.{again_coming, back_coming, back_same, handed_none, waiting_none}
use Rattle.af_told_law.proofs.TurnHomes.{turned_home}
use Rattle.af_told_law.proofs.TurnTracks.{commands_did, stream_did, turned_commands, turned_hand, turned_stream}
use Rattle.af_told_law.specs.Deeds.{Deeds, ServerDone, TrackDid, commands_by, deeds_turned, done_on}
use Rattle.af_told_law.specs.NormalLaws.{FindsBlocks, HeardAlike}

module _ (links : Links) (s : Session) (run : Run) {deeds : Deeds} (x : SessionState) (n : NormalState) (o : Outside) (told : Tells s run deeds x) (before : AreTogether links x) (after : AreTogether links (record x { normal = n })) (legal : IsLegal o x.normal n)
    (runs : (turn_of n.entry).ended ≡ false) (f : TurnFound) (finds : FindsBlocks run f) (report : HeardAlike (after_ack (turn_of n.entry).ack (kept_of x.normal)).tracks o.report f.report)
    (goes : StreamsGo o x.normal n (turn_of n.entry)) (stands : StandsBefore x) (known : QueueKnown (cycle_frames s) run x.normal)
    (c d : ℕ) (later : HasStateHistory x.normal.mutator.past.first (n.mutator.past.events ++ mutator.Learn c ∷ []) (x.fast.observer.past.events ++ observer.Learn d ∷ [])) where
  abbrev e : Turn
  e = turn_of n.entry

  abbrev k : NormalKept
  k = kept_of x.normal

  abbrev seen_by : Outside
  seen_by = outside_of (setup_of s) f e

  -- the stream block of a track before the run's turn, and after it
  abbrev was : ℕ → BlockTold
  was i = (told_at run i).stream

  abbrev block : ℕ → BlockTold
  block i = stream_turned (setup_of s) seen_by run.normal e i (was i)

  -- what the proxy of a track did before the turn, and after it
  abbrev did : ℕ → ServerDone
  did i = done_on (was i) (deeds.streams i)

  abbrev does : ℕ → ServerDone
  does i = done_on (block i) (deeds.streams i ++ events_by o x.normal e i)

  comers : ComersTell run deeds x.normal e legal.lists.back
  comers = comers_legal links x n o legal runs goes before stands c d later s run told

  same_back : goes.back ≡ legal.lists.back
  same_back = back_same x n o legal runs goes before.fast.0 stands.step stands.history c d later

  same_count : length n.tracks ≡ length x.normal.tracks
  same_count = sym after.count ∙ before.count

  -- ## The proxies that are home in the turn

  -- the frames of a proxy that goes on from where it was home
  frames_told : (i : ℕ) (t : ServerState) → i < length k.tracks → is_home (track_at (after_ack e.ack k).tracks i).holder ≡ true → ComesFrom o goes.back x.normal e i t → t.pass.part.frames ≡ (was i).taken ++ words_by e i
  frames_told i t low home from = from.does.took ∙ ap (λ (ws : List ℕ). ws ++ words_by e i) (home_told links x n o legal runs goes before stands c d later s run told i from.before low from.was home).taken

  pub home_turned : (i : ℕ) (t : ServerState) → i < length k.tracks → stream_at n.streams i ≡ Some t → TellsServer (does i) t
  home_turned i t low is =
      let home : is_home (track_at n.tracks i).holder ≡ true = sym (after.normal.tied.proxies.there i (let same = same_count in omega (arith, low, same))) ∙ ap is_some is in
      let left : is_home (track_at (turn_after (mixer_setup x.normal) (learnt o) k e).tracks i).holder ≡ true = sym (ap (λ (l : NormalKept). is_home (track_at l.tracks i).holder) legal.leaves) ∙ home in
      turned_home links s run x n o told before after legal runs f finds report comers i t low is
      (frames_told i t low (turned_before (mixer_setup x.normal) (learnt o) k e i before.normal.tied.sound runs left) (goes.home i t is))

  pub lent_turned : (i : ℕ) → i < length k.tracks → must_enter (track_at (served_tracks (mixer_setup x.normal) (learnt o) k e) i) ≡ true → (lent : IsLentBy o goes.back goes.sent x.normal n e i) → TellsServer (does i) lent.item
  lent_turned i low enters lent =
      let home = enters_before (mixer_setup x.normal) (learnt o) k e i before.normal.tied.sound enters in
      let list : o.streams i ≡ listed_at (Some lent.comes.before) = legal.lists.home runs i ∙ ap (λ (items : List (Option ServerState)). listed_at (home_stream e.ack k items x.normal i)) (sym same_back) ∙ ap listed_at lent.comes.was in
      let goes_on : GoesOnFrom (o.streams i) (stream_list (mixer_setup x.normal) o e (tracks_at (mixer_setup x.normal) (learnt o) k e i) i) lent.item =
      (lent.comes.does.list ∙ ap (λ (l : Listed). l.events ++ events_by o x.normal e i) (sym list), lent.comes.does.shape ∙ ap (λ (l : Listed). l.shape) (sym list)) in
      turned_stream links s run x n o told before legal runs f finds report comers i lent.item low home goes_on (frames_told i lent.item low home lent.comes)

  -- ## A proxy that was lent

  module _ (i : ℕ) (low : i < length x.normal.tracks) (enters : must_enter (track_at (served_tracks (mixer_setup x.normal) (learnt o) k e) i) ≡ true) where
    lent : IsLentBy o goes.back goes.sent x.normal n e i
    lent = goes.lent i enters

    its : (p : ServerState) → at (in_queue e.push goes.sent n.mutator.pending) (slot_in n i) ≡ Some p → TellsServer (does i) p
    its p is = subst (TellsServer (does i)) (same_Some lent.item p (sym lent.waits ∙ is)) (lent_turned i low enters lent)

    off : held_slot x.fast i ≡ None
    off = lent_off links x n o legal runs goes before after stands c d later s run told known i lent

    sent_by : (b : Bool) → is_pushed e.push ≡ b → is_going n x.fast ≡ true → (p : ServerState) → at (items_sent n) (slot_in n i) ≡ Some p → TellsServer (does i) p
    sent_by true is going p here = its p (ap (λ (items : List (Option ServerState)). at items (slot_in n i)) (went e.push goes.sent n.mutator.pending is ∙ sym (goes.queue.sent_items is).0) ∙ here)
    sent_by false none going p here =
        let more = ltb-true x.fast.observer.past.number x.normal.mutator.past.number (going_before links x n o legal runs goes before after stands c d later none going) in
        absurd (lent_new links x n o legal runs goes before after stands c d later s run told known i lent p (omega (arith, more)) (ap (λ (items : List (Option ServerState)). at items (slot_in n i)) (sym (goes.queue.same_items none)) ∙ here))

    pending_by : (b : Bool) → is_pushed e.push ≡ b → (p : ServerState) → at n.mutator.pending (slot_in n i) ≡ Some p → TellsServer (does i) p
    pending_by true is p here = absurd (none-some p (sym (goes.queue.none is (slot_in n i)) ∙ here))
    pending_by false none p here = its p (ap (λ (items : List (Option ServerState)). at items (slot_in n i)) (unpushed e.push goes.sent n.mutator.pending none) ∙ here)

    lent_away : TellsAway n x.fast i (slot_in n i) (does i)
    lent_away = record {
      held = (λ p here. absurd (none-some p (sym (ap (item_at x.fast.observer.items) off) ∙ here)));
      goes = (λ _ going. sent_by (is_pushed e.push) refl going);
      comes = (λ _ coming p here. let was = coming_before links x n o legal runs goes before after stands c d later coming in
          absurd (lent_back links x n o legal runs goes before after stands c d later s run told known i lent p was.1 was.2 here));
      waits = (λ _ none. pending_by (is_pushed e.push) refl);
      back = (λ _ none p here. absurd (none-some p (sym lent.returned ∙ here)));
    }

  -- ## A proxy that stays away

  module _ (i : ℕ) (low : i < length x.normal.tracks) (gone : is_home (track_at n.tracks i).holder ≡ false) (stays : StaysAway o goes.back goes.again goes.sent x.normal n e i) where
    abbrev slot : ℕ
    slot = slot_in n i

    slot_low : slot_in n i < slots
    slot_low = (away_slot (kept_of n) after.normal.tied.sound i gone).1

    -- the turn tells nothing of a proxy that stays away
    same : did i ≡ does i
    same = λ j. record {
      shape = (was i).shape;
      events = sym (ap (λ (es : List ServerEvent). deeds.streams i ++ es) stays.quiet ∙ append-nil (deeds.streams i)) j;
      taken = sym (ap (λ (ws : List ℕ). (was i).taken ++ ws) stays.takes ∙ append-nil (was i).taken) j;
    }

    old : TellsAway x.normal x.fast i (slot_in n i) (did i)
    old = let client = some_at x.clients i (let count = before.count in omega (arith, low, count)) in
        subst (λ (j : ℕ). TellsAway x.normal x.fast i j (did i)) stays.slot ((told.tracks i client.0 client.1).stream.away stays.away)

    so : (p : ServerState) → TellsServer (did i) p → TellsServer (does i) p
    so p h = subst (λ (k : ServerDone). TellsServer k p) same h

    module _ (off : held_slot x.fast i ≡ None) where
      -- what waited tells its block
      waited : (e.ack ≡ true) ⊎ (is_pushed e.push ≡ true) → (p : ServerState) → at x.normal.mutator.pending (slot_in n i) ≡ Some p → TellsServer (does i) p
      waited either p here = so p (old.waits off (waiting_none x n o legal runs goes before.fast.0 stands.step stands.history c d later either slot slot_low (ap is_some here)) p here)

      sent_so : (b : Bool) → is_pushed e.push ≡ b → is_going n x.fast ≡ true → (p : ServerState) → at (items_sent n) (slot_in n i) ≡ Some p → TellsServer (does i) p
      sent_so true is going p here = waited (inr is) p (stays.went is p (ap (λ (items : List (Option ServerState)). at items slot) (sym (goes.queue.sent_items is).0) ∙ here))
      sent_so false none going p here = so p (old.goes off (going_before links x n o legal runs goes before after stands c d later none going) p (ap (λ (items : List (Option ServerState)). at items slot) (sym (goes.queue.same_items none)) ∙ here))

      -- if neither the last state was seen acknowledged nor one was pushed, what comes is as before
      none_before : is_pushed e.push ≡ false → e.ack ≡ false → none_comes n x.fast (slot_in n i) → none_comes x.normal x.fast (slot_in n i)
      none_before none ack comes coming = comes (coming_now links x n o legal runs goes before after stands c d later none ack coming)

      either_of : (a b : Bool) → e.ack ≡ a → is_pushed e.push ≡ b → ((e.ack ≡ true) ⊎ (is_pushed e.push ≡ true)) ⊎ ((is_pushed e.push ≡ false) × (e.ack ≡ false))
      either_of true b ack push = inl (inl ack)
      either_of false true ack push = inl (inr push)
      either_of false false ack push = inr (push, ack)

      waits_so : none_comes n x.fast (slot_in n i) → (p : ServerState) → at x.normal.mutator.pending (slot_in n i) ≡ Some p → TellsServer (does i) p
      waits_so comes p here = ⊎_elim
          (λ (either : (e.ack ≡ true) ⊎ (is_pushed e.push ≡ true)). waited either p here)
          (λ (none : (is_pushed e.push ≡ false) × (e.ack ≡ false)). so p (old.waits off (none_before none.0 none.1 comes) p here))
          (either_of e.ack (is_pushed e.push) refl refl)

      handed_so : none_comes n x.fast (slot_in n i) → (p : ServerState) → at goes.back (slot_in n i) ≡ None → at x.normal.mutator.returned (slot_in n i) ≡ Some p → TellsServer (does i) p
      handed_so comes p none here = so p (old.back off (⊎_elim
          (λ (either : (e.ack ≡ true) ⊎ (is_pushed e.push ≡ true)). handed_none x n o legal runs goes before.fast.0 stands.step stands.history c d later either slot slot_low (ap is_some here) none)
          (λ (quiet : (is_pushed e.push ≡ false) × (e.ack ≡ false)). none_before quiet.0 quiet.1 comes)
          (either_of e.ack (is_pushed e.push) refl refl)) p here)

      came_so : (p : ServerState) → (is_coming x.normal x.fast ≡ true) × (at (items_given x.fast) (slot_in n i) ≡ Some p) → TellsServer (does i) p
      came_so p came = so p (old.comes off came.0 p came.1)

      back_so : none_comes n x.fast (slot_in n i) → (p : ServerState) → at n.mutator.returned (slot_in n i) ≡ Some p → TellsServer (does i) p
      back_so comes p here = elim (stays.returned p here) as (λ _. TellsServer (does i) p) [
        | inl there ↦ handed_so comes p there.1 there.0
        | inr (inl there) ↦ waits_so comes p there
        | inr (inr (inl there)) ↦ came_so p (back_coming x n o legal runs goes before.fast.0 stands.step stands.history c d later slot p there)
        | inr (inr (inr there)) ↦ came_so p (again_coming x n o legal runs goes before.fast.0 stands.step stands.history c d later slot p slot_low there)
      ]

    away_stays : TellsAway n x.fast i (slot_in n i) (does i)
    away_stays = record {
      held = (λ p here. so p (old.held p here));
      goes = (λ off going. sent_so off (is_pushed e.push) refl going);
      comes = (λ off coming p here. so p (old.comes off (coming_before links x n o legal runs goes before after stands c d later coming).2 p here));
      waits = (λ off none p here. waits_so off none p (stays.pending p here));
      back = (λ off none. back_so off none);
    }

  -- ## All tracks

  away_by : (i : ℕ) → i < length x.normal.tracks → is_home (track_at n.tracks i).holder ≡ false → (b : Bool) → must_enter (track_at (served_tracks (mixer_setup x.normal) (learnt o) k e) i) ≡ b → TellsAway n x.fast i (slot_number (track_at n.tracks i)) (does i)
  away_by i low gone true enters = lent_away i low enters
  away_by i low gone false rests = away_stays i low gone (goes.away i gone rests)

  -- after the turn the run with it tells the stream proxy of each track
  pub stream_told : (i : ℕ) → i < length x.normal.tracks → TellsStream n x.fast i (turned_track (setup_of s) seen_by run.normal e i (told_at run i)).stream (deeds.streams i ++ events_by o x.normal e i)
  stream_told i low = record {
    home = (λ t is. home_turned i t low is);
    away = (λ gone. away_by i low gone (must_enter (track_at (served_tracks (mixer_setup x.normal) (learnt o) k e) i)) refl);
    hand = turned_hand links s run x n o told before legal runs f finds report comers i low;
  }

  -- after the turn the run with it tells the command proxy of each track
  pub commands_told : (i : ℕ) (t : ServerState) → slice_get n.commands i ≡ Some t → TellsCommands (turned_track (setup_of s) seen_by run.normal e i (told_at run i)).commands (deeds.commands i ++ commands_by (mixer_setup x.normal) k o e i) t
  commands_told i t is =
      let low : i < length x.normal.tracks = (let w = slice_get_within n.commands i t is in let many = after.normal.tied.sizes.commands_are in let same = same_count in omega (arith, w, many, same)) in
      turned_commands links s run x n o told before legal runs f finds report comers i t low is

  -- after the turn the run with it tells what both proxies of a track did
  pub track_did : (i : ℕ) → i < length x.normal.tracks → TrackDid (deeds_turned (mixer_setup x.normal) k o e deeds) i (turned_track (setup_of s) seen_by run.normal e i (told_at run i))
  track_did i low = record { stream = stream_did links s run x n o told before legal runs f finds report comers i low; commands = commands_did links s run x n o told before legal runs f finds report comers i low }
