-- Of a track that a turn of the normal mixer finds shut as its stream proxy comes home, the client has not seen INVALID: the hand knew the proxy's list when it last met the client, and INVALID isn't in it.
use Rattle.std.proofs.Common.{◌≡◌, ◌≢◌, ◌⊎◌, inl, inr, ℕ, zero, suc, ◌<◌, ◌≤◌, ◌||◌, ◌&&◌, ◌==◌, Bool, true, false, true≢false, is_some, List, [], ◌∷◌, length, slice_get, Option, Some, None, refl, sym, ap, subst, ◌∙◌, arith}
use Rattle.af_render_law.proofs.Common.{AreTogether, Deeds, FindsShutUnseen, HandEvent, HandSide, IsLegal, Links, Listed, NormalKept, NormalState, Outside, PartyState, Run, SawNoInvalid, SawOwnBy, ServerEvent, Session, SessionState, Setup, Tells, Track, TrackKept, Turn, TurnFound, after_ack, carries, client_list, hand_events, held_slot, invalid, is_held, is_home, is_lawful, is_tame, item_at, kept_of, learnt, list_any, neither, outside_of, range_with_len, server_list, setup_of, slot_of, slots, some_at, sound_acked, stream_at, takes_part, tame_marks, told_at, track_at, track_in, tracks_at, turn_of}
use Rattle.af_cblk.specs.Rule.{StartsWith}
use Rattle.af_life.specs.Sound.{IsSound}
use Rattle.af_model.specs.History.{HasHistory}
use Rattle.af_normal.specs.State.{setup_of as mixer_setup}
use Rattle.af_render_law.proofs.AwayKnown.{KnowsAway}
use Rattle.af_told_law.specs.Comers.{ComersTell}
use Rattle.af_render_law.proofs.InvalidKept.{InvalidKept, away_unset}
use Rattle.af_told_law.proofs.LegalAlike.{invalid_same}
use Rattle.af_render_law.proofs.NoInvalid.{HandSetNoInvalid, SetNoInvalid, set_first, unseen}
use Rattle.af_told_law.proofs.NormalFound.{client_at, stream_real, turn_alike}
use Rattle.af_render_law.proofs.RunCalm.{AllOpen}
use Rattle.af_told_law.proofs.TurnAlike.{learn_alike, served_holder, tracks_same}
use Rattle.af_told_law.specs.NormalLaws.{FindsBlocks, HeardAlike}

none_there : {X : Type 0} (o : Option X) → is_some o ≡ false → o ≡ None
none_there None h = refl
none_there (Some x) h = absurd (true≢false h)

module _ (links : Links) (s : Session) (run : Run) {d : Deeds} (x : SessionState) (n : NormalState) (o : Outside) (told : Tells s run d x) (saw : SawOwnBy (tame_marks run) run d) (before : AreTogether links x) (legal : IsLegal o x.normal n) (runs : (turn_of n.entry).ended ≡ false) (f : TurnFound) (finds : FindsBlocks run f) (report : HeardAlike (after_ack (turn_of n.entry).ack (kept_of x.normal)).tracks o.report f.report)
    (comers : ComersTell run d x.normal (turn_of n.entry) legal.lists.back) (aware : KnowsAway x) (kept : InvalidKept run) (is_open : AllOpen run) where
  abbrev e : Turn
  e = turn_of n.entry

  abbrev p : Outside
  p = outside_of (setup_of s) f e

  sound : IsSound run.normal.tracks run.normal.draft
  sound = subst (λ (k : NormalKept). IsSound k.tracks k.draft) told.normal.kept before.normal.tied.sound

  module _ (i : ℕ) (low : i < length run.tracks) (tame : is_tame (told_at run i).stream ≡ true) (home : is_home (track_at (tracks_at (setup_of s) (learnt p) run.normal e i) i).holder ≡ true) where
    long : length x.normal.tracks ≡ length run.tracks
    long = sym before.count ∙ told.count.1 ∙ sym told.count.0

    inside : i < length x.normal.tracks
    inside = let l = long in omega (arith, low, l)

    -- the proxy is home once the acknowledgement was seen
    came_run : is_home (track_at (after_ack e.ack run.normal).tracks i).holder ≡ true
    came_run = ap is_home (sym (served_holder (setup_of s) (learnt p) e.tracks (after_ack e.ack run.normal).draft (after_ack e.ack run.normal).tracks i i (sound_acked e.ack run.normal sound))) ∙ home

    came : is_home (track_at (after_ack e.ack (kept_of x.normal)).tracks i).holder ≡ true
    came = ap (λ (k : NormalKept). is_home (track_at (after_ack e.ack k).tracks i).holder) told.normal.kept ∙ came_run

    -- the list with which the proxy comes home is the one that is told
    list_is : (o.streams i).events ≡ server_list (told_at run i).stream
    list_is =
        let client = client_at links s run x n o told before legal runs f finds report comers i inside in
        ap (λ (l : Listed). l.events) (stream_real links s run x n o told before legal runs f finds report comers i inside came) ∙ (told.tracks i client.0 client.1).did.stream.own (saw.streams i low tame)

    -- who takes part is home or held
    part_is : takes_part s run i ≡ (is_home (track_at run.normal.tracks i).holder || is_some (held_slot x.fast i))
    part_is =
        (λ j. is_home (track_at run.normal.tracks i).holder || list_any (λ k. carries ((sym told.fast.state) j) k && ((slot_of ((sym told.fast.state) j) k).track == i)) (range_with_len 0 slots))
        ∙ ap (λ (z : Bool). is_home (track_at run.normal.tracks i).holder || z) (is_held x.fast.observer.past.state i)

    -- ## A proxy that missed the last meeting

    module _ (missed : takes_part s run i ≡ false) (found : invalid (learnt p) (track_in e i) (tracks_at (setup_of s) (learnt p) run.normal e i) i ≢ []) where
      away : is_home (track_at run.normal.tracks i).holder ≡ false
      away = (neither (is_home (track_at run.normal.tracks i).holder) (is_some (held_slot x.fast i)) (sym part_is ∙ missed)).0

      unheld : held_slot x.fast i ≡ None
      unheld = none_there (held_slot x.fast i) (neither (is_home (track_at run.normal.tracks i).holder) (is_some (held_slot x.fast i)) (sym part_is ∙ missed)).1

      away_now : is_home (track_at x.normal.tracks i).holder ≡ false
      away_now = ap (λ (k : NormalKept). is_home (track_at k.tracks i).holder) told.normal.kept ∙ away

      gone : stream_at x.normal.streams i ≡ None
      gone = none_there (stream_at x.normal.streams i) (before.normal.tied.proxies.there i inside ∙ away_now)

      -- there was a turn before
      made : 1 ≤ x.normal.turns
      made = by_turns x.normal.turns refl
        where
          by_turns : (t : ℕ) → x.normal.turns ≡ t → 1 ≤ t
          by_turns zero none = absurd (true≢false (sym ((before.normal.none_yet none).home i) ∙ away_now))
          by_turns (suc t) some = omega arith

      hand : (h : HandSide) × (slice_get x.normal.hands i ≡ Some h)
      hand = some_at x.normal.hands i (let w = (before.normal.hands made).whole in let l = inside in omega (arith, w, l))

      client : (q : PartyState) × (slice_get x.clients i ≡ Some q)
      client = some_at x.clients i (let c = before.count in let l = inside in omega (arith, c, l))

      sides : client_list (told_at run i).stream ≡ client.0.stream.pass.part.events
      sides = ap (λ (t : Track). t.stream.events) (told.tracks i client.0 client.1).client

      history : let c = client.0.stream.pass.part in (taken : List ℕ) × HasHistory c.shape c.events c.frames hand.0.known taken hand.0.part.events
      history = aware i client.0 hand.0 client.1 hand.1 gone (ap (item_at x.fast.observer.items) unheld) (ap is_lawful (sym sides) ∙ tame)

      -- the mixer found the track shut by what it saw too
      found_then : invalid (learnt o) (track_in e i) (tracks_at (mixer_setup x.normal) (learnt o) (kept_of x.normal) e i) i ≢ []
      found_then none = found (sym (invalid_same (setup_of s) run.normal e o p sound (turn_alike links s run x n o told before legal runs f finds report comers) i (let l = long in let a = inside in let t = ap (λ (k : NormalKept). length k.tracks) told.normal.kept in omega (arith, a, t)))
          ∙ ap (λ (y : Setup × NormalKept). invalid (learnt o) (track_in e i) (tracks_at y.0 (learnt o) y.1 e i) i) (λ j. (sym told.normal.setup j, sym told.normal.kept j)) ∙ none)

      home_then : is_home (track_at (tracks_at (mixer_setup x.normal) (learnt o) (kept_of x.normal) e i) i).holder ≡ true
      home_then = ap (λ (y : Setup × NormalKept). is_home (track_at (tracks_at y.0 (learnt o) y.1 e i) i).holder) (λ j. (told.normal.setup j, told.normal.kept j))
          ∙ ap (λ (ts : List TrackKept). is_home (track_at ts i).holder) (tracks_same (setup_of s) (learnt o) (learnt p) run.normal e sound (learn_alike run.normal e o p (turn_alike links s run x n o told before legal runs f finds report comers)) i)
          ∙ home

      -- the hand knew a beginning of the list
      recalled : StartsWith (server_list (told_at run i).stream) hand.0.known
      recalled = subst (λ (es : List ServerEvent). StartsWith es hand.0.known) list_is (legal.lists.recalled runs i hand.0 hand.1 home_then found_then)

      hands_told : hand_events x.normal.hands i ≡ hand.0.part.events
      hands_told = ap (λ (g : Option HandSide). elim g as (λ g. List HandEvent) [ None ↦ [] | Some h ↦ h.part.events ]) hand.1

      by_sets : SetNoInvalid (server_list (told_at run i).stream) → SawNoInvalid (client_list (told_at run i).stream)
      by_sets sets = subst SawNoInvalid (sym sides)
          (unseen client.0.stream.pass.part.shape client.0.stream.pass.part.events client.0.stream.pass.part.frames hand.0.known history.0 hand.0.part.events history.1
          (set_first hand.0.known recalled.0 (server_list (told_at run i).stream) recalled.1 sets)
          (subst HandSetNoInvalid ((sym (told.tracks i client.0 client.1).stream.hand) ∙ hands_told) (kept.streams i low).hand))

      unseen_here : SawNoInvalid (client_list (told_at run i).stream)
      unseen_here = elim (away_unset (setup_of s) (learnt p) e run i kept sound low away (is_open i low tame)) as (λ _. SawNoInvalid (client_list (told_at run i).stream)) [
        | inl none ↦ absurd (found none)
        | inr sets ↦ by_sets sets
      ]

    by_list : (es : List ServerEvent) → invalid (learnt p) (track_in e i) (tracks_at (setup_of s) (learnt p) run.normal e i) i ≡ es → takes_part s run i ≡ false
        → (invalid (learnt p) (track_in e i) (tracks_at (setup_of s) (learnt p) run.normal e i) i ≡ []) ⊎ ((takes_part s run i ≡ true) ⊎ SawNoInvalid (client_list (told_at run i).stream))
    by_list [] is missed = inl is
    by_list (one ∷ es) is missed = inr (inr (unseen_here missed (λ none. nothing (sym is ∙ none))))
      where
        nothing : one ∷ es ≡ [] → ⊥
        nothing same = let l : length (one ∷ es) ≡ 0 = ap length same in omega arith

    by_part : (b : Bool) → takes_part s run i ≡ b → (invalid (learnt p) (track_in e i) (tracks_at (setup_of s) (learnt p) run.normal e i) i ≡ []) ⊎ ((takes_part s run i ≡ true) ⊎ SawNoInvalid (client_list (told_at run i).stream))
    by_part true is = inr (inl is)
    by_part false is = by_list (invalid (learnt p) (track_in e i) (tracks_at (setup_of s) (learnt p) run.normal e i) i) refl is

  pub shut_unseen : FindsShutUnseen s run f e
  shut_unseen _ i low tame home = by_part i low tame home (takes_part s run i) refl
