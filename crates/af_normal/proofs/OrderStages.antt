-- Each stage of a turn keeps the order.
use Rattle.std.proofs.Common.{◌≡◌, ℕ, zero, suc, ◌+◌, ◌<◌, ◌≤◌, ◌==◌, Bool, true, false, if◌then◌else◌, MatchBool, sym, refl, ap, subst, ◌∙◌, List, [], ◌∷◌, ◌++◌, length, Option, eq-eqb, arith}
use Rattle.af_normal.proofs.Common.{Busy, Clean, Command, IsJoined, Links, Made, Mutates, Push, Pushed, Pushes as Past, Report, SeesIt, ServerState, StreamNames, WasAcked, WasPushed, after_ack, code_of, draft_commanded as with_command, is_returning, number_seen, returning_away, saw, shows, slot_number, slot_of, sound_ordered, track_at, word}
use Rattle.af_model.specs.declared.states.MutatorEvent.TheVariants as mutator
use Rattle.af_normal.specs.Coming.{WelcomesTo}
use Rattle.af_normal.specs.Mutating.{EditsTo, EditsAll, Pushes, begun, commands, finished, due_command}
use Rattle.af_normal.specs.LegalTurned.{in_hand, home_stream}
use Rattle.af_normal.specs.Mixing.{stream_at}
use Rattle.af_normal.specs.Order.{IsTied, IsOpen}
use Rattle.af_normal.specs.State.{NormalState, kept_of}
use Rattle.af_normal.specs.Turning.{SeesAck, Learns, with_mutator}
use Rattle.af_normal.proofs.OrderAcks.{welcomed_kept, welcomed_tied, welcomed_same, Brings, welcomed_brings}
use Rattle.af_life.proofs.SoundEdits.{away_slot}
use Rattle.af_normal.proofs.OrderOpen.{edit_keeps}

-- ## The acknowledgement

module _ (links : Links) (ack : Bool) (x y : NormalState) (tied : IsTied links x) (sees : SeesAck ack x y) where
  -- after a look that brought items, and after one that did not
  looked : (a : ℕ) (items returned : List (Option ServerState)) → IsTied links (with_mutator (record x.mutator { past = saw a items x.mutator.past; returned = returned }) x)
  looked a items returned = record { sound = tied.sound; sizes = tied.sizes; proxies = tied.proxies; out = tied.out; linked = tied.linked }

  abbrev Comes : Bool → Type 0
  Comes b = MatchBool b (WelcomesTo (length x.tracks) (with_mutator sees.mutator x) y) (y ≡ with_mutator sees.mutator x)

  by_ack : (b : Bool) → WasAcked x.mutator b sees.mutator → Comes b → (kept_of y ≡ after_ack b (kept_of x)) × IsTied links y
  by_ack true seen comes =
      let is : sees.mutator ≡ record x.mutator { past = saw x.mutator.past.number seen.0 x.mutator.past; returned = sees.mutator.returned } = seen.1 in
      let clear : sees.mutator.past.clear ≡ true = ap (λ (m : Mutates ServerState StreamNames). m.past.clear) is ∙ eq-eqb (word x.mutator.past.number) (word x.mutator.past.number) refl in
      let there : IsTied links (with_mutator sees.mutator x) = subst (λ (m : Mutates ServerState StreamNames). IsTied links (with_mutator m x)) (sym is) (looked x.mutator.past.number seen.0 sees.mutator.returned) in
      let same : kept_of (with_mutator sees.mutator x) ≡ kept_of x = ap (λ (m : Mutates ServerState StreamNames). kept_of (with_mutator m x)) is in (
        welcomed_kept links (with_mutator sees.mutator x) there sees.held clear y comes ∙ ap (after_ack true) same,
        welcomed_tied links (with_mutator sees.mutator x) there sees.held clear y comes,
      )
  by_ack false seen comes =
      let is : sees.mutator ≡ record x.mutator { past = saw seen.0 [] x.mutator.past } = seen.1.2 in (
        ap kept_of comes ∙ ap (λ (m : Mutates ServerState StreamNames). kept_of (with_mutator m x)) is,
        subst (IsTied links) (sym comes) (subst (λ (m : Mutates ServerState StreamNames). IsTied links (with_mutator m x)) (sym is) (looked seen.0 [] x.mutator.returned)),
      )

  -- what a look leaves is what the definition says
  pub acked_kept : kept_of y ≡ after_ack ack (kept_of x)
  acked_kept = (by_ack ack sees.acked sees.comes).0

  pub tied_acked : IsTied links y
  tied_acked = (by_ack ack sees.acked sees.comes).1

  -- nothing changes but the tracks, the stream proxies and the mutator, which is as idle as before
  pub acked_same : (y ≡ record x { tracks = y.tracks; streams = y.streams; mutator = y.mutator }) × (y.mutator.editing ≡ x.mutator.editing)
  acked_same = same_by ack sees.acked sees.comes
    where
      same_by : (b : Bool) → WasAcked x.mutator b sees.mutator → Comes b → (y ≡ record x { tracks = y.tracks; streams = y.streams; mutator = y.mutator }) × (y.mutator.editing ≡ x.mutator.editing)
      same_by true seen comes =
          let is : sees.mutator ≡ record x.mutator { past = saw x.mutator.past.number seen.0 x.mutator.past; returned = sees.mutator.returned } = seen.1 in
          let clear : sees.mutator.past.clear ≡ true = ap (λ (m : Mutates ServerState StreamNames). m.past.clear) is ∙ eq-eqb (word x.mutator.past.number) (word x.mutator.past.number) refl in
          let there : IsTied links (with_mutator sees.mutator x) = subst (λ (m : Mutates ServerState StreamNames). IsTied links (with_mutator m x)) (sym is) (looked x.mutator.past.number seen.0 sees.mutator.returned) in
          let w = welcomed_same links (with_mutator sees.mutator x) there sees.held clear y comes in
          (w.0, w.1 ∙ ap (λ (m : Mutates ServerState StreamNames). m.editing) is)
      same_by false seen comes =
          let is : sees.mutator ≡ record x.mutator { past = saw seen.0 [] x.mutator.past } = seen.1.2 in (
            subst (λ (z : NormalState). z ≡ record x { tracks = z.tracks; streams = z.streams; mutator = z.mutator }) (sym comes) refl,
            ap (λ (z : NormalState). z.mutator.editing) comes ∙ ap (λ (m : Mutates ServerState StreamNames). m.editing) is,
          )

  -- one look is added to the list
  abbrev pub Added : Bool → Type 0
  Added b = (items : List (Option ServerState)) × (y.mutator.past.events ≡ x.mutator.past.events ++ mutator.SawAck (number_seen (kept_of x) b) items ∷ []) × (y.mutator.past.number ≡ x.mutator.past.number)
      × ((j : ℕ) → stream_at y.streams j ≡ home_stream b (kept_of x) items x j) × (y.mutator.pending ≡ x.mutator.pending)

  -- each stream proxy is where it was, or was in hand
  by_holder : {there : IsTied links (with_mutator sees.mutator x)} {clear : sees.mutator.past.clear ≡ true} (items : List (Option ServerState)) → IsJoined items x.mutator.returned sees.mutator.returned
      → Brings links (with_mutator sees.mutator x) there sees.held clear y → (j : ℕ) → stream_at y.streams j ≡ home_stream true (kept_of x) items x j
  by_holder items joined b j = choose (is_returning (track_at x.tracks j).holder) refl
    where
      choose : (d : Bool) → is_returning (track_at x.tracks j).holder ≡ d → stream_at y.streams j ≡ (if d then in_hand items x.mutator.returned (slot_number (track_at x.tracks j)) else stream_at x.streams j)
      choose true e = b.brought j e ∙ joined (slot_number (track_at x.tracks j)) (away_slot (kept_of x) tied.sound j (returning_away (track_at x.tracks j).holder e)).1
      choose false e = b.same j e

  pub acked_list : Added ack
  acked_list = list_by ack sees.acked sees.comes
    where
      list_by : (b : Bool) → WasAcked x.mutator b sees.mutator → Comes b → Added b
      list_by true seen comes =
          let is : sees.mutator ≡ record x.mutator { past = saw x.mutator.past.number seen.0 x.mutator.past; returned = sees.mutator.returned } = seen.1 in
          let clear : sees.mutator.past.clear ≡ true = ap (λ (m : Mutates ServerState StreamNames). m.past.clear) is ∙ eq-eqb (word x.mutator.past.number) (word x.mutator.past.number) refl in
          let there : IsTied links (with_mutator sees.mutator x) = subst (λ (m : Mutates ServerState StreamNames). IsTied links (with_mutator m x)) (sym is) (looked x.mutator.past.number seen.0 sees.mutator.returned) in
          let w = welcomed_same links (with_mutator sees.mutator x) there sees.held clear y comes in (
            seen.0,
            ap (λ (past : Past ServerState StreamNames). past.events) w.2 ∙ ap (λ (m : Mutates ServerState StreamNames). m.past.events) is,
            ap (λ (past : Past ServerState StreamNames). past.number) w.2 ∙ ap (λ (m : Mutates ServerState StreamNames). m.past.number) is,
            by_holder seen.0 seen.2 (welcomed_brings links (with_mutator sees.mutator x) there sees.held clear y comes),
            (welcomed_brings links (with_mutator sees.mutator x) there sees.held clear y comes).pending ∙ ap (λ (m : Mutates ServerState StreamNames). m.pending) is,
          )
      list_by false seen comes =
          let is : sees.mutator ≡ record x.mutator { past = saw seen.0 [] x.mutator.past } = seen.1.2 in (
            [],
            ap (λ (z : NormalState). z.mutator.past.events) comes ∙ ap (λ (m : Mutates ServerState StreamNames). m.past.events) is
                ∙ ap (λ (n : ℕ). x.mutator.past.events ++ mutator.SawAck n [] ∷ []) (let a : seen.0 + 1 ≡ x.mutator.past.number = seen.1.1 in omega arith),
            ap (λ (z : NormalState). z.mutator.past.number) comes ∙ ap (λ (m : Mutates ServerState StreamNames). m.past.number) is,
            (λ j. ap (λ (z : NormalState). stream_at z.streams j) comes),
            ap (λ (z : NormalState). z.mutator.pending) comes ∙ ap (λ (m : Mutates ServerState StreamNames). m.pending) is,
          )

-- ## The report and the room

pub tied_learnt : (links : Links) (report : Report) (room : ℕ) (x y : NormalState) → IsTied links x → Learns report room x y → IsTied links y
tied_learnt links report room x y tied l = subst (IsTied links) (sym l.same) (record {
  sound = tied.sound;
  sizes = record {
    frames = tied.sizes.frames;
    normal = tied.sizes.normal;
    few = tied.sizes.few;
    settings = tied.sizes.settings;
    streams_are = tied.sizes.streams_are;
    commands_are = tied.sizes.commands_are;
    blocks = tied.sizes.blocks;
    scales = tied.sizes.scales;
    pipe_is = ap (λ (m : Made). m.shape.frames) l.pipe ∙ tied.sizes.pipe_is;
  };
  proxies = tied.proxies;
  out = tied.out;
  linked = record { names = tied.linked.names; queue_is = tied.linked.queue_is; report_is = l.cell ∙ tied.linked.report_is; pipe_is = l.pipe ∙ tied.linked.pipe_is };
})

-- ## The mutation

module _ (links : Links) (edits : ℕ) where
  -- the mutation stays open after the first tracks were edited
  pub edited_open : (n : ℕ) (x y : NormalState) → IsOpen links edits x → EditsTo n x y → IsOpen links (edits + n) y
  edited_open zero x y mutating e = subst (λ (m : ℕ). IsOpen links m y) (omega arith) (subst (IsOpen links edits) (sym e) mutating)
  edited_open (suc n) x y mutating (z, before, e) = subst (λ (m : ℕ). IsOpen links m y) (omega arith) (edit_keeps links (edits + n) n z (edited_open n x z mutating before) y e)

module _ (links : Links) where
  -- a mutation begins
  pub opened : (edits : ℕ) (x : NormalState) → IsTied links x → ((k : ℕ) → (slot_of x.mutator.draft k).generation ≤ edits) → x.mutator.draft.tracks_gen ≤ edits → IsOpen links edits (record x { mutator = begun x.mutator })
  opened edits x tied generations changes = record {
    tied = record { sound = tied.sound; sizes = tied.sizes; proxies = tied.proxies; out = tied.out; linked = tied.linked };
    generations = generations;
    changes = changes;
    editing = refl;
  }

  -- the mutation ends
  pub tied_finished : (edits : ℕ) (command : Command) (z : NormalState) → IsOpen links edits z → IsTied links (record z { mutator = finished (commands command z.mutator) })
  tied_finished edits command z mutating = by_same (code_of command == code_of z.mutator.draft.command)
    where
      by_same : (b : Bool) → IsTied links (record z { mutator = finished (if b then z.mutator else record z.mutator { draft = with_command command z.mutator.draft; edited = true }) })
      by_same true = record { sound = mutating.tied.sound; sizes = mutating.tied.sizes; proxies = mutating.tied.proxies; out = mutating.tied.out; linked = mutating.tied.linked }
      by_same false = record { sound = sound_ordered z.tracks z.mutator.draft command mutating.tied.sound; sizes = mutating.tied.sizes; proxies = mutating.tied.proxies; out = mutating.tied.out; linked = mutating.tied.linked }

  pub tied_edited : (edits room : ℕ) (x y : NormalState) → IsTied links x → ((k : ℕ) → (slot_of x.mutator.draft k).generation ≤ edits) → x.mutator.draft.tracks_gen ≤ edits → EditsAll room x y → IsTied links y
  tied_edited edits room x y tied generations changes e = subst (IsTied links) (sym e.leaves)
      (tied_finished (edits + length x.tracks) (due_command room e.edited) e.edited
      (edited_open links edits (length x.tracks) (record x { mutator = begun x.mutator }) e.edited (opened edits x tied generations changes) e.tracks))

  -- ## The push

  module _ (push : Push) (x y : NormalState) (tied : IsTied links x) (e : Pushes push x y) where
    abbrev Tied : Mutates ServerState StreamNames → Type 0
    Tied m = IsTied links (record x { mutator = m })

    tied_looked : (a : ℕ) (items returned : List (Option ServerState)) → Tied (record x.mutator { past = saw a items x.mutator.past; returned = returned })
    tied_looked a items returned = record { sound = tied.sound; sizes = tied.sizes; proxies = tied.proxies; out = tied.out; linked = tied.linked }

    tied_shown : (m : Mutates ServerState StreamNames) → Tied m → Tied (shows m)
    tied_shown m t = record { sound = t.sound; sizes = t.sizes; proxies = t.proxies; out = t.out; linked = t.linked }

    by_number : (n : ℕ) → x.mutator.past.number ≡ n
        → (x.mutator.past.number ≡ 0 → (y.mutator ≡ shows x.mutator) × (e.after ≡ e.before + 1))
        → (0 < x.mutator.past.number → (w : Mutates ServerState StreamNames) × SeesIt x.mutator w × (y.mutator ≡ shows w) × (e.after ≡ e.before + 2))
        → Tied y.mutator
    by_number zero is first later = subst Tied (sym (first is).0) (tied_shown x.mutator (record { sound = tied.sound; sizes = tied.sizes; proxies = tied.proxies; out = tied.out; linked = tied.linked }))
    by_number (suc n) is first later = let l = later (omega arith) in
        subst Tied (sym l.2) (tied_shown l.0 (subst Tied (sym l.1.1) (tied_looked x.mutator.past.number l.1.0 l.0.returned)))

    by_answer : (p : Push) → WasPushed x.mutator p y.mutator e.before e.after → Tied y.mutator
    by_answer Clean w = subst Tied (sym w.1) (record { sound = tied.sound; sizes = tied.sizes; proxies = tied.proxies; out = tied.out; linked = tied.linked })
    by_answer (Pushed number) w = by_number x.mutator.past.number refl w.2 w.3
    by_answer (Busy seen expected) w = subst Tied (sym w.3.2.2) (tied_looked w.3.0 [] x.mutator.returned)

    pub tied_pushed : IsTied links y
    tied_pushed = subst (IsTied links) (sym e.same) (by_answer push e.pushed)
