-- What a proxy showed when it was attached is no more than its server's list shows.
use Rattle.std.proofs.Common.{◌≡◌, ℕ, zero, suc, ◌+◌, ◌≤◌, ◌==◌, if◌then◌else◌, is_some, Bool, true, false, List, [], ◌∷◌, length, map, fold, Option, Some, None, refl, sym, ap, ◌∙◌, subst, arith}
use Rattle.af_audit.proofs.Common.{Busy, Clean, Command, CommandLook, FastState, Heard, Home, Learnt, NormalKept, Push, Pushed, Returning, Setup, SlotReport, TakeSeen, TrackKept, TrackSeen, Turn, after_ack, after_edits, after_look, after_looks, after_part, after_push, after_take, after_takes, after_tracks, asked as buffer, at_new, code_of, comes_home, draft_commanded as with_command, look_counted, counts_in, edited, edited_to, ended, entered, goes_on, heard, is_home, is_reached, is_reported, is_shut, lend, lent_by, let_go, must_enter, must_leave, must_wait, mutated, new_normal, no_counts, noted, obeyed, ordered, ready, seen_at, served, served_to, set_each, settled_at, shows_command, slot_reported, track_at, turn_after, welcomed, welcomed_at}
use Rattle.af_life.specs.Obeys.{slot_for, told}
use Rattle.af_audit.proofs.Measure.{AreAttached, Measure}

either_at : (b : Bool) (s t : TrackKept) (h : Heard) → s.at_attach ≡ h → t.at_attach ≡ h → (if b then s else t).at_attach ≡ h
either_at true s t h e f = e
either_at false s t h e f = f

-- ## Its part of a turn

look_at : (given : Option ℕ) (flush_seen : ℕ) (look : CommandLook) (s : TrackKept) → (after_look given flush_seen look s).at_attach ≡ s.at_attach
unfolding after_look obeyed
look_at given flush_seen look s = either_at (shows_command look.seen) (if must_wait flush_seen look.code look.argument s.life then record (told given look.code look.argument s) { awaits = Some look.argument } else record (told given look.code look.argument s) { settled = (told given look.code look.argument s).settled + 1 }) (if is_shut look.seen then ended s else s) s.at_attach
    (either_at (must_wait flush_seen look.code look.argument s.life) (record (told given look.code look.argument s) { awaits = Some look.argument }) (record (told given look.code look.argument s) { settled = (told given look.code look.argument s).settled + 1 }) s.at_attach refl refl)
    (either_at (is_shut look.seen) (ended s) s s.at_attach refl refl)

looks_at : (given : Option ℕ) (flush_seen : ℕ) (looks : List CommandLook) (s : TrackKept) → (after_looks given flush_seen looks s).at_attach ≡ s.at_attach
looks_at given flush_seen [] s = refl
looks_at given flush_seen (look ∷ looks) s = let t : TrackKept = after_look given flush_seen look s in
    either_at (goes_on look t) (after_looks given flush_seen looks t) t s.at_attach (looks_at given flush_seen looks t ∙ look_at given flush_seen look s) (look_at given flush_seen look s)

noted_at : (r : SlotReport) (s : TrackKept) → (noted r s).at_attach ≡ s.at_attach
unfolding noted
noted_at r s = either_at (is_home s.holder) (record s { own = no_counts }) (if is_reported r s then record s { reported = counts_in r } else s) s.at_attach refl (either_at (is_reported r s) (record s { reported = counts_in r }) s s.at_attach refl refl)

ready_at : (k : Learnt) (i : ℕ) (s : TrackKept) → (ready k i s).at_attach ≡ s.at_attach
unfolding settled_at
ready_at k i s = let t : TrackKept = noted (slot_reported k s) s in
    either_at (is_reached (heard k i s).flush_seen t.awaits) (record t { awaits = None; settled = t.settled + 1 }) t s.at_attach (noted_at (slot_reported k s) s) (noted_at (slot_reported k s) s)

served_at : (c : Setup) (k : Learnt) (looks : List CommandLook) (tracks : List TrackKept) (i : ℕ) → (served c k looks tracks i).at_attach ≡ (track_at tracks i).at_attach
unfolding served after_part
served_at c k looks tracks i = let s : TrackKept = track_at tracks i in let r : TrackKept = ready k i s in let given : Option ℕ = slot_for c tracks i in
    either_at s.life.ended s (after_part given (heard k i s) looks r) s.at_attach refl
    (either_at (is_some r.awaits) r (after_looks given (heard k i s).flush_seen looks r) s.at_attach (ready_at k i s) (looks_at given (heard k i s).flush_seen looks r ∙ ready_at k i s))

module _ (measure : Measure) where
  -- ## A turn

  module _ (c : Setup) (k : Learnt) (told : ℕ → ℕ) where
    welcomed_keeps : (last : FastState) (s : TrackKept) → (welcomed last s).at_attach ≡ s.at_attach
    unfolding welcomed
    welcomed_keeps last s = either_at (comes_home last s) (record s { holder = Home }) s s.at_attach refl refl

    acked_keeps : (ack : Bool) (m : NormalKept) → AreAttached measure told m.tracks → AreAttached measure told (after_ack ack m).tracks
    acked_keeps true m h i =
        let same : measure.of_heard (track_at (map (welcomed m.last) m.tracks) i).at_attach ≡ measure.of_heard (track_at m.tracks i).at_attach = ap (λ (s : TrackKept). measure.of_heard s.at_attach) (welcomed_at m.last m.tracks i) ∙ ap (λ (x : Heard). measure.of_heard x) (welcomed_keeps m.last (track_at m.tracks i)) in
        let a = h i in omega (arith, same, a)
    acked_keeps false m h i = h i

    pub served_keeps : (seen : List TrackSeen) (tracks : List TrackKept) (n : ℕ) → AreAttached measure told tracks → AreAttached measure told (served_to c k seen tracks n)
    served_keeps seen tracks zero h = h
    served_keeps seen tracks (suc n) h =
        let now : List TrackKept = served_to c k seen tracks n in
        let all : AreAttached measure told now = served_keeps seen tracks n h in
        set_each (λ (i : ℕ) (s : TrackKept). measure.of_heard s.at_attach ≤ told i) now n (served c k (seen_at seen n).looks now n)
        (subst (λ (x : Heard). measure.of_heard x ≤ told n) (sym (served_at c k (seen_at seen n).looks now n)) (all n)) all

    either_keeps : (b : Bool) (m n : NormalKept) → AreAttached measure told m.tracks → AreAttached measure told n.tracks → AreAttached measure told (if b then m else n).tracks
    either_keeps true m n h g = h
    either_keeps false m n h g = g

    module _ (own : (i : ℕ) → measure.of_heard (k.own i) ≤ told i) where
      edited_keeps : (i : ℕ) (m : NormalKept) → AreAttached measure told m.tracks → AreAttached measure told (edited c k i m).tracks
      unfolding edited let_go lend
      edited_keeps i m h = either_keeps (must_leave (track_at m.tracks i)) (let_go i m) (if must_enter (track_at m.tracks i) then lend c i (k.own i) m else m)
          (set_each (λ (j : ℕ) (s : TrackKept). measure.of_heard s.at_attach ≤ told j) m.tracks i (record (track_at m.tracks i) { holder = Returning }) (h i) h)
          (either_keeps (must_enter (track_at m.tracks i)) (lend c i (k.own i) m) m
          (set_each (λ (j : ℕ) (s : TrackKept). measure.of_heard s.at_attach ≤ told j) m.tracks i (lent_by (entered c i m) (k.own i) (track_at m.tracks i)) (own i) h) h)

      edits_keep : (m : NormalKept) (n : ℕ) → AreAttached measure told m.tracks → AreAttached measure told (edited_to c k m n).tracks
      edits_keep m zero h = h
      edits_keep m (suc n) h = edited_keeps n (edited_to c k m n) (edits_keep m n h)

      ordered_keeps : (command : Command) (m : NormalKept) → AreAttached measure told m.tracks → AreAttached measure told (ordered command m).tracks
      unfolding ordered
      ordered_keeps command m h = either_keeps (code_of command == code_of m.draft.command) m (record m { draft = with_command command m.draft; dirty = true }) h h

      mutated_keeps : (room : ℕ) (m : NormalKept) → AreAttached measure told m.tracks → AreAttached measure told (mutated c k room m).tracks
      unfolding mutated
      mutated_keeps room m h = ordered_keeps _ (edited_to c k m (length m.tracks)) (edits_keep m (length m.tracks) h)

      pushed_keeps : (push : Push) (m : NormalKept) → AreAttached measure told m.tracks → AreAttached measure told (after_push push m).tracks
      pushed_keeps (Pushed number) m h = h
      pushed_keeps Clean m h = h
      pushed_keeps (Busy seen expected) m h = h

      takes_keep : (takes : List TakeSeen) (tracks : List TrackKept) → AreAttached measure told tracks → AreAttached measure told (fold (after_take (buffer c)) tracks takes)
      takes_keep [] tracks h = h
      takes_keep (take ∷ takes) tracks h = takes_keep takes (after_take (buffer c) tracks take)
          (set_each (λ (j : ℕ) (s : TrackKept). measure.of_heard s.at_attach ≤ told j) tracks take.track (record (track_at tracks take.track) { own = look_counted (buffer c) take.slot.seen (track_at tracks take.track).own }) (h take.track) h)

      -- what was shown at the attaching stays within bounds after a turn, if what is known of the tracks' own servers does
      pub turn_keeps : (m : NormalKept) (e : Turn) → AreAttached measure told m.tracks → AreAttached measure told (turn_after c k m e).tracks
      unfolding turn_after
      turn_keeps m e h =
          let acked : NormalKept = after_ack e.ack m in
          let there : NormalKept = after_tracks c k e acked in
          let edits : NormalKept = after_edits c k e m in
          let all : AreAttached measure told edits.tracks = mutated_keeps e.room there (served_keeps e.tracks acked.tracks (length acked.tracks) (acked_keeps e.ack m h)) in
          either_keeps e.ended (record m { ended = true }) (after_takes c e.mixes (after_push e.push edits)) h (takes_keep e.mixes (after_push e.push edits).tracks (pushed_keeps e.push edits all))

    -- what was shown at the attaching stays within bounds when the track i is served
    pub attached_then : (m : NormalKept) (e : Turn) (i : ℕ) → AreAttached measure told m.tracks → AreAttached measure told (served_to c k e.tracks (after_ack e.ack m).tracks i)
    attached_then m e i h = served_keeps e.tracks (after_ack e.ack m).tracks i (acked_keeps e.ack m h)

  -- what was shown at the attaching stays within bounds if more is shown
  pub attached_more : (few more : ℕ → ℕ) (tracks : List TrackKept) → ((i : ℕ) → few i ≤ more i) → AreAttached measure few tracks → AreAttached measure more tracks
  attached_more few more tracks grows h i = let a = h i in let b = grows i in omega (arith, a, b)

  pub attached_new : (c : Setup) (told : ℕ → ℕ) → AreAttached measure told (new_normal c).tracks
  attached_new c told i = let same : measure.of_heard (track_at (new_normal c).tracks i).at_attach ≡ 0 = ap (λ (s : TrackKept). measure.of_heard s.at_attach) (at_new (length c.settings) i) ∙ measure.nothing in omega (arith, same)
