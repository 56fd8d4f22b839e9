-- A turn of the normal mixer spares each track whose client has not poked: by the meetings after the turn, no look at the track's blocks was Shut.
use Rattle.std.proofs.Common.{◌≡◌, ℕ, ◌<◌, ◌≤◌, ◌==◌, ◌&&◌, not, nat_le, Bool, true, false, if◌then◌else◌, is_some, fold, List, [], ◌∷◌, ◌++◌, length, map, slice_get, Option, Some, None, refl, sym, ap, subst, ◌∙◌, append-nil, append_assoc, eqb-true, arith}
use Rattle.af_parties_law.proofs.Common.{AllByRecursion, Busy, Clean, CommandLook, GoesOn, GoesOnFrom, IsLegal, IsSound, LegalLooks, LegalTake, Links, Listed, LooksBy, NormalKept, NormalState, Outside, Push, Pushed, ServerEvent, ServerKept, ServerState, Setup, Shape, TakeSeen, TrackKept, TrackSeen, Turn, acked_len, after_ack, after_edits, after_push, after_take, after_takes, after_tracks, all_command_events, asked, both_first, both_right, both_true, command_events_of, command_list, cycle_events, flat_map, flat_map-cons, fold-append, going, heard, invalid, is_home, is_mixed_here, is_shut, kept, kept_more, kept_of, learnt, list_all, listed, mix_events, not_true, same_Some, served_len, server_keeps, server_kept, server_kept_of, setup_of, sound_acked, sound_mutated, sound_served, status_events, stays_all, stream_at, stream_list, take_look, takes_from, track_at, track_in, tracks_at, turn_after, turn_looks, turn_of, words_taken}
use Rattle.af_base.specs.declared.event.ServerEvent.TheVariants as server
use Rattle.af_life.specs.Serves.{is_found_shut}
use Rattle.af_normal.specs.Order.{IsInOrder}
use Rattle.af_normal.specs.Serving.{Adds}
use Rattle.af_normal.proofs.OrderTurn.{seen_past}
use Rattle.af_parties_law.specs.Hostile.{is_spared_in_turn, none_shut}
use Rattle.af_told_law.proofs.OneTake.{one_take, taken_is_due}
use Rattle.af_audit.proofs.LooksUnshut.{shut_after}
use Rattle.af_parties_law.proofs.OpenLooks.{open_commands, open_cycle}

-- ## The command block

module _ (shape : Shape) where
  stay_invalid : (b : Bool) (k : ServerKept) → shut_after shape k (if b then server.SetFlags 4 ∷ [] else []) ≡ k.shut
  stay_invalid true k = refl
  stay_invalid false k = refl

  stay_status : (status : Option ℕ) (k : ServerKept) → shut_after shape k (status_events status) ≡ k.shut
  stay_status None k = refl
  stay_status (Some word) k = refl

module _ (c : Setup) (o : Outside) (m : NormalKept) (e : Turn) (goes : GoesOn c o m e) (tracks : List TrackKept) (i : ℕ) (lt : i < length m.tracks) where
  -- if the command proxy isn't shut after its part, no look was Shut
  open_served : (s : Listed) → o.commands i ≡ s → (server_kept s.shape (s.events ++ command_events_of c o (track_in e i) tracks i)).shut ≡ None → list_all (λ (l : CommandLook). not (is_shut l.seen)) (track_in e i).looks ≡ true
  open_served s is fine =
      let looks = (track_in e i).looks in
      let fronts = o.command_fronts i in
      let first : List ServerEvent = s.events ++ all_command_events (o.commands i) looks fronts in
      let flags : List ServerEvent = invalid (learnt o) (track_in e i) tracks i in
      let status : List ServerEvent = status_events (track_in e i).status in
      let k : ServerKept = server_kept s.shape first in
      let apart : s.events ++ command_events_of c o (track_in e i) tracks i ≡ (first ++ flags) ++ status =
      sym (append_assoc s.events (all_command_events (o.commands i) looks fronts ++ flags) status) ∙ ap (λ (es : List ServerEvent). es ++ status) (sym (append_assoc s.events (all_command_events (o.commands i) looks fronts) flags)) in
      let whole : (server_kept s.shape ((first ++ flags) ++ status)).shut ≡ k.shut =
      ap (λ (x : ServerKept). x.shut) (kept_more s.shape (first ++ flags) status)
      ∙ stay_status s.shape (track_in e i).status (server_kept s.shape (first ++ flags))
      ∙ ap (λ (x : ServerKept). x.shut) (kept_more s.shape first flags)
      ∙ stay_invalid s.shape _ k in
      let here : (server_kept s.shape first).shut ≡ None = sym whole ∙ ap (λ (es : List ServerEvent). (server_kept s.shape es).shut) (sym apart) ∙ fine in
      let legal = goes.looks i lt in
      (open_commands s looks fronts (subst (λ (x : Listed). LegalLooks x looks fronts) is legal)
      (subst (λ (x : Listed). (server_kept s.shape (s.events ++ all_command_events x looks fronts)).shut ≡ None) is here)).1

-- ## The stream's block

-- the takes of one track, among those of a turn
module _ (i : ℕ) (t : TakeSeen) (taken : List TakeSeen) (others : Bool) (rest : list_all (λ (x : TakeSeen). not (is_shut x.slot.seen)) taken ≡ true → others ≡ true) where
  look_by : (b : Bool) → (t.track == i) ≡ b → list_all (λ (x : TakeSeen). not (is_shut x.slot.seen)) (if b then t ∷ taken else taken) ≡ true → (not ((t.track == i) && is_shut t.slot.seen) && others) ≡ true
  look_by true is h = both_true (not ((t.track == i) && is_shut t.slot.seen)) others
      (ap (λ (b : Bool). not (b && is_shut t.slot.seen)) is ∙ both_first (not (is_shut t.slot.seen)) _ h) (rest (both_right (not (is_shut t.slot.seen)) _ h))
  look_by false is h = both_true (not ((t.track == i) && is_shut t.slot.seen)) others (ap (λ (b : Bool). not (b && is_shut t.slot.seen)) is) (rest h)

looks_from : (i : ℕ) (takes : List TakeSeen) → list_all (λ (t : TakeSeen). not (is_shut t.slot.seen)) (takes_from takes i) ≡ true → none_shut i (map take_look takes) ≡ true
looks_from i [] all = refl
looks_from i (t ∷ takes) all = look_by i t (takes_from takes i) (none_shut i (map take_look takes)) (looks_from i takes) (t.track == i) refl all

-- each take of the track is legal
legal_by : (c : Setup) (o : Outside) (i : ℕ) (t : TakeSeen) (taken : List TakeSeen) → LegalTake c o t → AllByRecursion (λ (x : TakeSeen). (x.track ≡ i) × LegalTake c o x) taken
    → (b : Bool) → (t.track == i) ≡ b → AllByRecursion (λ (x : TakeSeen). (x.track ≡ i) × LegalTake c o x) (if b then t ∷ taken else taken)
legal_by c o i t taken legal rest true is = ((eqb-true t.track i is, legal), rest)
legal_by c o i t taken legal rest false is = rest

legal_from : (c : Setup) (o : Outside) (i : ℕ) (takes : List TakeSeen) → AllByRecursion (LegalTake c o) takes → AllByRecursion (λ (t : TakeSeen). (t.track ≡ i) × LegalTake c o t) (takes_from takes i)
legal_from c o i [] all = tt
legal_from c o i (t ∷ takes) all = legal_by c o i t (takes_from takes i) all.0 (legal_from c o i takes all.1) (t.track == i) refl

module _ (c : Setup) (o : Outside) (i : ℕ) (s : Listed) (is : o.streams i ≡ s) (flags : List ServerEvent) (calm : (k : ServerKept) → (shut_after s.shape k flags ≡ k.shut) × (fold (server_keeps s.shape) k flags ≡ k)) where
  -- if the stream's proxy isn't shut after the one take of its track, the look of the take wasn't Shut
  open_takes : (takes : List TakeSeen) → length takes ≤ 1 → AllByRecursion (λ (t : TakeSeen). (t.track ≡ i) × LegalTake c o t) takes
      → (server_kept s.shape (s.events ++ (flags ++ flat_map (λ (t : TakeSeen). cycle_events (asked c) (o.streams i) t.slot (o.stream_front i)) takes))).shut ≡ None
      → list_all (λ (t : TakeSeen). not (is_shut t.slot.seen)) takes ≡ true
  open_takes [] few legal fine = refl
  open_takes (t ∷ u ∷ takes) few legal fine = absurd (omega (arith, few))
  open_takes (t ∷ []) few legal fine =
      let f = λ (x : TakeSeen). cycle_events (asked c) (o.streams i) x.slot (o.stream_front i) in
      let events : List ServerEvent = cycle_events (asked c) s t.slot (o.stream_front i) in
      let one : flat_map f (t ∷ []) ≡ events = flat_map-cons f t [] ∙ append-nil (f t) ∙ ap (λ (x : Listed). cycle_events (asked c) x t.slot (o.stream_front i)) is in
      let k : ServerKept = kept s in
      let whole : (server_kept s.shape (s.events ++ (flags ++ flat_map f (t ∷ [])))).shut ≡ shut_after s.shape k events =
      ap (λ (es : List ServerEvent). (server_kept s.shape (s.events ++ (flags ++ es))).shut) one
      ∙ ap (λ (x : ServerKept). x.shut) (kept_more s.shape s.events (flags ++ events))
      ∙ ap (λ (x : ServerKept). x.shut) (fold-append (server_keeps s.shape) k flags events)
      ∙ ap (λ (x : ServerKept). shut_after s.shape x events) (calm k).1 in
      let looks = legal.0.1.looks in
      let looks_here = subst (λ (x : ℕ × Listed). LooksBy (asked c) x.1 t.slot (o.stream_front x.0)) (λ j. (legal.0.0 j, (ap o.streams legal.0.0 ∙ is) j)) looks in
      let found = open_cycle (asked c) s t.slot (o.stream_front i) looks_here (sym whole ∙ fine) in
      both_true (not (is_shut t.slot.seen)) true (ap not found.1) refl

keeps_flags : (shape : Shape) (b d : Bool) (k : ServerKept) → (shut_after shape k (if b then (if d then server.SetFlags 4 ∷ [] else []) else []) ≡ k.shut) × (fold (server_keeps shape) k (if b then (if d then server.SetFlags 4 ∷ [] else []) else []) ≡ k)
keeps_flags shape true true k = (refl, refl)
keeps_flags shape true false k = (refl, refl)
keeps_flags shape false d k = (refl, refl)

-- ## A turn

module _ (links : Links) (x y : NormalState) (order : IsInOrder links x) (o : Outside) (legal : IsLegal o x y) (i : ℕ) (lt : i < length x.tracks) where
  abbrev c : Setup
  c = setup_of x

  abbrev m : NormalKept
  m = kept_of x

  abbrev e : Turn
  e = turn_of y.entry

  abbrev before_serving : List TrackKept
  before_serving = tracks_at c (learnt o) m e i

  -- a turn that has ended looked at nothing
  ended_looks : e.ended ≡ true → list_all (λ (l : CommandLook). not (is_shut l.seen)) (track_in e i).looks ≡ true
  ended_looks ended = ap (λ (t : TrackSeen). list_all (λ (l : CommandLook). not (is_shut l.seen)) t.looks) (ap (λ (u : Turn). track_in u i) (legal.legal.still ended) ∙ seen_past [] i (omega arith))

  ended_takes : e.ended ≡ true → none_shut i (turn_looks e) ≡ true
  ended_takes ended = ap (λ (u : Turn). none_shut i (turn_looks u)) (legal.legal.still ended)

  -- no look at the track's commands was Shut
  pub commands_spared : (s t : ServerState) → slice_get x.commands i ≡ Some s → slice_get y.commands i ≡ Some t → (server_kept_of t.pass.part).shut ≡ None → list_all (λ (l : CommandLook). not (is_shut l.seen)) (track_in e i).looks ≡ true
  commands_spared s t was is fine = by_end e.ended refl
    where
      grown : (u : ServerState) × (slice_get y.commands i ≡ Some u) × Adds s (command_list c o e before_serving i) (words_taken (track_in e i).looks) u
      grown = legal.lists.commands i s was

      same : t ≡ grown.0
      same = same_Some t grown.0 (sym is ∙ grown.1)

      by_end : (b : Bool) → e.ended ≡ b → list_all (λ (l : CommandLook). not (is_shut l.seen)) (track_in e i).looks ≡ true
      by_end true ended = ended_looks ended
      by_end false ended =
          let list = ap (λ (z : ServerState). z.pass.part.events) same ∙ grown.2.list ∙ ap (λ (b : Bool). s.pass.part.events ++ (if b then [] else command_events_of c o (track_in e i) before_serving i)) ended in
          let shape = ap (λ (z : ServerState). z.pass.part.shape) same ∙ grown.2.shape in
          open_served c o m e (legal.legal.goes_on ended) before_serving i lt (listed s) (legal.commands i s was)
          (subst (λ (z : Shape × List ServerEvent). (server_kept z.0 z.1).shut ≡ None) (λ j. (shape j, list j)) fine)

  -- no look of the takes from the track's stream was Shut, if the stream's proxy is home
  pub takes_spared : (t : ServerState) → stream_at y.streams i ≡ Some t → (server_kept_of t.pass.part).shut ≡ None → none_shut i (turn_looks e) ≡ true
  takes_spared t is fine = by_end e.ended refl
    where
      grown : GoesOnFrom (o.streams i) (stream_list c o e before_serving i) t
      grown = legal.lists.streams i t is

      by_end : (b : Bool) → e.ended ≡ b → none_shut i (turn_looks e) ≡ true
      by_end true ended = ended_takes ended
      by_end false ended =
          let goes = legal.legal.goes_on ended in
          let s : Listed = o.streams i in
          let home : Bool = is_home (track_at before_serving i).holder in
          let flagged : Bool = not (track_at before_serving i).life.ended && is_found_shut (heard (learnt o) i (track_at before_serving i)) (track_in e i).looks in
          let flags : List ServerEvent = (if home then (if flagged then server.SetFlags 4 ∷ [] else []) else []) in
          let list = grown.0 ∙ ap (λ (b : Bool). s.events ++ (if b then [] else flags ++ mix_events c o e.mixes i)) ended in
          let one = one_take (λ (j : ℕ). is_mixed_here (track_at (after_edits c (learnt o) e m).tracks j)) (length (after_edits c (learnt o) e m).tracks) i e.mixes (nat_le (asked c) e.room) goes.due in
          looks_from i e.mixes
          (open_takes c o i s refl flags (keeps_flags s.shape home flagged) (takes_from e.mixes i) one (legal_from c o i e.mixes goes.takes)
          (subst (λ (z : Shape × List ServerEvent). (server_kept z.0 z.1).shut ≡ None) (λ j. (grown.1 j, list j)) fine))

  -- a push changes no track
  same_tracks : (push : Push) (n : NormalKept) → (after_push push n).tracks ≡ n.tracks
  same_tracks (Pushed number) n = refl
  same_tracks Clean n = refl
  same_tracks (Busy seen expected) n = refl

  turned_tracks : e.ended ≡ false → y.tracks ≡ fold (after_take (asked c)) (after_push e.push (after_edits c (learnt o) e m)).tracks e.mixes
  unfolding turn_after
  turned_tracks going = ap (λ (n : NormalKept). n.tracks) legal.leaves
      ∙ ap (λ (b : Bool). (if b then record m { ended = true } else after_takes c e.mixes (after_push e.push (after_edits c (learnt o) e m))).tracks) going

  edits_sound : IsSound (after_edits c (learnt o) e m).tracks (after_edits c (learnt o) e m).draft
  edits_sound =
      let acked : NormalKept = after_ack e.ack m in
      let long : length (after_tracks c (learnt o) e acked).tracks ≡ length x.tracks = served_len c (learnt o) e.tracks acked.tracks (length acked.tracks) ∙ acked_len e.ack m in
      sound_mutated c order.tied.sizes.scales (learnt o) e.room (after_tracks c (learnt o) e acked) (omega (arith, long, order.tied.sizes.settings))
      (sound_served c (learnt o) e.tracks acked.draft acked.tracks (length acked.tracks) (sound_acked e.ack m order.tied.sound))

  pub taken_at_home : (t : TakeSeen) (ts : List TakeSeen) → takes_from e.mixes i ≡ t ∷ ts → is_home (track_at y.tracks i).holder ≡ true
  taken_at_home t ts some = by_end e.ended refl
    where
      by_end : (b : Bool) → e.ended ≡ b → is_home (track_at y.tracks i).holder ≡ true
      by_end true ended = absurd (let none : 0 ≡ length (t ∷ ts) = ap (λ (u : Turn). length (takes_from u.mixes i)) (sym (legal.legal.still ended)) ∙ ap length some in omega (arith, none))
      by_end false ended =
          let goes = legal.legal.goes_on ended in
          let edited : NormalKept = after_edits c (learnt o) e m in
          let due : is_mixed_here (track_at edited.tracks i) ≡ true =
          taken_is_due (λ (j : ℕ). is_mixed_here (track_at edited.tracks j)) (length edited.tracks) i e.mixes (nat_le (asked c) e.room) goes.due (let many : length (takes_from e.mixes i) ≡ length (t ∷ ts) = ap length some in omega (arith, many)) in
          let none : is_some (track_at edited.tracks i).slot ≡ false = not_true (is_some (track_at edited.tracks i).slot) (both_first (not (is_some (track_at edited.tracks i).slot)) _ due) in
          let homely : is_home (track_at edited.tracks i).holder ≡ true = (edits_sound.slotted i).homely none in
          ap (λ (ts : List TrackKept). is_home (track_at ts i).holder) (turned_tracks ended)
          ∙ ap is_home (stays_all (asked c) e.mixes (after_push e.push edited).tracks i).0
          ∙ ap (λ (ts : List TrackKept). is_home (track_at ts i).holder) (same_tracks e.push edited)
          ∙ homely

  -- the turn spares the track, if its command proxy isn't shut, nor its stream's if that is home
  pub turn_spares : (s t : ServerState) → slice_get x.commands i ≡ Some s → slice_get y.commands i ≡ Some t → (server_kept_of t.pass.part).shut ≡ None
      → (is_home (track_at y.tracks i).holder ≡ true → (u : ServerState) × (stream_at y.streams i ≡ Some u) × ((server_kept_of u.pass.part).shut ≡ None)) → is_spared_in_turn i e ≡ true
  turn_spares s t was is fine home = both_true (list_all (λ (l : CommandLook). not (is_shut l.seen)) (track_in e i).looks) (none_shut i (turn_looks e)) (commands_spared s t was is fine) (by_takes (takes_from e.mixes i) refl)
    where
      by_takes : (ts : List TakeSeen) → takes_from e.mixes i ≡ ts → none_shut i (turn_looks e) ≡ true
      by_takes [] none = looks_from i e.mixes (ap (list_all (λ (t : TakeSeen). not (is_shut t.slot.seen))) none)
      by_takes (first ∷ ts) some = let h = home (taken_at_home first ts some) in takes_spared h.0 h.1 h.2
