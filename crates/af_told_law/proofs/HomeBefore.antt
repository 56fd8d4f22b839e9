-- A stream proxy that is home after a turn of the normal mixer, or is lent by it, was home once the acknowledgement was seen.
use Rattle.std.proofs.Common.{◌≡◌, inl, inr, ℕ, zero, suc, ◌==◌, Bool, true, false, true≢false, if◌then◌else◌, fold, List, [], ◌∷◌, length, sym, ap, ◌∙◌, subst}
use Rattle.af_told_law.proofs.Common.{Command, IsSound, Learnt, NormalKept, Returning, Setup, TakeSeen, TrackKept, Turn, after_ack, after_edits, after_push, after_take, after_takes, after_tracks, asked, at_set, both_first, code_of, draft_commanded as with_command, edited, edited_to, entered, is_home, lend, lent_by, let_go, must_enter, must_leave, ordered, push_tracks, slice_set, sound_acked, track_at, turn_after}
use Rattle.af_life.specs.Edits.{mutated}
use Rattle.af_told_law.proofs.TurnAlike.{served_holder}

-- the proxy of a track is home
abbrev HomeAt : ℕ → List TrackKept → Type 0
HomeAt i tracks = is_home (track_at tracks i).holder ≡ true

-- one that is home after a track was replaced was so before, if that holds of the track itself
set_home : (i : ℕ) (tracks : List TrackKept) (n : ℕ) (t : TrackKept) → (is_home t.holder ≡ true → is_home (track_at tracks n).holder ≡ true) → HomeAt i (slice_set tracks n t) → HomeAt i tracks
set_home i tracks n t back home = elim (at_set tracks n t i) as (λ _. HomeAt i tracks) [
  | inl here ↦ ap (λ (j : ℕ). is_home (track_at tracks j).holder) here.0 ∙ back (sym (ap (λ (s : TrackKept). is_home s.holder) here.1) ∙ home)
  | inr same ↦ sym (ap (λ (s : TrackKept). is_home s.holder) same) ∙ home
]

either_home : (i : ℕ) (b : Bool) (m o : NormalKept) (tracks : List TrackKept) → (HomeAt i m.tracks → HomeAt i tracks) → (HomeAt i o.tracks → HomeAt i tracks) → HomeAt i (if b then m else o).tracks → HomeAt i tracks
either_home i true m o tracks f g home = f home
either_home i false m o tracks f g home = g home

-- the command changes no track
ordered_back : (command : Command) (o : NormalKept) (i : ℕ) → HomeAt i (ordered command o).tracks → HomeAt i o.tracks
unfolding ordered
ordered_back command o i = either_home i (code_of command == code_of o.draft.command) o (record o { draft = with_command command o.draft; dirty = true }) o.tracks (λ home. home) (λ home. home)

module _ (c : Setup) (k : Learnt) (i : ℕ) where
  edit_home : (n : ℕ) (m : NormalKept) → HomeAt i (edited c k n m).tracks → HomeAt i m.tracks
  unfolding edited let_go lend
  edit_home n m = either_home i (must_leave (track_at m.tracks n)) (let_go n m) (if must_enter (track_at m.tracks n) then lend c n (k.own n) m else m) m.tracks
      (set_home i m.tracks n (record (track_at m.tracks n) { holder = Returning }) (λ e. absurd (true≢false (sym e))))
      (either_home i (must_enter (track_at m.tracks n)) (lend c n (k.own n) m) m m.tracks (set_home i m.tracks n (lent_by (entered c n m) (k.own n) (track_at m.tracks n)) (λ e. absurd (true≢false (sym e)))) (λ home. home))

  edits_home : (m : NormalKept) (n : ℕ) → HomeAt i (edited_to c k m n).tracks → HomeAt i m.tracks
  edits_home m zero home = home
  edits_home m (suc n) home = edits_home m n (edit_home n (edited_to c k m n) home)

  mutated_home : (room : ℕ) (m : NormalKept) → HomeAt i (mutated c k room m).tracks → HomeAt i m.tracks
  unfolding mutated
  mutated_home room m home = edits_home m (length m.tracks) (ordered_back _ (edited_to c k m (length m.tracks)) i home)

takes_home : (many i : ℕ) (takes : List TakeSeen) (tracks : List TrackKept) → HomeAt i (fold (after_take many) tracks takes) → HomeAt i tracks
takes_home many i [] tracks home = home
takes_home many i (take ∷ takes) tracks home = set_home i tracks take.track _ (λ e. e) (takes_home many i takes (after_take many tracks take) home)

module _ (c : Setup) (k : Learnt) (m : NormalKept) (e : Turn) (i : ℕ) (sound : IsSound m.tracks m.draft) where
  abbrev acked : NormalKept
  acked = after_ack e.ack m

  -- one that is home once all were served was home before
  pub served_before : HomeAt i (after_tracks c k e acked).tracks → HomeAt i acked.tracks
  served_before home = sym (ap is_home (served_holder c k e.tracks acked.draft acked.tracks (length acked.tracks) i (sound_acked e.ack m sound))) ∙ home

  -- one that is to be lent was home before
  pub enters_before : must_enter (track_at (after_tracks c k e acked).tracks i) ≡ true → HomeAt i acked.tracks
  enters_before enters = served_before (both_first (is_home (track_at (after_tracks c k e acked).tracks i).holder) _ enters)

  -- one that is home after the turn was home before
  pub turned_before : e.ended ≡ false → HomeAt i (turn_after c k m e).tracks → HomeAt i acked.tracks
  unfolding turn_after
  turned_before runs home = served_before (mutated_home c k i e.room (after_tracks c k e acked) pushed)
    where
      edits : NormalKept
      edits = after_edits c k e m

      goes : (b : Bool) → b ≡ false → HomeAt i (if b then record m { ended = true } else after_takes c e.mixes (after_push e.push edits)).tracks → HomeAt i (after_push e.push edits).tracks
      goes true is home = absurd (true≢false is)
      goes false is home = takes_home (asked c) i e.mixes (after_push e.push edits).tracks home

      pushed : HomeAt i edits.tracks
      pushed = subst (HomeAt i) (push_tracks e.push edits) (goes e.ended runs home)
