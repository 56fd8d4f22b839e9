-- What a turn makes of the draft and the tracks once they were served, by what entries tell.
use Rattle.std.proofs.Common.{◌≡◌, ℕ, zero, suc, ◌+◌, ◌==◌, ◌&&◌, ◌||◌, not, Bool, true, false, if◌then◌else◌, List, [], ◌∷◌, length, map, fold, refl, sym, ap, ◌∙◌}
use Rattle.af_entry_law.proofs.Common.{FastState, Learnt, NormalKept, Setup, TakeSeen, TrackKept, after_ack, after_push, after_take, after_takes, asked, comes_home, edited, edited_to, entered, commands_exit, is_home, lend, lent_by, let_go, must_enter, must_leave, mutated, next_command, ordered, pipe_size, plays, setting_of, slice_set, slot_number, track_at, welcomed}
use Rattle.af_base.specs.declared.state.Command.{Command}
use Rattle.af_base.specs.declared.state.Command.TheVariants.{ColdIdle, Exit, MixWrite}
use Rattle.af_base.specs.declared.state.Push.{Push}
use Rattle.af_base.specs.declared.state.Push.TheVariants.{Pushed, Clean, Busy}
use Rattle.af_base.specs.Command.{code_of}
use Rattle.af_model.specs.Draft.{attached, detached, draft_commanded}
use Rattle.af_model.specs.StateQueue.{slot_of}
use Rattle.af_life.specs.declared.kept.Holder.TheVariants.{Home, Lent, Returning}
use Rattle.af_entry_law.specs.Told.{mixer_told, track_told}
use Rattle.af_entry_law.proofs.ToldLists.{all_told, any_told, same_at, same_length, same_set, tracks_told}

-- ## What comes home

welcome_told : (last : FastState) (s : TrackKept) → track_told (welcomed last (track_told s)) ≡ track_told (welcomed last s)
unfolding welcomed
welcome_told last s = by_case (comes_home last s)
  where
    by_case : (b : Bool) → track_told (if b then record (track_told s) { holder = Home } else track_told s) ≡ track_told (if b then record s { holder = Home } else s)
    by_case true = refl
    by_case false = refl

welcomes_told : (last : FastState) (ts : List TrackKept) → tracks_told (map (welcomed last) (tracks_told ts)) ≡ tracks_told (map (welcomed last) ts)
welcomes_told last [] = refl
welcomes_told last (t ∷ ts) = λ j. welcome_told last t j ∷ welcomes_told last ts j

pub acked_same : (ack : Bool) (m n : NormalKept) → mixer_told m ≡ mixer_told n → mixer_told (after_ack ack m) ≡ mixer_told (after_ack ack n)
acked_same false m n same = same
acked_same true m n same =
    (λ j. record m { tracks = sym (welcomes_told m.last m.tracks) j })
    ∙ (λ j. record (same j) { tracks = tracks_told (map (welcomed (same j).last) (same j).tracks) })
    ∙ (λ j. record n { tracks = welcomes_told n.last n.tracks j })

-- ## The edits

module _ (c : Setup) (k l : Learnt) where
  -- what the edits make of the track of a number
  module _ (i : ℕ) (m n : NormalKept) (same : mixer_told m ≡ mixer_told n) where
    abbrev s : TrackKept
    s = track_at m.tracks i

    abbrev t : TrackKept
    t = track_at n.tracks i

    tracks : tracks_told m.tracks ≡ tracks_told n.tracks
    tracks = ap (λ (x : NormalKept). x.tracks) same

    at : track_told s ≡ track_told t
    at = same_at m.tracks n.tracks tracks i

    gone : mixer_told (let_go i m) ≡ mixer_told (let_go i n)
    unfolding let_go
    gone = λ j. record (same j) {
      tracks = same_set m.tracks n.tracks tracks i (record s { holder = Returning }) (record t { holder = Returning }) (λ x. record (at x) { holder = Returning }) j;
      draft = detached (slot_number (at j)) (same j).draft;
      dirty = true;
    }

    lent : mixer_told (lend c i (k.own i) m) ≡ mixer_told (lend c i (l.own i) n)
    unfolding lend
    lent = λ j. record (same j) {
      tracks = same_set m.tracks n.tracks tracks i
          (lent_by (entered c i m) (k.own i) s) (lent_by (entered c i n) (l.own i) t) (λ x. record (at x) { holder = Lent; generation = (slot_of (attached (slot_number (at x)) (setting_of c i).mono (setting_of c i).scale i (same x).draft) (slot_number (at x))).generation }) j;
      draft = attached (slot_number (at j)) (setting_of c i).mono (setting_of c i).scale i (same j).draft;
      dirty = true;
    }

    edit_same : mixer_told (edited c k i m) ≡ mixer_told (edited c l i n)
    unfolding edited
    edit_same = (λ j. mixer_told (if must_leave (at j) then let_go i m else if must_enter (at j) then lend c i (k.own i) m else m)) ∙ by_case (must_leave t) (must_enter t)
      where
        by_case : (b d : Bool) → mixer_told (if b then let_go i m else if d then lend c i (k.own i) m else m) ≡ mixer_told (if b then let_go i n else if d then lend c i (l.own i) n else n)
        by_case true d = gone
        by_case false true = lent
        by_case false false = same

  edits_same : (m n : NormalKept) → mixer_told m ≡ mixer_told n → (count : ℕ) → mixer_told (edited_to c k m count) ≡ mixer_told (edited_to c l n count)
  edits_same m n same zero = same
  edits_same m n same (suc count) = edit_same count (edited_to c k m count) (edited_to c l n count) (edits_same m n same count)

  -- ## The command

  next_told : (exits : Bool) (ts : List TrackKept) (room size : ℕ) → next_command exits (tracks_told ts) room size ≡ next_command exits ts room size
  unfolding next_command
  next_told exits ts room size = λ j. if exits || (all_told (λ s. s.life.ended && is_home s.holder) (λ s. refl) ts j && (room == size)) then Exit
      else if any_told (λ s. plays s.life) (λ s. refl) ts j || not (room == size) then MixWrite
      else ColdIdle

  command_same : (room : ℕ) (m n : NormalKept) → mixer_told m ≡ mixer_told n → next_command (commands_exit m.draft) m.tracks room (pipe_size c) ≡ next_command (commands_exit n.draft) n.tracks room (pipe_size c)
  command_same room m n same =
      sym (next_told (commands_exit m.draft) m.tracks room (pipe_size c))
      ∙ (λ j. next_command (commands_exit (same j).draft) (same j).tracks room (pipe_size c))
      ∙ next_told (commands_exit n.draft) n.tracks room (pipe_size c)

  ordered_same : (command : Command) (m n : NormalKept) → mixer_told m ≡ mixer_told n → mixer_told (ordered command m) ≡ mixer_told (ordered command n)
  unfolding ordered
  ordered_same command m n same =
      (λ j. mixer_told (if code_of command == code_of (same j).draft.command then m else record m { draft = draft_commanded command m.draft; dirty = true })) ∙ by_case (code_of command == code_of n.draft.command)
    where
      by_case : (b : Bool) → mixer_told (if b then m else record m { draft = draft_commanded command m.draft; dirty = true }) ≡ mixer_told (if b then n else record n { draft = draft_commanded command n.draft; dirty = true })
      by_case true = same
      by_case false = λ j. record (same j) { draft = draft_commanded command (same j).draft; dirty = true }

  -- all edits of a turn leave what tells the same
  pub mutated_same : (room : ℕ) (m n : NormalKept) → mixer_told m ≡ mixer_told n → mixer_told (mutated c k room m) ≡ mixer_told (mutated c l room n)
  unfolding mutated
  mutated_same room m n same =
      let tracks : tracks_told m.tracks ≡ tracks_told n.tracks = ap (λ (x : NormalKept). x.tracks) same in
      let x : NormalKept = edited_to c k m (length m.tracks) in
      let y : NormalKept = edited_to c l n (length n.tracks) in
      let edits : mixer_told x ≡ mixer_told y = ap (λ (count : ℕ). mixer_told (edited_to c k m count)) (same_length m.tracks n.tracks tracks) ∙ edits_same m n same (length n.tracks) in
      ap (λ (command : Command). mixer_told (ordered command x)) (command_same room x y edits)
      ∙ ordered_same (next_command (commands_exit y.draft) y.tracks room (pipe_size c)) x y edits

-- ## The push and the takes

pub pushed_same : (push : Push) (m n : NormalKept) → mixer_told m ≡ mixer_told n → mixer_told (after_push push m) ≡ mixer_told (after_push push n)
pushed_same (Pushed number) m n same = λ j. record (same j) { dirty = false; pushed = (same j).pushed + 1; last = (same j).draft }
pushed_same Clean m n same = same
pushed_same (Busy seen expected) m n same = same

set_own : (ts : List TrackKept) (i : ℕ) (s : TrackKept) → track_told s ≡ track_told (track_at ts i) → tracks_told (slice_set ts i s) ≡ tracks_told ts
set_own [] i s same = refl
set_own (t ∷ ts) zero s same = λ j. same j ∷ tracks_told ts
set_own (t ∷ ts) (suc i) s same = ap (λ (l : List TrackKept). track_told t ∷ l) (set_own ts i s same)

takes_told : (asks : ℕ) (takes : List TakeSeen) (ts : List TrackKept) → tracks_told (fold (after_take asks) ts takes) ≡ tracks_told ts
takes_told asks [] ts = refl
takes_told asks (take ∷ takes) ts = takes_told asks takes (after_take asks ts take) ∙ set_own ts take.track _ refl

pub taken_same : (c : Setup) (takes : List TakeSeen) (m n : NormalKept) → mixer_told m ≡ mixer_told n → mixer_told (after_takes c takes m) ≡ mixer_told (after_takes c takes n)
taken_same c takes m n same = (λ j. record m { tracks = takes_told (asked c) takes m.tracks j }) ∙ same ∙ (λ j. record n { tracks = sym (takes_told (asked c) takes n.tracks) j })
