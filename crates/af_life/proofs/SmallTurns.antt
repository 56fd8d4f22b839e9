-- A turn keeps the numbers of a mixer small.
use Rattle.std.proofs.Common.{◌≡◌, ℕ, zero, suc, refl, ◌+◌, ◌*◌, ◌<◌, ◌≤◌, Bool, true, false, if◌then◌else◌, ◌∙◌, length, arith}
use Rattle.af_life.proofs.Common.{Busy, Clean, Command, Push, Pushed, Turn}
use Rattle.af_life.proofs.Basics.{takes_len}
use Rattle.af_life.specs.Kept.{Setup, asked, pipe_size, NormalKept, Learnt, track_at}
use Rattle.af_life.specs.Edits.{after_ack, commands_exit, must_leave, must_enter, let_go, lend, edited, edited_to, next_command, commanded_by, ordered, mutated, after_push}
use Rattle.af_life.specs.Plays.{after_takes}
use Rattle.af_life.specs.Turn.{after_tracks, after_edits, turn_after}
use Rattle.af_life.specs.Small.{IsSmallState, IsEdited, IsSmall, most_tracks}
use Rattle.af_life.proofs.Words.{IsTurnUpTo, IsSmallTurn}
use Rattle.af_life.proofs.Lives.{acked_len, served_len, push_len, mutation_len}
use Rattle.af_life.proofs.Smalls.{acked_small, all_served_small, edits_small, ordered_small, takes_small, weaker}

either_pushed : (b : Bool) (x y : NormalKept) (n : ℕ) → x.pushed ≡ n → y.pushed ≡ n → (if b then x else y).pushed ≡ n
either_pushed true x y n e f = e
either_pushed false x y n e f = f

module _ (c : Setup) (t : ℕ) where
  pub acked : (ack : Bool) (m : NormalKept) → IsSmall t c m → IsSmall t c (after_ack ack m)
  acked ack m small = record {
    sizes = small.sizes;
    whole = acked_len ack m ∙ small.whole;
    tracks = acked_small (65 * t) (most_tracks * t) ack m small.tracks;
    draft = by_draft ack;
    pushed = by_pushed ack;
  }
    where
      by_draft : (b : Bool) → IsSmallState (most_tracks * t) t (after_ack b m).draft
      by_draft true = small.draft
      by_draft false = small.draft

      by_pushed : (b : Bool) → (after_ack b m).pushed ≤ t
      by_pushed true = small.pushed
      by_pushed false = small.pushed

  -- the tracks were served
  pub served : (w : ℕ) → 0 < w → (k : Learnt) (e : Turn) (m : NormalKept) → IsSmall t c m → IsTurnUpTo w e → IsEdited (65 * t + 65 * w) (most_tracks * t) (most_tracks * t) t (after_tracks c k e m)
  served w some k e m small few = record { tracks = all_served_small (65 * t) (most_tracks * t) w some c k e.tracks m.tracks few.looks small.tracks (length m.tracks); draft = small.draft }

  -- the draft was edited, and its command set
  pub edits : (n m : ℕ) (k : Learnt) (x : NormalKept) → length x.tracks ≤ most_tracks → IsEdited n m (most_tracks * t) t x → IsEdited n m (most_tracks * t + most_tracks) t (edited_to c k x (length x.tracks))
  edits n m k x few h = let more = edits_small n m c k (most_tracks * t) t x h (length x.tracks) in
      record { tracks = more.tracks; draft = record { generations = (λ (j : ℕ). let a = more.draft.generations j in omega arith); changes = (let a = more.draft.changes in omega arith); colds = more.draft.colds } }

  pub commands : (n m e room : ℕ) (x : NormalKept) → IsEdited n m e t x → IsEdited n m e (t + 1) (commanded_by c room x)
  commands n m e room x h = ordered_small n m (next_command (commands_exit x.draft) x.tracks room (pipe_size c)) e t x h

  pushed_tracks : (push : Push) (x : NormalKept) → (after_push push x).tracks ≡ x.tracks
  pushed_tracks (Pushed number) x = refl
  pushed_tracks Clean x = refl
  pushed_tracks (Busy seen expected) x = refl

  pub push_small : (n m e d : ℕ) (push : Push) (x : NormalKept) → IsEdited n m e d x → IsEdited n m e d (after_push push x)
  push_small n m e d (Pushed number) x h = record { tracks = h.tracks; draft = h.draft }
  push_small n m e d Clean x h = h
  push_small n m e d (Busy seen expected) x h = h

  pub push_few : (push : Push) (x : NormalKept) → x.pushed ≤ t → (after_push push x).pushed ≤ t + 1
  push_few (Pushed number) x le = omega arith
  push_few Clean x le = omega arith
  push_few (Busy seen expected) x le = omega arith

  -- what neither the tracks, nor the edits, nor the command change
  edited_pushed : (k : Learnt) (x : NormalKept) (i : ℕ) → (edited_to c k x i).pushed ≡ x.pushed
  unfolding edited let_go lend
  edited_pushed k x zero = refl
  edited_pushed k x (suc i) = let y : NormalKept = edited_to c k x i in
      either_pushed (must_leave (track_at y.tracks i)) _ _ x.pushed (edited_pushed k x i) (either_pushed (must_enter (track_at y.tracks i)) _ _ x.pushed (edited_pushed k x i) (edited_pushed k x i))

  ordered_pushed : (command : Command) (x : NormalKept) → (ordered command x).pushed ≡ x.pushed
  unfolding ordered
  ordered_pushed command x = either_pushed _ _ _ x.pushed refl refl

  pub commanded_pushed : (k : Learnt) (room : ℕ) (x : NormalKept) → (commanded_by c room (edited_to c k x (length x.tracks))).pushed ≡ x.pushed
  commanded_pushed k room x = ordered_pushed _ (edited_to c k x (length x.tracks)) ∙ edited_pushed k x (length x.tracks)

  module _ (w : ℕ) (some : 0 < w) (k : Learnt) (e : Turn) (m : NormalKept) (small : IsSmall t c m) (few : IsTurnUpTo w e) where
    pub whole : length (after_tracks c k e (after_ack e.ack m)).tracks ≡ length c.settings
    whole = served_len c k e.tracks (after_ack e.ack m).tracks (length (after_ack e.ack m).tracks) ∙ (acked e.ack m small).whole

    -- after the edits
    pub edits_made : let x : NormalKept = after_tracks c k e (after_ack e.ack m) in IsEdited (65 * t + 65 * w) (most_tracks * t) (most_tracks * t + most_tracks) t (edited_to c k x (length x.tracks))
    edits_made = edits (65 * t + 65 * w) (most_tracks * t) k (after_tracks c k e (after_ack e.ack m)) (let l = whole in let s = small.sizes.2 in omega arith) (served w some k e (after_ack e.ack m) (acked e.ack m small) few)

    -- and the command
    pub edited_weighed : IsEdited (65 * t + 65 * w) (most_tracks * t) (most_tracks * t + most_tracks) (t + 1) (after_edits c k e m)
    unfolding mutated
    edited_weighed = commands (65 * t + 65 * w) (most_tracks * t) (most_tracks * t + most_tracks) e.room _ edits_made

    pub edited_few : (after_edits c k e m).pushed ≤ t
    unfolding mutated
    edited_few = let a : (after_edits c k e m).pushed ≡ (after_ack e.ack m).pushed = commanded_pushed k e.room (after_tracks c k e (after_ack e.ack m)) in
        let b = (acked e.ack m small).pushed in omega arith

    goes_small : IsSmall (t + w) c (after_takes c e.mixes (after_push e.push (after_edits c k e m)))
    goes_small =
        let pushed = push_small (65 * t + 65 * w) (most_tracks * t) (most_tracks * t + most_tracks) (t + 1) e.push (after_edits c k e m) edited_weighed in
        let counted = takes_small (65 * t + 65 * w) (most_tracks * t) (asked c) e.mixes (after_push e.push (after_edits c k e m)).tracks pushed.tracks in
        record {
          sizes = small.sizes;
          whole = takes_len (asked c) e.mixes (after_push e.push (after_edits c k e m)).tracks ∙ push_len e.push (after_edits c k e m) ∙ mutation_len c k e.room (after_tracks c k e (after_ack e.ack m)) ∙ whole;
          tracks = (λ (i : ℕ). weaker (65 * t + 65 * w) (most_tracks * t + length e.mixes) (65 * (t + w)) (most_tracks * (t + w)) _ (omega arith) (let f = few.mixes in omega arith) (counted i));
          draft = record { generations = (λ (j : ℕ). let a = pushed.draft.generations j in omega arith); changes = (let a = pushed.draft.changes in omega arith); colds = (let a = pushed.draft.colds in omega arith) };
          pushed = (let n = push_few e.push (after_edits c k e m) edited_few in omega arith);
        }

    rests_small : IsSmall (t + w) c (record m { ended = true })
    rests_small = record {
      sizes = small.sizes;
      whole = small.whole;
      tracks = (λ (i : ℕ). weaker (65 * t) (most_tracks * t) (65 * (t + w)) (most_tracks * (t + w)) _ (omega arith) (omega arith) (small.tracks i));
      draft = record { generations = (λ (j : ℕ). let a = small.draft.generations j in omega arith); changes = (let a = small.draft.changes in omega arith); colds = (let a = small.draft.colds in omega arith) };
      pushed = (let a = small.pushed in omega arith);
    }

    either_small : (b : Bool) (x y : NormalKept) → IsSmall (t + w) c x → IsSmall (t + w) c y → IsSmall (t + w) c (if b then x else y)
    either_small true x y h g = h
    either_small false x y h g = g

    -- and so after the whole turn
    pub turn_weighed : IsSmall (t + w) c (turn_after c k m e)
    unfolding turn_after
    turn_weighed = either_small e.ended _ _ rests_small goes_small

  -- the same of a turn that is no larger than those that a mixer makes
  module _ (k : Learnt) (e : Turn) (m : NormalKept) (small : IsSmall t c m) (few : IsSmallTurn e) where
    pub edited_small : IsEdited (65 * t + 65) (most_tracks * t) (most_tracks * t + most_tracks) (t + 1) (after_edits c k e m)
    edited_small = edited_weighed 1 (omega arith) k e m small few

    pub turn_small : IsSmall (t + 1) c (turn_after c k m e)
    turn_small = turn_weighed 1 (omega arith) k e m small few
