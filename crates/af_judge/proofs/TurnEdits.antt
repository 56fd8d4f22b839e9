-- What a turn's edits leave follows from the draft before the turn and after it.
use Rattle.std.proofs.Common.{◌≡◌, ℕ, zero, suc, ◌+◌, ◌≤◌, ◌==◌, ◌||◌, not, Bool, true, false, nat_lt, if◌then◌else◌, cond, refl, sym, ap, ◌∙◌, List, [], ◌∷◌, length, fold, arith, eq-eqb}
use Rattle.af_judge.proofs.Common.{Command, Learnt, NormalKept, Push, Setup, TakeSeen, TrackKept, Turn, after_ack, after_edits, after_push, after_take, after_tracks, edited, edited_to, filter, is_mixed_here, lend, let_go, mixed_here, must_enter, must_leave, mutated, nat_tests, next_command, or_false, or_true, ordered, pipe_size, range_with_len, slice_set, takes_len, track_at}
use Rattle.af_base.specs.Command.{code_of}
use Rattle.af_judge.proofs.Basics.{push_tracks}
use Rattle.af_life.specs.Edits.{commands_exit}
use Rattle.af_judge.specs.NormalChanges.{is_edited}

-- the tracks of `x` may have been edited since `m`, but not its command
record Edits (m x : NormalKept) : Type 0 where
  grows : m.draft.tracks_gen ≤ x.draft.tracks_gen
  command : x.draft.command ≡ m.draft.command
  dirty : x.dirty ≡ (m.dirty || nat_lt m.draft.tracks_gen x.draft.tracks_gen)
  pushed : x.pushed ≡ m.pushed
  last : x.last ≡ m.last

either : (P : NormalKept → Type 0) (b : Bool) (x y : NormalKept) → P x → P y → P (if b then x else y)
either P true x y p q = p
either P false x y p q = q

below : (m n : ℕ) → m ≤ n → nat_lt m (n + 1) ≡ true
below m n le = grind (arith, nat_tests, le)

-- an edit of the tracks
one_edit : (m x y : NormalKept) → Edits m x → y.draft.tracks_gen ≡ x.draft.tracks_gen + 1 → y.draft.command ≡ x.draft.command → y.dirty ≡ true → y.pushed ≡ x.pushed → y.last ≡ x.last → Edits m y
one_edit m x y e gen command dirty pushed last = record {
  grows = (let g = e.grows in omega (arith, gen, g));
  command = command ∙ e.command;
  dirty = dirty ∙ sym (ap (λ (b : Bool). m.dirty || b) (ap (λ (n : ℕ). nat_lt m.draft.tracks_gen n) gen ∙ below m.draft.tracks_gen x.draft.tracks_gen e.grows) ∙ or_true m.dirty);
  pushed = pushed ∙ e.pushed;
  last = last ∙ e.last;
}

no_edit : (m : NormalKept) → Edits m m
no_edit m = record { grows = omega arith; command = refl; dirty = sym (ap (λ (b : Bool). m.dirty || b) (not_itself m.draft.tracks_gen) ∙ or_false m.dirty); pushed = refl; last = refl }
  where
    not_itself : (n : ℕ) → nat_lt n n ≡ false
    not_itself n = grind (arith, nat_tests)

edit_step : (c : Setup) (k : Learnt) (i : ℕ) (m x : NormalKept) → Edits m x → Edits m (edited c k i x)
unfolding edited let_go lend
edit_step c k i m x e =
    either (Edits m) (must_leave (track_at x.tracks i)) (let_go i x) _ (one_edit m x (let_go i x) e refl refl refl refl refl)
    (either (Edits m) (must_enter (track_at x.tracks i)) (lend c i (k.own i) x) x (one_edit m x (lend c i (k.own i) x) e refl refl refl refl refl) e)

edits_so_far : (c : Setup) (k : Learnt) (m : NormalKept) (i : ℕ) → Edits m (edited_to c k m i)
edits_so_far c k m zero = no_edit m
edits_so_far c k m (suc i) = edit_step c k i m (edited_to c k m i) (edits_so_far c k m i)

-- what the edits and the command leave
pub record Changed (m x : NormalKept) : Type 0 where
  pub dirty : x.dirty ≡ (m.dirty || is_edited m.draft x.draft)
  pub pushed : x.pushed ≡ m.pushed
  pub last : x.last ≡ m.last

same_code : (x y : Command) → x ≡ y → not (code_of x == code_of y) ≡ false
same_code x y e = ap not (eq-eqb (code_of x) (code_of y) (ap code_of e))

by_command : (command : Command) (m x : NormalKept) → Edits m x → Changed m (ordered command x)
unfolding ordered
by_command command m x e = by_case (code_of command == code_of x.draft.command) refl _ refl refl refl refl refl
  where
    stays : Changed m x
    stays = record {
      dirty = e.dirty ∙ sym (ap (λ (b : Bool). m.dirty || b) (ap (λ (b : Bool). nat_lt m.draft.tracks_gen x.draft.tracks_gen || b) (same_code x.draft.command m.draft.command e.command) ∙ or_false _));
      pushed = e.pushed;
      last = e.last;
    }

    changes : (code_of command == code_of x.draft.command) ≡ false → (y : NormalKept) → y.draft.command ≡ command → y.dirty ≡ true → y.pushed ≡ x.pushed → y.last ≡ x.last → Changed m y
    changes other y is dirty pushed last = record {
      dirty = dirty ∙ sym (ap (λ (b : Bool). m.dirty || b)
          (ap (λ (b : Bool). nat_lt m.draft.tracks_gen y.draft.tracks_gen || not b) (ap (λ (a : Command). code_of a == code_of m.draft.command) is ∙ ap (λ (a : Command). code_of command == code_of a) (sym e.command) ∙ other) ∙ or_true _) ∙ or_true m.dirty);
      pushed = pushed ∙ e.pushed;
      last = last ∙ e.last;
    }

    by_case : (b : Bool) → (code_of command == code_of x.draft.command) ≡ b → (y : NormalKept) → y.draft.command ≡ command → y.draft.tracks_gen ≡ x.draft.tracks_gen → y.dirty ≡ true → y.pushed ≡ x.pushed → y.last ≡ x.last
        → Changed m (if b then x else y)
    by_case true same y is gen dirty pushed last = stays
    by_case false other y is gen dirty pushed last = changes other y is dirty pushed last

-- what all edits leave
pub edits_change : (c : Setup) (k : Learnt) (room : ℕ) (m : NormalKept) → Changed m (mutated c k room m)
unfolding mutated
edits_change c k room m = let x : NormalKept = edited_to c k m (length m.tracks) in by_command (next_command (commands_exit x.draft) x.tracks room (pipe_size c)) m x (edits_so_far c k m (length m.tracks))

-- the tracks are served, and proxies come home, with no change to the draft
pub turn_changes : (c : Setup) (k : Learnt) (e : Turn) (m : NormalKept) → Changed m (after_edits c k e m)
turn_changes c k e m = by_ack e.ack
  where
    by_ack : (ack : Bool) → Changed m (mutated c k e.room (after_tracks c k e (after_ack ack m)))
    by_ack true = let x = edits_change c k e.room (after_tracks c k e (after_ack true m)) in record { dirty = x.dirty; pushed = x.pushed; last = x.last }
    by_ack false = let x = edits_change c k e.room (after_tracks c k e m) in record { dirty = x.dirty; pushed = x.pushed; last = x.last }

-- ## The push and the takes

-- a count of looks changes nothing of which tracks are mixed here
set_here : (tracks : List TrackKept) (j : ℕ) (s : TrackKept) (i : ℕ) → is_mixed_here s ≡ is_mixed_here (track_at tracks j) → is_mixed_here (track_at (slice_set tracks j s) i) ≡ is_mixed_here (track_at tracks i)
set_here [] j s i e = refl
set_here (t ∷ tracks) zero s zero e = e
set_here (t ∷ tracks) zero s (suc i) e = refl
set_here (t ∷ tracks) (suc j) s zero e = refl
set_here (t ∷ tracks) (suc j) s (suc i) e = set_here tracks j s i e

takes_here : (asked : ℕ) (takes : List TakeSeen) (tracks : List TrackKept) (i : ℕ) → is_mixed_here (track_at (fold (after_take asked) tracks takes) i) ≡ is_mixed_here (track_at tracks i)
takes_here asked [] tracks i = refl
takes_here asked (take ∷ takes) tracks i = takes_here asked takes (after_take asked tracks take) i ∙ set_here tracks take.track _ i refl

same_filter : (p q : ℕ → Bool) → ((i : ℕ) → p i ≡ q i) → (ns : List ℕ) → filter p ns ≡ filter q ns
same_filter p q same [] = refl
same_filter p q same (n ∷ ns) = ap (λ (b : Bool). cond b (n ∷ filter p ns) (filter p ns)) (same n) ∙ ap (λ (xs : List ℕ). cond (q n) (n ∷ xs) xs) (same_filter p q same ns)

-- which tracks are due follows from the tracks after the turn
pub due_after : (asked : ℕ) (takes : List TakeSeen) (push : Push) (x : NormalKept) → mixed_here (fold (after_take asked) (after_push push x).tracks takes) ≡ mixed_here x.tracks
due_after asked takes push x =
    ap (λ (ts : List TrackKept). mixed_here (fold (after_take asked) ts takes)) (push_tracks push x)
    ∙ ap (λ (n : ℕ). filter (λ i. is_mixed_here (track_at (fold (after_take asked) x.tracks takes) i)) (range_with_len 0 n)) (takes_len asked takes x.tracks)
    ∙ same_filter _ _ (takes_here asked takes x.tracks) (range_with_len 0 (length x.tracks))
