-- What changes no track that is done with, and when a draft says Exit.
use Rattle.std.proofs.Common.{◌≡◌, ℕ, zero, suc, ◌==◌, ◌&&◌, ◌||◌, not, Bool, true, false, if◌then◌else◌, is_some, sym, refl, ap, subst, ◌∙◌, List, [], ◌∷◌, length, map, filter, fold, slice_set, eqb-true, eq-eqb}
use Rattle.af_audit.proofs.Common.{AllByRecursion, ColdIdle, Command, Exit, FastState, Home, Learnt, Lent, MixWrite, NormalKept, Returning, Setup, TakeSeen, TrackKept, TrackSeen, Turn, after_ack, after_edits, after_take, after_tracks, asked, both_first, both_right, code_of, draft_commanded as with_command, commanded_by, edited, edited_to, if_true, commands_exit, is_home, is_mixed_here, is_over, is_returning, lend, let_go, list_any, mixed_here, must_enter, must_leave, mutated, next_command, no, not_lent, ordered, pipe_size, range_with_len, rest_enters, served, served_to, track_at, welcomed}
use Rattle.af_life.specs.declared.kept.Holder.{Holder}
use Rattle.af_life.specs.Kept.{plays}

-- a track is done with: its life has ended and its proxy is home
pub record IsDone (s : TrackKept) : Type 0 where
  pub ended : s.life.ended ≡ true
  pub home : is_home s.holder ≡ true

-- ## Lists of tracks

over_done : (tracks : List TrackKept) → is_over tracks ≡ true → AllByRecursion IsDone tracks
over_done [] h = tt
over_done (s ∷ tracks) h =
    let one = both_first (s.life.ended && is_home s.holder) (is_over tracks) h in
    (record { ended = both_first s.life.ended (is_home s.holder) one; home = both_right s.life.ended (is_home s.holder) one }, over_done tracks (both_right (s.life.ended && is_home s.holder) (is_over tracks) h))

-- putting back a track as it was leaves the list as it was
set_same : (tracks : List TrackKept) (i : ℕ) (s : TrackKept) → AllByRecursion IsDone tracks → (IsDone (track_at tracks i) → s ≡ track_at tracks i) → slice_set tracks i s ≡ tracks
set_same [] i s done same = refl
set_same (t ∷ tracks) zero s done same = ap (λ (x : TrackKept). x ∷ tracks) (same done.0)
set_same (t ∷ tracks) (suc i) s done same = ap (λ (l : List TrackKept). t ∷ l) (set_same tracks i s done.1 same)

-- if a track that is done with is replaced by one that is too, all tracks still are done with
pub set_done : (tracks : List TrackKept) (i : ℕ) (s : TrackKept) → AllByRecursion IsDone tracks → (IsDone (track_at tracks i) → IsDone s) → AllByRecursion IsDone (slice_set tracks i s)
set_done [] i s done kept = done
set_done (t ∷ tracks) zero s done kept = (kept done.0, done.1)
set_done (t ∷ tracks) (suc i) s done kept = (done.0, set_done tracks i s done.1 kept)

-- ## What changes no track that is done with

not_returning : (h : Holder) → is_home h ≡ true → is_returning h ≡ false
not_returning Home e = refl
not_returning Lent e = no e
not_returning Returning e = no e

welcomed_same : (last : FastState) (s : TrackKept) → IsDone s → welcomed last s ≡ s
unfolding welcomed
welcomed_same last s done = simp (not_returning s.holder done.home) refl

all_welcomed : (last : FastState) (tracks : List TrackKept) → AllByRecursion IsDone tracks → map (welcomed last) tracks ≡ tracks
all_welcomed last [] done = refl
all_welcomed last (s ∷ tracks) done = ap (λ (x : TrackKept). x ∷ map (welcomed last) tracks) (welcomed_same last s done.0) ∙ ap (λ (l : List TrackKept). s ∷ l) (all_welcomed last tracks done.1)

acked_same : (ack : Bool) (m : NormalKept) → AllByRecursion IsDone m.tracks → after_ack ack m ≡ m
acked_same true m done = ap (λ (l : List TrackKept). record m { tracks = l }) (all_welcomed m.last m.tracks done)
acked_same false m done = refl

served_same : (c : Setup) (k : Learnt) (seen : List TrackSeen) (tracks : List TrackKept) (i : ℕ) → AllByRecursion IsDone tracks → served_to c k seen tracks i ≡ tracks
unfolding served
served_same c k seen tracks zero done = refl
served_same c k seen tracks (suc i) done =
    let before = served_same c k seen tracks i done in
    let all : AllByRecursion IsDone (served_to c k seen tracks i) = subst (AllByRecursion IsDone) (sym before) done in
    set_same (served_to c k seen tracks i) i _ all (λ one. if_true (track_at (served_to c k seen tracks i) i).life.ended _ _ one.ended) ∙ before

-- a track that is done with doesn't play
done_plays : (s : TrackKept) → IsDone s → plays s.life ≡ false
done_plays s done = by s.life.member s.life.ended done.ended
  where
    by : (a b : Bool) → b ≡ true → (a && not b) ≡ false
    by true true e = refl
    by false true e = refl
    by a false e = no e

-- a track that is neither attached nor detached
record StaysOut (s : TrackKept) : Type 0 where
  pub leaves : must_leave s ≡ false
  pub enters : must_enter s ≡ false

done_stays_out : (s : TrackKept) → IsDone s → StaysOut s
done_stays_out s done = record {
  leaves = ap (λ (b : Bool). b && not (plays s.life)) (not_lent s.holder done.home);
  enters = rest_enters (is_home s.holder) (is_some s.slot) (plays s.life) (done_plays s done);
}

all_stay_out : (tracks : List TrackKept) (i : ℕ) → AllByRecursion IsDone tracks → StaysOut (track_at tracks i)
all_stay_out [] i done = record { leaves = refl; enters = refl }
all_stay_out (s ∷ tracks) zero done = done_stays_out s done.0
all_stay_out (s ∷ tracks) (suc i) done = all_stay_out tracks i done.1

neither : (a b : Bool) (x y m : NormalKept) → a ≡ false → b ≡ false → (if a then x else if b then y else m) ≡ m
neither true b x y m e f = no (sym e)
neither false true x y m e f = no (sym f)
neither false false x y m e f = refl

edited_same : (c : Setup) (k : Learnt) (i : ℕ) (m : NormalKept) → AllByRecursion IsDone m.tracks → edited c k i m ≡ m
unfolding edited
edited_same c k i m done = let out = all_stay_out m.tracks i done in
    neither (must_leave (track_at m.tracks i)) (must_enter (track_at m.tracks i)) (let_go i m) (lend c i (k.own i) m) m out.leaves out.enters

edits_same : (c : Setup) (k : Learnt) (m : NormalKept) (i : ℕ) → AllByRecursion IsDone m.tracks → edited_to c k m i ≡ m
edits_same c k m zero done = refl
edits_same c k m (suc i) done =
    let before = edits_same c k m i done in
    ap (edited c k i) before ∙ edited_same c k i m done

-- a draft that says Exit isn't changed by the next command
exit_again : (c : Setup) (room : ℕ) (m : NormalKept) → commands_exit m.draft ≡ true → commanded_by c room m ≡ m
unfolding ordered next_command
exit_again c room m exit = by_exit (commands_exit m.draft) exit
  where
    by_code : (b : Bool) → (code_of Exit == code_of m.draft.command) ≡ b → ordered Exit m ≡ m
    by_code true is = simp is refl
    by_code false is = no (sym is ∙ eq-eqb (code_of Exit) (code_of m.draft.command) (sym (eqb-true (code_of m.draft.command) (code_of Exit) exit)))

    by_exit : (b : Bool) → b ≡ true → ordered (next_command b m.tracks room (pipe_size c)) m ≡ m
    by_exit true e = by_code (code_of Exit == code_of m.draft.command) refl
    by_exit false e = no e

-- the edits of a turn change nothing if the draft says Exit and all tracks are done with
pub quiet_edits : (c : Setup) (k : Learnt) (m : NormalKept) (e : Turn) → commands_exit m.draft ≡ true → AllByRecursion IsDone m.tracks → after_edits c k e m ≡ m
unfolding mutated
quiet_edits c k m e exit done =
    let acked = acked_same e.ack m done in
    let served = ap (λ (l : List TrackKept). record m { tracks = l }) (served_same c k e.tracks m.tracks (length m.tracks) done) in
    let tracks : after_tracks c k e (after_ack e.ack m) ≡ m = ap (after_tracks c k e) acked ∙ served in
    ap (mutated c k e.room) tracks ∙ ap (commanded_by c e.room) (edits_same c k m (length m.tracks) done) ∙ exit_again c e.room m exit

-- ## If the draft doesn't say Exit

-- an Exit comes into the draft only if all tracks are done with
pub ordered_over : (command : Command) (m : NormalKept) → commands_exit m.draft ≡ false → ((code_of command == code_of Exit) ≡ true → AllByRecursion IsDone m.tracks)
    → commands_exit (ordered command m).draft ≡ true → AllByRecursion IsDone (ordered command m).tracks
unfolding ordered
ordered_over command m runs done = by_same (code_of command == code_of m.draft.command)
  where
    by_same : (b : Bool) → commands_exit (if b then m else record m { draft = with_command command m.draft; dirty = true }).draft ≡ true
        → AllByRecursion IsDone (if b then m else record m { draft = with_command command m.draft; dirty = true }).tracks
    by_same true exit = no (sym runs ∙ exit)
    by_same false exit = done exit

-- an Exit is the next command only if all tracks are done with
pub exit_when_over : (tracks : List TrackKept) (room size : ℕ) → (code_of (next_command false tracks room size) == code_of Exit) ≡ true → AllByRecursion IsDone tracks
unfolding next_command
exit_when_over tracks room size = by_over (is_over tracks) (room == size) refl (list_any (λ s. plays s.life) tracks || not (room == size))
  where
    by_rest : (b : Bool) → (code_of (if b then MixWrite else ColdIdle) == code_of Exit) ≡ true → AllByRecursion IsDone tracks
    by_rest true h = no h
    by_rest false h = no h

    by_over : (a b : Bool) → is_over tracks ≡ a → (mixes : Bool) → (code_of (if (false || (a && b)) then Exit else if mixes then MixWrite else ColdIdle) == code_of Exit) ≡ true → AllByRecursion IsDone tracks
    by_over true true is mixes h = over_done tracks is
    by_over true false is mixes h = by_rest mixes h
    by_over false b is mixes h = by_rest mixes h

-- an Exit is the next command only if there is as much room as the pipe has
pub exit_when_empty : (tracks : List TrackKept) (room size : ℕ) → (code_of (next_command false tracks room size) == code_of Exit) ≡ true → room ≡ size
unfolding next_command
exit_when_empty tracks room size = by (is_over tracks) (room == size) refl (list_any (λ s. plays s.life) tracks || not (room == size))
  where
    by_rest : (b : Bool) → (code_of (if b then MixWrite else ColdIdle) == code_of Exit) ≡ true → room ≡ size
    by_rest true h = no h
    by_rest false h = no h

    by : (a b : Bool) → (room == size) ≡ b → (mixes : Bool) → (code_of (if (false || (a && b)) then Exit else if mixes then MixWrite else ColdIdle) == code_of Exit) ≡ true → room ≡ size
    by true true is mixes h = eqb-true room size is
    by true false is mixes h = by_rest mixes h
    by false b is mixes h = by_rest mixes h

-- a draft says Exit only after an Exit was ordered
pub ordered_exit : (command : Command) (m : NormalKept) → commands_exit m.draft ≡ false → commands_exit (ordered command m).draft ≡ true → (code_of command == code_of Exit) ≡ true
unfolding ordered
ordered_exit command m runs = by_same (code_of command == code_of m.draft.command)
  where
    by_same : (b : Bool) → commands_exit (if b then m else record m { draft = with_command command m.draft; dirty = true }).draft ≡ true → (code_of command == code_of Exit) ≡ true
    by_same true exit = no (sym runs ∙ exit)
    by_same false exit = exit

-- ## What is mixed

-- if all tracks are done with, none is mixed in a turn
pub done_here : (tracks : List TrackKept) → AllByRecursion IsDone tracks → mixed_here tracks ≡ []
done_here tracks done = none_passes (λ i. is_mixed_here (track_at tracks i)) (range_with_len 0 (length tracks)) (λ i. quiet (not (is_some (track_at tracks i).slot)) (plays (track_at tracks i).life) (plays_at tracks i done))
  where
    quiet : (a b : Bool) → b ≡ false → (a && b) ≡ false
    quiet true b e = e
    quiet false b e = refl

    plays_at : (tracks : List TrackKept) (i : ℕ) → AllByRecursion IsDone tracks → plays (track_at tracks i).life ≡ false
    plays_at [] i done = refl
    plays_at (s ∷ tracks) zero done = done_plays s done.0
    plays_at (s ∷ tracks) (suc i) done = plays_at tracks i done.1

    none_passes : (p : ℕ → Bool) (xs : List ℕ) → ((i : ℕ) → p i ≡ false) → filter p xs ≡ []
    none_passes p [] h = refl
    none_passes p (x ∷ xs) h = ap (λ (b : Bool). if b then x ∷ filter p xs else filter p xs) (h x) ∙ none_passes p xs h

-- takes change no track that is done with
pub takes_done : (asked : ℕ) (takes : List TakeSeen) (tracks : List TrackKept) → AllByRecursion IsDone tracks → AllByRecursion IsDone (fold (after_take asked) tracks takes)
takes_done asked [] tracks done = done
takes_done asked (take ∷ takes) tracks done = takes_done asked takes (after_take asked tracks take)
    (set_done tracks take.track _ done (λ one. record { ended = one.ended; home = one.home }))
